use Rattle.std.proofs.Common.{◌≡◌, drop}
use Rattle.std.specs.List.{list_any}
use Rattle.candidate_assembly.proofs.Rules.AutoTraits.{speaks}
use Rattle.candidate_assembly.proofs.trait_goals.auto_traits.bounds_name.Given as goal

abbrev pub invariant-loop-bound : goal.invariant-loop-bound
invariant-loop-bound l =
    let f = speaks l.cx.trees l.of in
    list_any f l.bound-items ≡ list_any f (drop l.bound-index l.bound-items)
