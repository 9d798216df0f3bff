use Rattle.std.proofs.Common.{◌≡◌, drop}
use Rattle.std.specs.List.{list_any}
use Rattle.candidate_eval.proofs.Dynamic.Replacing.{about}
use Rattle.candidate_eval.proofs.objects.replacing.any_is_about.Given as goal

abbrev pub invariant-loop-bound : goal.invariant-loop-bound
invariant-loop-bound l =
    let f = about l.cx.trees l.item in
    list_any f l.fn.bounds ≡ list_any f (drop l.bound-index l.fn.bounds)
