use Rattle.std.proofs.Common.{◌<◌, ◌≤◌, ◌∙◌, length, map, ap, arith, rules}
use Rattle.candidate_eval.specs.declared.eval.variable.CanonicalVar.{CanonicalVar}
use Rattle.candidate_rounds.proofs.Leaking.{map-next}
use Rattle.candidate_rounds.proofs.Table.Running.{take-all}
use Rattle.candidate_rounds.proofs.Table.Sources.{index-there}
use Rattle.candidate_rounds.proofs.rounds.leaking.universes_left.Goals as goal

pub loop-i-preserved : goal.loop-i-preserved
loop-i-preserved c =
    let xs = c.args.variables.now in
    let below : c.loop-i.i < length xs = search rules in
    c.in_ok-push.ensures.items ∙ map-next (λ (x : CanonicalVar). x.universe) xs c.loop-i.i _ c.loop-i.list.items (index-there xs c.loop-i.i _ below) c.loop-i.invariant

pub returns-clause-are : goal.returns-clause-are
returns-clause-are c =
    let xs = c.args.variables.now in
    let end : length xs ≤ c.loop-i.i = (let a = c.loop-i-test.false in omega (arith, a)) in
    c.loop-i.invariant ∙ ap (map (λ (x : CanonicalVar). x.universe)) (take-all xs c.loop-i.i end)
