use Rattle.std.proofs.Common.{◌<◌, ◌≤◌, length, subst, sym, ◌∙◌, arith, rules}
use Rattle.candidate_rounds.specs.Evaluators.Leaking.{IsAmong}
use Rattle.candidate_rounds.proofs.Leaking.{among-get, among-next, region-is, region-isnt}
use Rattle.candidate_rounds.proofs.Table.Running.{take-all}
use Rattle.candidate_rounds.proofs.Table.Sources.{index-there}
use Rattle.candidate_rounds.proofs.rounds.leaking.is_among.Goals as goal

pub loop-i-preserved : goal.loop-i-preserved
loop-i-preserved c =
    let xs = c.args.list.now in
    let below : c.loop-i.i < length xs = search rules in
    among-next xs c.loop-i.i _ c.args.region (index-there xs c.loop-i.i _ below) c.loop-i.invariant (region-isnt _ c.args.region (sym c.eq.ensures ∙ c.if-eq.false))

pub returns-then-eq-clause-yes : goal.returns-then-eq-clause-yes
returns-then-eq-clause-yes c = λ _.
    let xs = c.args.list.now in
    let below : c.loop-i.i < length xs = search rules in
    subst (IsAmong xs) (region-is _ c.args.region (sym c.eq.ensures ∙ c.if-eq.true)) (among-get xs c.loop-i.i _ (index-there xs c.loop-i.i _ below))

pub returns-clause-no : goal.returns-clause-no
returns-clause-no c = λ _ m.
    let xs = c.args.list.now in
    let end : length xs ≤ c.loop-i.i = (let a = c.loop-i-test.false in omega (arith, a)) in
    c.loop-i.invariant (subst (λ ys. IsAmong ys c.args.region) (sym (take-all xs c.loop-i.i end)) m)
