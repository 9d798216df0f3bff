use Rattle.std.proofs.Common.{◌<◌, ◌≤◌, length, subst, sym, arith, rules}
use Rattle.candidate_rounds.specs.Table.Cleanness.{IsWithoutError}
use Rattle.candidate_rounds.specs.Table.Goals.{Each}
use Rattle.candidate_rounds.proofs.Snapshots.Knowing.{each-get}
use Rattle.candidate_rounds.proofs.Table.Running.{take-all}
use Rattle.candidate_rounds.proofs.Table.Sources.{index-there}
use Rattle.candidate_rounds.proofs.Table.Steps.{each-push, take-more}
use Rattle.candidate_rounds.proofs.rounds.cleanness.types_have_error_region.Goals as goal

pub loop-i-preserved : goal.loop-i-preserved
loop-i-preserved c =
    let ps = c.args.pairs.now in
    let below : c.loop-i.i < length ps = search rules in
    subst (Each (IsWithoutError c.args.cx.now.trees)) (sym (take-more ps c.loop-i.i _ (index-there ps c.loop-i.i _ below)))
    (each-push (IsWithoutError c.args.cx.now.trees) _ _ c.loop-i.invariant (c.type_has_error_region.ensures.clean c.if-type_has_error_region.false))

pub returns-then-type_has_error_region-clause-error : goal.returns-then-type_has_error_region-clause-error
returns-then-type_has_error_region-clause-error c = λ _ all.
    let ps = c.args.pairs.now in
    let below : c.loop-i.i < length ps = search rules in
    c.type_has_error_region.ensures.error c.if-type_has_error_region.true (each-get (IsWithoutError c.args.cx.now.trees) ps c.loop-i.i _ all (index-there ps c.loop-i.i _ below))

pub returns-clause-clean : goal.returns-clause-clean
returns-clause-clean c = λ _.
    let ps = c.args.pairs.now in
    let end : length ps ≤ c.loop-i.i = (let a = c.loop-i-test.false in omega (arith, a)) in
    subst (Each (IsWithoutError c.args.cx.now.trees)) (take-all ps c.loop-i.i end) c.loop-i.invariant
