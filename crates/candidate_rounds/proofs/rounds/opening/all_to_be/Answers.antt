use Rattle.std.proofs.Common.{subst}
use Rattle.std.proofs.lemmas.Result.{err_from_is_err_and}
use Rattle.ir_trees.specs.declared.ir.kinds.GenericArg.TheVariants as A
use Rattle.ir_trees.specs.Syntax.Trees.{Tree}
use Rattle.ir_trees.proofs.Growth.Kept.{grows-trans}
use Rattle.candidate_rounds.specs.Evaluators.Stopping.{IsTreeStop, of_pair, pairs_memory}
use Rattle.candidate_rounds.proofs.Equations.OpenGoals.{all-goals, one-more-goal, pair-contained, pair-same, pair-there}
use Rattle.candidate_rounds.proofs.Equations.OpenParts.{pair-at}
use Rattle.candidate_rounds.proofs.rounds.opening.all_to_be.Goals as goal

pub bounds-others-i : goal.bounds-others-i
bounds-others-i c = (pair-at c.args.cx.now.trees c.args.parts.now c.args.others.now c.loop-i.i (A.Ty (record { 0 = 0 })) (A.Ty (record { 0 = 0 })) c.requires.paired c.loop-i-test.true).0

pub are_one-requires : goal.are_one-requires
are_one-requires c =
    pair-there c.args.cx.now c.loop-i.cx c.args.env c.args.parts.now c.args.others.now c.loop-i.i (A.Ty (record { 0 = 0 })) (A.Ty (record { 0 = 0 })) c.requires.paired c.loop-i-test.true c.loop-i.invariant.grows

pub returns-in_err-predicate-clause-cause : goal.returns-in_err-predicate-clause-cause
returns-in_err-predicate-clause-cause c =
    let p = err_from_is_err_and c.from_residual.result c.from_residual.ensures.1 in
    let x = A.Ty (record { 0 = 0 }) in
    let pair = pair-contained c.args.cx.now c.loop-i.cx c.args.env c.args.parts.now c.args.others.now c.loop-i.i x x c.requires.paired c.loop-i-test.true c.loop-i.invariant.grows in
    let same = pair-same c.args.cx.now c.loop-i.cx c.args.env c.args.parts.now c.args.others.now c.loop-i.i x x c.requires.paired c.loop-i-test.true c.loop-i.invariant.grows in
    rw (p.1, p.2) (of_pair _ pair (subst (λ (t : Tree). IsTreeStop c.are_one.new.cx.trees t c.in_err-predicate.field-0.0) same c.in_err-predicate.ensures.cause))

pub returns-in_err-push-clause-grows : goal.returns-in_err-push-clause-grows
returns-in_err-push-clause-grows c = grows-trans c.args.cx.now c.loop-i.cx c.are_one.new.cx c.loop-i.invariant.grows c.are_one.ensures.grows

pub returns-in_err-push-clause-cause : goal.returns-in_err-push-clause-cause
returns-in_err-push-clause-cause c =
    let p = err_from_is_err_and c.from_residual-in_err-push.result c.from_residual-in_err-push.ensures.1 in
    rw (p.1, p.2) pairs_memory

pub loop-i-preserved : goal.loop-i-preserved
loop-i-preserved c =
    one-more-goal c.args.cx.now c.loop-i.cx c.are_one.new.cx c.args.env c.args.parts.now c.args.others.now c.loop-i.i (A.Ty (record { 0 = 0 })) (A.Ty (record { 0 = 0 })) c.loop-i.goals.items c.push.new.self.items
    c.in_ok-predicate.predicate c.requires.paired c.loop-i-test.true c.requires.env c.loop-i.invariant c.are_one.ensures.grows c.are_one.ensures.faults c.in_ok-predicate.ensures.sort c.in_ok-predicate.ensures.tree
    c.in_ok-push.ensures.items

pub returns-clause-are : goal.returns-clause-are
returns-clause-are c = all-goals c.args.cx.now c.loop-i.cx c.args.env c.args.parts.now c.args.others.now c.loop-i.i c.loop-i.goals.items c.loop-i.invariant c.loop-i-test.false
