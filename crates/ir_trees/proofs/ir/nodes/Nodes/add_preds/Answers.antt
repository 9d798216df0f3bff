use Rattle.std.proofs.Common.{get_or, arith}
use Rattle.std.proofs.lemmas.Result.{err_from_is_err_and, IfErr-weaker}
use Rattle.ir_trees.specs.declared.ir.kinds.Binder.{Binder}
use Rattle.ir_trees.specs.declared.ir.kinds.ExistentialPredicate.{ExistentialPredicate}
use Rattle.ir_trees.specs.declared.ir.kinds.ExistentialPredicate.TheVariants as E
use Rattle.ir_trees.proofs.Growth.Growing.{extends-trans, made-pred, pred-fits-grown, pred-stop, preds-stop}
use Rattle.ir_trees.proofs.Syntax.Principals.{list-principal}
use Rattle.ir_trees.proofs.Kinding.References.{if-ok, no-result}
use Rattle.ir_trees.proofs.ir.nodes.Nodes.add_preds.Goals as goal

-- what a read past the end of the bounds would give
abbrev past : Binder ExistentialPredicate
past = record { vars = record { 0 = 0 }; value = E.Trait (record { def_id = record { 0 = 0 }; args = record { 0 = 0 } }) }

pub add-requires-clause-fits : goal.add-requires-clause-fits
add-requires-clause-fits c =
    pred-fits-grown c.args.self.now c.loop-bound.self (get_or c.args.bounds.now c.loop-bound.bound-index past) c.loop-bound.invariant.kept
    (c.requires.fit c.loop-bound.bound-index past c.loop-bound-test.true)

pub returns-in_err-number-clause-cause : goal.returns-in_err-number-clause-cause
returns-in_err-number-clause-cause c =
    let s = pred-stop c.args.self.now c.loop-bound.self c.loop-bound.list.items c.args.bounds.now c.loop-bound.bound-index past c.in_err-number.field-0.0 c.loop-bound.invariant c.requires.fit c.loop-bound-test.true c.in_err-number.ensures.cause in
    let p = err_from_is_err_and c.from_residual.result c.from_residual.ensures.1 in rw (p.1, p.2) s

pub returns-in_err-push-clause-kept : goal.returns-in_err-push-clause-kept
returns-in_err-push-clause-kept c = extends-trans _ _ _ c.loop-bound.invariant.kept c.in_ok-number.ensures.kept

pub loop-bound-preserved : goal.loop-bound-preserved
loop-bound-preserved c =
    made-pred c.args.self.now c.loop-bound.self c.add.new.self c.loop-bound.list.items c.push.new.self.items c.args.bounds.now c.loop-bound.bound-index past (record { 0 = c.in_ok-number.number }) c.loop-bound.invariant c.requires.fit c.loop-bound-test.true
    c.in_ok-number.ensures.kept c.in_ok-number.ensures.fit c.in_ok-number.ensures.most c.in_ok-number.ensures.sort c.in_ok-number.ensures.tree c.in_ok-push.ensures.items

pub returns-clause-fit : goal.returns-clause-fit
returns-clause-fit c = if-ok c.mk_pred_list.result (λ w f t. c.mk_pred_list.ensures.fit w (c.loop-bound.invariant.fit w t f))

pub mk_pred_list-requires-clause-principal : goal.mk_pred_list-requires-clause-principal
mk_pred_list-requires-clause-principal c =
    list-principal c.args.self.now c.loop-bound.self c.loop-bound.list.items c.args.bounds.now c.loop-bound.bound-index c.loop-bound.invariant.trees (omega arith) c.requires.principal

pub returns-clause-cause : goal.returns-clause-cause
returns-clause-cause c =
    IfErr-weaker c.mk_pred_list.result _ _
    (λ s. preds-stop c.args.self.now c.loop-bound.self c.loop-bound.list.items c.args.bounds.now c.loop-bound.bound-index s c.loop-bound.invariant (omega arith))
    c.mk_pred_list.ensures.cause

pub mk_pred_list-requires-clause-fits : goal.mk_pred_list-requires-clause-fits
mk_pred_list-requires-clause-fits c = c.loop-bound.invariant.fits

pub bounds-bounds-bound-index : goal.bounds-bounds-bound-index
bounds-bounds-bound-index c = c.loop-bound-test.true

pub loop-bound-smaller : goal.loop-bound-smaller
loop-bound-smaller c = omega arith

pub returns-in_err-number-clause-kept : goal.returns-in_err-number-clause-kept
returns-in_err-number-clause-kept c = extends-trans _ _ _ c.loop-bound.invariant.kept c.add.ensures.kept

pub returns-in_err-number-clause-fit : goal.returns-in_err-number-clause-fit
returns-in_err-number-clause-fit c = no-result c.from_residual.result _ c.from_residual.ensures.0

pub returns-in_err-number-clause-sort : goal.returns-in_err-number-clause-sort
returns-in_err-number-clause-sort c = no-result c.from_residual.result _ c.from_residual.ensures.0

pub returns-in_err-number-clause-tree : goal.returns-in_err-number-clause-tree
returns-in_err-number-clause-tree c = no-result c.from_residual.result _ c.from_residual.ensures.0

pub returns-clause-kept : goal.returns-clause-kept
returns-clause-kept c = extends-trans _ _ _ c.loop-bound.invariant.kept c.mk_pred_list.ensures.kept

pub returns-clause-sort : goal.returns-clause-sort
returns-clause-sort c = c.mk_pred_list.ensures.sort
