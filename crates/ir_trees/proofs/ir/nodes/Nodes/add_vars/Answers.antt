use Rattle.std.proofs.Common.{refl, take, arith}
use Rattle.std.specs.Prelude.{map}
use Rattle.ir_trees.specs.declared.ir.heads.Head.TheVariants as H
use Rattle.ir_trees.specs.declared.ir.heads.PartHead.TheVariants as P
use Rattle.ir_trees.specs.Syntax.Kinds.{numbers}
use Rattle.ir_trees.specs.Syntax.Nodes.{trees_at, var_child}
use Rattle.std.proofs.lemmas.Result.{err_from_is_err_and, IfErr-weaker}
use Rattle.ir_trees.proofs.Growth.Growing.{extends-trans, made-var, var-stop, vars-stop}
use Rattle.ir_trees.proofs.Kinding.References.{if-ok, no-result, variables-take}
use Rattle.ir_trees.proofs.ir.nodes.Nodes.add_vars.Goals as goal

pub returns-in_err-number-clause-cause : goal.returns-in_err-number-clause-cause
returns-in_err-number-clause-cause c =
    let s = var-stop c.args.self.now c.loop-kind.self c.loop-kind.list.items c.args.kinds.now c.loop-kind.kind-index c.in_err-number.field-0.0 c.loop-kind.invariant c.loop-kind-test.true c.in_err-number.ensures.cause in
    let p = err_from_is_err_and c.from_residual.result c.from_residual.ensures.1 in rw (p.1, p.2) s

pub returns-in_err-push-clause-kept : goal.returns-in_err-push-clause-kept
returns-in_err-push-clause-kept c = extends-trans _ _ _ c.loop-kind.invariant.kept c.in_ok-number.ensures.kept

pub loop-kind-preserved : goal.loop-kind-preserved
loop-kind-preserved c =
    made-var c.args.self.now c.loop-kind.self c.add.new.self c.loop-kind.list.items c.push.new.self.items c.args.kinds.now c.loop-kind.kind-index _ (record { 0 = c.in_ok-number.number }) c.loop-kind.invariant c.loop-kind-test.true
    c.in_ok-number.ensures.kept (λ w f. c.in_ok-number.ensures.fit w f (λ e. refl)) c.in_ok-number.ensures.most c.in_ok-number.ensures.sort c.in_ok-number.ensures.tree c.in_ok-push.ensures.items

pub returns-clause-fit : goal.returns-clause-fit
returns-clause-fit c =
    let m = c.loop-kind.invariant in
    if-ok c.mk_var_list.result (λ w f. c.mk_var_list.ensures.fit w (m.fit w tt f)
    (variables-take w (H.Part P.Vars) (trees_at c.loop-kind.self (numbers (map var_child c.loop-kind.list.items))) (take c.loop-kind.kind-index c.args.kinds.now) m.trees refl))

pub returns-clause-cause : goal.returns-clause-cause
returns-clause-cause c =
    IfErr-weaker c.mk_var_list.result _ _
    (λ s. vars-stop c.args.self.now c.loop-kind.self c.loop-kind.list.items c.args.kinds.now c.loop-kind.kind-index s c.loop-kind.invariant (omega arith))
    c.mk_var_list.ensures.cause

pub bounds-kinds-kind-index : goal.bounds-kinds-kind-index
bounds-kinds-kind-index c = c.loop-kind-test.true

pub mk_var_list-requires : goal.mk_var_list-requires
mk_var_list-requires c = c.loop-kind.invariant.fits

pub loop-kind-smaller : goal.loop-kind-smaller
loop-kind-smaller c = omega arith

pub returns-in_err-number-clause-kept : goal.returns-in_err-number-clause-kept
returns-in_err-number-clause-kept c = extends-trans _ _ _ c.loop-kind.invariant.kept c.add.ensures.kept

pub returns-in_err-number-clause-fit : goal.returns-in_err-number-clause-fit
returns-in_err-number-clause-fit c = no-result c.from_residual.result _ c.from_residual.ensures.0

pub returns-in_err-number-clause-sort : goal.returns-in_err-number-clause-sort
returns-in_err-number-clause-sort c = no-result c.from_residual.result _ c.from_residual.ensures.0

pub returns-in_err-number-clause-tree : goal.returns-in_err-number-clause-tree
returns-in_err-number-clause-tree c = no-result c.from_residual.result _ c.from_residual.ensures.0

pub returns-clause-kept : goal.returns-clause-kept
returns-clause-kept c = extends-trans _ _ _ c.loop-kind.invariant.kept c.mk_var_list.ensures.kept

pub returns-clause-sort : goal.returns-clause-sort
returns-clause-sort c = c.mk_var_list.ensures.sort
