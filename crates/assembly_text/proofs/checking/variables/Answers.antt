use Rattle.std.proofs.Common.{◌≡◌, ◌≤◌, ◌∙◌, length, arith}
use Rattle.std.proofs.lemmas.Result.{IfOk-weaker}
use Rattle.ir_trees.proofs.Growth.Kept.{grows-trans}
use Rattle.assembly_text.proofs.Variables.{all-variables, one-more-variable}
use Rattle.assembly_text.proofs.checking.variables.Goals as goal

pub returns-in_err-variable-clause-grows : goal.returns-in_err-variable-clause-grows
returns-in_err-variable-clause-grows c = grows-trans _ _ _ c.loop-number.invariant.grows c.variable.ensures.grows

pub returns-in_err-push-clause-grows : goal.returns-in_err-push-clause-grows
returns-in_err-push-clause-grows c = grows-trans _ _ _ c.loop-number.invariant.grows c.variable.ensures.grows

pub loop-number-preserved : goal.loop-number-preserved
loop-number-preserved c =
    one-more-variable _ _ _ c.args.kinds.now c.loop-number.number _ _ c.in_ok-variable.field-0 _ c.loop-number.invariant (omega (arith, c.loop-number-test.true, c.loop-number.auto.number-end)) c.variable.ensures.grows
    c.in_ok-variable.ensures.sort c.in_ok-variable.ensures.tree c.in_ok-push.ensures.items

pub mk_arg_list-requires : goal.mk_arg_list-requires
mk_arg_list-requires c = c.loop-number.invariant.fits

pub returns-clause-grows : goal.returns-clause-grows
returns-clause-grows c = grows-trans _ _ _ c.loop-number.invariant.grows c.mk_arg_list.ensures.kept

pub returns-clause-trees : goal.returns-clause-trees
returns-clause-trees c =
    let all : length c.args.kinds.now ≤ c.loop-number.number = omega (arith, c.loop-number-test.false, c.loop-number.auto.number-end) in
    IfOk-weaker c.mk_arg_list.result _ _ (λ a e. e ∙ all-variables _ _ c.args.kinds.now c.loop-number.number _ c.loop-number.invariant all) c.mk_arg_list.ensures.tree
