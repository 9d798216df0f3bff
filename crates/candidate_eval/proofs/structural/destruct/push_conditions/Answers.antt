use Rattle.ir_trees.proofs.Growth.Kept.{grows-trans}
use Rattle.std.proofs.Common.{◌∙◌}
use Rattle.std.proofs.lemmas.Result.{err_from_is_err_and}
use Rattle.ir_trees.proofs.Growth.Made.{IsTy-grows}
use Rattle.candidate_eval.proofs.Builtins.Conditions.{one_more_condition, condition_stop}
use Rattle.candidate_eval.proofs.Builtins.Types.{ty_at}
use Rattle.candidate_eval.proofs.structural.destruct.push_conditions.Goals as goal

pub push_condition-requires-clause-ty : goal.push_condition-requires-clause-ty
push_condition-requires-clause-ty g c = IsTy-grows _ _ _ c.loop-ty.invariant.0.grows (ty_at _ c.args.types.now c.loop-ty.ty-index _ c.requires.types c.loop-ty-test.true)

pub returns-in_err-push_condition-clause-cause : goal.returns-in_err-push_condition-clause-cause
returns-in_err-push_condition-clause-cause g c =
    let p = err_from_is_err_and c.from_residual.result c.from_residual.ensures.1 in
    rw (p.1, p.2)
    (condition_stop (g.M.Build.context c.args.make.now) _ c.args.of c.args.types.now c.loop-ty.ty-index _ _ c.loop-ty.conditions.items _ c.loop-ty.invariant.0 c.requires.types c.loop-ty-test.true
    c.in_err-push_condition.ensures.cause)

pub loop-ty-preserved : goal.loop-ty-preserved
loop-ty-preserved g c = (
  one_more_condition (g.M.Build.context c.args.make.now) _ _ c.args.of c.args.types.now c.loop-ty.ty-index _ c.loop-ty.conditions.items _ c.loop-ty.invariant.0 c.requires.types c.loop-ty-test.true
      c.push_condition.ensures.grows c.in_ok-push_condition.ensures.sort c.in_ok-push_condition.ensures.trees,
  c.push_condition.ensures.rest ∙ c.loop-ty.invariant.1,
)

pub returns-in_err-push_condition-clause-grows : goal.returns-in_err-push_condition-clause-grows
returns-in_err-push_condition-clause-grows g c =
    grows-trans _ _ _ c.loop-ty.invariant.0.grows c.push_condition.ensures.grows
