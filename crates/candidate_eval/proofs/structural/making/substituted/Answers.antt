use Rattle.std.proofs.Common.{rules, ◌≡◌, ◌∷◌, [], ◌++◌, ◌∙◌}
use Rattle.std.proofs.lemmas.Result.{err_from_is_err_and}
use Rattle.ir_trees.proofs.Growth.Kept.{args-kept, grows-trans}
use Rattle.ir_trees.proofs.Growth.Made.{IsTy-grows}
use Rattle.candidate_eval.proofs.Builtins.Types.{ty_at, has_now, one_more_put, put_stop}
use Rattle.candidate_eval.proofs.structural.making.substituted.Goals as goal

pub subst-requires-clause-value : goal.subst-requires-clause-value
subst-requires-clause-value g c = IsTy-grows _ _ _ c.loop-ty.invariant.0.grows (ty_at _ c.args.declared.now c.loop-ty.ty-index _ c.requires.fit c.loop-ty-test.true)

pub subst-requires-clause-args : goal.subst-requires-clause-args
subst-requires-clause-args g c = (args-kept _ _ c.args.args c.loop-ty.invariant.0.grows c.requires.args).0

pub subst-requires-clause-there : goal.subst-requires-clause-there
subst-requires-clause-there g c =
    has_now (g.M.Build.context c.args.make.now) _ c.args.args c.args.declared.now c.loop-ty.ty-index _ c.loop-ty.invariant.0.grows c.requires.args c.requires.fit c.loop-ty-test.true c.requires.have

pub returns-in_err-ty-clause-cause : goal.returns-in_err-ty-clause-cause
returns-in_err-ty-clause-cause g c =
    let p = err_from_is_err_and c.from_residual.result c.from_residual.ensures.1 in
    rw (p.1, p.2)
    (put_stop (g.M.Build.context c.args.make.now) _ c.args.args c.args.declared.now c.loop-ty.ty-index _ c.loop-ty.types.items _ _ c.loop-ty.invariant.0 c.requires.args c.requires.fit c.loop-ty-test.true c.in_err-ty.ensures.cause)

pub returns-in_err-ty-clause-grows : goal.returns-in_err-ty-clause-grows
returns-in_err-ty-clause-grows g c = grows-trans _ _ _ c.loop-ty.invariant.0.grows c.subst.ensures.grows

pub returns-in_err-push-clause-grows : goal.returns-in_err-push-clause-grows
returns-in_err-push-clause-grows g c = grows-trans _ _ _ c.loop-ty.invariant.0.grows c.subst.ensures.grows

pub loop-ty-preserved : goal.loop-ty-preserved
loop-ty-preserved g c =
    let items : c.push.new.self.items ≡ c.loop-ty.types.items ++ c.in_ok-ty.ty ∷ [] = search rules in (
      one_more_put (g.M.Build.context c.args.make.now) _ _ c.args.args c.args.declared.now c.loop-ty.ty-index _ c.loop-ty.types.items _ c.in_ok-ty.ty c.loop-ty.invariant.0 c.requires.args c.requires.fit
          c.loop-ty-test.true c.subst.ensures.grows c.in_ok-ty.ensures.sort c.in_ok-ty.ensures.tree items,
      c.subst.ensures.rest ∙ c.loop-ty.invariant.1,
    )
