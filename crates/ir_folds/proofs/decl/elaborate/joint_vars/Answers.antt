use Rattle.ir_folds.proofs.Instantiation.Joining.{both-kinds, joint-stop}
use Rattle.ir_folds.proofs.decl.elaborate.joint_vars.Goals as goal

pub returns-clause-cause : goal.returns-clause-cause
returns-clause-cause g c =
    joint-stop _ _ c.as_slice.result.now _ c.mk_vars.result
    (both-kinds (g.M.Build.context c.args.make.now) _ _ _ _ _ _ c.args.outer c.args.inner c.cx.ensures c.cx-2.ensures c.new-kinds.ensures.items c.in_ok-add_kinds.ensures c.in_ok-add_kinds-2.ensures c.as_slice.ensures.value)
    c.mk_vars.ensures.made.unchanged c.mk_vars.ensures.made.cause
