use Rattle.std.proofs.Common.{refl, get_or}
use Rattle.std.proofs.lemmas.Result.{err_from_is_err_and}
use Rattle.ir_trees.specs.declared.ir.kinds.Clause.{Clause}
use Rattle.ir_trees.specs.declared.ir.kinds.GoalSource.TheVariants.{Misc}
use Rattle.ir_folds.proofs.Instantiation.Joining.{clause-kept}
use Rattle.ir_trees.proofs.Growth.Kept.{grows-refl}
use Rattle.candidate_eval.specs.Interface.Accounts.StopsSomehow.{asking}
use Rattle.candidate_eval.proofs.Interface.Accounts.{accounted-here, reaches, somehow-later}
use Rattle.candidate_eval.proofs.Dynamic.Objects.{env-kept}
use Rattle.candidate_eval.proofs.Interface.Probing.{then}
use Rattle.candidate_assembly.specs.Rules.Requirements.{Requirement}
use Rattle.candidate_assembly.proofs.Rules.Requiring.{all-required, none-required, one-required}
use Rattle.candidate_assembly.proofs.assembly.matching.add_requirements.Goals as goal

pub loop-requirement-init : goal.loop-requirement-init
loop-requirement-init g c =
    let old = g.E.Build.context c.args.ecx.now in
    (record { fixed_same = refl; probes_same = refl; grows = grows-refl old; faults = refl }, none-required old.trees c.args.env (g.E.EvalCtxt.state c.args.ecx.now))

pub loop-requirement-preserved : goal.loop-requirement-preserved
loop-requirement-preserved g c =
    let E = g.E.EvalCtxt in
    let so = c.loop-requirement.invariant in
    let past : Clause = record { 0 = 0 } in
    let none : Requirement = (Misc, past) in (
      then so.0 c.add_goal.ensures.kept,
      one-required (g.E.Build.context c.args.ecx.now) (g.E.Build.context c.loop-requirement.ecx) c.args.env (E.state c.args.ecx.now) (E.state c.loop-requirement.ecx) (E.state c.add_goal.new.self) c.args.requirements.now
          c.loop-requirement.requirement-index none so.0.grows c.requires.env c.requires.requirements c.loop-requirement-test.true so.1 c.in_ok-add_goal.ensures.ok,
    )

pub add_goal-requires : goal.add_goal-requires
add_goal-requires g c =
    let old = g.E.Build.context c.args.ecx.now in
    let mid = g.E.Build.context c.loop-requirement.ecx in
    let grows = c.loop-requirement.invariant.0.grows in
    let past : Clause = record { 0 = 0 } in
    let none : Requirement = (Misc, past) in
    let i = c.loop-requirement.requirement-index in (
      (env-kept old mid c.args.env grows c.requires.env).0,
      (clause-kept old mid (get_or c.args.requirements.now i none).1 grows (c.requires.requirements i none c.loop-requirement-test.true)).0,
    )

pub returns-in_err-add_goal-clause-cause : goal.returns-in_err-add_goal-clause-cause
returns-in_err-add_goal-clause-cause g c =
    let p = err_from_is_err_and c.from_residual.result c.from_residual.ensures.1 in
    rw (p.1, p.2) (somehow-later (reaches c.loop-requirement.invariant.0) (asking (accounted-here _ (reaches c.add_goal.ensures.kept) c.in_err-add_goal.ensures.cause)))

pub returns-clause-ok : goal.returns-clause-ok
returns-clause-ok g c =
    let ts = (g.E.Build.context c.args.ecx.now).trees in
    all-required ts c.args.env (g.E.EvalCtxt.state c.args.ecx.now) (g.E.EvalCtxt.state c.loop-requirement.ecx) c.args.requirements.now c.loop-requirement.requirement-index c.loop-requirement.invariant.1 c.loop-requirement-test.false
