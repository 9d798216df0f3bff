use Rattle.std.proofs.Common.{subst}
use Rattle.ir_trees.specs.Declarations.Context.{Context}
use Rattle.ir_trees.specs.Syntax.Table.{AreDistinct}
use Rattle.overlaps.proofs.AskedClauses.{isnt-resolved}
use Rattle.overlaps.proofs.Stopping.{passed-on}
use Rattle.candidate_assembly.proofs.Calls.Causes.{asked-somehow}
use Rattle.candidate_eval.specs.Interface.Accounts.{StopsSomehow, resolve}
use Rattle.ir_trees.specs.Syntax.Words.{args_forest}
use Rattle.overlaps.proofs.plain.is_resolved.Goals as goal

pub returns-in_err-all-clause-cause : goal.returns-in_err-all-clause-cause
returns-in_err-all-clause-cause g c = passed-on (StopsSomehow g.E.EvalCtxt.fixed g.E.Build.context g.E.EvalCtxt.state g.E.EvalCtxt.stops c.args.ecx.now c.resolve_args_if_possible.new.self) c.from_residual.result c.in_err-all.field-0.0 c.from_residual.ensures.1 (asked-somehow (resolve (args_forest (g.E.Build.context c.args.ecx.now).trees c.args.args)) c.resolve_args_if_possible.ensures.kept c.in_err-all.ensures.cause)

pub returns-clause-isnt : goal.returns-clause-isnt
returns-clause-isnt g c =
    isnt-resolved (g.E.Build.context c.args.ecx.now) (g.E.Build.context c.resolve_args_if_possible.new.self) (g.E.EvalCtxt.state c.args.ecx.now) c.args.args c.in_ok-all.all c.eq.result
    c.resolve_args_if_possible.ensures.kept.grows (subst (λ (x : Context). AreDistinct x.trees) c.cx.ensures c.recall_distinct.ensures) c.requires c.in_ok-all.ensures.sort c.in_ok-all.ensures.tree c.eq.ensures
