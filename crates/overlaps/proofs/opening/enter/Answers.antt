use Rattle.std.proofs.Common.{subst}
use Rattle.std.proofs.lemmas.Result.{IfOk-weaker}
use Rattle.std.specs.Prelude.{IfSome}
use Rattle.ir_trees.specs.Declarations.Context.{Context}
use Rattle.ir_trees.specs.Declarations.Declaring.{impl_at}
use Rattle.ir_trees.specs.Syntax.Words.{args_forest}
use Rattle.ir_trees.specs.Validity.WellFormed.{ImplIsGiven}
use Rattle.candidate_eval.specs.Interface.Accounts.{StopsSomehow}
use Rattle.candidate_eval.proofs.Interface.Accounts.{reaches, somehow-later}
use Rattle.candidate_eval.proofs.Interface.Probing.{keeps-trans}
use Rattle.candidate_assembly.proofs.Calls.Causes.{so-err}
use Rattle.candidate_eval.specs.Interface.Evaluators.{rigid}
use Rattle.overlaps.proofs.OpenedImpls.{opened-or-none, rigid-fit}
use Rattle.overlaps.proofs.Stopping.{passed-on}
use Rattle.overlaps.proofs.opening.enter.Goals as goal

pub open_with-requires-clause-kinds : goal.open_with-requires-clause-kinds
open_with-requires-clause-kinds g c =
    let old = g.E.Build.context c.args.ecx.now in
    let mid = g.E.Build.context c.placeholder_args_for_impl.new.ecx in
    rigid-fit old mid c.args.of (g.E.EvalCtxt.state c.args.ecx.now) (args_forest mid.trees c.in_ok-locals.locals) c.placeholder_args_for_impl.ensures.kept.grows c.in_ok-locals.ensures.trees

pub returns-clause-kept : goal.returns-clause-kept
returns-clause-kept g c =
    let E = g.E.EvalCtxt in
    keeps-trans E.fixed E.probes g.E.Build.context c.args.ecx.now c.placeholder_args_for_impl.new.ecx c.open_with.new.ecx c.placeholder_args_for_impl.ensures.kept c.open_with.ensures.kept

pub returns-clause-entered : goal.returns-clause-entered
returns-clause-entered g c =
    let old = g.E.Build.context c.args.ecx.now in
    let mid = g.E.Build.context c.placeholder_args_for_impl.new.ecx in
    let new = g.E.Build.context c.open_with.new.ecx in
    let given : IfSome (impl_at old c.args.of) (ImplIsGiven old) = subst (λ (x : Context). IfSome (impl_at x c.args.of) (ImplIsGiven x)) c.cx.ensures c.recall_impl_given.ensures in
    IfOk-weaker c.open_with.result _ _
    (opened-or-none old mid new (rigid (g.E.EvalCtxt.state c.args.ecx.now)) (args_forest mid.trees c.in_ok-locals.locals) c.args.of c.placeholder_args_for_impl.ensures.kept.grows given c.in_ok-locals.ensures.trees)
    c.open_with.ensures.opened

pub returns-in_err-locals-clause-cause : goal.returns-in_err-locals-clause-cause
returns-in_err-locals-clause-cause g c = passed-on (StopsSomehow g.E.EvalCtxt.fixed g.E.Build.context g.E.EvalCtxt.state g.E.EvalCtxt.stops c.args.ecx.now c.placeholder_args_for_impl.new.ecx) c.from_residual.result c.in_err-locals.field-0.0 c.from_residual.ensures.1 (c.in_err-locals.ensures.cause)

pub returns-clause-cause : goal.returns-clause-cause
returns-clause-cause g c = so-err c.open_with.result (λ s k. somehow-later (reaches c.placeholder_args_for_impl.ensures.kept) k) c.open_with.ensures.cause
