use Rattle.std.proofs.Common.{rules, subst}
use Rattle.std.specs.Prelude.{IfSome}
use Rattle.ir_trees.specs.Declarations.Context.{Context}
use Rattle.ir_trees.specs.Declarations.Declaring.{impl_at}
use Rattle.ir_trees.specs.Validity.WellFormed.{ImplIsGiven}
use Rattle.overlaps.specs.Opening.{IsEntered, IsOpened}
use Rattle.overlaps.proofs.OpenedImpls.{entered-and-opened}
use Rattle.overlaps.proofs.Stopping.{passed-on}
use Rattle.candidate_eval.specs.Interface.Accounts.{StopsSomehow}
use Rattle.candidate_eval.proofs.Interface.Accounts.{reaches, somehow-later}
use Rattle.overlaps.proofs.opening.enter_and_open.Goals as goal

pub returns-clause-entered : goal.returns-clause-entered
returns-clause-entered g c =
    let E = g.E.EvalCtxt in
    let old = g.E.Build.context c.args.ecx.now in
    let mid = g.E.Build.context c.enter.new.ecx in
    let new = g.E.Build.context c.open.new.ecx in
    let S = E.state c.args.ecx.now in
    let T = E.state c.enter.new.ecx in
    let first : IsEntered old S c.args.first mid c.in-Some.first = search rules in
    let second : IsOpened mid T c.args.second new c.in-Some-2.second = search rules in
    let given : IfSome (impl_at old c.args.second) (ImplIsGiven old) = subst (λ (x : Context). IfSome (impl_at x c.args.second) (ImplIsGiven x)) c.cx.ensures c.recall_impl_given.ensures in
    entered-and-opened old mid new S T (E.state c.open.new.ecx) c.args.first c.args.second c.in-Some.first c.in-Some-2.second c.enter.ensures.kept.grows c.open.ensures.kept.grows given
    c.in_ok-first.ensures.state c.in_ok-second.ensures.state first second

pub returns-in_err-first-clause-cause : goal.returns-in_err-first-clause-cause
returns-in_err-first-clause-cause g c = passed-on (StopsSomehow g.E.EvalCtxt.fixed g.E.Build.context g.E.EvalCtxt.state g.E.EvalCtxt.stops c.args.ecx.now c.enter.new.ecx) c.from_residual.result c.in_err-first.field-0.0 c.from_residual.ensures.1 (c.in_err-first.ensures.cause)

pub returns-in_err-second-clause-cause : goal.returns-in_err-second-clause-cause
returns-in_err-second-clause-cause g c = passed-on (StopsSomehow g.E.EvalCtxt.fixed g.E.Build.context g.E.EvalCtxt.state g.E.EvalCtxt.stops c.args.ecx.now c.open.new.ecx) c.from_residual-in_err-second.result c.in_err-second.field-0.0 c.from_residual-in_err-second.ensures.1 (somehow-later (reaches c.enter.ensures.kept) c.in_err-second.ensures.cause)
