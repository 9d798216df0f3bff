use Rattle.std.proofs.Common.{rules, refl, subst}
use Rattle.ir_trees.specs.Declarations.Context.{Context}
use Rattle.ir_trees.specs.Syntax.Trees.{ArgumentsKind}
use Rattle.ir_trees.specs.Syntax.Words.{args_forest}
use Rattle.ir_folds.proofs.Instantiation.Substituting.{list-there}
use Rattle.candidate_assembly.specs.Calls.Impls.{IsDeclared}
use Rattle.overlaps.proofs.OpenedImpls.{header-fits, header-has, is-opened}
use Rattle.overlaps.proofs.Stopping.{passed-on, substitute-somehow}
use Rattle.candidate_eval.specs.Interface.Accounts.{StopsSomehow}
use Rattle.candidate_eval.proofs.Interface.Accounts.{memory-somehow}
use Rattle.overlaps.proofs.opening.open_with.Goals as goal

pub substitute-requires-clause-there : goal.substitute-requires-clause-there
substitute-requires-clause-there g c =
    let old = g.E.Build.context c.args.ecx.now in
    let ls = args_forest old.trees c.args.locals in
    let d = c.in-Some.declared in
    let is : IsDeclared old c.args.of ls d = subst (λ (x : Context). IsDeclared x c.args.of (args_forest x.trees c.args.locals) d) c.cx.ensures (search rules) in
    list-there ls old.trees d.header.0 ArgumentsKind refl refl (header-fits old c.args.of ls d is) (header-has old c.args.of ls d is)

pub returns-clause-opened : goal.returns-clause-opened
returns-clause-opened g c =
    let old = g.E.Build.context c.args.ecx.now in
    let new = g.E.Build.context c.substitute.new.ecx in
    let ls = args_forest old.trees c.args.locals in
    let d = c.in-Some.declared in
    let is : IsDeclared old c.args.of ls d = subst (λ (x : Context). IsDeclared x c.args.of (args_forest x.trees c.args.locals) d) c.cx.ensures (search rules) in
    is-opened old new c.args.of c.args.locals c.in_ok-header.header d c.substitute.ensures.kept.grows c.requires.locals is c.in_ok-header.ensures.sort (c.in_ok-header.ensures.list refl)

pub returns-in_err-declared-clause-cause : goal.returns-in_err-declared-clause-cause
returns-in_err-declared-clause-cause g c = passed-on (StopsSomehow g.E.EvalCtxt.fixed g.E.Build.context g.E.EvalCtxt.state g.E.EvalCtxt.stops c.args.ecx.now c.args.ecx.now) c.from_residual.result c.in_err-declared.field-0.0 c.from_residual.ensures.1 (memory-somehow c.in_err-declared.ensures.cause)

pub returns-in_err-header-clause-cause : goal.returns-in_err-header-clause-cause
returns-in_err-header-clause-cause g c = passed-on (StopsSomehow g.E.EvalCtxt.fixed g.E.Build.context g.E.EvalCtxt.state g.E.EvalCtxt.stops c.args.ecx.now c.substitute.new.ecx) c.from_residual-in_err-header.result c.in_err-header.field-0.0 c.from_residual-in_err-header.ensures.1 (substitute-somehow ArgumentsKind c.in-Some.declared.header.0 c.args.locals.0 c.substitute.ensures.kept c.in_err-header.ensures.cause)
