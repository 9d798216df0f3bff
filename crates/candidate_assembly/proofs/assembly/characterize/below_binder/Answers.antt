use Rattle.std.proofs.Common.{Err, ap, arith, refl, subst, ◌∙◌, ◌≡◌}
use Rattle.ir_trees.specs.Declarations.Context.{Context}
use Rattle.ir_trees.specs.Syntax.Nodes.{tree_at}
use Rattle.candidate_eval.specs.declared.eval.refusal.NoSolutionOrStop.TheVariants as N
use Rattle.candidate_eval.specs.Derivations.Characterization.{bound_kinds}
use Rattle.candidate_eval.specs.Interface.Accounts.{Question}
use Rattle.candidate_eval.specs.Interface.Evaluators.{kinds_listed}
use Rattle.candidate_eval.specs.Interface.Noting.{IsNotingStop}
use Rattle.candidate_eval.proofs.Interface.Unmade.{noting-unmade}
use Rattle.candidate_assembly.proofs.Rules.Characterizing.{asking-walk, few-later, leads-error, making-walk, nothing-done, number-later, under-placeholders}
use Rattle.candidate_assembly.proofs.assembly.characterize.below_binder.Goals as goal

pub returns-in_err-kinds : goal.returns-in_err-kinds
returns-in_err-kinds g c = λ e.
    let E = g.E.EvalCtxt in
    let s = c.in_err-kinds.field-0.0 in
    leads-error E.fixed E.probes g.E.Build.context E.state E.stops E.judge e _ (N.Stop s) c.from_residual.result c.from_residual.ensures.1
    (making-walk E.fixed E.probes g.E.Build.context E.state E.stops s (Err (N.Stop s)) refl (nothing-done E.fixed E.probes g.E.Build.context E.state E.stops c.args.ecx.now)
    (noting-unmade (subst (λ (x : Context). IsNotingStop x.trees s) c.cx.ensures c.in_err-kinds.ensures.cause)))

pub returns-in_err-values : goal.returns-in_err-values
returns-in_err-values g c = λ e.
    let E = g.E.EvalCtxt in
    let s = c.in_err-values.field-0.0 in
    leads-error E.fixed E.probes g.E.Build.context E.state E.stops E.judge e _ (N.Stop s) c.from_residual-in_err-values.result c.from_residual-in_err-values.ensures.1
    (asking-walk E.fixed E.probes g.E.Build.context E.state E.stops (Question.make_placeholders (kinds_listed c.as_slice.result.now)) s (Err (N.Stop s))
    (λ s x. g.met.E.EvalCtxt.stops_itself _ _ _ s x) refl c.placeholder_args.ensures.kept c.in_err-values.ensures.cause)

pub returns : goal.returns
returns g c = λ e.
    let E = g.E.EvalCtxt in
    let kept = c.placeholder_args.ensures.kept in
    let kinds : kinds_listed c.as_slice.result.now ≡ bound_kinds (tree_at (g.E.Build.context c.args.ecx.now).trees c.args.number).children =
    ap kinds_listed c.as_slice.ensures.value ∙ (c.in_ok-kinds.ensures.kinds ∙ ap (λ (x : Context). bound_kinds (tree_at x.trees c.args.number).children) c.cx.ensures) in
    let few = few-later E.fixed E.probes g.E.Build.context E.state E.stops E.judge c.args.nesting.types c.args.nesting.constants kept (c.requires.types, c.requires.constants) in
    record {
      kept = kept;
      parts = record {
        number = number-later E.fixed E.probes g.E.Build.context E.state E.stops c.args.number kept c.requires.number;
        place = omega arith;
        values = c.in_ok-values.ensures.sort;
        types = few.0;
        constants = few.1;
      };
      less = omega arith;
      is = under-placeholders E.fixed E.probes g.E.Build.context E.state E.stops E.judge e c.args.nesting.types c.args.nesting.constants c.args.number c.in_ok-values.values (kinds_listed c.as_slice.result.now)
          kept c.requires.number kinds c.in_ok-values.ensures.trees c.in_ok-values.ensures.made;
    }
