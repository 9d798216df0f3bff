use Rattle.std.proofs.Common.{◌∙◌, ◌≡◌, ap, arith, sym}
use Rattle.ir_trees.specs.Declarations.Context.{Context}
use Rattle.ir_trees.specs.Syntax.Nodes.{tree_at}
use Rattle.ir_trees.specs.Instantiation.Opening.{opened}
use Rattle.ir_trees.specs.Syntax.Trees.{Forest, skip, tree_holds}
use Rattle.ir_trees.specs.Syntax.Words.{args_forest, clause_tree, env_forest}
use Rattle.candidate_eval.specs.Derivations.Characterization.{each, is_any_bound}
use Rattle.candidate_eval.proofs.Dynamic.Objects.{env-kept}
use Rattle.candidate_assembly.specs.Calls.Characterizing.{visited_at}
use Rattle.candidate_assembly.proofs.Rules.Characterizing.{asking-walk, clause-there, env-later, found-here, nothing-done, number-later, walked-later, with-bound, with-none, without-bound}
use Rattle.candidate_assembly.proofs.assembly.characterize.walk.Goals as goal

pub returns-then-has_marked : goal.returns-then-has_marked
returns-then-has_marked g c =
    let E = g.E.EvalCtxt in
    let a = c.args.ecx.now in
    let ts = (g.E.Build.context a).trees in
    found-here E.fixed E.probes g.E.Build.context E.state E.stops _ (nothing-done E.fixed E.probes g.E.Build.context E.state E.stops a)
    (with-bound (E.judge (E.fixed a)) (env_forest ts c.args.env) (E.state a) (clause_tree ts c.args.clause) c.has_marked.result (clause-there ts c.args.clause c.requires.clause).1
    (c.has_marked.ensures.is ∙ ap (λ (x : Context). tree_holds is_any_bound (tree_at x.trees c.args.clause.0)) c.cx.ensures) c.if-has_marked.true)

pub returns-in_err-values : goal.returns-in_err-values
returns-in_err-values g c =
    let E = g.E.EvalCtxt in
    asking-walk E.fixed E.probes g.E.Build.context E.state E.stops _ c.in_err-values.field-0.0 c.from_residual.result
    (λ s x. g.met.E.EvalCtxt.stops_itself _ _ _ s x) c.from_residual.ensures.1 c.placeholder_args.ensures.kept c.in_err-values.ensures.cause

pub visit_parts-requires-clause-env : goal.visit_parts-requires-clause-env
visit_parts-requires-clause-env g c = env-later c.args.env c.placeholder_args.ensures.kept.grows c.requires.env

pub visit_parts-requires-clause-parts : goal.visit_parts-requires-clause-parts
visit_parts-requires-clause-parts g c =
    let E = g.E.EvalCtxt in
    let there = clause-there (g.E.Build.context c.args.ecx.now).trees c.args.clause c.requires.clause in
    record {
      number = number-later E.fixed E.probes g.E.Build.context E.state E.stops c.args.clause.0 c.placeholder_args.ensures.kept there.0;
      place = omega arith;
      values = c.in_ok-values.ensures.sort;
      types = omega arith;
      constants = omega arith;
    }

pub returns : goal.returns
returns g c =
    let E = g.E.EvalCtxt in
    let a = c.args.ecx.now in
    let b = c.placeholder_args.new.self in
    let ts = (g.E.Build.context a).trees in
    let us = (g.E.Build.context b).trees in
    let there = clause-there ts c.args.clause c.requires.clause in
    let kept = c.placeholder_args.ensures.kept in
    let clauses = env_forest ts c.args.env in
    let same : env_forest us c.args.env ≡ clauses = (env-kept _ _ c.args.env kept.grows c.requires.env).1 in
    walked-later E.fixed E.probes g.E.Build.context E.state E.stops c.visit_parts.result kept
    (without-bound (E.judge (E.fixed a)) clauses (E.state a) (clause_tree ts c.args.clause) c.has_marked.result there.1
    (c.has_marked.ensures.is ∙ ap (λ (x : Context). tree_holds is_any_bound (tree_at x.trees c.args.clause.0)) c.cx.ensures) c.if-has_marked.false
    ∙ (with-none E.fixed E.probes g.E.Build.context E.state E.stops E.judge clauses 1 0 c.args.clause.0 c.in_ok-values.values kept there.0 c.in_ok-values.ensures.trees c.in_ok-values.ensures.made
    ∙ ap (λ (e : Forest). each (visited_at (E.judge (E.fixed b)) e 1 0) (E.state b) (opened (args_forest us c.in_ok-values.values) (skip 1 (tree_at us c.args.clause.0).children))) (sym same))) c.visit_parts.ensures
