use Rattle.candidate_eval.proofs.Interface.Probing.{then}
use Rattle.std.proofs.Common.{sym, ◌∙◌, ap, subst}
use Rattle.std.proofs.lemmas.Result.{err_from_is_err_and}
use Rattle.ir_trees.specs.Declarations.Context.{Context}
use Rattle.ir_trees.specs.Syntax.Words.{args_forest, clause_tree, env_forest}
use Rattle.ir_trees.proofs.Growth.Kept.{args-kept, ty-kept}
use Rattle.candidate_eval.specs.Dynamic.Objects.{IsBound, term_in}
use Rattle.candidate_eval.proofs.Dynamic.Objects.{env-kept, instance-accepted}
use Rattle.candidate_eval.proofs.Interface.Accounts.{accounted-here, accounted-later, by-stop, reaches}
use Rattle.candidate_eval.specs.Interface.Accounts.StopsBy.{accounted}
use Rattle.candidate_eval.proofs.objects.object.equate_bound.Goals as goal

pub eq_args-requires-clause-env : goal.eq_args-requires-clause-env
eq_args-requires-clause-env g c =
    (env-kept (g.E.Build.context c.args.ecx.now) (g.E.Build.context c.instantiate_clause_with_infer.new.ecx) c.args.env c.instantiate_clause_with_infer.ensures.kept.grows c.requires.env).0

pub eq_args-requires-clause-right : goal.eq_args-requires-clause-right
eq_args-requires-clause-right g c =
    (args-kept (g.E.Build.context c.args.ecx.now) (g.E.Build.context c.instantiate_clause_with_infer.new.ecx) c.args.projection.args c.instantiate_clause_with_infer.ensures.kept.grows c.requires.args).0

pub returns-in_err-eq_args-in-Some-clause-refused : goal.returns-in_err-eq_args-in-Some-clause-refused
returns-in_err-eq_args-in-Some-clause-refused g c =
    let E = g.E.EvalCtxt in
    let old = c.args.ecx.now in
    let mid = c.instantiate_clause_with_infer.new.ecx in
    let kept = c.instantiate_clause_with_infer.ensures.kept in
    let before = g.E.Build.context old in
    let after = g.E.Build.context mid in
    let x = c.in_ok-instance.instance in
    let read = subst (λ (y : Context). IsBound y.trees (clause_tree y.trees x) c.in-Some.predicate) c.cx.ensures c.in-Some.ensures.0 in
    let env = env-kept before after c.args.env kept.grows c.requires.env in
    let args = args-kept before after c.args.projection.args kept.grows c.requires.args in
    let comes = instance-accepted E.judge (E.fixed old) (E.fixed mid) (E.state old) (E.state mid) (env_forest before.trees c.args.env) (env_forest after.trees c.args.env) (clause_tree before.trees c.args.bound) (clause_tree after.trees x)
    (args_forest before.trees c.args.projection.args) (args_forest after.trees c.in-Some.predicate.projection_term.args) (args_forest after.trees c.args.projection.args)
    kept.fixed_same c.in_ok-instance.ensures.state env.1 c.in_ok-instance.ensures.tree (sym read.arguments_are) args.1 in
    let r = err_from_is_err_and c.from_residual-in_err-eq_args-in-Some.result c.from_residual-in_err-eq_args-in-Some.ensures.1 in
    rw r.1 (λ n. sym comes ∙ c.in_err-eq_args-in-Some.ensures.refused (sym r.2 ∙ n))

pub returns-clause-ok : goal.returns-clause-ok
returns-clause-ok g c =
    let E = g.E.EvalCtxt in
    let old = c.args.ecx.now in
    let mid = c.instantiate_clause_with_infer.new.ecx in
    let kept = c.instantiate_clause_with_infer.ensures.kept in
    let before = g.E.Build.context old in
    let after = g.E.Build.context mid in
    let x = c.in_ok-instance.instance in
    let read = subst (λ (y : Context). IsBound y.trees (clause_tree y.trees x) c.in-Some.predicate) c.cx.ensures c.in-Some.ensures.0 in
    let env = env-kept before after c.args.env kept.grows c.requires.env in
    let args = args-kept before after c.args.projection.args kept.grows c.requires.args in
    let comes = instance-accepted E.judge (E.fixed old) (E.fixed mid) (E.state old) (E.state mid) (env_forest before.trees c.args.env) (env_forest after.trees c.args.env) (clause_tree before.trees c.args.bound) (clause_tree after.trees x)
    (args_forest before.trees c.args.projection.args) (args_forest after.trees c.in-Some.predicate.projection_term.args) (args_forest after.trees c.args.projection.args)
    kept.fixed_same c.in_ok-instance.ensures.state env.1 c.in_ok-instance.ensures.tree (sym read.arguments_are) args.1 in
    sym comes ∙ c.in_ok-eq_args-in-Some.ensures.ok

pub returns-clause-sort : goal.returns-clause-sort
returns-clause-sort g c =
    let after = g.E.Build.context c.instantiate_clause_with_infer.new.ecx in
    let read = subst (λ (y : Context). IsBound y.trees (clause_tree y.trees c.in_ok-instance.instance) c.in-Some.predicate) c.cx.ensures c.in-Some.ensures.0 in
    (ty-kept after (g.E.Build.context c.eq_args.new.self) c.in-Some.predicate.term c.eq_args.ensures.kept.grows read.term).0

pub returns-clause-term : goal.returns-clause-term
returns-clause-term g c =
    let after = g.E.Build.context c.instantiate_clause_with_infer.new.ecx in
    let read = subst (λ (y : Context). IsBound y.trees (clause_tree y.trees c.in_ok-instance.instance) c.in-Some.predicate) c.cx.ensures c.in-Some.ensures.0 in
    (ty-kept after (g.E.Build.context c.eq_args.new.self) c.in-Some.predicate.term c.eq_args.ensures.kept.grows read.term).1 ∙ (sym read.term_is ∙ ap term_in c.in_ok-instance.ensures.tree)

pub returns-in_err-eq_args-in-Some-clause-kept : goal.returns-in_err-eq_args-in-Some-clause-kept
returns-in_err-eq_args-in-Some-clause-kept g c =
    then c.instantiate_clause_with_infer.ensures.kept c.eq_args.ensures.kept

pub returns-clause-kept : goal.returns-clause-kept
returns-clause-kept g c =
    then c.instantiate_clause_with_infer.ensures.kept c.eq_args.ensures.kept

pub returns-in_err-eq_args-in-Some-clause-cause : goal.returns-in_err-eq_args-in-Some-clause-cause
returns-in_err-eq_args-in-Some-clause-cause g c =
    let p = err_from_is_err_and c.from_residual-in_err-eq_args-in-Some.result c.from_residual-in_err-eq_args-in-Some.ensures.1 in
    rw (p.1, p.2)
    (by-stop c.in_err-eq_args-in-Some.field-0.0 (λ s x. accounted (accounted-later (reaches c.instantiate_clause_with_infer.ensures.kept) (accounted-here _ (reaches c.eq_args.ensures.kept) x))) c.in_err-eq_args-in-Some.ensures.cause)
