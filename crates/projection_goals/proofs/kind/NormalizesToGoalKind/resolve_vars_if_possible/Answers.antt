use Rattle.std.proofs.Common.{◌≡◌, ◌∙◌, ap, refl, sym}
use Rattle.std.proofs.lemmas.Result.{err_from_is_err_and}
use Rattle.ir_trees.specs.Syntax.Words.{args_forest, env_forest, ty_tree}
use Rattle.ir_trees.proofs.Growth.Kept.{args-kept, ty-kept}
use Rattle.candidate_eval.specs.Interface.Accounts.Question.{resolve}
use Rattle.candidate_eval.specs.Interface.Accounts.StopsSomehow.{asking}
use Rattle.candidate_eval.specs.Judges.States.{resolved, resolved_tree}
use Rattle.candidate_eval.proofs.Dynamic.Objects.{env-kept}
use Rattle.candidate_eval.proofs.Interface.Accounts.{accounted-here, accounted-later, reaches}
use Rattle.candidate_eval.proofs.Interface.Probing.{then}
use Rattle.projection_goals.specs.declared.kind.NormalizesTo.{NormalizesTo}
use Rattle.projection_goals.specs.Normalizing.{normalizes_goal}
use Rattle.projection_goals.specs.NormalizingLaws.{term-is}
use Rattle.projection_goals.proofs.Changing.{put-in, resolved-goal, same-goal}
use Rattle.projection_goals.proofs.kind.NormalizesToGoalKind.resolve_vars_if_possible.Goals as goal

pub returns-in_err-args-clause-cause : goal.returns-in_err-args-clause-cause
returns-in_err-args-clause-cause g c =
    let old = g.E.Build.context c.args.ecx.now in
    let p = err_from_is_err_and c.from_residual.result c.from_residual.ensures.1 in
    rw (p.1, p.2) (asking (accounted-here (resolve (args_forest old.trees c.args.predicate.alias.args)) (reaches c.in_err-args.ensures.kept) c.in_err-args.ensures.cause))

pub resolve_ty_if_possible-requires : goal.resolve_ty_if_possible-requires
resolve_ty_if_possible-requires g c =
    (ty-kept _ _ c.args.predicate.term c.resolve_args_if_possible.ensures.kept.grows (term-is (g.E.Build.context c.args.ecx.now) c.args._env c.args.predicate c.requires.goal)).0

pub returns-in_err-term-clause-cause : goal.returns-in_err-term-clause-cause
returns-in_err-term-clause-cause g c =
    let p = err_from_is_err_and c.from_residual-in_err-term.result c.from_residual-in_err-term.ensures.1 in
    rw (p.1, p.2) (asking (accounted-later (reaches c.resolve_args_if_possible.ensures.kept) (accounted-here _ (reaches c.in_err-term.ensures.kept) c.in_err-term.ensures.cause)))

pub returns-clause-is : goal.returns-clause-is
returns-clause-is g c =
    let E = g.E.EvalCtxt in
    let old = g.E.Build.context c.args.ecx.now in
    let mid = g.E.Build.context c.resolve_args_if_possible.new.self in
    let new = g.E.Build.context c.resolve_ty_if_possible.new.self in
    let S = E.state c.args.ecx.now in
    let p = c.args.predicate in
    let first = c.resolve_args_if_possible.ensures.kept in
    let second = c.resolve_ty_if_possible.ensures.kept in
    let q : NormalizesTo = record { alias = record { kind = p.alias.kind; id = p.alias.id; args = c.in_ok-args.args }; term = c.in_ok-term.term } in
    let args : args_forest new.trees c.in_ok-args.args ≡ resolved S (args_forest old.trees p.alias.args) = (args-kept mid new c.in_ok-args.args second.grows c.in_ok-args.ensures.sort).1 ∙ c.in_ok-args.ensures.tree in
    let term : ty_tree new.trees c.in_ok-term.term ≡ resolved_tree S (ty_tree old.trees p.term) =
    c.in_ok-term.ensures.tree ∙ (ap (λ T. resolved_tree T (ty_tree mid.trees p.term)) c.resolve_args_if_possible.ensures.same ∙ ap (resolved_tree S) (ty-kept old mid p.term first.grows (term-is old c.args._env p c.requires.goal)).1) in
    same-goal old new c.args._env c.args._resolved_env p q _ _ refl (env-kept old new c.args._resolved_env (then first second).grows c.requires.env).1 args term
    ∙ sym (put-in S (normalizes_goal old.trees c.args._env p) (env_forest old.trees c.args._resolved_env) (ty_tree old.trees p.term) refl)

pub returns-clause-goal : goal.returns-clause-goal
returns-clause-goal g c stands =
    let E = g.E.EvalCtxt in
    let old = g.E.Build.context c.args.ecx.now in
    let mid = g.E.Build.context c.resolve_args_if_possible.new.self in
    let new = g.E.Build.context c.resolve_ty_if_possible.new.self in
    let S = E.state c.args.ecx.now in
    let p = c.args.predicate in
    let first = c.resolve_args_if_possible.ensures.kept in
    let second = c.resolve_ty_if_possible.ensures.kept in
    let q : NormalizesTo = record { alias = record { kind = p.alias.kind; id = p.alias.id; args = c.in_ok-args.args }; term = c.in_ok-term.term } in
    let kept = args-kept mid new c.in_ok-args.args second.grows c.in_ok-args.ensures.sort in
    let term : ty_tree new.trees c.in_ok-term.term ≡ resolved_tree S (ty_tree old.trees p.term) =
    c.in_ok-term.ensures.tree ∙ (ap (λ T. resolved_tree T (ty_tree mid.trees p.term)) c.resolve_args_if_possible.ensures.same ∙ ap (resolved_tree S) (ty-kept old mid p.term first.grows (term-is old c.args._env p c.requires.goal)).1) in
    resolved-goal old new S c.args._env c.args._resolved_env p q (then first second).grows c.requires.goal c.requires.env kept.0 c.in_ok-term.ensures.sort refl (kept.1 ∙ c.in_ok-args.ensures.tree) term stands
