use Rattle.std.proofs.Common.{refl}
use Rattle.std.proofs.lemmas.Result.{err_from_is_err_and}
use Rattle.ir_trees.specs.Syntax.Words.{args_forest}
use Rattle.candidate_eval.specs.Interface.Accounts.Question.{resolve}
use Rattle.candidate_eval.specs.Interface.Accounts.StopsSomehow.{asking}
use Rattle.candidate_eval.specs.Judges.States.{resolved}
use Rattle.candidate_eval.proofs.Interface.Accounts.{accounted-here, reaches}
use Rattle.candidate_eval.proofs.Dynamic.Objects.{env-kept}
use Rattle.candidate_assembly.proofs.Goals.SelfTypes.{resolved-goal, resolved-trait-goal}
use Rattle.candidate_assembly.proofs.trait_goals.kind.TraitPredicateGoalKind.resolve_vars_if_possible.Goals as goal

pub returns-in_err-args-clause-cause : goal.returns-in_err-args-clause-cause
returns-in_err-args-clause-cause g c =
    let old = g.E.Build.context c.args.ecx.now in
    let p = err_from_is_err_and c.from_residual.result c.from_residual.ensures.1 in
    rw (p.1, p.2) (asking (accounted-here (resolve (args_forest old.trees c.args.predicate.trait_ref.args)) (reaches c.in_err-args.ensures.kept) c.in_err-args.ensures.cause))

pub returns-clause-is : goal.returns-clause-is
returns-clause-is g c =
    let old = g.E.Build.context c.args.ecx.now in
    let new = g.E.Build.context c.resolve_args_if_possible.new.self in
    let S = g.E.EvalCtxt.state c.args.ecx.now in
    let q : _ = record { trait_ref = record { def_id = c.args.predicate.trait_ref.def_id; args = c.in_ok-args.args }; polarity = c.args.predicate.polarity } in
    resolved-trait-goal old new c.args._env c.args._resolved_env c.args.predicate q (resolved S (args_forest old.trees c.args.predicate.trait_ref.args)) (env-kept old new c.args._resolved_env c.resolve_args_if_possible.ensures.kept.grows c.requires.env).1 refl refl
    c.in_ok-args.ensures.tree

pub returns-clause-goal : goal.returns-clause-goal
returns-clause-goal g c stands =
    let old = g.E.Build.context c.args.ecx.now in
    let new = g.E.Build.context c.resolve_args_if_possible.new.self in
    let S = g.E.EvalCtxt.state c.args.ecx.now in
    let q : _ = record { trait_ref = record { def_id = c.args.predicate.trait_ref.def_id; args = c.in_ok-args.args }; polarity = c.args.predicate.polarity } in
    resolved-goal old new S c.args._env c.args._resolved_env c.args.predicate q c.resolve_args_if_possible.ensures.kept.grows c.requires.goal c.requires.env c.in_ok-args.ensures.sort refl c.in_ok-args.ensures.tree stands
