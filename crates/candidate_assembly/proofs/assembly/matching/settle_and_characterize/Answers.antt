use Rattle.std.proofs.Common.{Err, ap, subst, sym, ◌∙◌}
use Rattle.std.proofs.lemmas.Result.{err_from_is_err_and}
use Rattle.ir_trees.specs.Syntax.Words.{clause_tree, env_forest}
use Rattle.ir_folds.proofs.Instantiation.Joining.{clause-kept}
use Rattle.candidate_eval.specs.Interface.Accounts.{Question}
use Rattle.candidate_eval.specs.Interface.Accounts.StopsSomehow.{asking}
use Rattle.candidate_eval.specs.Derivations.Characterization.{characterization}
use Rattle.candidate_eval.proofs.Interface.Accounts.{accounted-here, by-stop, reaches}
use Rattle.candidate_eval.proofs.Dynamic.Objects.{env-kept}
use Rattle.candidate_eval.proofs.Interface.Probing.{then}
use Rattle.candidate_assembly.specs.Answers.Telling.{Told}
use Rattle.candidate_assembly.proofs.Calls.Causes.{answered-error, caused, later}
use Rattle.candidate_assembly.proofs.Rules.WhereBounds.{asks-found, characterised-comes, told-uncharacterised}
use Rattle.candidate_assembly.proofs.assembly.matching.settle_and_characterize.Goals as goal

pub returns-in_err-try_evaluate_added_goals-clause-cause : goal.returns-in_err-try_evaluate_added_goals-clause-cause
returns-in_err-try_evaluate_added_goals-clause-cause g c =
    let p = err_from_is_err_and c.from_residual.result c.from_residual.ensures.1 in
    rw (p.1, p.2)
    (by-stop c.in_err-try_evaluate_added_goals.field-0.0 (λ s x own. asking (accounted-here Question.evaluate (reaches c.try_evaluate_added_goals.ensures.kept) x)) c.in_err-try_evaluate_added_goals.ensures.cause)

pub characterize_param_env_assumption-requires-clause-env : goal.characterize_param_env_assumption-requires-clause-env
characterize_param_env_assumption-requires-clause-env g c = (env-kept (g.E.Build.context c.args.ecx.now) (g.E.Build.context c.try_evaluate_added_goals.new.self) c.args.env c.try_evaluate_added_goals.ensures.kept.grows c.requires.env).0

pub characterize_param_env_assumption-requires-clause-clause : goal.characterize_param_env_assumption-requires-clause-clause
characterize_param_env_assumption-requires-clause-clause g c = (clause-kept (g.E.Build.context c.args.ecx.now) (g.E.Build.context c.try_evaluate_added_goals.new.self) c.args.clause c.try_evaluate_added_goals.ensures.kept.grows c.requires.clause).0

pub returns-in_err-source-clause-kept : goal.returns-in_err-source-clause-kept
returns-in_err-source-clause-kept g c = then c.try_evaluate_added_goals.ensures.kept c.characterize_param_env_assumption.ensures.kept

pub returns-in_err-source-clause-told : goal.returns-in_err-source-clause-told
returns-in_err-source-clause-told g c =
    let E = g.E.EvalCtxt in
    let first = c.args.ecx.now in
    let middle = c.try_evaluate_added_goals.new.self in
    let old = g.E.Build.context first in
    let mid = g.E.Build.context middle in
    let kept = c.try_evaluate_added_goals.ensures.kept in
    let J = E.judge (E.fixed middle) in
    let d = env_forest mid.trees c.args.env in
    let u = clause_tree mid.trees c.args.clause in
    let w = characterization J d (E.state middle) u in
    let comes = characterised-comes E.judge (E.fixed first) (E.fixed middle) (E.state first) (E.state middle) _ (env_forest old.trees c.args.env) d (clause_tree old.trees c.args.clause) u c.in_ok-try_evaluate_added_goals.ensures.ok
    kept.fixed_same (env-kept old mid c.args.env kept.grows c.requires.env).1 (clause-kept old mid c.args.clause kept.grows c.requires.clause).1 in
    let r = c.from_residual-in_err-source.result in
    let ts = (g.E.Build.context c.characterize_param_env_assumption.new.ecx).trees in
    let e = c.in_err-source.field-0.0 in
    subst (λ j. Told ts r j) comes
    (told-uncharacterised ts J w r e (answered-error r e (err_from_is_err_and r c.from_residual-in_err-source.ensures.1)) c.in_err-source.ensures.refused
    (λ s is own. c.characterize_param_env_assumption.ensures.stopped s (c.in_err-source.was ∙ ap Err is) own))

pub returns-in_err-source-clause-cause : goal.returns-in_err-source-clause-cause
returns-in_err-source-clause-cause g c =
    let p = err_from_is_err_and c.from_residual-in_err-source.result c.from_residual-in_err-source.ensures.1 in
    rw (p.1, p.2) (by-stop c.in_err-source.field-0.0 (λ s. later (reaches c.try_evaluate_added_goals.ensures.kept)) c.in_err-source.ensures.cause)

pub returns-clause-kept : goal.returns-clause-kept
returns-clause-kept g c = then (then c.try_evaluate_added_goals.ensures.kept c.characterize_param_env_assumption.ensures.kept) c.respond_as.ensures.kept

pub returns-clause-told : goal.returns-clause-told
returns-clause-told g c =
    let E = g.E.EvalCtxt in
    let first = c.args.ecx.now in
    let middle = c.try_evaluate_added_goals.new.self in
    let old = g.E.Build.context first in
    let mid = g.E.Build.context middle in
    let kept = c.try_evaluate_added_goals.ensures.kept in
    let J = E.judge (E.fixed middle) in
    let d = env_forest mid.trees c.args.env in
    let u = clause_tree mid.trees c.args.clause in
    let w = characterization J d (E.state middle) u in
    let comes = characterised-comes E.judge (E.fixed first) (E.fixed middle) (E.state first) (E.state middle) _ (env_forest old.trees c.args.env) d (clause_tree old.trees c.args.clause) u c.in_ok-try_evaluate_added_goals.ensures.ok
    kept.fixed_same (env-kept old mid c.args.env kept.grows c.requires.env).1 (clause-kept old mid c.args.clause kept.grows c.requires.clause).1 in
    let found = asks-found J w (c.in_ok-source.source, c.in_ok-source.certainty) (E.state c.characterize_param_env_assumption.new.ecx) c.in_ok-source.ensures.ok in
    subst (λ j. Told (g.E.Build.context c.respond_as.new.ecx).trees c.respond_as.result j) (sym found ∙ comes) (rw c.characterize_param_env_assumption.ensures.kept.fixed_same at c.respond_as.ensures.told)

pub returns-clause-cause : goal.returns-clause-cause
returns-clause-cause g c =
    let kept = then c.try_evaluate_added_goals.ensures.kept c.characterize_param_env_assumption.ensures.kept in
    caused c.respond_as.result (λ s. later (reaches kept)) c.respond_as.ensures.cause
