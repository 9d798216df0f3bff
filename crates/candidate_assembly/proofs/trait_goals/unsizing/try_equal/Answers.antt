use Rattle.std.proofs.lemmas.Result.{err_from_is_err_and}
use Rattle.ir_trees.specs.declared.ir.stop.Stop.{Stop}
use Rattle.ir_trees.specs.Unification.Substitutions.{alone}
use Rattle.ir_trees.specs.Syntax.Words.{clause_tree, env_forest, ty_tree}
use Rattle.std.proofs.Common.{map}
use Rattle.candidate_eval.specs.Interface.Accounts as question
use Rattle.candidate_eval.specs.Derivations.Judging.{judged}
use Rattle.candidate_eval.proofs.Interface.Accounts.{by-stop, reaches}
use Rattle.candidate_eval.proofs.Dynamic.Objects.{env-kept}
use Rattle.candidate_eval.proofs.Outcomes.Responding.{clauses-kept}
use Rattle.candidate_assembly.specs.Rules.Unsizing.{equal_rule}
use Rattle.candidate_assembly.proofs.Calls.Causes.{answered-error, asked-here, caused, later}
use Rattle.candidate_assembly.proofs.Unsizing.EqualTypes.{equal-refused, equal-told}
use Rattle.candidate_assembly.proofs.Calls.Stepping.{evaluator-own, told-error}
use Rattle.candidate_assembly.proofs.trait_goals.unsizing.try_equal.Goals as goal

pub returns-in_err-eq-clause-told : goal.returns-in_err-eq-clause-told
returns-in_err-eq-clause-told g c =
    let E = g.E.EvalCtxt in
    let first = c.args.ecx.now in
    let old = g.E.Build.context first in
    let e = c.in_err-eq.field-0.0 in
    let r = c.from_residual.result in
    let J = E.judge (E.fixed first) in
    let S = E.state first in
    let env = env_forest old.trees c.args.env in
    let t = ty_tree old.trees c.args.left in
    let u = ty_tree old.trees c.args.right in
    let cs = map (clause_tree old.trees) c.args.nested.now in
    told-error (g.E.Build.context c.eq.new.self).trees r e (judged J S (equal_rule env t u cs)) (answered-error r e (err_from_is_err_and r c.from_residual.ensures.1))
    (λ n. equal-refused J S env t u cs c.requires.left_free c.requires.right_free (c.in_err-eq.ensures.refused n))
    (by-stop e (λ s x. evaluator-own s (g.met.E.EvalCtxt.stops_itself c.eq.new.self S (question.equate env (alone t) (alone u)) s x)) c.in_err-eq.ensures.cause)

pub returns-in_err-eq-clause-cause : goal.returns-in_err-eq-clause-cause
returns-in_err-eq-clause-cause g c =
    let old = g.E.Build.context c.args.ecx.now in
    let r = c.from_residual.result in
    let e = c.in_err-eq.field-0.0 in
    let asked = question.equate (env_forest old.trees c.args.env) (alone (ty_tree old.trees c.args.left)) (alone (ty_tree old.trees c.args.right)) in
    let P : Stop → Type 0 = g.E.EvalCtxt.stops c.eq.new.self (g.E.EvalCtxt.state c.args.ecx.now) asked in
    rw (answered-error r e (err_from_is_err_and r c.from_residual.ensures.1)) (by-stop {P = P} e (λ s x. asked-here asked c.eq.ensures.kept x) c.in_err-eq.ensures.cause)

pub nest_and_respond-requires-clause-env : goal.nest_and_respond-requires-clause-env
nest_and_respond-requires-clause-env g c = (env-kept (g.E.Build.context c.args.ecx.now) (g.E.Build.context c.eq.new.self) c.args.env c.eq.ensures.kept.grows c.requires.env).0

pub nest_and_respond-requires-clause-nested : goal.nest_and_respond-requires-clause-nested
nest_and_respond-requires-clause-nested g c = (clauses-kept (g.E.Build.context c.args.ecx.now) (g.E.Build.context c.eq.new.self) c.args.nested.now c.eq.ensures.kept.grows c.requires.nested).0

pub returns-clause-told : goal.returns-clause-told
returns-clause-told g c =
    let E = g.E.EvalCtxt in
    let first = c.args.ecx.now in
    let old = g.E.Build.context first in
    let mid = g.E.Build.context c.eq.new.self in
    equal-told (E.judge (E.fixed first)) old mid (g.E.Build.context c.nest_and_respond.new.ecx).trees (E.state first) (E.state c.eq.new.self) c.args.env (ty_tree old.trees c.args.left) (ty_tree old.trees c.args.right)
    c.args.nested.now c.nest_and_respond.result c.eq.ensures.kept.grows c.requires.env c.requires.nested c.requires.free c.requires.left_free c.requires.right_free c.in_ok-eq.ensures.ok
    (rw c.eq.ensures.kept.fixed_same at c.nest_and_respond.ensures.told)

pub returns-clause-cause : goal.returns-clause-cause
returns-clause-cause g c = caused c.nest_and_respond.result (λ s. later (reaches c.eq.ensures.kept)) c.nest_and_respond.ensures.cause
