use Rattle.std.proofs.lemmas.Result.{err_from_is_err_and}
use Rattle.candidate_eval.specs.declared.eval.certainty.Certainty.TheVariants.{Yes}
use Rattle.candidate_eval.specs.Interface.Accounts.{Question}
use Rattle.candidate_eval.proofs.Interface.Accounts.{reaches}
use Rattle.candidate_eval.proofs.Interface.Probing.{then}
use Rattle.candidate_assembly.specs.Rules.Requirements.{with_requirements}
use Rattle.candidate_assembly.proofs.Rules.PureFolder.{responds-so, responds-stop}
use Rattle.candidate_assembly.proofs.Calls.Causes.{answered-stop, asked-here, caused, later, somehow-here}
use Rattle.candidate_assembly.proofs.Calls.Stepping.{evaluator-own, somehow-own}
use Rattle.candidate_assembly.proofs.assembly.matching.require_and_respond.Goals as goal

pub returns-in_err-add_requirements-clause-responds : goal.returns-in_err-add_requirements-clause-responds
returns-in_err-add_requirements-clause-responds g c =
    let s = c.in_err-add_requirements.field-0.0 in
    let E = g.E.EvalCtxt in
    let first = c.args.ecx.now in
    let o = (E.judge (E.fixed first)).responded (with_requirements (g.E.Build.context first).trees c.args.env (E.state first) c.args.requirements.now) Yes in
    responds-stop (g.E.Build.context c.add_requirements.new.ecx).trees c.from_residual.result s o
    (answered-stop c.from_residual.result s (err_from_is_err_and c.from_residual.result c.from_residual.ensures.1)) (somehow-own g.met.E.EvalCtxt.stops_itself s c.in_err-add_requirements.ensures.cause)

pub returns-in_err-add_requirements-clause-cause : goal.returns-in_err-add_requirements-clause-cause
returns-in_err-add_requirements-clause-cause g c =
    let p = err_from_is_err_and c.from_residual.result c.from_residual.ensures.1 in
    rw (p.1, p.2) (somehow-here c.in_err-add_requirements.ensures.cause)

pub returns-clause-kept : goal.returns-clause-kept
returns-clause-kept g c = then c.add_requirements.ensures.kept c.evaluate_added_goals_and_make_canonical_response.ensures.kept

pub returns-clause-responds : goal.returns-clause-responds
returns-clause-responds g c =
    let E = g.E.EvalCtxt in
    let kept = c.add_requirements.ensures.kept in
    let last = c.evaluate_added_goals_and_make_canonical_response in
    let T = E.state c.add_requirements.new.ecx in
    let judge = E.judge (E.fixed c.add_requirements.new.ecx) in
    let so = responds-so (g.E.Build.context last.new.self).trees last.result (judge.responded T Yes) last.ensures.sort last.ensures.ok last.ensures.refused
    (caused last.result (λ s x. evaluator-own s (g.met.E.EvalCtxt.stops_itself last.new.self T (Question.respond Yes) s x)) last.ensures.cause) in
    rw (kept.fixed_same, c.in_ok-add_requirements.ensures.ok) at so

pub returns-clause-cause : goal.returns-clause-cause
returns-clause-cause g c =
    let kept = c.add_requirements.ensures.kept in
    let last = c.evaluate_added_goals_and_make_canonical_response in
    caused last.result (λ s x. later (reaches kept) (asked-here (Question.respond Yes) last.ensures.kept x)) last.ensures.cause
