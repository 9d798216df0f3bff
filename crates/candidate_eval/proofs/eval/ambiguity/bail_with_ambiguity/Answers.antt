use Rattle.std.proofs.Common.{rules, ◌≡◌, ◌∙◌, ap, sym, [], Some}
use Rattle.candidate_eval.specs.declared.eval.refusal.NoSolutionOrStop.TheVariants.{NoSolution}
use Rattle.candidate_eval.specs.Outcomes.Certainties.{AMBIGUOUS}
use Rattle.candidate_eval.specs.Outcomes.ResponseTrees.{response_of}
use Rattle.candidate_eval.specs.Judges.States.{with_pending}
use Rattle.candidate_eval.proofs.Interface.Probing.{alike-probe, keeps-probe, of-error}
use Rattle.candidate_eval.proofs.Outcomes.Responding.{response-fits, response-kept, not-refused, as-asked, of-state}
use Rattle.candidate_eval.proofs.Interface.Accounts.{accounted-here, accounted-within, at-stop, reaches}
use Rattle.std.proofs.lemmas.Result.{err_from_is_err_and}
use Rattle.candidate_eval.proofs.eval.ambiguity.bail_with_ambiguity.Goals as goal

pub returns-in-Ok-clause-kept : goal.returns-in-Ok-clause-kept
returns-in-Ok-clause-kept g c =
    let E = g.E.EvalCtxt in
    let ran = c.evaluate_added_goals_and_make_canonical_response-answer in
    let end = c.end_probe-usages in
    let began = c.in_ok-probe.ensures in
    keeps-probe E.fixed E.probes g.E.Build.context c.args.ecx.now c.begin_probe.new.self ran.new.self end.new.self (E.state c.args.ecx.now)
    began.fixed began.grows began.faults began.ok.1 ran.ensures.kept end.ensures.fixed end.ensures.grows end.ensures.faults end.ensures.left

pub returns-in-Ok-clause-fits : goal.returns-in-Ok-clause-fits
returns-in-Ok-clause-fits g c =
    let ran = c.evaluate_added_goals_and_make_canonical_response-answer in
    response-fits _ _ c.in-Ok.response c.end_probe-usages.ensures.grows c.in-Ok.ensures.sort

pub returns-in-Ok-clause-answer : goal.returns-in-Ok-clause-answer
returns-in-Ok-clause-answer g c =
    let E = g.E.EvalCtxt in
    let S = E.state c.args.ecx.now in
    let began = c.in_ok-probe.ensures in
    let ran = c.evaluate_added_goals_and_make_canonical_response-answer in
    let answer : (E.judge (E.fixed c.args.ecx.now)).responded (with_pending S []) AMBIGUOUS ≡ Some (response_of (g.E.Build.context ran.new.self).trees c.in-Ok.response)
    = rw (began.fixed, began.ok.0) at c.in-Ok.ensures.ok in
    answer ∙ ap Some (sym (response-kept _ _ c.in-Ok.response c.end_probe-usages.ensures.grows c.in-Ok.ensures.sort))

pub returns-in-Ok-clause-of_state : goal.returns-in-Ok-clause-of_state
returns-in-Ok-clause-of_state g c = λ L.
    let E = g.E.EvalCtxt in
    let S = E.state c.args.ecx.now in
    let began = c.in_ok-probe.ensures in
    let ran = c.evaluate_added_goals_and_make_canonical_response-answer in
    let answer : (E.judge (E.fixed c.args.ecx.now)).responded (with_pending S []) AMBIGUOUS ≡ Some (response_of (g.E.Build.context ran.new.self).trees c.in-Ok.response)
    = rw (began.fixed, began.ok.0) at c.in-Ok.ensures.ok in
    of-state (E.judge (E.fixed c.args.ecx.now)) (g.met.E.EvalCtxt.lawful (E.fixed c.args.ecx.now)) S L AMBIGUOUS _
    (answer ∙ ap Some (sym (response-kept _ _ c.in-Ok.response c.end_probe-usages.ensures.grows c.in-Ok.ensures.sort)))

pub returns-in-Ok-clause-certainty : goal.returns-in-Ok-clause-certainty
returns-in-Ok-clause-certainty g c =
    let E = g.E.EvalCtxt in
    let S = E.state c.args.ecx.now in
    let began = c.in_ok-probe.ensures in
    let ran = c.evaluate_added_goals_and_make_canonical_response-answer in
    let answer : (E.judge (E.fixed c.args.ecx.now)).responded (with_pending S []) AMBIGUOUS ≡ Some (response_of (g.E.Build.context ran.new.self).trees c.in-Ok.response)
    = rw (began.fixed, began.ok.0) at c.in-Ok.ensures.ok in
    as-asked (E.judge (E.fixed c.args.ecx.now)) (g.met.E.EvalCtxt.lawful (E.fixed c.args.ecx.now)) S AMBIGUOUS _ answer

pub unreachable-requires : goal.unreachable-requires
unreachable-requires g c =
    let E = g.E.EvalCtxt in
    let S = E.state c.args.ecx.now in
    let began = c.in_ok-probe.ensures in
    let ran = c.evaluate_added_goals_and_make_canonical_response-answer in
    let is : c.in-Err-NoSolution.field-0 ≡ NoSolution = search rules in
    let refused = of-error ran.result c.in-Err-NoSolution.field-0 _ c.in-Err-NoSolution.is ran.ensures.refused is in
    not-refused (E.judge (E.fixed c.args.ecx.now)) (g.met.E.EvalCtxt.lawful (E.fixed c.args.ecx.now)) S AMBIGUOUS (rw (began.fixed, began.ok.0) at refused)

pub returns-in-Ok-clause-alike : goal.returns-in-Ok-clause-alike
returns-in-Ok-clause-alike g c =
    let E = g.E.EvalCtxt in
    let ran = c.evaluate_added_goals_and_make_canonical_response-answer in
    let end = c.end_probe-usages in
    let began = c.in_ok-probe.ensures in
    alike-probe E.fixed E.probes E.judge E.state c.args.ecx.now c.begin_probe.new.self ran.new.self end.new.self
    began.fixed began.ok.1 ran.ensures.kept.fixed_same ran.ensures.kept.probes_same end.ensures.closed

pub returns-in-Err-Stop-clause-kept : goal.returns-in-Err-Stop-clause-kept
returns-in-Err-Stop-clause-kept g c =
    let E = g.E.EvalCtxt in
    let ran = c.evaluate_added_goals_and_make_canonical_response-answer in
    let end = c.end_probe-usages in
    let began = c.in_ok-probe.ensures in
    keeps-probe E.fixed E.probes g.E.Build.context c.args.ecx.now c.begin_probe.new.self ran.new.self end.new.self (E.state c.args.ecx.now)
    began.fixed began.grows began.faults began.ok.1 ran.ensures.kept end.ensures.fixed end.ensures.grows end.ensures.faults end.ensures.left

pub returns-in-Err-Stop-clause-alike : goal.returns-in-Err-Stop-clause-alike
returns-in-Err-Stop-clause-alike g c =
    let E = g.E.EvalCtxt in
    let ran = c.evaluate_added_goals_and_make_canonical_response-answer in
    let end = c.end_probe-usages in
    let began = c.in_ok-probe.ensures in
    alike-probe E.fixed E.probes E.judge E.state c.args.ecx.now c.begin_probe.new.self ran.new.self end.new.self
    began.fixed began.ok.1 ran.ensures.kept.fixed_same ran.ensures.kept.probes_same end.ensures.closed

pub returns-in_err-probe-clause-cause : goal.returns-in_err-probe-clause-cause
returns-in_err-probe-clause-cause g c =
    let p = err_from_is_err_and c.from_residual.result c.from_residual.ensures.1 in
    rw (p.1, p.2) (accounted-here _ (record { same = c.begin_probe.ensures.fixed; grows = c.begin_probe.ensures.grows }) c.in_err-probe.ensures.cause)

pub returns-in-Err-Stop-clause-cause : goal.returns-in-Err-Stop-clause-cause
returns-in-Err-Stop-clause-cause g c =
    let ran = c.evaluate_added_goals_and_make_canonical_response-answer in
    let end = c.end_probe-usages.ensures in
    accounted-within (record { same = c.begin_probe.ensures.fixed; grows = c.begin_probe.ensures.grows })
    (accounted-here _ (reaches ran.ensures.kept) (at-stop _ c.in-Err-Stop.field-0 c.in-Err-Stop.stop (search rules) (of-error ran.result c.in-Err-Stop.field-0 _ c.in-Err-Stop.is ran.ensures.cause)))
    (record { same = end.fixed; grows = end.grows })
