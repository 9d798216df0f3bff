use Rattle.candidate_assembly.proofs.Calls.Causes.{asked-here, so-err}
use Rattle.candidate_assembly.proofs.Calls.Stepping.{evaluator-own}
use Rattle.candidate_assembly.proofs.assembly.opaques.opaques_behind.Goals as goal

pub returns-in-Analysis-clause-own : goal.returns-in-Analysis-clause-own
returns-in-Analysis-clause-own g c =
    let asked = c.opaques_with_sub_unified_hidden_type in
    so-err asked.result (λ s x. evaluator-own s (g.met.E.EvalCtxt.stops_itself _ _ _ s x)) asked.ensures.cause

pub returns-in-Analysis-clause-cause : goal.returns-in-Analysis-clause-cause
returns-in-Analysis-clause-cause g c =
    let asked = c.opaques_with_sub_unified_hidden_type in
    so-err asked.result (λ s x. asked-here _ asked.ensures.kept x) asked.ensures.cause
