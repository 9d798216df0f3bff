use Rattle.std.proofs.Common.{◌≡◌, Err, Option, ap, ◌∙◌, subst}
use Rattle.std.proofs.lemmas.Result.{err_from_is_err_and}
use Rattle.candidate_eval.specs.declared.eval.response.CanonicalResponse.{CanonicalResponse}
use Rattle.candidate_eval.specs.declared.eval.response.MergeCandidateInfo.{MergeCandidateInfo}
use Rattle.candidate_eval.specs.Outcomes.Merging.{merged}
use Rattle.candidate_eval.specs.Outcomes.ResponseTrees.{candidates_of, merge_of}
use Rattle.candidate_assembly.proofs.Answers.MergedKinds.{answers-floundered, not-answered}
use Rattle.candidate_assembly.proofs.assembly.merging.merge_or_flounder.Goals as goal

pub returns-in_err-response : goal.returns-in_err-response
returns-in_err-response g c =
    let p = err_from_is_err_and c.from_residual.result c.from_residual.ensures.1 in
    not-answered (λ f. (g.met.E.EvalCtxt.lawful f).alike_judged_alike) c.args.ecx.now _ c.from_residual.result _ (p.1 ∙ ap Err p.2) c.in_err-response.ensures.cause

pub returns-in-None : goal.returns-in-None
returns-in-None g c =
    let ts = (g.E.Build.context c.args.ecx.now).trees in
    let f = c.flounder.ensures in
    let said = subst (λ (o : Option (CanonicalResponse × MergeCandidateInfo)). merge_of ts o ≡ merged (candidates_of ts c.args.candidates.now)) c.in-None.is c.in_ok-response.ensures.is in
    answers-floundered c.args.ecx.now c.flounder.new.ecx c.args.candidates.now c.flounder.result said f.kept f.alike f.fits f.answer f.some f.refused f.cause
