use Rattle.std.proofs.Common.{◌≡◌, Err, Option, List, ap, sym, ◌∙◌, subst, IfSome}
use Rattle.std.proofs.lemmas.Result.{err_from_is_err_and}
use Rattle.candidate_eval.specs.declared.eval.response.Candidate.{Candidate}
use Rattle.candidate_eval.specs.declared.eval.response.CanonicalResponse.{CanonicalResponse}
use Rattle.candidate_eval.specs.declared.eval.response.MergeCandidateInfo.{MergeCandidateInfo}
use Rattle.candidate_eval.specs.Outcomes.Merging.{merged}
use Rattle.candidate_eval.specs.Outcomes.ResponseTrees.{IsResponse, candidates_of, merge_of}
use Rattle.candidate_assembly.proofs.Answers.PreferenceLaws.{environment-wins, trivial-wins}
use Rattle.candidate_assembly.proofs.Answers.Proving.{not-merged, proves-merged, proves-nothing, proves-refused}
use Rattle.candidate_assembly.proofs.trait_goals.preference.merge_trait_candidates.Goals as goal

pub returns-in_err-response-clause-proves : goal.returns-in_err-response-clause-proves
returns-in_err-response-clause-proves g c =
    let p = err_from_is_err_and c.from_residual.result c.from_residual.ensures.1 in
    not-merged (λ f. (g.met.E.EvalCtxt.lawful f).alike_judged_alike) c.args.ecx.now _ c.from_residual.result _ (p.1 ∙ ap Err p.2) c.in_err-response.ensures.cause

pub returns-in_err-flounder-in-None-clause-proves : goal.returns-in_err-flounder-in-None-clause-proves
returns-in_err-flounder-in-None-clause-proves g c =
    let p = err_from_is_err_and c.from_residual-in_err-flounder-in-None.result c.from_residual-in_err-flounder-in-None.ensures.1 in
    proves-refused c.args.ecx.now c.flounder.new.ecx _ c.keep_preferred-via.new.candidates.items c.keep_preferred-via.result c.from_residual-in_err-flounder-in-None.result c.in_err-flounder-in-None.field-0.0 (p.1 ∙ ap Err p.2)
    c.keep_preferred-via.ensures.class c.flounder.ensures.kept c.flounder.ensures.alike (λ n. sym c.as_slice-in-None.ensures.value ∙ c.in_err-flounder-in-None.ensures.refused n) c.in_err-flounder-in-None.ensures.cause

pub returns-in_ok-flounder-in-None-clause-proves : goal.returns-in_ok-flounder-in-None-clause-proves
returns-in_ok-flounder-in-None-clause-proves g c =
    let ts = (g.E.Build.context c.args.ecx.now).trees in
    let told = c.in_ok-flounder-in-None in
    let said = subst (λ (o : Option (CanonicalResponse × MergeCandidateInfo)). merge_of ts o ≡ merged (candidates_of ts c.as_slice.result.now)) c.in-None.is c.in_ok-response.ensures.is in
    proves-nothing c.args.ecx.now c.flounder.new.ecx _ c.keep_preferred-via.new.candidates.items c.keep_preferred-via.result told.field-0 c.keep_preferred-via.ensures.class
    (said ∙ ap (λ (xs : List Candidate). merged (candidates_of ts xs)) c.as_slice.ensures.value) c.flounder.ensures.kept c.flounder.ensures.alike told.ensures.fits
    (λ none. told.ensures.some (c.as_slice-in-None.ensures.value ∙ none)) told.ensures.answer

pub returns-in-Some-clause-proves : goal.returns-in-Some-clause-proves
returns-in-Some-clause-proves g c =
    let ts = (g.E.Build.context c.args.ecx.now).trees in
    let said = subst (λ (o : Option (CanonicalResponse × MergeCandidateInfo)). merge_of ts o ≡ merged (candidates_of ts c.as_slice.result.now)) c.in-Some.is c.in_ok-response.ensures.is in
    let fits = subst (λ (o : Option (CanonicalResponse × MergeCandidateInfo)). IfSome o (λ m. IsResponse ts m.0)) c.in-Some.is c.in_ok-response.ensures.fits in
    proves-merged (λ f. (g.met.E.EvalCtxt.lawful f).alike_judged_alike) c.args.ecx.now c.ignore_losers.new.ecx _ c.keep_preferred-via.new.candidates.items c.keep_preferred-via.result c.in-Some.response c.in-Some.info
    c.keep_preferred-via.ensures.class c.ignore_losers.ensures.kept c.ignore_losers.ensures.same fits (said ∙ ap (λ (xs : List Candidate). merged (candidates_of ts xs)) c.as_slice.ensures.value)

pub returns-in_err-response-clause-trivial : goal.returns-in_err-response-clause-trivial
returns-in_err-response-clause-trivial g c =
    let E = g.E.EvalCtxt in
    let start = g.E.Build.context c.args.ecx.now in
    trivial-wins (E.judge (E.fixed c.args.ecx.now)) (E.state c.args.ecx.now) start (E.state c.args.ecx.now).mode c.args.mode (candidates_of start.trees c.args.candidates.items) c.requires.trivial

pub returns-in_err-response-clause-environment : goal.returns-in_err-response-clause-environment
returns-in_err-response-clause-environment g c =
    let start = g.E.Build.context c.args.ecx.now in
    environment-wins start (g.E.EvalCtxt.state c.args.ecx.now).mode c.args.mode (candidates_of start.trees c.args.candidates.items)

pub returns-in_err-flounder-in-None-clause-trivial : goal.returns-in_err-flounder-in-None-clause-trivial
returns-in_err-flounder-in-None-clause-trivial g c =
    let E = g.E.EvalCtxt in
    let start = g.E.Build.context c.args.ecx.now in
    trivial-wins (E.judge (E.fixed c.args.ecx.now)) (E.state c.args.ecx.now) start (E.state c.args.ecx.now).mode c.args.mode (candidates_of start.trees c.args.candidates.items) c.requires.trivial

pub returns-in_err-flounder-in-None-clause-environment : goal.returns-in_err-flounder-in-None-clause-environment
returns-in_err-flounder-in-None-clause-environment g c =
    let start = g.E.Build.context c.args.ecx.now in
    environment-wins start (g.E.EvalCtxt.state c.args.ecx.now).mode c.args.mode (candidates_of start.trees c.args.candidates.items)

pub returns-in_ok-flounder-in-None-clause-trivial : goal.returns-in_ok-flounder-in-None-clause-trivial
returns-in_ok-flounder-in-None-clause-trivial g c =
    let E = g.E.EvalCtxt in
    let start = g.E.Build.context c.args.ecx.now in
    trivial-wins (E.judge (E.fixed c.args.ecx.now)) (E.state c.args.ecx.now) start (E.state c.args.ecx.now).mode c.args.mode (candidates_of start.trees c.args.candidates.items) c.requires.trivial

pub returns-in_ok-flounder-in-None-clause-environment : goal.returns-in_ok-flounder-in-None-clause-environment
returns-in_ok-flounder-in-None-clause-environment g c =
    let start = g.E.Build.context c.args.ecx.now in
    environment-wins start (g.E.EvalCtxt.state c.args.ecx.now).mode c.args.mode (candidates_of start.trees c.args.candidates.items)

pub returns-in-Some-clause-trivial : goal.returns-in-Some-clause-trivial
returns-in-Some-clause-trivial g c =
    let E = g.E.EvalCtxt in
    let start = g.E.Build.context c.args.ecx.now in
    trivial-wins (E.judge (E.fixed c.args.ecx.now)) (E.state c.args.ecx.now) start (E.state c.args.ecx.now).mode c.args.mode (candidates_of start.trees c.args.candidates.items) c.requires.trivial

pub returns-in-Some-clause-environment : goal.returns-in-Some-clause-environment
returns-in-Some-clause-environment g c =
    let start = g.E.Build.context c.args.ecx.now in
    environment-wins start (g.E.EvalCtxt.state c.args.ecx.now).mode c.args.mode (candidates_of start.trees c.args.candidates.items)
