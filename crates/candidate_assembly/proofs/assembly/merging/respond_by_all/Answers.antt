use Rattle.std.proofs.Common.{◌≡◌, List, ap, sym, subst, ◌∙◌}
use Rattle.candidate_eval.specs.declared.eval.response.Candidate.{Candidate as OfNumbers}
use Rattle.candidate_eval.specs.Outcomes.ResponseTrees.{AreCandidates, candidates_of}
use Rattle.candidate_eval.specs.Outcomes.Responses.{Candidate}
use Rattle.candidate_assembly.specs.declared.assembly.specialization.AllowInferenceConstraints.TheVariants as Allow
use Rattle.candidate_assembly.specs.Answers.MergedKinds.{Answers, come_to, only_where_bounds}
use Rattle.candidate_assembly.specs.Answers.Specialization.{unspecialized}
use Rattle.candidate_assembly.proofs.assembly.merging.respond_by_all.Goals as goal

pub filter_specialized_impls-requires : goal.filter_specialized_impls-requires
filter_specialized_impls-requires g c = c.prefer_where_bounds.ensures.fit (g.E.Build.context c.args.ecx.now).trees c.requires

pub merge_or_flounder-requires : goal.merge_or_flounder-requires
merge_or_flounder-requires g c = subst (AreCandidates (g.E.Build.context c.args.ecx.now).trees) (sym c.as_slice.ensures.value) c.filter_specialized_impls.ensures.fit

pub returns : goal.returns
returns g c =
    let E = g.E.EvalCtxt in
    let first = c.args.ecx.now in
    let context = g.E.Build.context first in
    let are : candidates_of context.trees c.as_slice.result.now ≡ unspecialized context (E.state first).mode Allow.Yes (only_where_bounds (candidates_of context.trees c.args.candidates.items))
    = ap (λ (xs : List OfNumbers). candidates_of context.trees xs) c.as_slice.ensures.value ∙ (c.filter_specialized_impls.ensures.list
    ∙ ap (λ (xs : List Candidate). unspecialized context (E.state first).mode Allow.Yes xs) (c.prefer_where_bounds.ensures.list context.trees)) in
    subst (λ (xs : List Candidate). Answers E.fixed E.judge E.state E.probes g.E.Build.context E.stops first c.merge_or_flounder.new.ecx (come_to (E.judge (E.fixed first)) (E.state first) xs) c.merge_or_flounder.result) are c.merge_or_flounder.ensures
