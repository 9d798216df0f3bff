use Rattle.std.proofs.Common.{rules, ◌≡◌, Option, List, Result, refl, ap, sym, subst, ◌∙◌}
use Rattle.std.specs.Fn.{FnOnceReturnsAtMut}
use Rattle.candidate_eval.specs.declared.eval.refusal.NoSolutionOrStop.{NoSolutionOrStop}
use Rattle.candidate_eval.specs.declared.eval.response.Candidate.{Candidate as OfNumbers}
use Rattle.candidate_eval.specs.declared.eval.response.CanonicalResponse.{CanonicalResponse}
use Rattle.candidate_eval.specs.Outcomes.ResponseTrees.{AreCandidates, candidates_of}
use Rattle.candidate_eval.specs.Outcomes.Responses.{Candidate}
use Rattle.candidate_assembly.specs.Answers.MergedKinds.{Answers, come_to, only_where_bounds}
use Rattle.candidate_assembly.specs.Answers.MergedKinds.AfterAssumptions.{is_rigid, is_ambiguous, are_merged}
use Rattle.candidate_assembly.proofs.Lists.Listing.{candidates-kept}
use Rattle.candidate_assembly.proofs.Answers.MergedKinds.{any-kept, any-then, keeps-same, none-there, some-there}
use Rattle.candidate_assembly.proofs.Opaques.OpaqueAnswers.{empty-is, not-empty}
use Rattle.candidate_assembly.proofs.assembly.merging.respond_by_assumptions.Goals as goal

pub returns-then-is_empty-clause-kept : goal.returns-then-is_empty-clause-kept
returns-then-is_empty-clause-kept g c =
    let E = g.E.EvalCtxt in
    let run = c.inject_normalize_to_rigid_candidate in
    let is : FnOnceReturnsAtMut g.F.FnOnce c.args.inject_normalize_to_rigid_candidate c.args.ecx.now run.result run.new.arg2 = search rules in
    c.requires.rigid.keeps c.args.ecx.now run.result run.new.arg2 (any-kept (keeps-same E.fixed E.probes g.E.Build.context c.args.ecx.now)) refl is

pub returns-then-is_empty-clause-after : goal.returns-then-is_empty-clause-after
returns-then-is_empty-clause-after g c =
    let run = c.inject_normalize_to_rigid_candidate in
    let is : FnOnceReturnsAtMut g.F.FnOnce c.args.inject_normalize_to_rigid_candidate c.args.ecx.now run.result run.new.arg2 = search rules in
    is_rigid (none-there _ c.args.candidates.items (sym c.as_slice.ensures.value ∙ empty-is c.as_slice.result.now (sym c.is_empty.ensures ∙ c.if-is_empty.true))) is

pub returns-in-Some-clause-kept : goal.returns-in-Some-clause-kept
returns-in-Some-clause-kept g c =
    let E = g.E.EvalCtxt in
    let run = c.inject_forced_ambiguity_candidate in
    let is : FnOnceReturnsAtMut g.A.FnOnce c.args.inject_forced_ambiguity_candidate c.args.ecx.now run.result run.new.arg2 = search rules in
    c.requires.ambiguity.keeps c.args.ecx.now run.result run.new.arg2 (any-kept (keeps-same E.fixed E.probes g.E.Build.context c.args.ecx.now)) refl is

pub returns-in-Some-clause-after : goal.returns-in-Some-clause-after
returns-in-Some-clause-after g c =
    let run = c.inject_forced_ambiguity_candidate in
    let is : FnOnceReturnsAtMut g.A.FnOnce c.args.inject_forced_ambiguity_candidate c.args.ecx.now run.result run.new.arg2 = search rules in
    is_ambiguous (some-there _ c.args.candidates.items (λ n. not-empty c.as_slice.result.now (sym c.is_empty.ensures ∙ c.if-is_empty.false) (c.as_slice.ensures.value ∙ n)))
    (subst (λ (o : Option (Result CanonicalResponse NoSolutionOrStop)). FnOnceReturnsAtMut g.A.FnOnce c.args.inject_forced_ambiguity_candidate c.args.ecx.now o run.new.arg2) c.in-Some.is is)

pub merge_or_flounder-requires : goal.merge_or_flounder-requires
merge_or_flounder-requires g c =
    let E = g.E.EvalCtxt in
    let run = c.inject_forced_ambiguity_candidate in
    let is : FnOnceReturnsAtMut g.A.FnOnce c.args.inject_forced_ambiguity_candidate c.args.ecx.now run.result run.new.arg2 = search rules in
    let kept = c.requires.ambiguity.keeps c.args.ecx.now run.result run.new.arg2 (any-kept (keeps-same E.fixed E.probes g.E.Build.context c.args.ecx.now)) refl is in
    let old = g.E.Build.context c.args.ecx.now in
    let mid = g.E.Build.context run.new.arg2 in
    subst (AreCandidates mid.trees) (sym c.as_slice-2.ensures.value)
    (c.prefer_where_bounds.ensures.fit mid.trees (candidates-kept old mid c.args.candidates.items kept.grows c.requires.fit).0)

pub returns-clause-kept : goal.returns-clause-kept
returns-clause-kept g c =
    let E = g.E.EvalCtxt in
    let run = c.inject_forced_ambiguity_candidate in
    let is : FnOnceReturnsAtMut g.A.FnOnce c.args.inject_forced_ambiguity_candidate c.args.ecx.now run.result run.new.arg2 = search rules in
    any-then (c.requires.ambiguity.keeps c.args.ecx.now run.result run.new.arg2 (any-kept (keeps-same E.fixed E.probes g.E.Build.context c.args.ecx.now)) refl is) c.merge_or_flounder.ensures.kept

pub returns-clause-after : goal.returns-clause-after
returns-clause-after g c =
    let E = g.E.EvalCtxt in
    let run = c.inject_forced_ambiguity_candidate in
    let is : FnOnceReturnsAtMut g.A.FnOnce c.args.inject_forced_ambiguity_candidate c.args.ecx.now run.result run.new.arg2 = search rules in
    let kept = c.requires.ambiguity.keeps c.args.ecx.now run.result run.new.arg2 (any-kept (keeps-same E.fixed E.probes g.E.Build.context c.args.ecx.now)) refl is in
    let first = c.args.ecx.now in
    let late = run.new.arg2 in
    let old = g.E.Build.context first in
    let mid = g.E.Build.context late in
    let items = c.args.candidates.items in
    let are : candidates_of mid.trees c.as_slice-2.result.now ≡ only_where_bounds (candidates_of old.trees items)
    = ap (λ (xs : List OfNumbers). candidates_of mid.trees xs) c.as_slice-2.ensures.value ∙ (c.prefer_where_bounds.ensures.list mid.trees
    ∙ ap (λ (xs : List Candidate). only_where_bounds xs) (candidates-kept old mid items kept.grows c.requires.fit).1) in
    are_merged {x = late} (some-there old.trees items (λ n. not-empty c.as_slice.result.now (sym c.is_empty.ensures ∙ c.if-is_empty.false) (c.as_slice.ensures.value ∙ n)))
    (subst (λ (o : Option (Result CanonicalResponse NoSolutionOrStop)). FnOnceReturnsAtMut g.A.FnOnce c.args.inject_forced_ambiguity_candidate first o late) c.in_default.is is)
    (subst (λ (xs : List Candidate). Answers E.fixed E.judge E.state E.probes g.E.Build.context E.stops late c.merge_or_flounder.new.ecx (come_to (E.judge (E.fixed late)) (E.state late) xs) c.merge_or_flounder.result) are c.merge_or_flounder.ensures)
