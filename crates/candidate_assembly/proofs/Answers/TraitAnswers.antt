-- What a goal of a trait comes to, by its list and by what the candidates that win are merged to.
use Rattle.std.proofs.Common.{◌≡◌, ◌&&◌, ◌⊎◌, inl, inr, Option, Some, None, List, [], ◌∷◌, ◌++◌, Result, Err, length, refl, sym, ◌∙◌, ap, subst}
use Rattle.std.specs.Prelude.{◌||◌, option_map, if◌then◌else◌}
use Rattle.std.specs.List.{list_any}
use Rattle.ir_trees.specs.declared.decl.contents.ImplId.{ImplId}
use Rattle.ir_trees.specs.declared.ir.stop.Stop.{Stop}
use Rattle.ir_trees.specs.declared.ir.stop.Stop.TheVariants.{Memory}
use Rattle.ir_trees.specs.Declarations.Context.{Context, Grows}
use Rattle.ir_trees.specs.Syntax.Trees.{none}
use Rattle.candidate_eval.specs.declared.eval.mode.TypingMode.{TypingMode}
use Rattle.candidate_eval.specs.declared.eval.refusal.NoSolutionOrStop.{NoSolutionOrStop}
use Rattle.candidate_eval.specs.declared.eval.refusal.NoSolutionOrStop.TheVariants as N
use Rattle.candidate_eval.specs.declared.eval.response.Candidate.{Candidate as OfNumbers}
use Rattle.candidate_eval.specs.declared.eval.response.CanonicalResponse.{CanonicalResponse}
use Rattle.candidate_eval.specs.declared.eval.source.CandidateSource.{CandidateSource}
use Rattle.candidate_eval.specs.declared.eval.source.CandidateSource.TheVariants as Source
use Rattle.candidate_eval.specs.Interface.Accounts.{Account, IsAccounted, Question, StopsSomehow}
use Rattle.candidate_eval.specs.Interface.Accounts.StopsSomehow.{asking}
use Rattle.candidate_eval.specs.Judges.Alike.{JudgesAlike}
use Rattle.candidate_eval.specs.Outcomes.Certainties.{AMBIGUOUS}
use Rattle.candidate_eval.specs.Interface.Evaluators.{IsEvaluatorStop, KeepsBut}
use Rattle.candidate_eval.specs.Derivations.ImplRules.{TraitGoal}
use Rattle.candidate_eval.specs.Derivations.Judging.{Judged, Gives, Refused, Stopped, answered, start}
use Rattle.candidate_eval.specs.Interface.Knowing.{is_evaluator_stop}
use Rattle.candidate_eval.specs.Outcomes.Merging.{Merge, merged}
use Rattle.candidate_eval.specs.Outcomes.ResponseTrees.{response_of}
use Rattle.candidate_eval.specs.Outcomes.Responses.{Candidate, Response}
use Rattle.candidate_eval.specs.Derivations.Rules.{ask}
use Rattle.candidate_eval.specs.Judges.States.{Judge, State, with_pending}
use Rattle.candidate_eval.proofs.Interface.Accounts.{memory-somehow, reaches}
use Rattle.candidate_eval.proofs.Interface.Probing.{then-keeps}
use Rattle.candidate_assembly.specs.declared.assembly.opaques.AssembleCandidatesFrom.{AssembleCandidatesFrom}
use Rattle.candidate_assembly.specs.declared.assembly.opaques.AssembleCandidatesFrom.TheVariants.{All}
use Rattle.candidate_assembly.specs.declared.assembly.specialization.AllowInferenceConstraints.{AllowInferenceConstraints}
use Rattle.candidate_assembly.specs.declared.assembly.specialization.AllowInferenceConstraints.TheVariants as Allow
use Rattle.candidate_assembly.specs.declared.trait_goals.preference.CandidatePreferenceMode.{CandidatePreferenceMode}
use Rattle.candidate_assembly.specs.declared.assembly.merging.TraitGoalProvenVia.{TraitGoalProvenVia}
use Rattle.candidate_assembly.specs.declared.assembly.merging.TraitGoalProvenVia.TheVariants as Via
use Rattle.candidate_assembly.specs.Answers.Assembled.{IsAssembled, is_coherence}
use Rattle.candidate_assembly.specs.Answers.Assembled.IsAssembled.{refused as none_normal, normal as has_normal}
use Rattle.candidate_assembly.specs.Answers.AssembledCalls.{Assembles, IsAssembledAt, IsLeftAlike, NormalChainEnds}
use Rattle.candidate_assembly.specs.Rules.AliasFaults.{PutsOffOnce}
use Rattle.candidate_assembly.specs.Answers.AssembledCalls.IsLeftAlike.{before, normal}
use Rattle.candidate_assembly.specs.Goals.KindBounds.{KindBounds}
use Rattle.candidate_assembly.specs.Goals.Kinds.{KindRules, self_type}
use Rattle.candidate_assembly.specs.Answers.Listing.{Listed, Lists, Stops}
use Rattle.candidate_assembly.specs.Answers.Preference.{Class, Proves, answer_by, assumed, class_of, least_global, mode_of, or_class, prefer_objects, preferred, proved, unmerged}
use Rattle.candidate_assembly.specs.Answers.Specialization.{drives_out, is_driven_out, is_eligible, is_special_case, scanned, specializes}
use Rattle.candidate_assembly.specs.Answers.TraitAnswers.{Answered, Computes, IsTraitAnswer, Refused as Rejected, TraitAnswer, answer_of, or_refused}
use Rattle.candidate_assembly.specs.Goals.TraitRules.{trait_bounds, trait_rules}
use Rattle.candidate_assembly.proofs.Aliases.AliasChains.{alike-then}
use Rattle.candidate_assembly.proofs.Calls.Causes.{caused, later, so-err, so-ok, somehow-here}
use Rattle.candidate_assembly.proofs.Calls.Considering.{not-both}
use Rattle.candidate_assembly.proofs.Calls.Stepping.{somehow-own}

-- At states that are alike candidates come to the same.

abbrev response-given : Judged → Option Response
response-given (Gives c) = Some c.result
response-given Refused = None
response-given (Stopped s) = None

given-answered : (s : CandidateSource) (o : Option Response) → response-given (answered s o) ≡ o
given-answered s None = refl
given-answered s (Some r) = refl

same-answered : (s : CandidateSource) (o p : Option Response) → answered s o ≡ answered s p → o ≡ p
same-answered s o p e = sym (given-answered s o) ∙ (ap response-given e ∙ given-answered s p)

module _ (J : Judge) (law : JudgesAlike J) (S T : State) (alike : J.alike S T) where
  ambiguous-alike : J.responded (with_pending T []) AMBIGUOUS ≡ J.responded (with_pending S []) AMBIGUOUS
  ambiguous-alike =
      same-answered Source.CoherenceUnknowable (J.responded (with_pending T []) AMBIGUOUS) (J.responded (with_pending S []) AMBIGUOUS)
      (law.same_answers (length S.variables) (start (with_pending S [])) (start (with_pending T [])) none [] (ask Source.CoherenceUnknowable AMBIGUOUS)
      (law.alike_places (with_pending S []) (with_pending T []) none (law.alike_aside S T alike) refl) refl tt tt)

  unmerged-alike : (xs : List Candidate) → unmerged J T xs ≡ unmerged J S xs
  unmerged-alike [] = refl
  unmerged-alike (x ∷ xs) = ap (option_map (λ (r : Response). (r, None))) ambiguous-alike

  proved-alike : (k : Class) (m : Option Merge) → proved J T k m ≡ proved J S k m
  proved-alike k None = unmerged-alike k.candidates
  proved-alike k (Some m) = refl

  pub answer-alike : (k : Class) → answer_by J T k ≡ answer_by J S k
  answer-alike k = proved-alike k (merged k.candidates)

-- Which candidates win is the same in a context that has grown.
module _ (old new : Context) (grows : Grows old new) where
  module _ (a : AllowInferenceConstraints) where
    special-kept : (n : ImplId) (s : CandidateSource) → is_special_case new n s ≡ is_special_case old n s
    special-kept n (Source.Impl m) = ap (λ (c : Context). specializes c m n) grows.same
    special-kept n (Source.BuiltinImpl _) = refl
    special-kept n (Source.ParamEnv _) = refl
    special-kept n (Source.AliasBound _) = refl
    special-kept n Source.CoherenceUnknowable = refl

    driving-kept : (n : ImplId) (xs : List Candidate) → list_any (drives_out new a n) xs ≡ list_any (drives_out old a n) xs
    driving-kept n [] = refl
    driving-kept n (x ∷ xs) =
        ap (λ b. (b && is_eligible a x.result) || list_any (drives_out new a n) xs) (special-kept n x.source)
        ∙ ap (λ b. drives_out old a n x || b) (driving-kept n xs)

    driven-kept : (xs : List Candidate) (s : CandidateSource) → is_driven_out new a xs s ≡ is_driven_out old a xs s
    driven-kept xs (Source.Impl n) = driving-kept n xs
    driven-kept xs (Source.BuiltinImpl _) = refl
    driven-kept xs (Source.ParamEnv _) = refl
    driven-kept xs (Source.AliasBound _) = refl
    driven-kept xs Source.CoherenceUnknowable = refl

    scanned-kept : (ys xs : List Candidate) → scanned new a ys xs ≡ scanned old a ys xs
    scanned-kept ys [] = refl
    scanned-kept ys (x ∷ xs) =
        ap (λ b. if b then scanned new a ys xs else scanned new a (ys ++ x ∷ []) xs) (driven-kept (ys ++ xs) x.source)
        ∙ (ap (λ (zs : List Candidate). if is_driven_out old a (ys ++ xs) x.source then zs else scanned new a (ys ++ x ∷ []) xs) (scanned-kept ys xs)
        ∙ ap (λ (zs : List Candidate). if is_driven_out old a (ys ++ xs) x.source then scanned old a ys xs else zs) (scanned-kept (ys ++ x ∷ []) xs))

  pub preferred-kept : (t : TypingMode) (m : CandidatePreferenceMode) (xs : List Candidate) → preferred new t m xs ≡ preferred old t m xs
  preferred-kept t m xs =
      ap (λ (zs : List Candidate). if is_coherence t then class_of xs Via.Misc else or_class (assumed m xs) (least_global (prefer_objects t (if is_coherence t then xs else zs))))
      (scanned-kept Allow.No [] xs)

-- What the candidates come to is what they did at the state that normalising left, in the context of before.
answer-before : {X : Type 0} (judge : X → Judge) → ((f : X) → JudgesAlike (judge f)) → (f h : X) (old new : Context) (S T : State) (m n : CandidatePreferenceMode) (xs : List Candidate) → h ≡ f → Grows old new → (judge f).alike S T → m ≡ n
    → answer_by (judge h) T (preferred new T.mode m xs) ≡ answer_by (judge f) S (preferred old S.mode n xs)
answer-before judge law f h old new S T m n xs fixed grows alike same =
    ap (λ x. answer_by (judge x) T (preferred new T.mode m xs)) fixed
    ∙ (ap (answer_by (judge f) T) (preferred-kept old new grows T.mode m xs)
    ∙ (ap (λ (t : TypingMode). answer_by (judge f) T (preferred old t m xs)) ((law f).alike_looks S T alike).mode
    ∙ (ap (λ (k : CandidatePreferenceMode). answer_by (judge f) T (preferred old S.mode k xs)) same
    ∙ answer-alike (judge f) (law f) S T alike (preferred old S.mode n xs))))

-- The state that a list leaves.
pub left-alike : {G : Type 0} {K : KindRules G} {B : KindBounds G} {c : Context} {J : Judge} {S T : State} {g : G} {from : AssembleCandidatesFrom} {l : Listed} → (U : State)
    → IsAssembled K B c J S g from l T → J.alike T U → IsLeftAlike J S (K.env_of g) (self_type K c g) U
left-alike U (none_normal e) a = before a
left-alike U (has_normal e f) a = normal e a

-- A growth was refused, or the evaluator stopped.
as-somehow : {E X : Type 0} {fixed : E → X} {context : E → Context} {state : E → State} {stops : Account E} {a l : E} {s : Stop} → (s ≡ Memory) ⊎ IsAccounted fixed context state stops a l s
    → StopsSomehow fixed context state stops a l s
as-somehow (inl e) = memory-somehow e
as-somehow (inr a) = asking a

module _ {E X : Type 0} {fixed : E → X} {judge : X → Judge} {state : E → State} {probes : E → List State} {context : E → Context} {stops : Account E} where
  -- The list stopped.
  pub computes-stopped : {A : Type 0} {items : A → List OfNumbers} (old new : E) (g : TraitGoal) (s : Stop) (r : Result (CanonicalResponse × Option TraitGoalProvenVia) NoSolutionOrStop) → r ≡ Err (N.Stop s)
      → Assembles {A = A} fixed judge state probes context stops trait_rules trait_bounds old new g All items (Err s) → Computes fixed judge state probes context stops old new g r
  computes-stopped old new g s r is h = subst (λ (x : Result (CanonicalResponse × Option TraitGoalProvenVia) NoSolutionOrStop). Computes fixed judge state probes context stops old new g x) (sym is) (record {
    kept = h.kept;
    fits = tt;
    ok = tt;
    refused = λ n. absurd cc;
    stopped = λ own. record { listed = Stops s; list = h.told.stopped own; answer = refl };
    left = h.stopped;
    cause = h.cause;
  })

  module _ (itself : (x : E) (S : State) (q : Question) (s : Stop) → stops x S q s → IsEvaluatorStop s) (law : (f : X) → JudgesAlike (judge f)) where
    -- The list was answered, and its candidates were merged.
    pub computes-merged : (old mid new : E) (g : TraitGoal) (xs : List Candidate) (m : CandidatePreferenceMode) (r : Result (CanonicalResponse × Option TraitGoalProvenVia) NoSolutionOrStop)
        → KeepsBut (PutsOffOnce (NormalChainEnds trait_rules trait_bounds (context old) (judge (fixed old)) (state old) g)) fixed probes context old mid
        → IsAssembledAt trait_rules trait_bounds (context old) (judge (fixed old)) (state old) g All (state mid) (Lists xs) → m ≡ mode_of (context mid) g.reference.trait
        → Proves fixed judge state probes context stops mid new (answer_by (judge (fixed mid)) (state mid) (preferred (context mid) (state mid).mode m xs)) r
        → Computes fixed judge state probes context stops old new g r
    computes-merged old mid new g xs m r kept list mode h = record {
      kept = then-keeps fixed probes context old mid new (λ us vs e. e) kept h.kept;
      fits = h.fits;
      ok = so-ok r (λ a e. answered-by (Answered (response_of (context new).trees a.0, a.1)) (ap or_refused (sym e ∙ same))) h.ok;
      refused = so-err r (λ e f n. answered-by Rejected (ap or_refused (sym (f n) ∙ same))) h.refused;
      stopped = caused r (λ s why own. absurd (not-both (is_evaluator_stop s) (somehow-own itself s (as-somehow why)) own)) h.cause;
      left = left-alike (state new) list.assembled like;
      cause = caused r (λ s why. later (reaches kept) (somehow-here (as-somehow why))) h.cause;
    }
      where
        like : (judge (fixed old)).alike list.left (state new)
        like = alike-then judge law (fixed old) (fixed mid) list.left (state mid) (state new) kept.fixed_same list.alike h.alike

        same : answer_by (judge (fixed mid)) (state mid) (preferred (context mid) (state mid).mode m xs) ≡ answer_by (judge (fixed old)) list.left (preferred (context old) list.left.mode (mode_of (context old) g.reference.trait) xs)
        same = answer-before judge law (fixed old) (fixed mid) (context old) (context mid) list.left (state mid) m (mode_of (context old) g.reference.trait) xs kept.fixed_same kept.grows list.alike (mode ∙ ap (λ (c : Context). mode_of c g.reference.trait) kept.grows.same)

        answered-by : (a : TraitAnswer) → a ≡ answer_of (judge (fixed old)) (context old) list.left g.reference.trait (Lists xs) → IsTraitAnswer (judge (fixed old)) (context old) (state old) g (state new) a
        answered-by a e = record { listed = Lists xs; list = record { left = list.left; assembled = list.assembled; alike = like }; answer = e }
