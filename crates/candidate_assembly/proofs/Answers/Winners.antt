-- Candidates that win are of the list, and so is the response that they are merged to.
use Rattle.std.proofs.Common.{◌≡◌, ℕ, Bool, true, false, not, ◌&&◌, Option, Some, None, List, [], ◌∷◌, ◌++◌, refl, sym, ◌∙◌, ap, subst}
use Rattle.std.specs.Prelude.{All, option_map, slice_get, if◌then◌else◌}
use Rattle.std.specs.List.{Contains}
use Rattle.std.specs.Option.{unwrap_or}
use Rattle.std.proofs.lemmas.List.Elements.{All-append, All-cons, All-contains, All-contains_itself, All-filter, All-head, All-nil, All-tail, Contains-get_or}
use Rattle.std.proofs.lemmas.Option.{slice_get_within, unwrap_or-slice_get}
use Rattle.ir_trees.specs.Declarations.Context.{Context}
use Rattle.candidate_eval.specs.declared.eval.certainty.Certainty.TheVariants.{Yes}
use Rattle.candidate_eval.specs.declared.eval.mode.TypingMode.{TypingMode}
use Rattle.candidate_eval.specs.declared.eval.response.MergeCandidateInfo.{MergeCandidateInfo}
use Rattle.candidate_eval.specs.declared.eval.response.MergeCandidateInfo.TheVariants.{AlwaysApplicable, EqualResponse}
use Rattle.candidate_eval.specs.declared.eval.source.CandidateSource.{CandidateSource}
use Rattle.candidate_eval.specs.Outcomes.Certainties.{AMBIGUOUS}
use Rattle.candidate_eval.specs.Derivations.ImplRules.{TraitGoal}
use Rattle.candidate_eval.specs.Judges.Lawful.{Lawful}
use Rattle.candidate_eval.specs.Outcomes.Merging.{Merge, all_answer, chosen, first_applicable, merge_to, merged}
use Rattle.candidate_eval.specs.Outcomes.Responses.{Candidate, Response}
use Rattle.candidate_eval.specs.Judges.States.{Judge, State, with_pending}
use Rattle.candidate_eval.proofs.Outcomes.Responding.{as-asked}
use Rattle.candidate_assembly.specs.declared.assembly.specialization.AllowInferenceConstraints.{AllowInferenceConstraints}
use Rattle.candidate_assembly.specs.declared.assembly.specialization.AllowInferenceConstraints.TheVariants as Allow
use Rattle.candidate_assembly.specs.declared.trait_goals.preference.CandidatePreferenceMode.{CandidatePreferenceMode}
use Rattle.candidate_assembly.specs.declared.assembly.merging.TraitGoalProvenVia.{TraitGoalProvenVia}
use Rattle.candidate_assembly.specs.declared.assembly.merging.TraitGoalProvenVia.TheVariants as Via
use Rattle.candidate_assembly.specs.Answers.Assembled.{is_coherence, is_of_environment, is_trivial}
use Rattle.candidate_assembly.specs.Answers.Listing.{Listed, Lists, Stops}
use Rattle.candidate_assembly.specs.Answers.Preference.{Class, Proved, answer_by, assumed, by, class_of, has, has_only, is_marker, least_global, mode_of, not_by, object_wins, or_class, prefer_objects, preferred, proved, unmerged}
use Rattle.candidate_assembly.specs.Answers.Sources.{is_alias_bound, is_global, is_impl, is_non_global, is_self_bound}
use Rattle.candidate_assembly.specs.Answers.Specialization.{is_driven_out, scanned, unspecialized}
use Rattle.candidate_assembly.specs.Answers.TraitAnswers.{Answered, IsOfOne, IsTraitAnswer, ListsOne, answer_of, or_refused}

-- What holds of all candidates holds of those that win.
module _ (P : Candidate → Type 0) where
  pub either : (b : Bool) (xs ys : List Candidate) → All P xs → All P ys → All P (if b then xs else ys)
  either true xs ys h k = h
  either false xs ys h k = k

  either-class : (b : Bool) (k l : Class) → All P k.candidates → All P l.candidates → All P (if b then k else l).candidates
  either-class true k l g h = g
  either-class false k l g h = h

  if-row : (b : Bool) (l : Class) (o : Option Class) (k : Class) → All P l.candidates → All P (or_class o k).candidates → All P (or_class (if b then Some l else o) k).candidates
  if-row true l o k g h = g
  if-row false l o k g h = h

  pub by-all : (p : CandidateSource → Bool) (xs : List Candidate) → All P xs → All P (by p xs)
  by-all p xs h = All-filter (λ (x : Candidate). p x.source) P xs h

  pub scanned-all : (c : Context) (a : AllowInferenceConstraints) (ys xs : List Candidate) → All P ys → All P xs → All P (scanned c a ys xs)
  scanned-all c a ys [] h k = h
  scanned-all c a ys (x ∷ xs) h k =
      either (is_driven_out c a (ys ++ xs) x.source) (scanned c a ys xs) (scanned c a (ys ++ x ∷ []) xs)
      (scanned-all c a ys xs h (All-tail P x xs k))
      (scanned-all c a (ys ++ x ∷ []) xs (All-append P ys (x ∷ []) h (All-cons P x [] (All-head P x xs k) (All-nil P))) (All-tail P x xs k))

  unspecialized-all : (c : Context) (t : TypingMode) (xs : List Candidate) → All P xs → All P (unspecialized c t Allow.No xs)
  unspecialized-all c t xs h = either (is_coherence t) xs (scanned c Allow.No [] xs) h (scanned-all c Allow.No [] xs (All-nil P) h)

  prefer-all : (t : TypingMode) (xs : List Candidate) → All P xs → All P (prefer_objects t xs)
  prefer-all t xs h =
      either (is_coherence t) xs (if object_wins xs then not_by is_impl xs else xs) h
      (either (object_wins xs) (not_by is_impl xs) xs (by-all (λ s. not (is_impl s)) xs h) h)

  least-all : (xs : List Candidate) → All P xs → All P (least_global xs).candidates
  least-all xs h =
      either-class (has_only is_global xs) (class_of xs Via.ParamEnv) (class_of (not_by is_global xs) Via.Misc) h (by-all (λ s. not (is_global s)) xs h)

  assumed-all : (m : CandidatePreferenceMode) (xs : List Candidate) (k : Class) → All P xs → All P k.candidates → All P (or_class (assumed m xs) k).candidates
  assumed-all m xs k h l =
      let bounds = class_of (by is_alias_bound xs) Via.AliasBound in
      let clauses = class_of (by is_of_environment xs) Via.ParamEnv in
      if-row (has is_trivial xs) (class_of (by is_trivial xs) Via.Misc) _ k (by-all is_trivial xs h)
      (if-row (is_marker m && has is_self_bound xs) bounds _ k (by-all is_alias_bound xs h)
      (if-row (has is_non_global xs) clauses _ k (by-all is_of_environment xs h)
      (if-row (has is_alias_bound xs) bounds None k (by-all is_alias_bound xs h) l)))

  pub preferred-all : (c : Context) (t : TypingMode) (m : CandidatePreferenceMode) (xs : List Candidate) → All P xs → All P (preferred c t m xs).candidates
  preferred-all c t m xs h =
      either-class (is_coherence t) (class_of xs Via.Misc) (or_class (assumed m xs) (least_global (prefer_objects t (unspecialized c t Allow.No xs)))) h
      (assumed-all m xs (least_global (prefer_objects t (unspecialized c t Allow.No xs))) h
      (least-all (prefer_objects t (unspecialized c t Allow.No xs)) (prefer-all t (unspecialized c t Allow.No xs) (unspecialized-all c t xs h))))

-- Candidates that merge are merged to the response of one of them.

same-of : {A : Type 0} (x y : A) → Some x ≡ Some y → x ≡ y
same-of x y e = ap (λ o. unwrap_or o x) e

element : (xs : List Candidate) (n : ℕ) (x : Candidate) → slice_get xs n ≡ Some x → Contains xs x
element xs n x e = subst (Contains xs) (sym (unwrap_or-slice_get xs n x) ∙ ap (λ o. unwrap_or o x) e) (Contains-get_or xs n x (slice_get_within xs n x e))

one-of : (xs : List Candidate) (x : Candidate) (info : MergeCandidateInfo) (m : Merge) → Contains xs x → Some (record { response = x.result; info = info }) ≡ Some m → IsOfOne xs m.response
one-of xs x info m there e = record { candidate = x; listed = there; response = ap (λ (y : Merge). y.response) (same-of (record { response = x.result; info = info }) m e) }

chosen-of-one : (xs : List Candidate) (o : Option ℕ) (m : Merge) → chosen xs o ≡ Some m → IsOfOne xs m.response
chosen-of-one [] None m e = absurd cc
chosen-of-one (x ∷ xs) None m e = at (all_answer x.result xs) e
  where
    at : (b : Bool) → (if b then Some (record { response = x.result; info = EqualResponse }) else None) ≡ Some m → IsOfOne (x ∷ xs) m.response
    at true f = one-of (x ∷ xs) x EqualResponse m (element (x ∷ xs) 0 x refl) f
    at false f = absurd cc
chosen-of-one xs (Some n) m e = at (slice_get xs n) refl e
  where
    at : (o : Option Candidate) → slice_get xs n ≡ o → merge_to (AlwaysApplicable n) o ≡ Some m → IsOfOne xs m.response
    at None there f = absurd cc
    at (Some x) there f = one-of xs x (AlwaysApplicable n) m (element xs n x there) f

pub merged-of-one : (xs : List Candidate) (m : Merge) → merged xs ≡ Some m → IsOfOne xs m.response
merged-of-one xs m e = chosen-of-one xs (first_applicable 0 xs) m e

-- One of those that win is one of the list.
won-of-list : (c : Context) (t : TypingMode) (m : CandidatePreferenceMode) (xs : List Candidate) (r : Response) → IsOfOne (preferred c t m xs).candidates r → IsOfOne xs r
won-of-list c t m xs r h = record {
  candidate = h.candidate;
  listed = All-contains (Contains xs) (preferred c t m xs).candidates h.candidate (preferred-all (Contains xs) c t m xs (All-contains_itself xs)) h.listed;
  response = h.response;
}

-- What is answered of how the goal is proved tells whether the candidates have merged.

abbrev AnswersAmbiguous : Judge → State → Response → Type 0
AnswersAmbiguous J S r = J.responded (with_pending S []) AMBIGUOUS ≡ Some r

abbrev ByOneOr : Judge → State → List Candidate → Response → Option TraitGoalProvenVia → Type 0
ByOneOr J S xs r (Some via) = IsOfOne xs r
ByOneOr J S xs r None = AnswersAmbiguous J S r

answered-proved : (o : Option Proved) (p : Proved) → Answered p ≡ or_refused o → o ≡ Some p
answered-proved None p e = absurd cc
answered-proved (Some q) p e = cc

without-via : (o : Option Response) (r : Response) (v : Option TraitGoalProvenVia) → option_map {U = Proved} (λ (s : Response). (s, None)) o ≡ Some (r, v) → (v ≡ None) × (o ≡ Some r)
without-via None r v e = absurd cc
without-via (Some s) r v e = let p = same-of (s, None) (r, v) e in (sym (ap (λ (q : Proved). q.1) p), ap (λ (q : Proved). Some q.0) p)

unmerged-ambiguous : (J : Judge) (S : State) (xs : List Candidate) (r : Response) (v : Option TraitGoalProvenVia) → unmerged J S xs ≡ Some (r, v) → (v ≡ None) × AnswersAmbiguous J S r
unmerged-ambiguous J S [] r v e = absurd cc
unmerged-ambiguous J S (x ∷ xs) r v e = without-via (J.responded (with_pending S []) AMBIGUOUS) r v e

proved-of-one : (J : Judge) (S : State) (k : Class) (o : Option Merge) (r : Response) (v : Option TraitGoalProvenVia) → merged k.candidates ≡ o → proved J S k o ≡ Some (r, v) → ByOneOr J S k.candidates r v
proved-of-one J S k None r v e f = let p = unmerged-ambiguous J S k.candidates r v f in subst (ByOneOr J S k.candidates r) (sym p.0) p.1
proved-of-one J S k (Some m) r v e f =
    let p = same-of (m.response, Some k.via) (r, v) f in
    subst (ByOneOr J S k.candidates r) (ap (λ (q : Proved). q.1) p) (subst (IsOfOne k.candidates) (ap (λ (q : Proved). q.0) p) (merged-of-one k.candidates m e))

answer-of-one : (J : Judge) (c : Context) (S : State) (n : ℕ) (xs : List Candidate) (r : Response) (v : Option TraitGoalProvenVia) → Answered (r, v) ≡ answer_of J c S n (Lists xs)
    → ByOneOr J S (preferred c S.mode (mode_of c n) xs).candidates r v
answer-of-one J c S n xs r v e =
    let k = preferred c S.mode (mode_of c n) xs in
    proved-of-one J S k (merged k.candidates) r v refl (answered-proved (answer_by J S k) (r, v) e)

-- A response that comes with how the goal is proved is that of one candidate of the list.
proven-listed : (J : Judge) (c : Context) (S : State) (n : ℕ) (l : Listed) (r : Response) (via : TraitGoalProvenVia) → Answered (r, Some via) ≡ answer_of J c S n l → ListsOne l r
proven-listed J c S n (Lists xs) r via e = won-of-list c S.mode (mode_of c n) xs r (answer-of-one J c S n xs r (Some via) e)
proven-listed J c S n (Stops s) r via e = absurd cc

pub proven_by_one : (J : Judge) (c : Context) (S : State) (g : TraitGoal) (U : State) (r : Response) (via : TraitGoalProvenVia) → (a : IsTraitAnswer J c S g U (Answered (r, Some via))) → ListsOne a.listed r
proven_by_one J c S g U r via a = proven-listed J c a.list.left g.reference.trait a.listed r via a.answer

-- So is each sure response: where candidates don't merge too little is known.
sure-listed : (J : Judge) → Lawful J → (c : Context) (S : State) (n : ℕ) (l : Listed) (r : Response) (v : Option TraitGoalProvenVia) → r.certainty ≡ Yes → Answered (r, v) ≡ answer_of J c S n l → ListsOne l r
sure-listed J law c S n l r (Some via) sure e = proven-listed J c S n l r via e
sure-listed J law c S n (Lists xs) r None sure e = absurd (apart (sym sure ∙ as-asked J law S AMBIGUOUS r (answer-of-one J c S n xs r None e)))
  where
    apart : Yes ≡ AMBIGUOUS → ⊥
    apart f = absurd cc
sure-listed J law c S n (Stops s) r None sure e = absurd cc

pub yes_by_one : (J : Judge) → Lawful J → (c : Context) (S : State) (g : TraitGoal) (U : State) (r : Response) (v : Option TraitGoalProvenVia) → (a : IsTraitAnswer J c S g U (Answered (r, v))) → r.certainty ≡ Yes → ListsOne a.listed r
yes_by_one J law c S g U r v a sure = sure-listed J law c a.list.left g.reference.trait a.listed r v sure a.answer
