-- What the choice among candidates keeps to.
use Rattle.std.proofs.Common.{◌≡◌, ◌≤◌, ℕ, zero, suc, Bool, true, false, ◌&&◌, Some, List, [], ◌∷◌, arith, length, refl, sym, ◌∙◌, ap, subst}
use Rattle.std.specs.Prelude.{◌||◌, if◌then◌else◌, slice_get}
use Rattle.std.proofs.lemmas.List.{nil_from_length}
use Rattle.std.proofs.lemmas.List.Sums.{length-filter}
use Rattle.ir_trees.specs.Declarations.Context.{Context}
use Rattle.candidate_eval.specs.declared.eval.mode.TypingMode.{TypingMode}
use Rattle.candidate_eval.specs.declared.eval.source.CandidateSource.{CandidateSource}
use Rattle.candidate_eval.specs.declared.eval.source.CandidateSource.TheVariants as Source
use Rattle.candidate_eval.specs.Outcomes.Merging.{is_always_applicable}
use Rattle.candidate_eval.specs.Outcomes.Responses.{Candidate}
use Rattle.candidate_eval.specs.Judges.States.{Judge, State}
use Rattle.candidate_assembly.specs.declared.trait_goals.preference.CandidatePreferenceMode.{CandidatePreferenceMode}
use Rattle.candidate_assembly.specs.declared.assembly.merging.TraitGoalProvenVia.TheVariants as Via
use Rattle.candidate_assembly.specs.Answers.Assembled.{HasOneTrivial, is_of_environment, is_trivial}
use Rattle.candidate_assembly.specs.Answers.Listing.{Lists}
use Rattle.candidate_assembly.specs.Answers.Preference.{EnvironmentWins, TrivialWins, answer_by, assumed, by, class_of, has, is_marker}
use Rattle.candidate_assembly.specs.Answers.Sources.{is_non_global, is_self_bound}
use Rattle.candidate_assembly.proofs.Answers.Preferring.{by-assumed}
use Rattle.candidate_assembly.proofs.Answers.Specializing.{chosen, left-over}

-- None is kept where the tests exclude each other.
has-none : (p q : CandidateSource → Bool) → ((s : CandidateSource) → q s ≡ true → p s ≡ false) → (xs : List Candidate) → has p (by q xs) ≡ false
has-none p q apart [] = refl
has-none p q apart (x ∷ xs) = at (q x.source) refl (has-none p q apart xs)
  where
    at : (b : Bool) → q x.source ≡ b → has p (by q xs) ≡ false → has p (if b then x ∷ by q xs else by q xs) ≡ false
    at true e h = ap (λ b. b || has p (by q xs)) (apart x.source e) ∙ h
    at false e h = h

-- One that passes the narrower test is kept.
has-still : (p q : CandidateSource → Bool) → ((s : CandidateSource) → p s ≡ true → q s ≡ true) → (xs : List Candidate) → has p xs ≡ true → has p (by q xs) ≡ true
has-still p q within [] h = cc
has-still p q within (x ∷ xs) h = at (q x.source) (p x.source) refl refl h (has-still p q within xs)
  where
    at : (b here : Bool) → q x.source ≡ b → p x.source ≡ here → (here || has p xs) ≡ true → (has p xs ≡ true → has p (by q xs) ≡ true) → has p (if b then x ∷ by q xs else by q xs) ≡ true
    at true true e f h more = ap (λ c. c || has p (by q xs)) f
    at true false e f h more = ap (λ c. c || has p (by q xs)) f ∙ more h
    at false true e f h more = let t = within x.source f in cc
    at false false e f h more = more h

by-again : (q : CandidateSource → Bool) (xs : List Candidate) → by q (by q xs) ≡ by q xs
by-again q [] = refl
by-again q (x ∷ xs) = at (q x.source) refl (by-again q xs)
  where
    at : (b : Bool) → q x.source ≡ b → by q (by q xs) ≡ by q xs → by q (if b then x ∷ by q xs else by q xs) ≡ (if b then x ∷ by q xs else by q xs)
    at true e h = chosen (q x.source) _ _ e ∙ ap (λ ys. x ∷ ys) h
    at false e h = h

not-trivial : (s : CandidateSource) → is_of_environment s ≡ true → is_trivial s ≡ false
not-trivial (Source.ParamEnv p) e = refl
not-trivial (Source.Impl n) e = refl
not-trivial (Source.BuiltinImpl b) e = cc
not-trivial (Source.AliasBound b) e = refl
not-trivial Source.CoherenceUnknowable e = refl

not-self : (s : CandidateSource) → is_of_environment s ≡ true → is_self_bound s ≡ false
not-self (Source.ParamEnv p) e = refl
not-self (Source.Impl n) e = refl
not-self (Source.BuiltinImpl b) e = refl
not-self (Source.AliasBound b) e = cc
not-self Source.CoherenceUnknowable e = refl

of-environment : (s : CandidateSource) → is_non_global s ≡ true → is_of_environment s ≡ true
of-environment (Source.ParamEnv p) e = refl
of-environment (Source.Impl n) e = cc
of-environment (Source.BuiltinImpl b) e = cc
of-environment (Source.AliasBound b) e = cc
of-environment Source.CoherenceUnknowable e = cc

and-none : (b : Bool) → (b && false) ≡ false
and-none true = refl
and-none false = refl

by-environment : (m : CandidatePreferenceMode) (xs : List Candidate) → has is_trivial xs ≡ false → (is_marker m && has is_self_bound xs) ≡ false → has is_non_global xs ≡ true
    → assumed m xs ≡ Some (class_of (by is_of_environment xs) Via.ParamEnv)
by-environment m xs t s n = left-over _ _ _ t ∙ (left-over _ _ _ s ∙ chosen _ _ _ n)

-- Clauses of the environment win alone.
pub environment-wins : (c : Context) (t : TypingMode) (m : CandidatePreferenceMode) (xs : List Candidate) → EnvironmentWins c t m xs
environment-wins c t m xs outside none no-self local =
    let ys = by is_of_environment xs in
    by-assumed c t m xs _ outside (by-environment m xs none no-self local)
    ∙ sym (by-assumed c t m ys _ outside (by-environment m ys (has-none is_trivial is_of_environment not-trivial xs)
    (ap (λ b. is_marker m && b) (has-none is_self_bound is_of_environment not-self xs) ∙ and-none (is_marker m)) (has-still is_non_global is_of_environment of-environment xs local))
    ∙ ap (λ (zs : List Candidate). class_of zs Via.ParamEnv) (by-again is_of_environment xs))

-- The only candidate that passes a test.
alone : (p : CandidateSource → Bool) (xs : List Candidate) (n : ℕ) (x : Candidate) → slice_get xs n ≡ Some x → p x.source ≡ true → length (by p xs) ≤ 1 → by p xs ≡ x ∷ []
alone p [] n x e t l = absurd cc
alone p (y ∷ ys) zero x e t l =
    let same : y ≡ x = cc in
    at (p y.source) (ap (λ (z : Candidate). p z.source) same ∙ t) same l
  where
    at : (b : Bool) → b ≡ true → y ≡ x → length (if b then y ∷ by p ys else by p ys) ≤ 1 → (if b then y ∷ by p ys else by p ys) ≡ x ∷ []
    at true e s l = ap (λ zs. y ∷ zs) (nil_from_length (by p ys) (omega (arith, l))) ∙ ap (λ (z : Candidate). z ∷ []) s
    at false e s l = cc
alone p (y ∷ ys) (suc n) x e t l = at (p y.source) l (alone p ys n x e t)
  where
    at : (b : Bool) → length (if b then y ∷ by p ys else by p ys) ≤ 1 → (length (by p ys) ≤ 1 → by p ys ≡ x ∷ []) → (if b then y ∷ by p ys else by p ys) ≡ x ∷ []
    at true l more =
        let none = nil_from_length (by p ys) (omega (arith, l)) in
        let one = more (omega (arith, l)) in
        absurd (nothing (sym none ∙ one))
      where
        nothing : {x : Candidate} → [] ≡ x ∷ [] → ⊥
        nothing e = absurd cc
    at false l more = more l

some-there : (p : CandidateSource → Bool) (xs : List Candidate) (n : ℕ) (x : Candidate) → slice_get xs n ≡ Some x → p x.source ≡ true → has p xs ≡ true
some-there p [] n x e t = absurd cc
some-there p (y ∷ ys) zero x e t =
    let same : y ≡ x = cc in
    ap (λ b. b || has p ys) (ap (λ (z : Candidate). p z.source) same ∙ t)
some-there p (y ∷ ys) (suc n) x e t = at (p y.source) (some-there p ys n x e t)
  where
    at : (b : Bool) → has p ys ≡ true → (b || has p ys) ≡ true
    at true h = refl
    at false h = h

-- What one candidate merges to.
of-one : (J : Judge) (S : State) (x : Candidate) → answer_by J S (class_of (x ∷ []) Via.Misc) ≡ Some (x.result, Some Via.Misc)
of-one J S x = at (is_always_applicable x.result) refl
  where
    at : (b : Bool) → is_always_applicable x.result ≡ b → answer_by J S (class_of (x ∷ []) Via.Misc) ≡ Some (x.result, Some Via.Misc)
    at true e = rw e refl
    at false e = rw e refl

-- A trivial candidate is the answer, whatever it is.
pub trivial-wins : (J : Judge) (S : State) (c : Context) (t : TypingMode) (m : CandidatePreferenceMode) (xs : List Candidate) → HasOneTrivial (Lists xs) → TrivialWins J S c t m xs
trivial-wins J S c t m xs one outside n x e y =
    let few : length (by is_trivial xs) ≤ 1 = subst (λ (k : ℕ). k ≤ 1) (sym (length-filter (λ (z : Candidate). is_trivial z.source) xs)) one in
    ap (answer_by J S) (by-assumed c t m xs _ outside (chosen _ _ _ (some-there is_trivial xs n x e y)) ∙ ap (λ (zs : List Candidate). class_of zs Via.Misc) (alone is_trivial xs n x e y few))
    ∙ of-one J S x
