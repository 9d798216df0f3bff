-- Candidates by their sources, as numbers and as trees.
use Rattle.std.proofs.Common.{◌≡◌, Bool, true, false, not, ◌&&◌, Option, Some, None, List, [], ◌∷◌, refl, sym, ◌∙◌, ap, subst}
use Rattle.std.specs.Prelude.{◌||◌, if◌then◌else◌}
use Rattle.std.specs.List.{filter, list_all, list_any}
use Rattle.std.proofs.lemmas.List.Elements.{All-filter}
use Rattle.ir_trees.specs.Declarations.Context.{Context}
use Rattle.ir_trees.specs.Syntax.Trees.{Tree}
use Rattle.candidate_eval.specs.declared.eval.mode.TypingMode.{TypingMode}
use Rattle.candidate_eval.specs.declared.eval.response.Candidate.{Candidate as OfNumbers}
use Rattle.candidate_eval.specs.declared.eval.source.CandidateSource.{CandidateSource}
use Rattle.candidate_eval.specs.Outcomes.ResponseTrees.{AreCandidates, IsResponse, candidate_of, candidates_of}
use Rattle.candidate_eval.specs.Outcomes.Responses.{Candidate}
use Rattle.candidate_assembly.specs.declared.assembly.specialization.AllowInferenceConstraints.TheVariants as Allow
use Rattle.candidate_assembly.specs.declared.trait_goals.preference.CandidatePreferenceMode.{CandidatePreferenceMode}
use Rattle.candidate_assembly.specs.declared.assembly.merging.TraitGoalProvenVia.TheVariants as Via
use Rattle.candidate_assembly.specs.Answers.Assembled.{is_coherence, is_of_environment, is_trivial}
use Rattle.candidate_assembly.specs.Answers.Preference.{Class, assumed, by, class_of, has, has_only, is_marker, least_global, object_wins, or_class, prefer_objects, preferred}
use Rattle.candidate_assembly.specs.Answers.Sources.{is_alias_bound, is_global, is_impl, is_non_global, is_self_bound}
use Rattle.candidate_assembly.specs.Answers.Specialization.{unspecialized}
use Rattle.candidate_assembly.proofs.Answers.Specializing.{chosen, left-over}

module _ (p : CandidateSource → Bool) where
  abbrev pub any-source : List OfNumbers → Bool
  any-source xs = list_any (λ (x : OfNumbers). p x.source) xs

  abbrev pub all-sources : List OfNumbers → Bool
  all-sources xs = list_all (λ (x : OfNumbers). p x.source) xs

  abbrev pub of-source : List OfNumbers → List OfNumbers
  of-source xs = filter (λ (x : OfNumbers). p x.source) xs

  pub has-seen : (ts : List Tree) (xs : List OfNumbers) → has p (candidates_of ts xs) ≡ any-source xs
  has-seen ts [] = refl
  has-seen ts (x ∷ xs) = ap (λ b. p x.source || b) (has-seen ts xs)

  pub only-seen : (ts : List Tree) (xs : List OfNumbers) → has_only p (candidates_of ts xs) ≡ all-sources xs
  only-seen ts [] = refl
  only-seen ts (x ∷ xs) = ap (λ b. p x.source && b) (only-seen ts xs)

  pub by-seen : (ts : List Tree) (xs : List OfNumbers) → by p (candidates_of ts xs) ≡ candidates_of ts (of-source xs)
  by-seen ts [] = refl
  by-seen ts (x ∷ xs) = at (p x.source) (by-seen ts xs)
    where
      at : (b : Bool) → by p (candidates_of ts xs) ≡ candidates_of ts (of-source xs)
          → (if b then candidate_of ts x ∷ by p (candidates_of ts xs) else by p (candidates_of ts xs)) ≡ candidates_of ts (if b then x ∷ of-source xs else of-source xs)
      at true e = ap (λ zs. candidate_of ts x ∷ zs) e
      at false e = e

  pub fit-by : (ts : List Tree) (xs : List OfNumbers) → AreCandidates ts xs → AreCandidates ts (of-source xs)
  fit-by ts xs fit = All-filter (λ (x : OfNumbers). p x.source) (λ (x : OfNumbers). IsResponse ts x.result) xs fit

  -- what was found in the list as it was read
  pub read-any : (ts : List Tree) (xs ys : List OfNumbers) (a b : Bool) → ys ≡ xs → a ≡ any-source ys → a ≡ b → has p (candidates_of ts xs) ≡ b
  read-any ts xs ys a b is says e = has-seen ts xs ∙ (ap any-source (sym is) ∙ (sym says ∙ e))

  pub read-all : (ts : List Tree) (xs ys : List OfNumbers) (a b : Bool) → ys ≡ xs → a ≡ all-sources ys → a ≡ b → has_only p (candidates_of ts xs) ≡ b
  read-all ts xs ys a b is says e = only-seen ts xs ∙ (ap all-sources (sym is) ∙ (sym says ∙ e))

  pub read-by : (ts : List Tree) (old new : List OfNumbers) → new ≡ of-source old → by p (candidates_of ts old) ≡ candidates_of ts new
  read-by ts old new e = by-seen ts old ∙ ap (candidates_of ts) (sym e)

  pub fit-kept : (ts : List Tree) (old new : List OfNumbers) → new ≡ of-source old → AreCandidates ts old → AreCandidates ts new
  fit-kept ts old new e fit = subst (AreCandidates ts) (sym e) (fit-by ts old fit)

-- The rows of the candidates that win whatever impls there are.

abbrev pub self-bounds-win : CandidatePreferenceMode → List OfNumbers → Bool
self-bounds-win m xs = is_marker m && any-source is_self_bound xs

module _ (m : CandidatePreferenceMode) (old list : List OfNumbers) (is : list ≡ old) (trivial : Bool) (says : trivial ≡ any-source is_trivial list) where
  pub trivial-row : (new : List OfNumbers) → trivial ≡ true → new ≡ of-source is_trivial old → (ts : List Tree) → assumed m (candidates_of ts old) ≡ Some (class_of (candidates_of ts new) Via.Misc)
  trivial-row new e k ts =
      chosen _ _ _ (read-any is_trivial ts old list trivial true is says e)
      ∙ ap (λ (xs : List Candidate). Some (class_of xs Via.Misc)) (read-by is_trivial ts old new k)

  module _ (none : trivial ≡ false) (self : Bool) (self-says : self ≡ self-bounds-win m list) where
    read-self : (ts : List Tree) (b : Bool) → self ≡ b → (is_marker m && has is_self_bound (candidates_of ts old)) ≡ b
    read-self ts b e = ap (λ c. is_marker m && c) (has-seen is_self_bound ts old) ∙ (ap (self-bounds-win m) (sym is) ∙ (sym self-says ∙ e))

    pub self-row : (new : List OfNumbers) → self ≡ true → new ≡ of-source is_alias_bound old → (ts : List Tree) → assumed m (candidates_of ts old) ≡ Some (class_of (candidates_of ts new) Via.AliasBound)
    self-row new e k ts =
        left-over _ _ _ (read-any is_trivial ts old list trivial false is says none)
        ∙ (chosen _ _ _ (read-self ts true e)
        ∙ ap (λ (xs : List Candidate). Some (class_of xs Via.AliasBound)) (read-by is_alias_bound ts old new k))

    module _ (no-self : self ≡ false) (local : Bool) (local-says : local ≡ any-source is_non_global list) where
      pub environment-row : (new : List OfNumbers) → local ≡ true → new ≡ of-source is_of_environment old → (ts : List Tree) → assumed m (candidates_of ts old) ≡ Some (class_of (candidates_of ts new) Via.ParamEnv)
      environment-row new e k ts =
          left-over _ _ _ (read-any is_trivial ts old list trivial false is says none)
          ∙ (left-over _ _ _ (read-self ts false no-self)
          ∙ (chosen _ _ _ (read-any is_non_global ts old list local true is local-says e)
          ∙ ap (λ (xs : List Candidate). Some (class_of xs Via.ParamEnv)) (read-by is_of_environment ts old new k)))

      module _ (no-local : local ≡ false) (alias : Bool) (alias-says : alias ≡ any-source is_alias_bound list) where
        pub alias-row : (new : List OfNumbers) → alias ≡ true → new ≡ of-source is_alias_bound old → (ts : List Tree) → assumed m (candidates_of ts old) ≡ Some (class_of (candidates_of ts new) Via.AliasBound)
        alias-row new e k ts =
            left-over _ _ _ (read-any is_trivial ts old list trivial false is says none)
            ∙ (left-over _ _ _ (read-self ts false no-self)
            ∙ (left-over _ _ _ (read-any is_non_global ts old list local false is local-says no-local)
            ∙ (chosen _ _ _ (read-any is_alias_bound ts old list alias true is alias-says e)
            ∙ ap (λ (xs : List Candidate). Some (class_of xs Via.AliasBound)) (read-by is_alias_bound ts old new k))))

        pub no-row : alias ≡ false → (ts : List Tree) → assumed m (candidates_of ts old) ≡ None
        no-row e ts =
            left-over _ _ _ (read-any is_trivial ts old list trivial false is says none)
            ∙ (left-over _ _ _ (read-self ts false no-self)
            ∙ (left-over _ _ _ (read-any is_non_global ts old list local false is local-says no-local)
            ∙ left-over _ _ _ (read-any is_alias_bound ts old list alias false is alias-says e)))

-- What the objects' bounds leave.

pub objects-stay : (t : TypingMode) (xs : List Candidate) → is_coherence t ≡ true → xs ≡ prefer_objects t xs
objects-stay t xs e = sym (chosen (is_coherence t) xs _ e)

pub objects-lose : (t : TypingMode) (xs : List Candidate) → is_coherence t ≡ false → object_wins xs ≡ false → xs ≡ prefer_objects t xs
objects-lose t xs e w = sym (left-over (is_coherence t) xs _ e ∙ left-over (object_wins xs) _ xs w)

pub objects-win : (t : TypingMode) (ts : List Tree) (old new : List OfNumbers) → is_coherence t ≡ false → object_wins (candidates_of ts old) ≡ true → new ≡ of-source (λ s. not (is_impl s)) old
    → candidates_of ts new ≡ prefer_objects t (candidates_of ts old)
objects-win t ts old new e w k =
    let xs = candidates_of ts old in
    sym (left-over (is_coherence t) xs _ e ∙ (chosen (object_wins xs) _ xs w ∙ read-by (λ s. not (is_impl s)) ts old new k))

-- The last rows.

pub global-row : (ts : List Tree) (xs : List Candidate) (now : List OfNumbers) → candidates_of ts now ≡ xs → has_only is_global (candidates_of ts now) ≡ true → least_global xs ≡ class_of (candidates_of ts now) Via.ParamEnv
global-row ts xs now e all = ap least_global (sym e) ∙ chosen _ _ _ all

pub other-row : (ts : List Tree) (xs : List Candidate) (now new : List OfNumbers) → candidates_of ts now ≡ xs → has_only is_global (candidates_of ts now) ≡ false → new ≡ of-source (λ s. not (is_global s)) now
    → least_global xs ≡ class_of (candidates_of ts new) Via.Misc
other-row ts xs now new e some k =
    ap least_global (sym e) ∙ (left-over _ _ _ some ∙ ap (λ (ys : List Candidate). class_of ys Via.Misc) (read-by (λ s. not (is_global s)) ts now new k))

-- One after the other.

module _ (c : Context) (t : TypingMode) (m : CandidatePreferenceMode) (xs : List Candidate) where
  pub in-coherence : is_coherence t ≡ true → preferred c t m xs ≡ class_of xs Via.Misc
  in-coherence e = chosen (is_coherence t) _ _ e

  pub by-assumed : (k : Class) → is_coherence t ≡ false → assumed m xs ≡ Some k → preferred c t m xs ≡ k
  by-assumed k e is = left-over (is_coherence t) _ _ e ∙ ap (λ (o : Option Class). or_class o (least_global (prefer_objects t (unspecialized c t Allow.No xs)))) is

  pub by-least : (k : Class) → is_coherence t ≡ false → assumed m xs ≡ None → least_global (prefer_objects t (unspecialized c t Allow.No xs)) ≡ k → preferred c t m xs ≡ k
  by-least k e is l = left-over (is_coherence t) _ _ e ∙ (ap (λ (o : Option Class). or_class o (least_global (prefer_objects t (unspecialized c t Allow.No xs)))) is ∙ l)

pub least-of : (c : Context) (t : TypingMode) (ts : List Tree) (old new : List OfNumbers) → new ≡ old
    → least_global (prefer_objects t (unspecialized c t Allow.No (candidates_of ts old))) ≡ least_global (prefer_objects t (unspecialized c t Allow.No (candidates_of ts new)))
least-of c t ts old new e = ap (λ (xs : List OfNumbers). least_global (prefer_objects t (unspecialized c t Allow.No (candidates_of ts xs)))) (sym e)
