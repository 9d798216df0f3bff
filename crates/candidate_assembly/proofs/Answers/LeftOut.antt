-- What impls and objects would be that are left out: they would lose.
use Rattle.std.proofs.Common.{◌≡◌, Bool, true, false, not, ◌&&◌, Some, None, List, [], ◌∷◌, ◌++◌, refl, ◌∙◌, ap}
use Rattle.std.specs.Prelude.{◌||◌, if◌then◌else◌}
use Rattle.std.proofs.lemmas.Bool.{and_parts}
use Rattle.std.proofs.lemmas.List.{append-nil}
use Rattle.std.proofs.lemmas.List.Elements.{filter-append}
use Rattle.std.proofs.lemmas.List.Folds.{list_any-append}
use Rattle.ir_trees.specs.Declarations.Context.{Context}
use Rattle.candidate_eval.specs.declared.eval.mode.TypingMode.{TypingMode}
use Rattle.candidate_eval.specs.declared.eval.source.CandidateSource.{CandidateSource}
use Rattle.candidate_eval.specs.declared.eval.source.CandidateSource.TheVariants as Source
use Rattle.candidate_eval.specs.declared.eval.source.BuiltinImplSource.TheVariants as Builtin
use Rattle.candidate_eval.specs.declared.eval.source.ParamEnvSource.TheVariants.{Global, NonGlobal}
use Rattle.candidate_eval.specs.Outcomes.Responses.{Candidate}
use Rattle.candidate_assembly.specs.declared.trait_goals.preference.CandidatePreferenceMode.{CandidatePreferenceMode}
use Rattle.candidate_assembly.specs.declared.assembly.merging.TraitGoalProvenVia.TheVariants as Via
use Rattle.candidate_assembly.specs.Answers.Assembled.{is_coherence, is_local_assumption, is_of_environment, is_shadowed, is_trivial, shadows}
use Rattle.candidate_assembly.specs.Answers.Preference.{Class, LeftOutLose, assumed, by, class_of, has, has_only, is_marker, least_global, or_class, prefer_objects}
use Rattle.candidate_assembly.specs.declared.assembly.specialization.AllowInferenceConstraints.TheVariants as Allow
use Rattle.candidate_assembly.specs.Answers.Specialization.{unspecialized}
use Rattle.candidate_assembly.specs.Answers.Sources.{is_alias_bound, is_impl, is_non_global, is_object, is_self_bound}

abbrev drops : CandidateSource → Bool
drops s = is_impl s || is_object s

-- a test that no impl and no object passes
abbrev Excludes : (CandidateSource → Bool) → Type 0
Excludes p = (s : CandidateSource) → drops s ≡ true → p s ≡ false

module _ (p : CandidateSource → Bool) (apart : Excludes p) where
  none-has : (ys : List Candidate) → has_only drops ys ≡ true → has p ys ≡ false
  none-has [] e = refl
  none-has (y ∷ ys) e =
      let both = and_parts (drops y.source) (has_only drops ys) e in
      ap (λ b. b || has p ys) (apart y.source both.0) ∙ none-has ys both.1

  none-by : (ys : List Candidate) → has_only drops ys ≡ true → by p ys ≡ []
  none-by [] e = refl
  none-by (y ∷ ys) e =
      let both = and_parts (drops y.source) (has_only drops ys) e in
      ap (λ b. if b then y ∷ by p ys else by p ys) (apart y.source both.0) ∙ none-by ys both.1

  or-none : (b : Bool) → (b || false) ≡ b
  or-none true = refl
  or-none false = refl

  same-has : (xs ys : List Candidate) → has_only drops ys ≡ true → has p (xs ++ ys) ≡ has p xs
  same-has xs ys e = list_any-append (λ (x : Candidate). p x.source) xs ys ∙ (ap (λ b. has p xs || b) (none-has ys e) ∙ or-none (has p xs))

  same-by : (xs ys : List Candidate) → has_only drops ys ≡ true → by p (xs ++ ys) ≡ by p xs
  same-by xs ys e = filter-append (λ (x : Candidate). p x.source) xs ys ∙ (ap (λ zs. by p xs ++ zs) (none-by ys e) ∙ append-nil (by p xs))

not-trivial : Excludes is_trivial
not-trivial (Source.Impl n) e = refl
not-trivial (Source.BuiltinImpl (Builtin.Object n)) e = refl
not-trivial (Source.BuiltinImpl _) e = absurd cc
not-trivial _ e = absurd cc

not-self : Excludes is_self_bound
not-self (Source.Impl n) e = refl
not-self (Source.BuiltinImpl b) e = refl
not-self _ e = absurd cc

not-bound : Excludes is_alias_bound
not-bound (Source.Impl n) e = refl
not-bound (Source.BuiltinImpl b) e = refl
not-bound _ e = absurd cc

not-local : Excludes is_non_global
not-local (Source.Impl n) e = refl
not-local (Source.BuiltinImpl b) e = refl
not-local _ e = absurd cc

not-clause : Excludes is_of_environment
not-clause (Source.Impl n) e = refl
not-clause (Source.BuiltinImpl b) e = refl
not-clause _ e = absurd cc

-- The first rows say the same with such candidates behind.
same-assumed : (m : CandidatePreferenceMode) (xs ys : List Candidate) → has_only drops ys ≡ true → assumed m (xs ++ ys) ≡ assumed m xs
same-assumed m xs ys e =
    let trivial = same-has is_trivial not-trivial xs ys e in
    let self = same-has is_self_bound not-self xs ys e in
    let local = same-has is_non_global not-local xs ys e in
    let bound = same-has is_alias_bound not-bound xs ys e in
    let trivials = same-by is_trivial not-trivial xs ys e in
    let bounds = same-by is_alias_bound not-bound xs ys e in
    let clauses = same-by is_of_environment not-clause xs ys e in
    λ i.
    if trivial i then Some (class_of (trivials i) Via.Misc)
    else (if is_marker m && self i then Some (class_of (bounds i) Via.AliasBound)
    else (if local i then Some (class_of (clauses i) Via.ParamEnv)
    else (if bound i then Some (class_of (bounds i) Via.AliasBound)
    else None)))

-- Where something shadows impls and objects, one of those rows applies.

local-so : (s : CandidateSource) → is_local_assumption s ≡ true → (is_non_global s || is_alias_bound s) ≡ true
local-so (Source.ParamEnv NonGlobal) e = refl
local-so (Source.ParamEnv Global) e = absurd cc
local-so (Source.AliasBound b) e = refl
local-so _ e = absurd cc

or-first : (a b c d : Bool) → (a || b) ≡ true → ((a || c) || (b || d)) ≡ true
or-first true b c d e = refl
or-first false true true d e = refl
or-first false true false d e = refl
or-first false false c d e = absurd cc

or-second : (a b c d : Bool) → (c || d) ≡ true → ((a || c) || (b || d)) ≡ true
or-second true b c d e = refl
or-second false true true d e = refl
or-second false true false d e = refl
or-second false false c d e = e

shadowed-has : (xs : List Candidate) → is_shadowed xs ≡ true → (has is_non_global xs || has is_alias_bound xs) ≡ true
shadowed-has [] e = absurd cc
shadowed-has (x ∷ xs) e = at (shadows x) refl e (shadowed-has xs)
  where
    at : (b : Bool) → shadows x ≡ b → (b || is_shadowed xs) ≡ true → (is_shadowed xs ≡ true → (has is_non_global xs || has is_alias_bound xs) ≡ true)
        → (has is_non_global (x ∷ xs) || has is_alias_bound (x ∷ xs)) ≡ true
    at true s f more = or-first (is_non_global x.source) (is_alias_bound x.source) (has is_non_global xs) (has is_alias_bound xs) (local-so x.source (and_parts (is_local_assumption x.source) _ s).0)
    at false s f more = or-second (is_non_global x.source) (is_alias_bound x.source) (has is_non_global xs) (has is_alias_bound xs) (more f)

row-applies : (a b c d : Bool) (k l n o : Class) → (c || d) ≡ true → (u v : Class)
    → or_class (if a then Some k else (if b then Some l else (if c then Some n else (if d then Some o else None)))) u
    ≡ or_class (if a then Some k else (if b then Some l else (if c then Some n else (if d then Some o else None)))) v
row-applies true b c d k l n o e u v = refl
row-applies false true c d k l n o e u v = refl
row-applies false false true d k l n o e u v = refl
row-applies false false false true k l n o e u v = refl
row-applies false false false false k l n o e u v = absurd cc

-- what wins where no such row applies
abbrev others : Context → TypingMode → List Candidate → Class
others c t zs = least_global (prefer_objects t (unspecialized c t Allow.No zs))

pub left-out-lose : (c : Context) (t : TypingMode) (m : CandidatePreferenceMode) (xs ys : List Candidate) → LeftOutLose c t m xs ys
left-out-lose c t m xs ys left only = at (is_coherence t) left
  where
    at : (b : Bool) → (not b && is_shadowed xs) ≡ true → (if b then class_of (xs ++ ys) Via.Misc else or_class (assumed m (xs ++ ys)) (others c t (xs ++ ys))) ≡ (if b then class_of xs Via.Misc else or_class (assumed m xs) (others c t xs))
    at true f = absurd cc
    at false f =
        ap (λ o. or_class o (others c t (xs ++ ys))) (same-assumed m xs ys only)
        ∙ row-applies (has is_trivial xs) (is_marker m && has is_self_bound xs) (has is_non_global xs) (has is_alias_bound xs) _ _ _ _ (shadowed-has xs f) (others c t (xs ++ ys)) (others c t xs)
