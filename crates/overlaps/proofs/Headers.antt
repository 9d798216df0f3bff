-- Two headers whose equation is refused have no common instance, whatever the aliases in them are: with fresh variables for the parameters, it
-- would solve the equation. And where it is accepted, they are one.
use Rattle.std.proofs.Common.{◌≡◌, ℕ, false, true, ◌⊎◌, inl, inr, Option, Some, None, List, length, refl, sym, ap, subst, ◌∙◌}
use Rattle.std.specs.Prelude.{IfSome}
use Rattle.ir_trees.specs.declared.decl.contents.ImplId.{ImplId}
use Rattle.ir_trees.specs.Declarations.Context.{Context, world}
use Rattle.ir_trees.specs.Declarations.Contents.{Impl}
use Rattle.ir_trees.specs.Declarations.Declaring.{impl_at}
use Rattle.ir_trees.specs.Instantiation.Folding.{substituted}
use Rattle.ir_trees.specs.Syntax.Trees.{Kind, Forest, erase, holds, is_alias}
use Rattle.ir_trees.specs.Unification.Substitutions.{IsAllowed, Substitution, apply, is_made}
use Rattle.ir_trees.specs.Validity.WellFormed.{ImplIsGiven, IsWellFormedTable}
use Rattle.ir_context.proofs.Validity.Given.{impl_given}
use Rattle.candidate_eval.specs.Interface.Evaluators.{accepted, with_left}
use Rattle.candidate_eval.specs.Judges.Lawful.{AreSides, HasLeafValues}
use Rattle.candidate_eval.specs.Judges.Soundness.{AreLeaves, AreTreesOf, IsResolved, IsSound, Live, ValuesFit, universes}
use Rattle.candidate_eval.specs.Judges.States.{Env, Judge, Pending, State, fresh_variables, next, resolved}
use Rattle.candidate_assembly.specs.Answers.KnownImpls.{header_at, header_of, kinds_of_impl}
use Rattle.candidate_assembly.specs.Laws.SuperLaws.{arguments_fit}
use Rattle.candidate_assembly.proofs.Refusals.CoherentRefusals.{resolved-stays}
use Rattle.candidate_assembly.proofs.Refusals.KnownFresh.{fits-still, fresh-all, fresher, leaves-still, resolved-still, sound-still, trees-still, wider}
use Rattle.candidate_assembly.proofs.Refusals.KnownHeaders.{fits-leaves, fresh-closed, header-bare, header-closed, header-known, header-leaves, header-new, header-resolved, header-trees}
use Rattle.candidate_assembly.proofs.Refusals.KnownSolutions.{combined, combined-solves, new-apply, old-apply}
use Rattle.rounds_judge.specs.Equations.WithErrors.{EquatesErrors}
use Rattle.rounds_judge.specs.Aliases.Listed.{Listing}
use Rattle.rounds_judge.specs.Equations.Opening.{are_open, equation, has_alias, readied}
use Rattle.rounds_judge.specs.Equations.Standing.{IsListing}
use Rattle.rounds_judge.proofs.Aliases.OpenedParts.{AllPairs}
use Rattle.overlaps.specs.Apart.{AreApart, HaveCommonInstance, header_with, opened, with_listed}
use Rattle.overlaps.specs.Readings.{read}
use Rattle.overlaps.proofs.ArgumentRows.{filled-arguments, fresh-arguments, given-arguments}
use Rattle.overlaps.proofs.Arguments.{mapping}
use Rattle.overlaps.proofs.CommonInstances.{all-in, arguments-allowed, fresh-in, header-listed-bare, listed-opened, with-arguments}
use Rattle.overlaps.proofs.FreshSides.{fresh_more, nothing_fresh, open_sides}
use Rattle.overlaps.proofs.ReadSides.{LeafyValue}
use Rattle.overlaps.proofs.Sides.{OpenSides}
use Rattle.overlaps.proofs.Unsolved.{equation-unsolved}

-- No variable counts: of the values of none anything is to be shown.

abbrev no-one : Live
no-one n = false

none-counts : {A : Type 0} → false ≡ true → A
none-counts e = absurd cc

sound-without : (S : State) → IsSound S no-one
sound-without S = record {
  allowed = λ s n i t l is v k. none-counts l;
  no_higher = λ n i t l is v. none-counts l;
  is_resolved = λ n i t l is v. none-counts l;
  known = λ n i t l is v. none-counts l;
  universes = λ n i l is. none-counts l;
}

fits-without : (S : State) → ValuesFit S no-one
fits-without S n l = none-counts l

leaves-without : (S : State) → HasLeafValues S no-one
leaves-without S n i t l is v = none-counts l

-- An equation that isn't accepted is refused.
not-equated : (o : Option (List Pending × State)) → next o (λ q. Some (with_left q)) ≡ None → o ≡ None
not-equated None e = refl
not-equated (Some q) e = absurd cc

-- The equation of two headers takes each alias for what it may be: aliases are open, or none stands in either.
abbrev pub Decides : Listing → State → Forest → Forest → Type 0
Decides l S a b = (are_open l S ≡ true) ⊎ (holds is_alias a ≡ false) × (holds is_alias b ≡ false)

-- Headers of two impls, with fresh variables for the parameters of both.
module _ (c : Context) (table : IsWellFormedTable c) (S : State) (a b : ImplId) (i j : Impl) (first : impl_at c a ≡ Some i) (second : impl_at c b ≡ Some j) where
  abbrev ks : List Kind
  ks = kinds_of_impl i

  abbrev ls : List Kind
  ls = kinds_of_impl j

  abbrev one : Forest
  one = header_of c i

  abbrev other : Forest
  other = header_of c j

  -- the states with the variables of the first impl, and with those of both, and what counts there

  abbrev T : State
  T = fresher S ks

  abbrev M : Live
  M = wider S no-one

  abbrev U : State
  U = fresher T ls

  abbrev N : Live
  N = wider T M

  -- the headers with these

  abbrev left : Forest
  left = substituted (fresh_variables S ks) 0 one

  abbrev right : Forest
  right = substituted (fresh_variables T ls) 0 other

  one-given : ImplIsGiven c i
  one-given = subst (λ (o : Option Impl). IfSome o (ImplIsGiven c)) first (impl_given c table a)

  other-given : ImplIsGiven c j
  other-given = subst (λ (o : Option Impl). IfSome o (ImplIsGiven c)) second (impl_given c table b)

  one-bare : holds is_made one ≡ false
  one-bare = header-bare c table a i first

  other-bare : holds is_made other ≡ false
  other-bare = header-bare c table b j second

  sound : IsSound T M
  sound = sound-still S no-one ks (sound-without S)

  left-resolved : IsResolved U left
  left-resolved = resolved-still T M ls left (header-known S no-one ks one one-bare) (header-resolved S no-one ks one one-bare)

  left-stays : resolved U left ≡ left
  left-stays = resolved-stays U left left-resolved

  right-stays : resolved U right ≡ right
  right-stays = resolved-stays U right (header-resolved T M ls other other-bare)

  left-trees : AreTreesOf U N left
  left-trees = trees-still T M ls left (header-trees S no-one ks one one-bare (header-closed c table a i first one-given.header.list))

  right-trees : AreTreesOf U N right
  right-trees = header-trees T M ls other other-bare (header-closed c table b j second other-given.header.list)

  left-leaves : AreLeaves left
  left-leaves = header-leaves S no-one ks one one-bare (fits-leaves (world c) one (arguments_fit c table i.trait_ref.args one-given.header.list))

  right-leaves : AreLeaves right
  right-leaves = header-leaves T M ls other other-bare (fits-leaves (world c) other (arguments_fit c table j.trait_ref.args other-given.header.list))

  -- Where no alias stands in them, an accepted equation makes them one.
  module _ (J : Judge) (errors : EquatesErrors J) (env : Env) (one-plain : holds is_alias left ≡ false) (other-plain : holds is_alias right ≡ false) where
    sides : AreSides U N left right
    sides = record {
      sound = sound-still T M ls sound;
      fits = fits-still T M ls (fits-still S no-one ks (fits-without S));
      left = left-trees;
      right = right-trees;
      left_has_no_alias = ap (holds is_alias) left-stays ∙ one-plain;
      right_has_no_alias = ap (holds is_alias) right-stays ∙ other-plain;
      left_has_leaves = left-leaves;
      right_has_leaves = right-leaves;
      values_have_leaves = leaves-still T M ls (leaves-still S no-one ks (leaves-without S));
    }

    equal-after : (R : State) (gs : List Pending) → J.equated U env left right ≡ Some (gs, R) → erase (resolved R left) ≡ erase (resolved R right)
    equal-after R gs e = errors.equates U R N env left right gs sides e

  -- Where it is refused, and decides, they have no common instance.
  module _ (l : Listing) (listing : IsListing l) (leaves : AllPairs LeafyValue l.pairs) (env : Env) where
    sides-open : OpenSides l U N left right
    sides-open =
        open_sides l listing leaves U N (fresh_more T M ls (fresh_more S no-one ks (nothing_fresh S))) left right left-trees right-trees left-leaves right-leaves
        (filled-arguments (fresh_variables S ks) (fresh-closed S ks) (fresh-arguments S i.parameters) one (given-arguments c i one-given))
        (filled-arguments (fresh_variables T ls) (fresh-closed T ls) (fresh-arguments T j.parameters) other (given-arguments c j other-given))

    -- no alias is left where none was
    decided : Decides l U left right → (are_open l U ≡ true) ⊎ (has_alias U left right ≡ false)
    decided (inl o) = inl o
    decided (inr p) = inr (rw (ap (holds is_alias) left-stays ∙ p.0, ap (holds is_alias) right-stays ∙ p.1) refl)

    module _ (h : HaveCommonInstance c l S.newest_universe i j) where
      abbrev u : ℕ
      u = S.newest_universe

      abbrev p : Substitution
      p = mapping (length S.variables) h.first

      abbrev q : Substitution
      q = mapping (length T.variables) h.second

      p-allowed : IsAllowed (universes T) p
      p-allowed = arguments-allowed c table a i first (universes T) S u h.first h.first_are (fresh-in S ks)

      q-allowed : IsAllowed (λ v. T.newest_universe) q
      q-allowed = arguments-allowed c table b j second (λ v. u) T u h.second h.second_are (all-in u (length T.variables) ls)

      abbrev z : Substitution
      z = combined T M ls sound p q p-allowed q-allowed

      -- what the variables are mapped to makes of each header, readied, the header with its arguments

      left-made : apply z (readied l U left) ≡ header_with c l i h.first
      left-made =
          let made = header-listed-bare c table a i first l listing in
          ap (λ f. apply z (with_listed l f)) left-stays
          ∙ (ap (apply z) (listed-opened c table a i first l listing S)
          ∙ (old-apply T M ls sound p q p-allowed q-allowed (substituted (fresh_variables S ks) 0 (with_listed l one)) (header-known S no-one ks (with_listed l one) made) (header-resolved S no-one ks (with_listed l one) made)
          ∙ with-arguments c table a i first l listing S u h.first h.first_are))

      right-made : apply z (readied l U right) ≡ header_with c l j h.second
      right-made =
          let made = header-listed-bare c table b j second l listing in
          ap (λ f. apply z (with_listed l f)) right-stays
          ∙ (ap (apply z) (listed-opened c table b j second l listing T)
          ∙ (new-apply T M ls sound p q p-allowed q-allowed (substituted (fresh_variables T ls) 0 (with_listed l other)) (header-known T M ls (with_listed l other) made) (header-new T M ls (with_listed l other) made)
          ∙ with-arguments c table b j second l listing T u h.second h.second_are))

      no-instance : Decides l U left right → equation l U env left right ≡ None → ⊥
      no-instance d e =
          equation-unsolved l listing U N env left right sides-open (decided d) e h.reading h.is_reading z (combined-solves T M ls sound p q p-allowed q-allowed)
          (ap (λ f. erase (read h.reading f)) left-made ∙ (h.equal ∙ sym (ap (λ f. erase (read h.reading f)) right-made)))

-- Where the equation is refused, and decides, there is no common instance.
pub refused-apart : (l : Listing) → IsListing l → AllPairs LeafyValue l.pairs → (J : Judge) → ((U : State) (e : Env) (x y : Forest) → J.equated U e x y ≡ equation l U e x y) → (c : Context) → IsWellFormedTable c
    → (S : State) (a b : ImplId) (i j : Impl) → impl_at c a ≡ Some i → impl_at c b ≡ Some j → (env : Env)
    → Decides l (opened (opened S i) j) (header_at c S i).arguments (header_at c (opened S i) j).arguments
    → accepted J (opened (opened S i) j) env (header_at c S i).arguments (header_at c (opened S i) j).arguments ≡ None → AreApart c l S i j
refused-apart l listing leaves J by c table S a b i j first second env d h o =
    let f = (header_at c S i).arguments in
    let T = fresher S (kinds_of_impl i) in
    let P : State → Type 0 = λ V. Decides l (opened V j) f (header_at c V j).arguments → equation l (opened V j) env f (header_at c V j).arguments ≡ None → ⊥ in
    let Q : State → Type 0 = λ W. Decides l W f (header_at c T j).arguments → equation l W env f (header_at c T j).arguments ≡ None → ⊥ in
    let at-fresher : P T = subst Q (sym (fresh-all T (kinds_of_impl j))) (no-instance c table S a b i j first second l listing leaves env o) in
    let V = opened S i in
    subst P (sym (fresh-all S (kinds_of_impl i))) at-fresher d
    (sym (by (opened V j) env f (header_at c V j).arguments) ∙ not-equated (J.equated (opened V j) env f (header_at c V j).arguments) h)

-- Where it is accepted, they are one at the state that it leaves.

-- what is accepted is equated
was-equated : (o : Option (List Pending × State)) (R : State) (P : State → Type 0) → ((Q : State) (gs : List Pending) → o ≡ Some (gs, Q) → P (with_left (gs, Q))) → next o (λ q. Some (with_left q)) ≡ Some R → P R
was-equated None R P f e = absurd cc
was-equated (Some q) R P f e = let is : with_left q ≡ R = cc in subst P is (f q.1 q.0 refl)

pub accepted-one : (J : Judge) → EquatesErrors J → (c : Context) → IsWellFormedTable c → (S R : State) (a b : ImplId) (i j : Impl) → impl_at c a ≡ Some i → impl_at c b ≡ Some j → (env : Env)
    → accepted J (opened (opened S i) j) env (header_at c S i).arguments (header_at c (opened S i) j).arguments ≡ Some R
    → holds is_alias (header_at c S i).arguments ≡ false → holds is_alias (header_at c (opened S i) j).arguments ≡ false
    → erase (resolved R (header_at c S i).arguments) ≡ erase (resolved R (header_at c (opened S i) j).arguments)
accepted-one J errors c table S R a b i j first second env h one-plain other-plain =
    let T = fresher S (kinds_of_impl i) in
    let f = (header_at c S i).arguments in
    let P : State → Type 0 = λ V.
    holds is_alias (header_at c V j).arguments ≡ false → (Q : State) (gs : List Pending)
    → J.equated (opened V j) env f (header_at c V j).arguments ≡ Some (gs, Q) → erase (resolved Q f) ≡ erase (resolved Q (header_at c V j).arguments) in
    let at-fresher : P T = λ p Q gs e.
    equal-after c table S a b i j first second J errors env one-plain p Q gs
    (subst (λ (W : State). J.equated W env f (header_at c T j).arguments ≡ Some (gs, Q)) (fresh-all T (kinds_of_impl j)) e) in
    let here = subst P (sym (fresh-all S (kinds_of_impl i))) at-fresher other-plain in
    was-equated (J.equated (opened (opened S i) j) env f (header_at c (opened S i) j).arguments) R (λ V. erase (resolved V f) ≡ erase (resolved V (header_at c (opened S i) j).arguments)) here h
