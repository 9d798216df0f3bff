-- What a tree is at a state, so far as its root says, and the value for a variable that meets it.
use Rattle.std.proofs.Common.{◌≡◌, ◌≤◌, ℕ, zero, suc, ◌-◌, Bool, true, false, not, List, [], ◌∷◌, Option, Some, None, slice_get, refl, sym, ap, subst, ◌∙◌, arith, nat_lt, nat_le, if◌then◌else◌}
use Rattle.std.specs.Option.{unwrap_or}
use Rattle.std.specs.List.{All}
use Rattle.std.proofs.lemmas.Bool.{and_parts, not-true, ltb-false, le-ltb}
use Rattle.std.proofs.lemmas.List.Elements.{All-head, All-tail}
use Rattle.std.proofs.Math.Nat.{le_trans}
use Rattle.ir_trees.specs.declared.ir.heads.Head.{Head}
use Rattle.ir_trees.specs.declared.ir.heads.Head.TheVariants as H
use Rattle.ir_trees.specs.declared.ir.heads.ConstHead.TheVariants as C
use Rattle.ir_trees.specs.declared.ir.heads.Variable.{Variable}
use Rattle.ir_trees.specs.declared.ir.kinds.BoundVar.{BoundVar}
use Rattle.ir_trees.specs.declared.ir.kinds.RegionKind.TheVariants as R
use Rattle.ir_trees.specs.Syntax.Trees.{none, Tree, erase, holds, is_alias}
use Rattle.ir_trees.specs.Syntax.Binders.{escapes}
use Rattle.ir_trees.specs.Hierarchy.Elaboration.{same_tree}
use Rattle.ir_trees.specs.Instantiation.Folding.{leaf}
use Rattle.ir_trees.specs.Unification.Substitutions.{alone, fits_sort, is_placeholder_above}
use Rattle.candidate_eval.specs.declared.eval.variable.VariableKind.TheVariants.{Term}
use Rattle.candidate_eval.specs.Interface.Evaluators.{root_value, resolved_root}
use Rattle.candidate_eval.specs.Judges.States.{State, value_at, resolved_tree, has_kind}
use Rattle.candidate_eval.specs.Judges.Alike.{info}
use Rattle.candidate_eval.specs.Judges.Soundness.{Live, IsSound, ValuesFit, IsResolved, has_value, is_strange, universe_in}
use Rattle.candidate_eval.proofs.Marks.Holds.{holds_parts, holds_imply}
use Rattle.rounds_judge.specs.Aliases.Listed.{Listing, listed, listed_in, normalized_tree, listed_at, current}
use Rattle.rounds_judge.specs.Equations.Scopes.{Scope, placed_region, placed_head}
use Rattle.rounds_judge.specs.Equations.Binding.{occurs, may_take}
use Rattle.rounds_judge.specs.Equations.Equating.{value_for}
use Rattle.rounds_judge.specs.Equations.Standing.{IsFixed, IsListed, IsListing, is_made}
use Rattle.rounds_judge.proofs.States.Marks.{whole, fold_marked, escapes_on}
use Rattle.rounds_judge.proofs.States.Later.{value_known, value_resolved, value_closed, resolved_known, resolved_once, no_value, value_as_is}
use Rattle.rounds_judge.proofs.States.Bound.{CanTake}

-- Listed types

-- what is listed is the type of a pair
pub record ListedType (u : Tree) : Type 0 where
  pub pair : Tree × Tree
  pub is_listed : IsListed pair
  pub is : pair.1 ≡ u

type_among : (ps : List (Tree × Tree)) → All IsListed ps → (t u : Tree) → listed_in ps t ≡ Some u → ListedType u
type_among [] a t u e = cc
type_among (p ∷ ps) a t u e = at (same_tree p.0 t) (type_among ps (All-tail IsListed p ps a) t u) e
  where
    at : (b : Bool) → (listed_in ps t ≡ Some u → ListedType u) → (if b then Some p.1 else listed_in ps t) ≡ Some u → ListedType u
    at true f e = record { pair = p; is_listed = All-head IsListed p ps a; is = let is : p.1 ≡ u = cc in is }
    at false f e = f e

pub listed_type : (l : Listing) → IsListing l → (t u : Tree) → listed l t ≡ Some u → ListedType u
listed_type l a t u e = type_among l.pairs a t u e

-- what is made nowhere is of every state
fixed_strange : (S : State) (L : Live) (h : Head) → is_made h ≡ false → is_strange S L h ≡ false
fixed_strange S L h e = at h e
  where
    low : (u : ℕ) → nat_lt 0 u ≡ false → nat_lt S.newest_universe u ≡ false
    low u e = le-ltb S.newest_universe u (le_trans (ltb-false 0 u e) (omega arith))

    at : (h : Head) → is_made h ≡ false → is_strange S L h ≡ false
    at (H.Infer v) e = cc
    at (H.Region (R.Var n)) e = cc
    at (H.Placeholder p) e = low p.universe e
    at (H.Const (C.Placeholder p)) e = low p.universe e
    at (H.Region (R.Placeholder p)) e = low p.universe e
    at _ e = refl

pub fixed_unvalued : (S : State) (h : Head) → is_made h ≡ false → has_value S h ≡ false
fixed_unvalued S (H.Infer v) e = cc
fixed_unvalued S (H.Region (R.Var n)) e = cc
fixed_unvalued S _ e = refl

module _ (l : Listing) (listing : IsListing l) (t u : Tree) (there : listed l t ≡ Some u) where
  pub listed_fixed : IsFixed u
  listed_fixed = let k = listed_type l listing t u there in subst IsFixed k.is k.is_listed.type

  pub listed_no_alias : holds is_alias (alone u) ≡ false
  listed_no_alias = let k = listed_type l listing t u there in subst (λ u. holds is_alias (alone u) ≡ false) k.is k.is_listed.no_alias

  pub listed_known : (S : State) (L : Live) → holds (is_strange S L) (alone u) ≡ false
  listed_known S L = holds_imply is_made (is_strange S L) (fixed_strange S L) (alone u) listed_fixed.not_made

  pub listed_resolved : (S : State) → IsResolved S (alone u)
  listed_resolved S = holds_imply is_made (has_value S) (fixed_unvalued S) (alone u) listed_fixed.not_made

-- Roots

pub root_at : (S : State) (h : Head) (x : Tree) → root_value S h ≡ Some x → value_at S h ≡ Some x
root_at S (H.Infer v) x e = e
root_at S _ x e = cc

pub root_free : (S : State) (h : Head) → has_value S h ≡ false → root_value S h ≡ None
root_free S (H.Infer v) e = no_value (value_at S (H.Infer v)) e
root_free S _ e = refl

-- a listed type, or the tree itself
pub data WhichListed (l : Listing) (S : State) (t : Tree) : Tree → Type 0 where
  is_type : (u : Tree) → is_alias t.head ≡ true → listed l (resolved_tree S t) ≡ Some u → WhichListed l S t u
  itself : WhichListed l S t t

pub which_listed : (l : Listing) (S : State) (t : Tree) → WhichListed l S t (listed_at l S t)
which_listed l S t = at (is_alias t.head) refl
  where
    by : (o : Option Tree) → is_alias t.head ≡ true → listed l (resolved_tree S t) ≡ o → WhichListed l S t (unwrap_or o t)
    by None a e = itself
    by (Some u) a e = is_type u a e

    at : (b : Bool) → is_alias t.head ≡ b → WhichListed l S t (if b then unwrap_or (listed l (resolved_tree S t)) t else t)
    at true e = by (listed l (resolved_tree S t)) e refl
    at false e = itself

-- What is put in the place of regions under binders

-- a placeholder of a universe of the scope
pub placed_is : (us : Scope) (d : ℕ) (h : Head) (x : Tree) → placed_head us d h ≡ Some x → (v : BoundVar) × (u : ℕ) × (slice_get us (v.depth - d) ≡ Some u) × (leaf (H.Region (R.Placeholder (record { universe = u; index = v.index }))) ≡ x)
placed_is us d (H.Region (R.Bound v)) x e = at (nat_le d v.depth) e
  where
    by : (o : Option ℕ) → slice_get us (v.depth - d) ≡ o → placed_region v o ≡ Some x
        → (v : BoundVar) × (u : ℕ) × (slice_get us (v.depth - d) ≡ Some u) × (leaf (H.Region (R.Placeholder (record { universe = u; index = v.index }))) ≡ x)
    by None f e = cc
    by (Some u) f e = (v, u, f, let is : leaf (H.Region (R.Placeholder (record { universe = u; index = v.index }))) ≡ x = cc in is)

    at : (b : Bool) → (if b then placed_region v (slice_get us (v.depth - d)) else None) ≡ Some x
        → (v : BoundVar) × (u : ℕ) × (slice_get us (v.depth - d) ≡ Some u) × (leaf (H.Region (R.Placeholder (record { universe = u; index = v.index }))) ≡ x)
    at true e = by (slice_get us (v.depth - d)) refl e
    at false e = cc
placed_is us d _ x e = cc

all_at : (P : ℕ → Type 0) (us : List ℕ) (i u : ℕ) → All P us → slice_get us i ≡ Some u → P u
all_at P [] i u a e = cc
all_at P (x ∷ us) zero u a e = subst P (let is : x ≡ u = cc in is) (All-head P x us a)
all_at P (x ∷ us) (suc i) u a e = all_at P us i u (All-tail P x us a) e

-- At a state

module _ (l : Listing) (listing : IsListing l) (S : State) (L : Live) (sound : IsSound S L) where
  pub root_known : (t : Tree) → holds (is_strange S L) (alone t) ≡ false → holds (is_strange S L) (alone (resolved_root S t)) ≡ false
  root_known t k = at (root_value S t.head) refl
    where
      at : (o : Option Tree) → root_value S t.head ≡ o → holds (is_strange S L) (alone (unwrap_or o t)) ≡ false
      at None e = k
      at (Some x) e = value_known S L sound t.head x (holds_parts (is_strange S L) t.head t.children none k).here (root_at S t.head x e)

  root_rests : (t : Tree) → holds (is_strange S L) (alone t) ≡ false → root_value S (resolved_root S t).head ≡ None
  root_rests t k = at (root_value S t.head) refl
    where
      at : (o : Option Tree) → root_value S t.head ≡ o → root_value S (unwrap_or o t).head ≡ None
      at None e = e
      at (Some x) e =
          let r = value_resolved S L sound t.head x (holds_parts (is_strange S L) t.head t.children none k).here (root_at S t.head x e) in
          root_free S x.head (holds_parts (has_value S) x.head x.children none r).here

  root_closed : ValuesFit S L → (n : ℕ) (t : Tree) → holds (is_strange S L) (alone t) ≡ false → escapes n (alone t) ≡ false → escapes n (alone (resolved_root S t)) ≡ false
  root_closed fits n t k e = at (root_value S t.head) refl
    where
      at : (o : Option Tree) → root_value S t.head ≡ o → escapes n (alone (unwrap_or o t)) ≡ false
      at None f = e
      at (Some x) f = escapes_on 0 n (alone x) (omega arith) (value_closed S L fits t.head x (holds_parts (is_strange S L) t.head t.children none k).here (root_at S t.head x f))

  pub current_known : (t : Tree) → holds (is_strange S L) (alone t) ≡ false → holds (is_strange S L) (alone (current l S t)) ≡ false
  current_known t k = at (current l S t) (which_listed l S (resolved_root S t))
    where
      at : (x : Tree) → WhichListed l S (resolved_root S t) x → holds (is_strange S L) (alone x) ≡ false
      at _ (is_type u a e) = listed_known l listing (resolved_tree S (resolved_root S t)) u e S L
      at _ itself = root_known t k

  -- a variable at its root has no value
  pub current_rests : (t : Tree) → holds (is_strange S L) (alone t) ≡ false → root_value S (current l S t).head ≡ None
  current_rests t k = at (current l S t) (which_listed l S (resolved_root S t))
    where
      at : (x : Tree) → WhichListed l S (resolved_root S t) x → root_value S x.head ≡ None
      at _ (is_type u a e) = root_free S u.head (holds_parts (has_value S) u.head u.children none (listed_resolved l listing (resolved_tree S (resolved_root S t)) u e S)).here
      at _ itself = root_rests t k

  pub current_closed : ValuesFit S L → (n : ℕ) (t : Tree) → holds (is_strange S L) (alone t) ≡ false → escapes n (alone t) ≡ false → escapes n (alone (current l S t)) ≡ false
  current_closed fits n t known k = at (current l S t) (which_listed l S (resolved_root S t))
    where
      at : (x : Tree) → WhichListed l S (resolved_root S t) x → escapes n (alone x) ≡ false
      at _ (is_type u a e) = escapes_on 0 n (alone u) (omega arith) (listed_fixed l listing (resolved_tree S (resolved_root S t)) u e).is_closed
      at _ itself = root_closed fits n t known k

  -- The value

  -- a mark that no placeholder bears of the scope's regions, and that what is listed doesn't bear
  pub value_marked : (mark : Head → Bool) (us : Scope) → ((u i : ℕ) → u ≤ S.newest_universe → mark (H.Region (R.Placeholder (record { universe = u; index = i }))) ≡ false)
      → ((t u : Tree) → listed l t ≡ Some u → holds mark (alone u) ≡ false) → All (λ u. u ≤ S.newest_universe) us
      → (t : Tree) → holds mark (alone (resolved_tree S t)) ≡ false → holds mark (alone (value_for l S us t)) ≡ false
  value_marked mark us place type universes t k =
      let n : holds mark (alone (normalized_tree l (resolved_tree S t))) ≡ false =
      fold_marked (λ d u. listed l u) mark mark mark (λ d x a b e. a) (λ d x u a b e. type x u e) 0 (alone (resolved_tree S t)) k k in
      fold_marked (λ d u. placed_head us d u.head) mark mark mark (λ d x a b e. a)
      (λ d x w a b e. let p = placed_is us d x.head w e in subst (λ w. holds mark (alone w) ≡ false) p.3 (whole mark (H.Region (R.Placeholder (record { universe = p.1; index = p.0.index }))) none none (place p.1 p.0.index (all_at (λ u. u ≤ S.newest_universe) us (p.0.depth - d) p.1 universes p.2)) refl refl))
      0 (alone (normalized_tree l (resolved_tree S t))) n n

  pub value_for_known : (us : Scope) → All (λ u. u ≤ S.newest_universe) us → (t : Tree) → holds (is_strange S L) (alone t) ≡ false → holds (is_strange S L) (alone (value_for l S us t)) ≡ false
  value_for_known us universes t k =
      value_marked (is_strange S L) us (λ u i h. le-ltb S.newest_universe u h) (λ x u e. listed_known l listing x u e S L) universes t (resolved_known S L sound (alone t) k)

  pub value_for_resolved : (us : Scope) → All (λ u. u ≤ S.newest_universe) us → (t : Tree) → holds (is_strange S L) (alone t) ≡ false → IsResolved S (alone (value_for l S us t))
  value_for_resolved us universes t k =
      value_marked (has_value S) us (λ u i h. refl) (λ x u e. listed_resolved l listing x u e S) universes t (resolved_once S L sound (alone t) k)

  -- a variable that meets a tree and may take its value
  pub can_take : (us : Scope) → All (λ u. u ≤ S.newest_universe) us → (x y : Tree) (v : Variable) → holds (is_strange S L) (alone x) ≡ false → root_value S x.head ≡ None → x.head ≡ H.Infer v
      → holds (is_strange S L) (alone y) ≡ false → may_take S v (value_for l S us y) ≡ true → CanTake S L v (value_for l S us y)
  can_take us universes x y v k rests is m may =
      let t = value_for l S us y in
      let p = and_parts (has_kind (Term v.sort) (info S v.number)) _ may in
      let q = and_parts (fits_sort v.sort t.head) _ p.1 in
      let r = and_parts (not (occurs v.number t)) _ q.1 in
      let s = and_parts (not (escapes 0 (alone t))) _ r.1 in
      record {
        is_known = subst (λ h. is_strange S L h ≡ false) is (holds_parts (is_strange S L) x.head x.children none k).here;
        free = sym (value_as_is S (Term v.sort) v.number p.0) ∙ sym (ap (root_value S) is) ∙ rests;
        fits = q.0;
        not_in = not-true (occurs v.number t) r.0;
        is_closed = not-true (escapes 0 (alone t)) s.0;
        in_universe = not-true (holds (is_placeholder_above (universe_in (info S v.number))) (erase (alone t))) s.1;
        known = value_for_known us universes y m;
        is_resolved = value_for_resolved us universes y m;
      }
