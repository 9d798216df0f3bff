-- What solves all before a look solves all after it.
use Rattle.std.proofs.Common.{◌≡◌, ◌≤◌, ℕ, Bool, true, false, not, ◌&&◌, min, Option, Some, None, List, [], ◌∷◌, ◌++◌, refl, sym, ap, subst, ◌∙◌, arith, nat_lt, if◌then◌else◌}
use Rattle.std.specs.Option.{option_map}
use Rattle.std.proofs.lemmas.Bool.{eq-eqb, ltb-false, le-ltb}
use Rattle.std.proofs.lemmas.List.Elements.{All-cons, All-head, All-tail}
use Rattle.std.specs.List.{All}
use Rattle.ir_trees.specs.declared.ir.heads.Head.{Head}
use Rattle.ir_trees.specs.declared.ir.heads.Head.TheVariants as H
use Rattle.ir_trees.specs.declared.ir.heads.ConstHead.TheVariants as C
use Rattle.ir_trees.specs.declared.ir.heads.Variable.{Variable}
use Rattle.ir_trees.specs.declared.ir.kinds.RegionKind.{RegionKind}
use Rattle.ir_trees.specs.declared.ir.kinds.RegionKind.TheVariants as R
use Rattle.ir_trees.specs.Syntax.Trees.{Forest, none, tree, Tree, erase, erased_head, holds}
use Rattle.ir_trees.specs.Unification.Unify.{same_head}
use Rattle.ir_trees.specs.Unification.Substitutions.{Substitution, IsAllowedBinding, apply, alone, is_placeholder_above}
use Rattle.ir_trees.proofs.Instantiation.Folding.{begin}
use Rattle.candidate_eval.specs.declared.eval.variable.VariableKind.TheVariants.{Term, Region}
use Rattle.candidate_eval.specs.Judges.States.{State, VariableInfo, valued_tree, with_universe}
use Rattle.candidate_eval.specs.Judges.Alike.{info}
use Rattle.candidate_eval.specs.Judges.Soundness.{Live, IsSound, ValuesFit, AreLeaves, is_leaf, is_strange, universes, universe_in, variable_tree}
use Rattle.candidate_eval.specs.Judges.Lawful.{HasLeafValues}
use Rattle.candidate_eval.proofs.Marks.Holds.{holds_parts}
use Rattle.rounds_judge.specs.Aliases.Listed.{Listing, current}
use Rattle.rounds_judge.specs.Equations.Scopes.{Scope, placed_tree, entered, has_binder, has_variables, scope_below}
use Rattle.rounds_judge.specs.Equations.Binding.{occurs, single, info_after, bound}
use Rattle.rounds_judge.specs.Equations.Equating.{Pair, Visit, Done, Refused, Left, value_for, with_equal_regions, outlives, met, visited}
use Rattle.rounds_judge.specs.Equations.Standing.{IsListing, PairStands, Stands, IsPlain, ArePlain}
use Rattle.rounds_judge.proofs.States.Marks.{holds_to}
use Rattle.rounds_judge.proofs.States.Bound.{same_sort_itself, kind_bound, info_bound, universe_apart, before, ValueAfter, own, put, value_after, single_is}
use Rattle.rounds_judge.proofs.Unifiers.Putting.{node, put_in, assigned, nowhere, absorbed, fold_leaves}
use Rattle.rounds_judge.proofs.Equations.Meeting.{Met, by_left, by_right, regions, below, stuck, meeting}
use Rattle.rounds_judge.proofs.Equations.Sides.{Side, first_side, Absorbs, Rooted, rooted_same, found}
use Rattle.rounds_judge.proofs.Equations.Offered.{IsOffered, is_unknown, less_unknown, offered_for}
use Rattle.rounds_judge.proofs.Unifiers.Solving.{value_under, IsMet, made, made_is, is_quiet, met_absorbs, part_marked, numbered_head}
use Rattle.rounds_judge.proofs.Unifiers.Taking.{made_variable, not_stuck}

-- A variable gets a value that the solution makes equal to it.

pub unknown_bound : (S : State) (v : Variable) (t : Tree) (L : Live) (h : Head) → is_unknown (bound S v t) L h ≡ is_unknown S L h
unknown_bound S v t L (H.Infer w) = ap (λ b. not (L w.number && b)) (kind_bound S v t (Term w.sort) w.number)
unknown_bound S v t L (H.Region r) = at r
  where
    at : (r : RegionKind) → is_unknown (bound S v t) L (H.Region r) ≡ is_unknown S L (H.Region r)
    at (R.Var n) = ap (λ b. not (L n && b)) (kind_bound S v t Region n)
    at _ = refl
unknown_bound S v t L _ = refl

lower_both : (a b x : ℕ) → nat_lt a x ≡ false → nat_lt b x ≡ false → nat_lt (min a b) x ≡ false
lower_both a b x e f = le-ltb (min a b) x (least (ltb-false a x e) (ltb-false b x f))
  where
    least : x ≤ a → x ≤ b → x ≤ min a b
    least p q = omega (arith, p, q)

above_least : (a b : ℕ) (h : Head) → is_placeholder_above a h ≡ false → is_placeholder_above b h ≡ false → is_placeholder_above (min a b) h ≡ false
above_least a b (H.Placeholder p) e f = lower_both a b p.universe e f
above_least a b (H.Const (C.Placeholder p)) e f = lower_both a b p.universe e f
above_least a b _ e f = refl

-- the value in the place of the variable
pub single_leaves : (v : Variable) (t y : Tree) → AreLeaves (alone t) → AreLeaves (alone y) → AreLeaves (alone (valued_tree (single v t) y))
single_leaves v t y l k = fold_leaves (λ _ u. single v t u.head) (λ h. false) (λ d x u m e. subst (λ z. AreLeaves (alone z)) (single_is v t x.head u e).1 l) 0 (alone y) (nowhere (alone y)) k

module _ (S : State) (L : Live) (s : Substitution) (leafy : HasLeafValues S L) (m : IsMet S L s) (v : Variable) (t : Tree) (k : is_unknown S L (H.Infer v) ≡ false)
    (known : holds (is_unknown S L) (alone t) ≡ false) (leaves : AreLeaves (alone t)) (e : erase (alone (value_under s v)) ≡ made s (alone t)) where
  universe_least : (n : ℕ) → occurs n t ≡ true → universe_in (info (bound S v t) n) ≡ min (universe_in (info S n)) (universe_in (info S v.number))
  universe_least n f = ap universe_in (info_bound S v t n) ∙ at (info S n)
    where
      zero_least : (u : ℕ) → 0 ≡ min 0 u
      zero_least u = omega arith

      at : (o : Option VariableInfo) → universe_in (option_map (info_after v (universe_in (info S v.number)) t n) o) ≡ min (universe_in o) (universe_in (info S v.number))
      at None = zero_least (universe_in (info S v.number))
      at (Some i) = ap (λ b. if b then min i.universe (universe_in (info S v.number)) else i.universe) f

  bound_allowed : (w : Variable) → is_unknown S L (H.Infer w) ≡ false → IsAllowedBinding (universes (bound S v t)) (record { variable = w; value = value_under s w })
  bound_allowed w q =
      let old = m.allowed w q in
      record { fits = old.fits; is_closed = old.is_closed; in_universe = at (occurs w.number t) refl old.in_universe }
    where
      at : (b : Bool) → occurs w.number t ≡ b → holds (is_placeholder_above (universe_in (info S w.number))) (erase (alone (value_under s w))) ≡ false
          → holds (is_placeholder_above (universe_in (info (bound S v t) w.number))) (erase (alone (value_under s w))) ≡ false
      at false f low = subst (λ u. holds (is_placeholder_above u) (erase (alone (value_under s w))) ≡ false) (sym (universe_apart S v t w.number f)) low
      at true f low =
          let u = universe_in (info S v.number) in
          let inner : holds (is_placeholder_above u) (erase (alone (value_under s w))) ≡ false =
          part_marked S L s w q (is_placeholder_above u) (alone t) known f leaves (ap (holds (is_placeholder_above u)) (sym e) ∙ (m.allowed v k).in_universe) in
          subst (λ u. holds (is_placeholder_above u) (erase (alone (value_under s w))) ≡ false) (sym (universe_least w.number f))
          (holds_to (is_placeholder_above (universe_in (info S w.number))) (is_placeholder_above u) (is_placeholder_above (min (universe_in (info S w.number)) u)) (above_least (universe_in (info S w.number)) u) (erase (alone (value_under s w))) low inner)

  single_absorbed : (y : Tree) → AreLeaves (alone y) → made s (alone (valued_tree (single v t) y)) ≡ made s (alone y)
  single_absorbed y l = absorbed (λ _ u. single v t u.head) (assigned s) (λ h. false) (λ d x u m f. says x.head u (single_is v t x.head u f)) 0 (alone y) (nowhere (alone y)) l
    where
      says : (h : Head) (u : Tree) → (h ≡ H.Infer v) × (t ≡ u) → (is_leaf h ≡ true) × (made s (alone u) ≡ made s (tree h none none))
      says h u p = (ap is_leaf p.0, ap (λ z. made s (alone z)) (sym p.1) ∙ sym e ∙ ap (λ g. made s (tree g none none)) (sym p.0))

  same_number : (z : Variable) (i : VariableInfo) → L z.number ≡ true → info S z.number ≡ Some i → i.kind ≡ Term z.sort → z.number ≡ v.number → z ≡ v
  same_number z i c there kind n = by (numbered_head S L v (H.Infer z) k (rw (c, there, kind) (ap not (same_sort_itself z.sort))) (eq-eqb z.number v.number n))
    where
      by : H.Infer z ≡ H.Infer v → z ≡ v
      by e = cc

  bound_extends : (z : Variable) (j : VariableInfo) (x : Tree) → L z.number ≡ true → info (bound S v t) z.number ≡ Some j → j.kind ≡ Term z.sort → j.value ≡ Some x
      → erase (apply s (variable_tree z)) ≡ erase (apply s (alone x))
  bound_extends z j x c there kind value =
      let b = before S v t z.number j there in
      at b.old b.there (ap (λ (i : VariableInfo). i.kind) b.is ∙ kind) (value_after S v t z.number b.old x (ap (λ (i : VariableInfo). i.value) b.is ∙ value))
    where
      at : (i : VariableInfo) → info S z.number ≡ Some i → i.kind ≡ Term z.sort → ValueAfter S v t z.number i x → erase (apply s (variable_tree z)) ≡ erase (apply s (alone x))
      at i there kind (own n f) =
          ap (λ (w : Variable). erase (alone (value_under s w))) (same_number z i c there kind n)
          ∙ e ∙ sym (made_is s (alone t) leaves) ∙ ap (λ w. erase (apply s (alone w))) f
      at i there kind (put y n f g) =
          let l : AreLeaves (alone y) = leafy z.number i y c there f in
          m.extends z i y c there kind f ∙ made_is s (alone y) l ∙ sym (single_absorbed y l)
          ∙ sym (made_is s (alone (valued_tree (single v t) y)) (single_leaves v t y leaves l)) ∙ ap (λ w. erase (apply s (alone w))) g

  pub bound_met : IsMet (bound S v t) L s
  bound_met = record { allowed = λ w q. bound_allowed w (sym (unknown_bound S v t L (H.Infer w)) ∙ q); extends = bound_extends }

-- Two trees meet

abbrev pub Equals : Substitution → Pair → Type 0
Equals s p = made s p.left ≡ made s p.right

pub record Solved (S : State) (L : Live) (ps : List Pair) (s : Substitution) : Type 0 where
  pub met : IsMet S L s
  pub equal : All (Equals s) ps

abbrev pub Carried : Live → Substitution → Visit → Type 0
Carried L s Done = Unit {0}
Carried L s Refused = ⊥
Carried L s (Left T more) = Solved T L more s

entered_met : (S : State) (L : Live) (s : Substitution) (h : Head) (a : Forest) → IsMet S L s → IsMet (entered S h a) L s
entered_met S L s h a m = at (has_binder h && has_variables a)
  where
    at : (b : Bool) → IsMet (if b then with_universe S else S) L s
    at true = record { allowed = m.allowed; extends = m.extends }
    at false = m

regions_met : (S : State) (L : Live) (s : Substitution) (r q : Tree) → IsMet S L s → IsMet (with_equal_regions S r q) L s
regions_met S L s r q m = at (same_head r.head q.head)
  where
    at : (b : Bool) → IsMet (if b then S else record S { regions = S.regions ++ outlives r q ∷ outlives q r ∷ [] }) L s
    at true = m
    at false = record { allowed = m.allowed; extends = m.extends }

pub rows_apart : (x y : Tree) (r q : Forest) → erase (begin x r) ≡ erase (begin y q) → (erase (alone x) ≡ erase (alone y)) × (erase r ≡ erase q)
rows_apart x y r q e = at (erased_head x.head) (erased_head y.head) (erase x.children) (erase y.children) (erase r) (erase q) e
  where
    at : (h g : Head) (a b c d : Forest) → tree h a c ≡ tree g b d → (tree h a none ≡ tree g b none) × (c ≡ d)
    at h g a b c d e = let i : h ≡ g = cc in let j : a ≡ b = cc in let k : c ≡ d = cc in (ap (λ h. tree h a none) i ∙ ap (λ a. tree g a none) j, k)

below_same : (s : Substitution) (h : Head) (a b : Forest) → (is_leaf h ≡ true → a ≡ none) → (is_leaf h ≡ true → b ≡ none) → made s (tree h a none) ≡ made s (tree h b none) → made s a ≡ made s b
below_same s (H.Infer v) a b l k e = ap (made s) (l refl) ∙ sym (ap (made s) (k refl))
below_same s h a b l k e = at (erased_head h) (made s a) (made s b) e
  where
    at : (h : Head) (a b : Forest) → tree h a none ≡ tree h b none → a ≡ b
    at h a b e = cc

module _ (l : Listing) (listing : IsListing l) (S : State) (L : Live) (us : Scope) (sound : IsSound S L) (fits : ValuesFit S L) (leafy : HasLeafValues S L) (s : Substitution) (m : IsMet S L s)
    (p q : Tree) (left : Side S L us (alone p)) (right : Side S L us (alone q)) (e : made s (alone p) ≡ made s (alone q)) where
  absorbs : Absorbs (assigned s) S L
  absorbs = met_absorbs S L s fits leafy m

  abbrev x : Tree
  x = current l S p

  abbrev y : Tree
  y = current l S q

  at_x : Rooted S L us p x
  at_x = found S L us sound fits leafy l p left

  at_y : Rooted S L us q y
  at_y = found S L us sound fits leafy l q right

  same : made s (alone x) ≡ made s (alone y)
  same = rooted_same S L us (assigned s) absorbs p x left at_x ∙ e ∙ sym (rooted_same S L us (assigned s) absorbs q y right at_y)

  for_y : IsOffered S L us y (value_for l S us y)
  for_y = offered_for l listing S L us sound fits leafy y at_y.side at_y.free

  for_x : IsOffered S L us x (value_for l S us x)
  for_x = offered_for l listing S L us sound fits leafy x at_x.side at_x.free

  x_known : is_unknown S L x.head ≡ false
  x_known = less_unknown S L x.head (holds_parts (is_strange S L) x.head x.children none at_x.side.known).here

  y_known : is_unknown S L y.head ≡ false
  y_known = less_unknown S L y.head (holds_parts (is_strange S L) y.head y.children none at_y.side.known).here

  children_same : x.head ≡ y.head → made s x.children ≡ made s y.children
  children_same h =
      below_same s x.head x.children y.children at_x.side.leaves.0 (subst (λ g. is_leaf g ≡ true → y.children ≡ none) (sym h) at_y.side.leaves.0)
      (same ∙ ap (λ g. made s (tree g y.children none)) (sym h))

  module _ (more : List Pair) (rest : All (Equals s) more) where
    carries : (V : Visit) → Met S us x y (value_for l S us y) (value_for l S us x) more V → Carried L s V
    carries _ (by_left v is may) = record {
      met = bound_met S L s leafy m v (value_for l S us y) (ap (is_unknown S L) (sym is) ∙ x_known) for_y.known for_y.leaves
          (sym (made_variable s x v is) ∙ same ∙ sym (for_y.same (assigned s) absorbs (is_quiet s)));
      equal = rest;
    }
    carries _ (by_right v is may) = record {
      met = bound_met S L s leafy m v (value_for l S us x) (ap (is_unknown S L) (sym is) ∙ y_known) for_x.known for_x.leaves
          (sym (made_variable s y v is) ∙ sym same ∙ sym (for_x.same (assigned s) absorbs (is_quiet s)));
      equal = rest;
    }
    carries _ (regions i j) = record { met = regions_met S L s (placed_tree us x) (placed_tree us y) m; equal = rest }
    carries _ (below h n) = record {
      met = entered_met S L s x.head x.children m;
      equal = All-cons (Equals s) (record { scope = scope_below S us x.head x.children; left = x.children; right = y.children }) more (children_same h) rest;
    }
    carries _ (stuck f g n apart) = not_stuck S L us s m absorbs x y (value_for l S us y) (value_for l S us x) x_known y_known for_y for_x same f g n apart

    pub met_carries : Carried L s (met l S us x y more)
    met_carries = carries (met l S us x y more) (meeting l S us x y more)

-- One look

pub left_side : (S : State) (L : Live) (p : Pair) → PairStands S L p → IsPlain S p → Side S L p.scope p.left
left_side S L p a b = record { known = a.left; is_closed = a.left_closed; leaves = b.left_has_leaves; no_alias = b.left_has_no_alias }

pub right_side : (S : State) (L : Live) (p : Pair) → PairStands S L p → IsPlain S p → Side S L p.scope p.right
right_side S L p a b = record { known = a.right; is_closed = a.right_closed; leaves = b.right_has_leaves; no_alias = b.right_has_no_alias }

pub look_carries : (l : Listing) → IsListing l → (S : State) (L : Live) (ps : List Pair) (s : Substitution) → Stands S L ps → ArePlain S L ps → Solved S L ps s → Carried L s (visited l S ps)
look_carries l listing S L [] s stands plain solved = tt
look_carries l listing S L (p ∷ more) s stands plain solved =
    at p.left p.right (left_side S L p pair looks) (right_side S L p pair looks) (All-head (Equals s) p more solved.equal)
  where
    pair : PairStands S L p
    pair = All-head (PairStands S L) p more stands.pairs

    looks : IsPlain S p
    looks = All-head (IsPlain S) p more plain.pairs

    rest : All (Equals s) more
    rest = All-tail (Equals s) p more solved.equal

    at : (a b : Forest) → Side S L p.scope a → Side S L p.scope b → made s a ≡ made s b → Carried L s (visited l S (record p { left = a; right = b } ∷ more))
    at none none i j e = record { met = solved.met; equal = rest }
    at none (tree g b q) i j e = cc
    at (tree h a r) none i j e = cc
    at (tree h a r) (tree g b q) i j e =
        let x : Tree = record { head = h; children = a } in
        let y : Tree = record { head = g; children = b } in
        let d = rows_apart (node (assigned s) h (put_in (assigned s) a)) (node (assigned s) g (put_in (assigned s) b)) (put_in (assigned s) r) (put_in (assigned s) q) e in
        met_carries l listing S L p.scope stands.sound stands.fits plain.values s solved.met x y (first_side S L p.scope h a r i) (first_side S L p.scope g b q j) d.0
        (record p { left = r; right = q } ∷ more) (All-cons (Equals s) (record p { left = r; right = q }) more d.1 rest)
