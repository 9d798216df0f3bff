-- After a look no alias is left on a side, and variables and regions are leaves, as before it.
use Rattle.std.proofs.Common.{◌≡◌, ◌+◌, Bool, true, false, ◌&&◌, Some, None, List, [], ◌∷◌, ◌++◌, get_or, refl, sym, ap, subst, ◌∙◌, if◌then◌else◌}
use Rattle.std.specs.Option.{unwrap_or}
use Rattle.std.specs.List.{All}
use Rattle.std.proofs.lemmas.List.Elements.{All-cons, All-head, All-tail}
use Rattle.ir_trees.specs.declared.ir.heads.Head.{Head}
use Rattle.ir_trees.specs.declared.ir.heads.Head.TheVariants as H
use Rattle.ir_trees.specs.declared.ir.heads.Variable.{Variable}
use Rattle.ir_trees.specs.Syntax.Trees.{Forest, none, tree, Tree, holds, is_alias, binders_of}
use Rattle.ir_trees.specs.Instantiation.Folding.{fold}
use Rattle.ir_trees.specs.Unification.Unify.{same_head}
use Rattle.ir_trees.specs.Unification.Substitutions.{alone}
use Rattle.candidate_eval.specs.Judges.States.{State, VariableInfo, value_at, resolved, with_universe}
use Rattle.candidate_eval.specs.Judges.Alike.{info}
use Rattle.candidate_eval.specs.Judges.Soundness.{Live, AreLeaves, is_region, is_strange}
use Rattle.candidate_eval.specs.Judges.Lawful.{HasLeafValues}
use Rattle.candidate_eval.specs.Interface.Evaluators.{root_value}
use Rattle.candidate_eval.proofs.Marks.Holds.{holds_parts}
use Rattle.rounds_judge.specs.Aliases.Listed.{Listing, current}
use Rattle.rounds_judge.specs.Equations.Scopes.{Scope, placed_tree, entered, has_binder, has_variables, scope_below}
use Rattle.rounds_judge.specs.Equations.Binding.{single, bound}
use Rattle.rounds_judge.specs.Equations.Equating.{Pair, Visit, Done, Refused, Left, value_for, outlives, with_equal_regions, met, visited}
use Rattle.rounds_judge.specs.Equations.Standing.{IsListing, PairStands, Stands, IsPlain, ArePlain}
use Rattle.rounds_judge.proofs.States.Marks.{fold_marked, same_depth}
use Rattle.rounds_judge.proofs.States.Bound.{CanTake, ValueAfter, own, put, before, value_after, single_is, resolved_bound}
use Rattle.rounds_judge.proofs.Equations.Meeting.{Met, by_left, by_right, regions, below, stuck, meeting}
use Rattle.rounds_judge.proofs.Equations.Sides.{Side, first_side, other_sides, Rooted, found}
use Rattle.rounds_judge.proofs.Equations.Offered.{IsOffered, offered_for}
use Rattle.rounds_judge.proofs.Unifiers.Carrying.{single_leaves, left_side, right_side}
use Rattle.rounds_judge.proofs.Equations.Looks.{left_takes, right_takes, others_stand}

-- A variable gets a value

module _ (S : State) (L : Live) (v : Variable) (t : Tree) (can : CanTake S L v t) (no_alias : holds is_alias (alone t) ≡ false) (leaves : AreLeaves (alone t)) where
  alias_bound : (ts : Forest) → holds (is_strange S L) ts ≡ false → holds is_alias (resolved S ts) ≡ false → holds is_alias (resolved (bound S v t) ts) ≡ false
  alias_bound ts k n =
      ap (holds is_alias) (resolved_bound S L v t can ts k)
      ∙ fold_marked (λ _ u. single v t u.head) is_alias is_alias is_alias (λ d x a b f. a) (λ d x u a b f. subst (λ z. holds is_alias (alone z) ≡ false) (single_is v t x.head u f).1 no_alias) 0 (resolved S ts) n n

  values_bound : HasLeafValues S L → HasLeafValues (bound S v t) L
  values_bound leafy n j x c there value =
      let b = before S v t n j there in
      at b.old b.there (value_after S v t n b.old x (ap (λ (i : VariableInfo). i.value) b.is ∙ value))
    where
      at : (i : VariableInfo) → info S n ≡ Some i → ValueAfter S v t n i x → AreLeaves (alone x)
      at i there (own m f) = subst (λ z. AreLeaves (alone z)) f leaves
      at i there (put y m f g) = subst (λ z. AreLeaves (alone z)) g (single_leaves v t y leaves (leafy n i y c there f))

  plain_bound : (p : Pair) → PairStands S L p → IsPlain S p → IsPlain (bound S v t) p
  plain_bound p a b = record {
    left_has_no_alias = alias_bound p.left a.left b.left_has_no_alias;
    right_has_no_alias = alias_bound p.right a.right b.right_has_no_alias;
    left_has_leaves = b.left_has_leaves;
    right_has_leaves = b.right_has_leaves;
  }

  bound_plain : (ps : List Pair) → All (PairStands S L) ps → HasLeafValues S L → All (IsPlain S) ps → ArePlain (bound S v t) L ps
  bound_plain ps a leafy b = record { pairs = λ k d lt. plain_bound (get_or ps k d) (a k d lt) (b k d lt); values = values_bound leafy }

-- Other looks give no value.

plain_same : (S T : State) (ps : List Pair) → T.variables ≡ S.variables → All (IsPlain S) ps → All (IsPlain T) ps
plain_same S T ps e a = λ k d lt. at (get_or ps k d) (a k d lt)
  where
    same : (ts : Forest) → holds is_alias (resolved S ts) ≡ false → holds is_alias (resolved T ts) ≡ false
    same ts n = subst (λ vs. holds is_alias (resolved (record T { variables = vs }) ts) ≡ false) (sym e) n

    at : (p : Pair) → IsPlain S p → IsPlain T p
    at p b = record { left_has_no_alias = same p.left b.left_has_no_alias; right_has_no_alias = same p.right b.right_has_no_alias; left_has_leaves = b.left_has_leaves; right_has_leaves = b.right_has_leaves }

values_same : (S T : State) (L : Live) → T.variables ≡ S.variables → HasLeafValues S L → HasLeafValues T L
values_same S T L e leafy = subst (λ vs. HasLeafValues (record T { variables = vs }) L) (sym e) leafy

pub entered_variables : (S : State) (h : Head) (a : Forest) → (entered S h a).variables ≡ S.variables
entered_variables S h a = at (has_binder h && has_variables a)
  where
    at : (b : Bool) → (if b then with_universe S else S).variables ≡ S.variables
    at true = refl
    at false = refl

pub regions_variables : (S : State) (r q : Tree) → (with_equal_regions S r q).variables ≡ S.variables
regions_variables S r q = at (same_head r.head q.head)
  where
    at : (b : Bool) → (if b then S else record S { regions = S.regions ++ outlives r q ∷ outlives q r ∷ [] }).variables ≡ S.variables
    at true = refl
    at false = refl

-- Two trees meet

pub unvalued_head : (S : State) (h : Head) → is_region h ≡ false → root_value S h ≡ None → value_at S h ≡ None
unvalued_head S (H.Infer v) n e = e
unvalued_head S (H.Region r) n e = cc
unvalued_head S h n e = refl

below_no_alias : (S : State) (x : Tree) → value_at S x.head ≡ None → holds is_alias (resolved S (alone x)) ≡ false → holds is_alias (resolved S x.children) ≡ false
below_no_alias S x e n =
    let inner : Forest = fold (λ d u. value_at S u.head) (0 + binders_of x.head) x.children in
    let bare : holds is_alias (tree x.head inner none) ≡ false = ap (λ o. holds is_alias (alone (unwrap_or o (record { head = x.head; children = inner })))) (sym e) ∙ n in
    ap (holds is_alias) (same_depth (value_at S) 0 (0 + binders_of x.head) x.children) ∙ (holds_parts is_alias x.head inner none bare).under

abbrev pub Plainly : Live → Visit → Type 0
Plainly L Done = Unit {0}
Plainly L Refused = Unit {0}
Plainly L (Left T more) = ArePlain T L more

module _ (l : Listing) (listing : IsListing l) (L : Live) (S : State) (us : Scope) (h g : Head) (a r b q : Forest) (more : List Pair)
    (st : Stands S L (record { scope = us; left = tree h a r; right = tree g b q } ∷ more)) (pl : ArePlain S L (record { scope = us; left = tree h a r; right = tree g b q } ∷ more)) where
  abbrev pair : Pair
  pair = record { scope = us; left = tree h a r; right = tree g b q }

  abbrev others : List Pair
  others = record { scope = us; left = r; right = q } ∷ more

  pub left : Side S L us (tree h a r)
  left = left_side S L pair (All-head (PairStands S L) pair more st.pairs) (All-head (IsPlain S) pair more pl.pairs)

  pub right : Side S L us (tree g b q)
  right = right_side S L pair (All-head (PairStands S L) pair more st.pairs) (All-head (IsPlain S) pair more pl.pairs)

  abbrev x : Tree
  x = current l S (record { head = h; children = a })

  abbrev y : Tree
  y = current l S (record { head = g; children = b })

  pub at_x : Rooted S L us (record { head = h; children = a }) x
  at_x = found S L us st.sound st.fits pl.values l (record { head = h; children = a }) (first_side S L us h a r left)

  pub at_y : Rooted S L us (record { head = g; children = b }) y
  at_y = found S L us st.sound st.fits pl.values l (record { head = g; children = b }) (first_side S L us g b q right)

  pub for_x : IsOffered S L us x (value_for l S us x)
  for_x = offered_for l listing S L us st.sound st.fits pl.values x at_x.side at_x.free

  pub for_y : IsOffered S L us y (value_for l S us y)
  for_y = offered_for l listing S L us st.sound st.fits pl.values y at_y.side at_y.free

  others_plain : All (IsPlain S) others
  others_plain =
      let i = other_sides S L us h a r left in
      let j = other_sides S L us g b q right in
      All-cons (IsPlain S) (record { scope = us; left = r; right = q }) more (record { left_has_no_alias = i.no_alias; right_has_no_alias = j.no_alias; left_has_leaves = i.leaves; right_has_leaves = j.leaves })
      (All-tail (IsPlain S) pair more pl.pairs)

  others_there : All (PairStands S L) others
  others_there = others_stand l listing L S us h g a r b q more st

  same_plain : (T : State) → T.variables ≡ S.variables → ArePlain T L others
  same_plain T e = record { pairs = plain_same S T others e others_plain; values = values_same S T L e pl.values }

  children_plain : x.head ≡ y.head → is_region x.head ≡ false → IsPlain S (record { scope = scope_below S us x.head x.children; left = x.children; right = y.children })
  children_plain e n = record {
    left_has_no_alias = below_no_alias S x (unvalued_head S x.head n at_x.free) at_x.side.no_alias;
    right_has_no_alias = below_no_alias S y (unvalued_head S y.head (ap is_region (sym e) ∙ n) at_y.free) at_y.side.no_alias;
    left_has_leaves = at_x.side.leaves.1;
    right_has_leaves = at_y.side.leaves.1;
  }

  stays : (V : Visit) → Met S us x y (value_for l S us y) (value_for l S us x) others V → Plainly L V
  stays _ (by_left v is may) =
      bound_plain S L v (value_for l S us y) (left_takes l listing L S us h g a r b q more st v is may) for_y.no_alias for_y.leaves others others_there pl.values others_plain
  stays _ (by_right v is may) =
      bound_plain S L v (value_for l S us x) (right_takes l listing L S us h g a r b q more st v is may) for_x.no_alias for_x.leaves others others_there pl.values others_plain
  stays _ (regions i j) = same_plain (with_equal_regions S (placed_tree us x) (placed_tree us y)) (regions_variables S (placed_tree us x) (placed_tree us y))
  stays _ (below e n) =
      let p : Pair = record { scope = scope_below S us x.head x.children; left = x.children; right = y.children } in
      let T : State = entered S x.head x.children in
      let same = entered_variables S x.head x.children in
      record { pairs = plain_same S T (p ∷ others) same (All-cons (IsPlain S) p others (children_plain e n) others_plain); values = values_same S T L same pl.values }
  stays _ (stuck f i n apart) = tt

  pub met_stays : Plainly L (met l S us x y others)
  met_stays = stays (met l S us x y others) (meeting l S us x y others)

-- One look keeps that no alias is left, and leaves.
pub look_stays : (l : Listing) → IsListing l → (S : State) (L : Live) (ps : List Pair) → Stands S L ps → ArePlain S L ps → Plainly L (visited l S ps)
look_stays l listing S L [] st pl = tt
look_stays l listing S L (p ∷ more) st pl = at p.left p.right st pl
  where
    at : (a b : Forest) → Stands S L (record p { left = a; right = b } ∷ more) → ArePlain S L (record p { left = a; right = b } ∷ more) → Plainly L (visited l S (record p { left = a; right = b } ∷ more))
    at none none st pl = record { pairs = All-tail (IsPlain S) (record p { left = none; right = none }) more pl.pairs; values = pl.values }
    at none (tree g b q) st pl = tt
    at (tree h a r) none st pl = tt
    at (tree h a r) (tree g b q) st pl = met_stays l listing L S p.scope h g a r b q more st pl
