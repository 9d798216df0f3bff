-- Where what is left after a look becomes equal, all that was there before it becomes equal.
use Rattle.candidate_eval.specs.Judges.Alike.{info}
use Rattle.std.proofs.Common.{◌≡◌, ℕ, zero, suc, true, false, Option, Some, None, List, [], ◌∷◌, refl, sym, ap, subst, ◌∙◌}
use Rattle.std.specs.Option.{unwrap_or}
use Rattle.std.specs.List.{All}
use Rattle.std.proofs.lemmas.List.Elements.{All-cons, All-head, All-tail, All-nil}
use Rattle.ir_trees.specs.declared.ir.heads.Head.{Head}
use Rattle.ir_trees.specs.declared.ir.heads.Head.TheVariants as H
use Rattle.ir_trees.specs.declared.ir.heads.Variable.{Variable}
use Rattle.ir_trees.specs.declared.ir.kinds.RegionKind.{RegionKind}
use Rattle.ir_trees.specs.declared.ir.kinds.RegionKind.TheVariants as R
use Rattle.ir_trees.specs.Syntax.Trees.{Forest, none, tree, Tree, erase, holds}
use Rattle.ir_trees.specs.Instantiation.Folding.{leaf}
use Rattle.ir_trees.specs.Unification.Substitutions.{alone}
use Rattle.candidate_eval.specs.declared.eval.variable.VariableKind.TheVariants.{Region}
use Rattle.candidate_eval.specs.Judges.States.{State, value_as, value_at, resolved}
use Rattle.candidate_eval.specs.Judges.Soundness.{Live, ValuesFit, AreLeaves, IsLater, is_leaf, is_region, is_strange}
use Rattle.candidate_eval.specs.Judges.Lawful.{HasLeafValues}
use Rattle.candidate_eval.proofs.Marks.Holds.{holds_parts}
use Rattle.rounds_judge.specs.Aliases.Listed.{Listing, current}
use Rattle.rounds_judge.specs.Equations.Scopes.{Scope, scope_below}
use Rattle.rounds_judge.specs.Equations.Binding.{bound}
use Rattle.rounds_judge.specs.Equations.Equating.{Pair, Visit, Done, Refused, Left, value_for, met, visited, looked}
use Rattle.rounds_judge.specs.Equations.Standing.{IsListing, Stands, ArePlain}
use Rattle.rounds_judge.proofs.States.Marks.{whole}
use Rattle.rounds_judge.proofs.States.Later.{known_later, has_info, fits_later}
use Rattle.rounds_judge.proofs.States.Bound.{strange_bound, value_given}
use Rattle.rounds_judge.proofs.Unifiers.Putting.{node, put_in, valued_is, erased_row, erased_node}
use Rattle.rounds_judge.proofs.Equations.Meeting.{Met, by_left, by_right, regions, below, stuck, meeting}
use Rattle.rounds_judge.proofs.Equations.Sides.{first_side, Absorbs, IsQuiet, Rooted, rooted_same, value_leaves}
use Rattle.rounds_judge.proofs.Equations.Offered.{IsOffered}
use Rattle.rounds_judge.proofs.Unifiers.Solving.{leaf_region, value_fits}
use Rattle.rounds_judge.proofs.Equations.Staying.{left, right, at_x, at_y, for_x, for_y, Plainly, look_stays}
use Rattle.rounds_judge.proofs.Equations.Looks.{looked_keeps, visited_stands}

-- what trees are at a state, up to regions
abbrev pub ended : State → Forest → Forest
ended U ts = erase (put_in (value_at U) ts)

abbrev pub EndEqual : State → Pair → Type 0
EndEqual U p = ended U p.left ≡ ended U p.right

later_absorbs : (S U : State) (L : Live) → IsLater S U L → Absorbs (value_at U) S L
later_absorbs S U L later h t k e =
    let ts : Forest = tree h none none in
    let known : holds (is_strange S L) ts ≡ false = whole (is_strange S L) h none none k refl refl in
    let same : resolved S ts ≡ alone t = ap (λ o. alone (unwrap_or o (leaf h))) e in
    sym (ap erase (valued_is (value_at U) (alone t))) ∙ ap (λ ts. erase (resolved U ts)) (sym same) ∙ ap erase (later.values ts known) ∙ ap erase (valued_is (value_at U) ts)

quiet_values : (U : State) → IsQuiet (value_at U)
quiet_values U = record { bound = λ v. refl; placeholder = λ p. refl }

-- Regions are regions still.

bare_region : (t : Tree) → is_region t.head ≡ true → AreLeaves (alone t) → erase (alone t) ≡ tree (H.Region R.Static) none none
bare_region t is l = at t.head t.children is (l.0 (leaf_region t.head is))
  where
    at : (h : Head) (c : Forest) → is_region h ≡ true → c ≡ none → erase (tree h c none) ≡ tree (H.Region R.Static) none none
    at (H.Region r) c e f = ap (λ c. erase (tree (H.Region r) c none)) f
    at _ c e f = cc

ended_region : (U : State) (L : Live) → ValuesFit U L → HasLeafValues U L → (x : Tree) → is_region x.head ≡ true → holds (is_strange U L) (alone x) ≡ false → AreLeaves (alone x)
    → ended U (alone x) ≡ tree (H.Region R.Static) none none
ended_region U L fits leafy x is k l = at x.head x.children is (holds_parts (is_strange U L) x.head x.children none k).here (l.0 (leaf_region x.head is))
  where
    by : (n : ℕ) (o : Option Tree) → is_strange U L (H.Region (R.Var n)) ≡ false → value_as U Region n ≡ o → erase (alone (unwrap_or o (leaf (H.Region (R.Var n))))) ≡ tree (H.Region R.Static) none none
    by n None k e = refl
    by n (Some t) k e = bare_region t (value_fits U L fits Region n t (has_info (L n) Region (info U n) k).2 e) (value_leaves U L leafy (H.Region (R.Var n)) t k e)

    kinds : (r : RegionKind) → is_strange U L (H.Region r) ≡ false → ended U (tree (H.Region r) none none) ≡ tree (H.Region R.Static) none none
    kinds (R.Var n) k = by n (value_as U Region n) k refl
    kinds _ k = refl

    at : (h : Head) (c : Forest) → is_region h ≡ true → is_strange U L h ≡ false → c ≡ none → ended U (tree h c none) ≡ tree (H.Region R.Static) none none
    at (H.Region r) c e k f = ap (λ c. ended U (tree (H.Region r) c none)) f ∙ kinds r k
    at _ c e k f = cc

-- Two trees meet

abbrev pub Closes : State → Live → List Pair → Visit → Type 0
Closes U L ps Done = All (EndEqual U) ps
Closes U L ps Refused = Unit {0}
Closes U L ps (Left T more) = IsLater T U L → All (EndEqual U) more → All (EndEqual U) ps

module _ (l : Listing) (listing : IsListing l) (L : Live) (S : State) (us : Scope) (h g : Head) (a r b q : Forest) (more : List Pair)
    (st : Stands S L (record { scope = us; left = tree h a r; right = tree g b q } ∷ more)) (pl : ArePlain S L (record { scope = us; left = tree h a r; right = tree g b q } ∷ more))
    (U : State) (later : IsLater S U L) (leafy : HasLeafValues U L) where
  abbrev pair : Pair
  pair = record { scope = us; left = tree h a r; right = tree g b q }

  abbrev others : List Pair
  others = record { scope = us; left = r; right = q } ∷ more

  abbrev x : Tree
  x = current l S (record { head = h; children = a })

  abbrev y : Tree
  y = current l S (record { head = g; children = b })

  root_x : Rooted S L us (record { head = h; children = a }) x
  root_x = at_x l listing L S us h g a r b q more st pl

  root_y : Rooted S L us (record { head = g; children = b }) y
  root_y = at_y l listing L S us h g a r b q more st pl

  offered_x : IsOffered S L us x (value_for l S us x)
  offered_x = for_x l listing L S us h g a r b q more st pl

  offered_y : IsOffered S L us y (value_for l S us y)
  offered_y = for_y l listing L S us h g a r b q more st pl

  absorbs : Absorbs (value_at U) S L
  absorbs = later_absorbs S U L later

  -- where the trees at the roots become equal, and what is left does
  joined : ended U (alone x) ≡ ended U (alone y) → All (EndEqual U) others → All (EndEqual U) (pair ∷ more)
  joined e rest =
      let p : Tree = record { head = h; children = a } in
      let o : Tree = record { head = g; children = b } in
      let first : ended U (alone p) ≡ ended U (alone o) =
      sym (rooted_same S L us (value_at U) absorbs p x (first_side S L us h a r (left l listing L S us h g a r b q more st pl)) root_x) ∙ e
      ∙ rooted_same S L us (value_at U) absorbs o y (first_side S L us g b q (right l listing L S us h g a r b q more st pl)) root_y in
      let others_equal : ended U r ≡ ended U q = All-head (EndEqual U) (record { scope = us; left = r; right = q }) more rest in
      All-cons (EndEqual U) pair more
      (erased_row (node (value_at U) h (put_in (value_at U) a)) (node (value_at U) g (put_in (value_at U) b)) (put_in (value_at U) r) (put_in (value_at U) q) first others_equal)
      (All-tail (EndEqual U) (record { scope = us; left = r; right = q }) more rest)

  -- a variable becomes what it took
  taken_equal : (z : Tree) (v : Variable) (t : Tree) → z.head ≡ H.Infer v → holds (is_strange S L) (alone z) ≡ false → AreLeaves (alone z) → IsLater (bound S v t) U L → ended U (alone z) ≡ ended U (alone t)
  taken_equal z v t is k leaves after =
      let own : is_strange S L (H.Infer v) ≡ false = ap (is_strange S L) (sym is) ∙ (holds_parts (is_strange S L) z.head z.children none k).here in
      ap (λ c. ended U (tree z.head c none)) (leaves.0 (ap is_leaf is)) ∙ ap (λ h. ended U (tree h none none)) is
      ∙ sym (later_absorbs (bound S v t) U L after (H.Infer v) t (strange_bound S v t L (H.Infer v) ∙ own) (value_given S v t L own))

  both_regions : is_region x.head ≡ true → is_region y.head ≡ true → ended U (alone x) ≡ ended U (alone y)
  both_regions i j =
      let fits = fits_later later st.fits in
      ended_region U L fits leafy x i (known_later S U L L (λ n lt c. c) later (alone x) root_x.side.known) root_x.side.leaves
      ∙ sym (ended_region U L fits leafy y j (known_later S U L L (λ n lt c. c) later (alone y) root_y.side.known) root_y.side.leaves)

  same_below : x.head ≡ y.head → ended U x.children ≡ ended U y.children → ended U (alone x) ≡ ended U (alone y)
  same_below e f =
      erased_node (value_at U) x.head (put_in (value_at U) x.children) (put_in (value_at U) y.children) f
      ∙ ap (λ h. ended U (tree h y.children none)) e

  closes : (V : Visit) → Met S us x y (value_for l S us y) (value_for l S us x) others V → Closes U L (pair ∷ more) V
  closes _ (by_left v is may) = λ after rest. joined
      (taken_equal x v (value_for l S us y) is root_x.side.known root_x.side.leaves after ∙ offered_y.same (value_at U) absorbs (quiet_values U)) rest
  closes _ (by_right v is may) = λ after rest. joined
      (sym (taken_equal y v (value_for l S us x) is root_y.side.known root_y.side.leaves after ∙ offered_x.same (value_at U) absorbs (quiet_values U))) rest
  closes _ (regions i j) = λ after rest. joined (both_regions i j) rest
  closes _ (below e n) = λ after rest.
      let p : Pair = record { scope = scope_below S us x.head x.children; left = x.children; right = y.children } in
      joined (same_below e (All-head (EndEqual U) p others rest)) (All-tail (EndEqual U) p others rest)
  closes _ (stuck f i n apart) = tt

  pub met_closes : Closes U L (pair ∷ more) (met l S us x y others)
  met_closes = closes (met l S us x y others) (meeting l S us x y others)

-- One look
pub look_closes : (l : Listing) → IsListing l → (S U : State) (L : Live) (ps : List Pair) → Stands S L ps → ArePlain S L ps → IsLater S U L → HasLeafValues U L → Closes U L ps (visited l S ps)
look_closes l listing S U L [] st pl later leafy = All-nil (EndEqual U)
look_closes l listing S U L (p ∷ more) st pl later leafy = at p.left p.right st pl
  where
    at : (a b : Forest) → Stands S L (record p { left = a; right = b } ∷ more) → ArePlain S L (record p { left = a; right = b } ∷ more)
        → Closes U L (record p { left = a; right = b } ∷ more) (visited l S (record p { left = a; right = b } ∷ more))
    at none none st pl = λ after rest. All-cons (EndEqual U) (record p { left = none; right = none }) more refl rest
    at none (tree g b q) st pl = tt
    at (tree h a r) none st pl = tt
    at (tree h a r) (tree g b q) st pl = met_closes l listing L S p.scope h g a r b q more st pl U later leafy

-- All looks

pub record Ended (U : State) (L : Live) (ps : List Pair) : Type 0 where
  pub values : HasLeafValues U L
  pub equal : All (EndEqual U) ps

pub looked_closes : (l : Listing) → IsListing l → (L : Live) (n : ℕ) (S U : State) (ps : List Pair) → Stands S L ps → ArePlain S L ps → looked l n S ps ≡ Some U → Ended U L ps
looked_closes l listing L zero S U ps st pl e = cc
looked_closes l listing L (suc n) S U ps st pl e =
    at (visited l S ps) refl (λ T more st pl e. looked_closes l listing L n T U more st pl e) (look_stays l listing S L ps st pl) (look_closes l listing S U L ps st pl (looked_keeps l listing L (suc n) S U ps st e).later) e
  where
    at : (V : Visit) → visited l S ps ≡ V → ((T : State) (more : List Pair) → Stands T L more → ArePlain T L more → looked l n T more ≡ Some U → Ended U L more)
        → Plainly L V → (HasLeafValues U L → Closes U L ps V) → elim V [ Done ↦ Some S | Refused ↦ None | Left T more ↦ looked l n T more ] ≡ Some U → Ended U L ps
    at Done f ih p c e =
        let same : S ≡ U = cc in
        let leafy : HasLeafValues U L = subst (λ U. HasLeafValues U L) same pl.values in
        record { values = leafy; equal = c leafy }
    at Refused f ih p c e = cc
    at (Left T more) f ih p c e =
        let stands = visited_stands l listing L S T ps more st f in
        let i = ih T more stands p e in
        record { values = i.values; equal = c i.values (looked_keeps l listing L n T U more stands e).later i.equal }
