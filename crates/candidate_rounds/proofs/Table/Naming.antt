-- What stands for the variables that a response leaves open.
use Rattle.std.proofs.Common.{◌≡◌, ◌≤◌, ◌<◌, ◌+◌, ℕ, suc, Bool, true, false, ◌&&◌, nat_lt, List, [], ◌∷◌, ◌++◌, length, drop, map, slice_index_or, append_assoc, Option, Some, None, Result, Ok, Err, if◌then◌else◌, inl, inr, refl, sym, ◌∙◌, ap, subst, arith}
use Rattle.std.specs.Prelude.{IfErr}
use Rattle.std.specs.Option.{unwrap_or}
use Rattle.std.proofs.lemmas.Bool.{le-ltb, lt-ltb, ltb-false}
use Rattle.std.proofs.lemmas.List.{append-nil}
use Rattle.std.proofs.Math.Nat.{max-le}
use Rattle.ir_trees.specs.declared.ir.heads.ConstHead.{ConstHead}
use Rattle.ir_trees.specs.declared.ir.heads.ConstHead.TheVariants as C
use Rattle.ir_trees.specs.declared.ir.heads.Head.{Head}
use Rattle.ir_trees.specs.declared.ir.heads.Head.TheVariants as H
use Rattle.ir_trees.specs.declared.ir.heads.VariableSort.{VariableSort}
use Rattle.ir_trees.specs.declared.ir.heads.VariableSort.TheVariants as V
use Rattle.ir_trees.specs.declared.ir.kinds.GenericArg.{GenericArg}
use Rattle.ir_trees.specs.declared.ir.kinds.Placeholder.{Placeholder}
use Rattle.ir_trees.specs.declared.ir.kinds.RegionKind.{RegionKind}
use Rattle.ir_trees.specs.declared.ir.kinds.RegionKind.TheVariants as R
use Rattle.ir_trees.specs.declared.ir.kinds.VarKind.{VarKind}
use Rattle.ir_trees.specs.declared.ir.kinds.VarKind.TheVariants as K
use Rattle.ir_trees.specs.declared.ir.stop.Stop.{Stop}
use Rattle.ir_trees.specs.Declarations.Context.{Context, Grows, parameter_kind}
use Rattle.ir_trees.specs.Instantiation.Folding.{IsAnswerStop, fold, fold_tree, leaf}
use Rattle.ir_trees.specs.Instantiation.Folds.{IsArg, IsOfKind, arg_tree, is_asked, is_asked_kind}
use Rattle.ir_trees.specs.Syntax.Kinds.{arg_child, numbers}
use Rattle.ir_trees.specs.Syntax.Nodes.{trees_at}
use Rattle.ir_trees.specs.Unification.Substitutions.{alone, is_made}
use Rattle.ir_trees.specs.Syntax.Trees.{Forest, Tree, none, binders_of, heights, holds, is_number, kind_of, sort_kind, tree_holds, variable_number}
use Rattle.ir_trees.specs.Syntax.Words.{IsMkStop, ListFits, list_forest}
use Rattle.ir_trees.proofs.Instantiation.Folding.{begin, fold-nothing, or-left, or-right}
use Rattle.ir_trees.proofs.Growth.Kept.{grows-trans}
use Rattle.ir_trees.proofs.Growth.Made.{ListFits-grows}
use Rattle.candidate_eval.specs.contracts.eval.variable.CanonicalVarPartialEq.TheImpl as variable_eq
use Rattle.candidate_eval.specs.declared.eval.variable.CanonicalVar.{CanonicalVar}
use Rattle.candidate_eval.specs.declared.eval.variable.VariableKind.{VariableKind}
use Rattle.candidate_eval.specs.declared.eval.variable.VariableKind.TheVariants.{Term, Region}
use Rattle.candidate_eval.specs.Judges.States.{placeholder, variable}
use Rattle.candidate_rounds.specs.Calls.Giving.{lifted_as, placeholder_in}
use Rattle.candidate_rounds.specs.Evaluators.Inferences.{IsFullAt}
use Rattle.candidate_rounds.proofs.Obligations.Anew.{same-kind}
use Rattle.candidate_rounds.proofs.Obligations.Gathering.{trees-stay}
use Rattle.candidate_rounds.proofs.Resolution.Leafing.{push-fits, push-trees}
use Rattle.candidate_rounds.proofs.Obligations.Noting.{arg-listed, arg-row, in_row, list-row}
use Rattle.candidate_rounds.proofs.Stops.ResponseStops.{full-stop}
use Rattle.candidate_rounds.proofs.Stops.Rooms.{full}
use Rattle.candidate_rounds.proofs.Snapshots.Undoing.{drop-beyond, drop-one}
use Rattle.rounds_judge.specs.Table.TableSettling.{Lift, lifted, lifted_leaf, own_variable, translation, variables_row}

-- A variable has another's number in its place, a placeholder may be lifted, and nothing else has anything in its place.

module _ (x : Lift) (ns : List ℕ) where
  named : (k : VariableKind) (n : ℕ) → translation x ns (variable k n).head ≡ Some (variable k (slice_index_or ns n 0))
  named (Term s) n = refl
  named Region n = refl

  pub unsaid : (h : Head) → is_asked h ≡ false → translation x ns h ≡ None
  unsaid (H.Infer v) e = absurd (at v.sort e)
    where
      at : (t : VariableSort) → is_asked_kind (sort_kind t) ≡ false → ⊥
      at V.General e = cc
      at V.Integer e = cc
      at V.Floating e = cc
      at V.Constant e = cc
  unsaid (H.Region r) e = cc
  unsaid (H.Placeholder p) e = cc
  unsaid (H.Const c) e = cc
  unsaid _ e = refl

  -- what is no variable is lifted, if anything
  pub no-variable : (h : Head) → variable_number h ≡ None → translation x ns h ≡ lifted_as x (placeholder_in h)
  no-variable (H.Infer v) e = cc
  no-variable (H.Region r) e = at r e
    where
      at : (r : RegionKind) → variable_number (H.Region r) ≡ None → translation x ns (H.Region r) ≡ lifted_as x (placeholder_in (H.Region r))
      at (R.Var n) e = cc
      at (R.Placeholder p) e = refl
      at _ e = refl
  no-variable (H.Const c) e = at c
    where
      at : (c : ConstHead) → translation x ns (H.Const c) ≡ lifted_as x (placeholder_in (H.Const c))
      at (C.Placeholder p) = refl
      at _ = refl
  no-variable (H.Placeholder p) e = refl
  no-variable _ e = refl

  pub name-unmade : (given : ℕ) (t : Tree) (k : VariableKind) (n : ℕ) (s : Stop) → t ≡ variable k n → IsFullAt given s → IsAnswerStop given (translation x ns t.head) s
  name-unmade given t k n s e f =
      subst (λ (o : Option Tree). IsAnswerStop given o s) (sym (ap (λ (u : Tree). translation x ns u.head) e ∙ named k n)) (full-stop given (alone (variable k (slice_index_or ns n 0))) s f)

  -- Where nothing was made, nothing is translated.

  root-stays : (p : Placeholder) (head : Placeholder → Head) → nat_lt 0 p.universe ≡ false → lifted_leaf x p head ≡ None
  root-stays p head e =
      let low = ltb-false 0 p.universe e in
      ap (λ (b : Bool). if b then Some (leaf (head (lifted x p))) else None) (le-ltb x.above p.universe (omega (arith, low)))

  unmade : (h : Head) → is_made h ≡ false → translation x ns h ≡ None
  unmade (H.Infer v) e = cc
  unmade (H.Placeholder p) e = root-stays p H.Placeholder e
  unmade (H.Const c) e = at c e
    where
      at : (c : ConstHead) → is_made (H.Const c) ≡ false → translation x ns (H.Const c) ≡ None
      at (C.Placeholder p) e = root-stays p (λ q. H.Const (C.Placeholder q)) e
      at _ e = refl
  unmade (H.Region r) e = at r e
    where
      at : (r : RegionKind) → is_made (H.Region r) ≡ false → translation x ns (H.Region r) ≡ None
      at (R.Var n) e = cc
      at (R.Placeholder p) e = root-stays p (λ q. H.Region (R.Placeholder q)) e
      at _ e = refl
  unmade _ e = refl

  pub translation-quiet : (d : ℕ) (t : Tree) → tree_holds is_made t ≡ false → fold_tree (λ _ u. translation x ns u.head) d t ≡ t
  translation-quiet d t e =
      let kept : Tree = record { head = t.head; children = fold (λ _ u. translation x ns u.head) (d + binders_of t.head) t.children } in
      ap (λ (o : Option Tree). unwrap_or o kept) (unmade t.head (or-left (is_made t.head) (holds is_made t.children) e))
      ∙ ap (λ (b : Forest). let u : Tree = record { head = t.head; children = b } in u)
      (fold-nothing (λ _ u. translation x ns u.head) is_made (λ _ u. unmade u.head) (d + binders_of t.head) t.children (or-right (is_made t.head) (holds is_made t.children) e))

-- What is lifted is of the same kind.

kind-is : (a b : VarKind × Placeholder) → Some a ≡ Some b → b.0 ≡ a.0
kind-is a b e = sym (ap (λ (q : VarKind × Placeholder). q.0) (let is : a ≡ b = cc in is))

lifted-kind : (h : Head) (k : VarKind) (p q : Placeholder) → placeholder_in h ≡ Some (k, p) → kind_of (placeholder (parameter_kind k) q.universe q.index) ≡ kind_of h
lifted-kind (H.Placeholder r) k p q e = ap (λ (j : VarKind). kind_of (placeholder (parameter_kind j) q.universe q.index)) (kind-is (K.Ty, r) (k, p) e)
lifted-kind (H.Const c) k p q e = at c e
  where
    at : (c : ConstHead) → placeholder_in (H.Const c) ≡ Some (k, p) → kind_of (placeholder (parameter_kind k) q.universe q.index) ≡ kind_of (H.Const c)
    at (C.Placeholder r) e = ap (λ (j : VarKind). kind_of (placeholder (parameter_kind j) q.universe q.index)) (kind-is (K.Const, r) (k, p) e)
    at _ e = cc
lifted-kind (H.Region r) k p q e = at r e
  where
    at : (r : RegionKind) → placeholder_in (H.Region r) ≡ Some (k, p) → kind_of (placeholder (parameter_kind k) q.universe q.index) ≡ kind_of (H.Region r)
    at (R.Placeholder s) e = ap (λ (j : VarKind). kind_of (placeholder (parameter_kind j) q.universe q.index)) (kind-is (K.Region, s) (k, p) e)
    at _ e = cc
lifted-kind _ k p q e = cc

module _ (ts us : List Tree) (x : GenericArg) (k : VarKind) (p : Placeholder) (is : IsArg ts x) (in_it : placeholder_in (arg_tree ts x).head ≡ Some (k, p)) where
  is-lifted : (l : Lift) → l.above < p.universe → lifted_as l (placeholder_in (arg_tree ts x).head) ≡ Some (leaf (placeholder (parameter_kind k) (lifted l p).universe (lifted l p).index))
  is-lifted l high =
      ap (lifted_as l) in_it ∙ ap (λ (b : Bool). if b then Some (leaf (placeholder (parameter_kind k) (lifted l p).universe (lifted l p).index)) else None) (lt-ltb l.above p.universe high)

  -- and what stands for another is made as it says
  module _ (l : Lift) (high : l.above < p.universe) (n : ℕ) (newest : n ≡ (lifted l p).universe) where
    pub lifted-made : (y : GenericArg) → IsArg us y → arg_tree us y ≡ leaf (placeholder (parameter_kind k) n p.index)
        → IsOfKind us x (Some y) × (Some (arg_tree us y) ≡ lifted_as l (placeholder_in (arg_tree ts x).head))
    lifted-made y made e = (
      same-kind ts us x y is made (ap (λ (t : Tree). kind_of t.head) e ∙ lifted-kind (arg_tree ts x).head k p (record { universe = n; index = p.index }) in_it),
      ap Some (e ∙ ap (λ (u : ℕ). leaf (placeholder (parameter_kind k) u p.index)) newest) ∙ sym (is-lifted l high),
    )

    pub lift-unmade : (given : ℕ) (s : Stop) → IsFullAt given s → IsAnswerStop given (lifted_as l (placeholder_in (arg_tree ts x).head)) s
    lift-unmade given s f =
        subst (λ (o : Option Tree). IsAnswerStop given o s) (sym (is-lifted l high)) (full-stop given (alone (leaf (placeholder (parameter_kind k) (lifted l p).universe (lifted l p).index))) s f)

-- Variables of these kinds and numbers were made, one after the other: with what is left they are all.

abbrev pub own_trees : List CanonicalVar → List ℕ → List Tree
own_trees (v ∷ vs) (n ∷ ns) = variable v.kind n ∷ own_trees vs ns
own_trees _ _ = []

in-row : (vs : List CanonicalVar) (ns : List ℕ) → in_row (own_trees vs ns) ≡ variables_row vs ns
in-row (v ∷ vs) (n ∷ ns) = ap (begin (variable v.kind n)) (in-row vs ns)
in-row (v ∷ vs) [] = refl
in-row [] ns = refl

no-more : (vs : List CanonicalVar) → own_trees vs [] ≡ []
no-more [] = refl
no-more (v ∷ vs) = refl

pub record OwnSoFar (old now : Context) (vs : List CanonicalVar) (ns : List ℕ) (i : ℕ) (xs : List GenericArg) : Type 0 where
  pub grows : Grows old now
  pub fits : ListFits now.trees xs
  pub left : trees_at now.trees (numbers (map arg_child xs)) ++ own_trees (drop i vs) (drop i ns) ≡ own_trees vs ns

pub no-own : (c : Context) (vs : List CanonicalVar) (ns : List ℕ) → Grows c c → OwnSoFar c c vs ns 0 []
no-own c vs ns g = record { grows = g; fits = refl; left = refl }

pub one-more-own : (a b c : Context) (vs : List CanonicalVar) (ns : List ℕ) (i : ℕ) (xs ys : List GenericArg) (x : GenericArg) (dv : CanonicalVar) (dn : ℕ) → OwnSoFar a b vs ns i xs → i < length vs → i < length ns
    → Grows b c → IsArg c.trees x → arg_tree c.trees x ≡ variable (slice_index_or vs i dv).kind (slice_index_or ns i dn) → ys ≡ xs ++ x ∷ [] → OwnSoFar a c vs ns (i + 1) ys
one-more-own a b c vs ns i xs ys x dv dn s j l g k t e = subst (λ zs. OwnSoFar a c vs ns (i + 1) zs) (sym e) (record {
  grows = grows-trans a b c s.grows g;
  fits = push-fits c.trees xs x (ListFits-grows b c xs g s.fits) k;
  left =
      let rest = own_trees (drop (suc i) vs) (drop (suc i) ns) in
      ap (λ n. trees_at c.trees (numbers (map arg_child (xs ++ x ∷ []))) ++ own_trees (drop n vs) (drop n ns)) (let n : i + 1 ≡ suc i = omega arith in n)
      ∙ (ap (λ us. us ++ rest) (push-trees c.trees xs x)
      ∙ (append_assoc (trees_at c.trees (numbers (map arg_child xs))) (arg_tree c.trees x ∷ []) rest
      ∙ (ap (λ us. us ++ arg_tree c.trees x ∷ rest) (trees-stay b c xs g s.fits)
      ∙ (ap (λ u. trees_at b.trees (numbers (map arg_child xs)) ++ u ∷ rest) t
      ∙ (ap (λ us. trees_at b.trees (numbers (map arg_child xs)) ++ us) (sym (ap (λ ws. own_trees ws (drop i ns)) (drop-one vs i dv j) ∙ ap (own_trees (slice_index_or vs i dv ∷ drop (suc i) vs)) (drop-one ns i dn l))) ∙ s.left)))));
})

pub all-own : (a b : Context) (vs : List CanonicalVar) (ns : List ℕ) (i : ℕ) (xs : List GenericArg) → OwnSoFar a b vs ns i xs → length ns ≤ i → list_forest b.trees xs ≡ variables_row vs ns
all-own a b vs ns i xs s l =
    let us = trees_at b.trees (numbers (map arg_child xs)) in
    list-row b.trees xs s.fits
    ∙ (ap in_row (sym (append-nil us) ∙ (ap (λ ws. us ++ ws) (sym (ap (own_trees (drop i vs)) (drop-beyond ns i l) ∙ no-more (drop i vs))) ∙ s.left))
    ∙ in-row vs ns)

-- A row of variables is no higher than one: so the only stop of making it, besides a refused growth, is that all numbers are given.

one-low : (k : VariableKind) (n : ℕ) (r : Forest) → heights r ≤ 1 → heights (begin (variable k n) r) ≤ 1
one-low (Term V.General) n r l = max-le (omega arith) l
one-low (Term V.Integer) n r l = max-le (omega arith) l
one-low (Term V.Floating) n r l = max-le (omega arith) l
one-low (Term V.Constant) n r l = max-le (omega arith) l
one-low Region n r l = max-le (omega arith) l

low : (vs : List CanonicalVar) (ns : List ℕ) → heights (variables_row vs ns) ≤ 1
low (v ∷ vs) (n ∷ ns) = one-low v.kind n (variables_row vs ns) (low vs ns)
low (v ∷ vs) [] = omega arith
low [] ns = omega arith

pub own-stop : {A : Type 0} (a b d : Context) (vs : List CanonicalVar) (ns : List ℕ) (i : ℕ) (xs : List GenericArg) (r : Result A Stop) → OwnSoFar a b vs ns i xs → length ns ≤ i
    → IfErr r (λ s. IsMkStop b.trees (heights (list_forest b.trees xs)) s) → IfErr r (λ _. d ≡ b) → IfErr r (λ s. IsFullAt (length d.trees) s)
own-stop a b d vs ns i xs (Ok x) so n c k = tt
own-stop a b d vs ns i xs (Err s) so n (inl e) k = inl e
own-stop a b d vs ns i xs (Err s) so n (inr c) k =
    let h : heights (list_forest b.trees xs) ≤ 1 = subst (λ m. m ≤ 1) (sym (ap heights (all-own a b vs ns i xs so n))) (low vs ns) in
    inr (full (length d.trees) (length b.trees) (heights (list_forest b.trees xs)) s (ap (λ x. length x.trees) k) h c)

-- A goal's own variable is looked for, one variable after the other: it is among those that are left, or nowhere.

abbrev pub LookedAt : List Tree → List CanonicalVar → List ℕ → List GenericArg → ℕ → CanonicalVar → ℕ → Type 0
LookedAt ts vs ns xs j c i = own_variable (drop i vs) (drop i ns) (list_forest ts (drop i xs)) j c ≡ own_variable vs ns (list_forest ts xs) j c

module _ (ts : List Tree) (vs : List CanonicalVar) (ns : List ℕ) (xs : List GenericArg) (j : ℕ) (c : CanonicalVar) (f : ListFits ts xs) (i : ℕ) (so : LookedAt ts vs ns xs j c i) where
  sought : (v : CanonicalVar) (n : ℕ) (x : GenericArg) → i < length vs → i < length ns → i < length xs
      → own_variable vs ns (list_forest ts xs) j c ≡ (if is_number j (arg_tree ts (slice_index_or xs i x)).head && variable_eq.eq-value.it (slice_index_or vs i v) c then Some (slice_index_or ns i n) else own_variable (drop (suc i) vs) (drop (suc i) ns) (list_forest ts (drop (suc i) xs)) j c)
  sought v n x a b d =
      let m : list_forest ts (drop i xs) ≡ begin (arg_tree ts (slice_index_or xs i x)) (list_forest ts (drop (suc i) xs)) = ap (list_forest ts) (drop-one xs i x d) ∙ arg-row ts (slice_index_or xs i x) (list_forest ts (drop (suc i) xs)) (arg-listed ts xs i x d f) in
      sym so
      ∙ (ap (λ us. own_variable us (drop i ns) (list_forest ts (drop i xs)) j c) (drop-one vs i v a)
      ∙ (ap (λ us. own_variable (slice_index_or vs i v ∷ drop (suc i) vs) us (list_forest ts (drop i xs)) j c) (drop-one ns i n b)
      ∙ ap (λ us. own_variable (slice_index_or vs i v ∷ drop (suc i) vs) (slice_index_or ns i n ∷ drop (suc i) ns) us j c) m))

  pub it-is-this : (v : CanonicalVar) (n : ℕ) (x : GenericArg) → i < length vs → i < length ns → i < length xs
      → is_number j (arg_tree ts (slice_index_or xs i x)).head && variable_eq.eq-value.it (slice_index_or vs i v) c ≡ true → Some (slice_index_or ns i n) ≡ own_variable vs ns (list_forest ts xs) j c
  it-is-this v n x a b d e = sym (sought v n x a b d ∙ ap (λ (z : Bool). if z then Some (slice_index_or ns i n) else own_variable (drop (suc i) vs) (drop (suc i) ns) (list_forest ts (drop (suc i) xs)) j c) e)

  not-this : (v : CanonicalVar) (n : ℕ) (x : GenericArg) → i < length vs → i < length ns → i < length xs
      → is_number j (arg_tree ts (slice_index_or xs i x)).head && variable_eq.eq-value.it (slice_index_or vs i v) c ≡ false → LookedAt ts vs ns xs j c (i + 1)
  not-this v n x a b d e =
      let next : i + 1 ≡ suc i = omega arith in
      subst (λ k. LookedAt ts vs ns xs j c k) (sym next)
      (sym (sought v n x a b d ∙ ap (λ (z : Bool). if z then Some (slice_index_or ns i n) else own_variable (drop (suc i) vs) (drop (suc i) ns) (list_forest ts (drop (suc i) xs)) j c) e))

  pub not-number : (v : CanonicalVar) (n : ℕ) (x : GenericArg) → i < length vs → i < length ns → i < length xs → is_number j (arg_tree ts (slice_index_or xs i x)).head ≡ false → LookedAt ts vs ns xs j c (i + 1)
  not-number v n x a b d e = not-this v n x a b d (ap (λ (z : Bool). z && variable_eq.eq-value.it (slice_index_or vs i v) c) e)

  pub not-like : (v : CanonicalVar) (n : ℕ) (x : GenericArg) → i < length vs → i < length ns → i < length xs → is_number j (arg_tree ts (slice_index_or xs i x)).head ≡ true
      → variable_eq.eq-value.it (slice_index_or vs i v) c ≡ false → LookedAt ts vs ns xs j c (i + 1)
  not-like v n x a b d e q = not-this v n x a b d (λ k. e k && q k)

  pub no-variable-left : length vs ≤ i → None ≡ own_variable vs ns (list_forest ts xs) j c
  no-variable-left l = sym (ap (λ us. own_variable us (drop i ns) (list_forest ts (drop i xs)) j c) (drop-beyond vs i l)) ∙ so

  pub no-number-left : length ns ≤ i → None ≡ own_variable vs ns (list_forest ts xs) j c
  no-number-left l = sym (ap (λ us. own_variable (drop i vs) us (list_forest ts (drop i xs)) j c) (drop-beyond ns i l) ∙ at (drop i vs)) ∙ so
    where
      at : (us : List CanonicalVar) → own_variable us [] (list_forest ts (drop i xs)) j c ≡ None
      at [] = refl
      at (u ∷ us) = refl

  pub no-value-left : length xs ≤ i → None ≡ own_variable vs ns (list_forest ts xs) j c
  no-value-left l = sym (ap (λ us. own_variable (drop i vs) (drop i ns) (list_forest ts us) j c) (drop-beyond xs i l) ∙ at (drop i vs) (drop i ns)) ∙ so
    where
      at : (us : List CanonicalVar) (ms : List ℕ) → own_variable us ms none j c ≡ None
      at [] ms = refl
      at (u ∷ us) [] = refl
      at (u ∷ us) (m ∷ ms) = refl
