-- Folds of the bounds of a `dyn` type, and of the variables of a binder.
use Rattle.std.proofs.Common.{◌≡◌, ℕ, ◌+◌, ◌<◌, ◌≤◌, List, [], ◌∷◌, ◌++◌, length, take, slice_get, Option, Some, Result, Ok, Err, false, true, refl, sym, ◌∙◌, ap, subst, arith, inl, inr}
use Rattle.std.specs.Prelude.{map, count_by}
use Rattle.std.proofs.lemmas.List.{map_push, take_all}
use Rattle.std.proofs.lemmas.List.Elements.{All-push, All-weaker, All-head, All-tail}
use Rattle.std.specs.Fn.{Mut}
use Rattle.std.specs.Borrow.{MutBor}
use Rattle.ir_trees.specs.declared.ir.kinds.GenericArg.{GenericArg}
use Rattle.ir_trees.specs.declared.ir.kinds.Var.{Var}
use Rattle.ir_trees.specs.declared.ir.kinds.Binder.{Binder}
use Rattle.ir_trees.specs.declared.ir.kinds.ExistentialPredicate.{ExistentialPredicate}
use Rattle.ir_trees.specs.declared.ir.stop.Stop.{Stop}
use Rattle.ir_trees.specs.declared.ir.stop.Stop.TheVariants.{Memory}
use Rattle.ir_trees.specs.declared.ir.heads.Head.TheVariants as H
use Rattle.ir_trees.specs.declared.ir.heads.PartHead.TheVariants as P
use Rattle.ir_trees.specs.declared.ir.heads.PredHead.{PredHead}
use Rattle.ir_trees.specs.Syntax.Trees.{VariableKind, Forest, none, tree, Tree, join, count, heights, binders_of, row}
use Rattle.ir_trees.specs.Syntax.Kinds.{numbers, sorts, pred_head, pred_children}
use Rattle.ir_trees.specs.Declarations.Names.{is_principal, principals}
use Rattle.ir_trees.specs.Syntax.Nodes.{tree_at, kind_at, trees_at, kinds_at, rows, Extends, AreLeaves, var_child}
use Rattle.ir_trees.specs.Syntax.Words.{PredFits, VarListFits, BoundsFit, AtMostOnePrincipal, names_trait, pred_kind_tree, bounds_forest, IsMkListStop}
use Rattle.ir_trees.specs.Declarations.Context.{Context, Grows, world}
use Rattle.ir_trees.specs.Declarations.Worlds.{World}
use Rattle.ir_trees.specs.Declarations.References.{AllTake, FitsAmong, IsWellFormed}
use Rattle.ir_trees.proofs.Kinding.References.{fit-at}
use Rattle.ir_folds.proofs.Traversal.FoldKinds.{take-push, takes-again, folds-kinds}
use Rattle.ir_trees.specs.Instantiation.Folds.{is_asked, is_asked_kind, node, Folds, ended, passed, memory, below_passed, Asks, Refuses, OnlyMakes, FoldsBy, StopsBy, IsReached, by_nodes, numbers_given, are_bounds, Outcome, Relists}
use Rattle.ir_trees.proofs.Growth.Kept.{grows-refl, grows-trans, number-kept, world-kept}
use Rattle.ir_trees.proofs.Syntax.Lists.{below_kind, kind_of-tree_at}
use Rattle.ir_trees.proofs.Growth.Growing.{pred-fits-grown, pred-tree-grown}
use Rattle.ir_trees.proofs.Growth.Made.{one_if, principals-one}
use Rattle.ir_trees.proofs.Syntax.Principals.{bound-principal}
use Rattle.ir_trees.proofs.Syntax.Rows.{row-single}
use Rattle.ir_folds.proofs.Traversal.FoldRows.{folds-join, folds-made, stops-first, stops-then, row-high, row-few, rows-append}
use Rattle.ir_folds.proofs.Traversal.FoldSteps.{take-one, rows-next, rows-around, folds-reached}

-- the variables of a binder are passed over
folds-leaves : {S : Type 0} (asks : S → ℕ → Tree → Option Tree → S → Type 0) (makes : S → S → Type 0) (s : S) (d : ℕ) (ts : List Tree) (vs : List Var)
    → AreLeaves ts → VarListFits ts vs → Folds asks makes s d (rows (trees_at ts (numbers (map var_child vs)))) (rows (trees_at ts (numbers (map var_child vs)))) s
folds-leaves asks makes s d ts [] l f = ended
folds-leaves asks makes s d ts (v ∷ vs) l f =
    let e : kind_at ts v.0 ≡ VariableKind = cc in
    let more : VarListFits ts vs = cc in
    let t = tree_at ts v.0 in
    let others = rows (trees_at ts (numbers (map var_child vs))) in
    let single = row-single ts v.0 VariableKind others refl refl e in
    let unasked : is_asked t.head ≡ false = ap is_asked_kind (sym (kind_of-tree_at ts v.0 (below_kind ts v.0 VariableKind refl e)) ∙ e) in
    let P : Forest → Type 0 = λ us. Folds asks makes s d us us s in
    let Q : Forest → Type 0 = λ us. Folds asks makes s (d + binders_of t.head) us us s in
    subst P (sym single) (passed unasked (subst Q (sym (l v.0 e)) ended) (folds-leaves asks makes s d ts vs l more))

-- bounds keep their trees while a table grows
bounds-grown : (a b : List Tree) (bs : List (Binder ExistentialPredicate)) → Extends a b → BoundsFit a bs → map (pred_kind_tree b) bs ≡ map (pred_kind_tree a) bs
bounds-grown a b [] e f = refl
bounds-grown a b (x ∷ bs) e f =
    ap (λ (t : Tree). t ∷ map (pred_kind_tree b) bs) (pred-tree-grown a b x e (All-head (PredFits a) x bs f))
    ∙ ap (λ (ts : List Tree). pred_kind_tree a x ∷ ts) (bounds-grown a b bs e (All-tail (PredFits a) x bs f))

principals-join : (a b : Forest) → principals (join a b) ≡ principals a + principals b
principals-join none b = omega arith
principals-join (tree h below rest) b = omega (arith, principals-join rest b)

count-bounds : (ts : List Tree) (bs : List (Binder ExistentialPredicate)) → count (bounds_forest ts bs) ≡ length bs
count-bounds ts [] = refl
count-bounds ts (b ∷ bs) = omega (arith, count-bounds ts bs)

all-bounds : (ts : List Tree) (bs : List (Binder ExistentialPredicate)) → are_bounds (bounds_forest ts bs) ≡ true
all-bounds ts [] = refl
all-bounds ts (b ∷ bs) = all-bounds ts bs

abbrev bound_count : List (Binder ExistentialPredicate) → ℕ
bound_count bs = count_by (λ b. names_trait b.value) bs

module _ {M Rest F : Type 0} (context : M → Context) (others : M → Rest)
    (g : Mut F (MutBor M × (GenericArg × (ℕ × Unit {0}))) (Result (Option GenericArg) Stop × (MutBor M × Unit {0}))) where
  abbrev Table : F × M → List Tree
  Table s = (context s.1).trees

  pub still-variables : (s : F × M) (d : ℕ) (t : Tree) (vs : List Var) → AreLeaves (Table s) → VarListFits (Table s) vs
      → t.children ≡ rows (trees_at (Table s) (numbers (map var_child vs))) → FoldsBy context others g s d t.children t.children s
  still-variables s d t vs l f e =
      let P : Forest → Type 0 = λ us. FoldsBy context others g s d us us s in
      subst P (sym e) (folds-leaves (Asks context others g) (OnlyMakes context others g) s d (Table s) vs l f)

  -- how far the fold of bounds has come
  pub record BoundsSoFar (s : F × M) (d : ℕ) (ks : List ℕ) (bounds : List (Binder ExistentialPredicate)) (i : ℕ) (e : F × M) : Type 0 where
    pub grows : Grows (context s.1) (context e.1)
    pub fit : BoundsFit (Table e) bounds
    pub takes : AllTake (world (context e.1)) (map (pred_kind_tree (Table e)) bounds)
    pub principal : bound_count bounds ≡ principals (rows (trees_at (Table s) (take i ks)))
    pub folded : FoldsBy context others g s d (rows (trees_at (Table s) (take i ks))) (bounds_forest (Table e) bounds) e

  pub bounds-begin : (s : F × M) (d : ℕ) (ks : List ℕ) → BoundsSoFar s d ks [] 0 s
  bounds-begin s d ks = record { grows = grows-refl (context s.1); fit = λ k x h. absurd (omega arith); takes = tt; principal = refl; folded = ended }

  module _ (s m e : F × M) (d : ℕ) (ks : List ℕ) (bounds : List (Binder ExistentialPredicate)) (i k : ℕ) (b : Binder ExistentialPredicate)
      (below : k < length (Table s)) (so : BoundsSoFar s d ks bounds i m) (a : slice_get ks i ≡ Some k) (is : pred_kind_tree (Table m) b ≡ tree_at (Table m) k) where
    tree-was : tree_at (Table s) k ≡ pred_kind_tree (Table m) b
    tree-was = sym (number-kept (Table s) (Table m) k so.grows.kept below).1 ∙ sym is

    pub bounds-next : IsWellFormed (context m.1) → {A : Type 0} (listed : A → List ℕ) (v : A) (c : Binder ExistentialPredicate) (us : List (Binder ExistentialPredicate))
        → Relists context others g listed m (d + 1) (pred_children b) (Ok v) e
        → pred_head c ≡ pred_head b → numbers (pred_children c) ≡ listed v → sorts (pred_children c) ≡ sorts (pred_children b) → us ≡ bounds ++ c ∷ []
        → BoundsSoFar s d ks us (i + 1) e
    bounds-next well listed v c us r hc nc sc u =
        let Sofar : List (Binder ExistentialPredicate) → Type 0 = λ xs. BoundsSoFar s d ks xs (i + 1) e in
        let fits : PredFits (Table e) c = ap (kinds_at (Table e)) nc ∙ (r.sorts_are ∙ sym sc) in
        let old = rows (trees_at (Table s) (take i ks)) in
        let t = pred_kind_tree (Table m) b in
        let inner = rows (trees_at (Table e) (listed v)) in
        let new : pred_kind_tree (Table e) c ≡ node (H.Part (P.Pred (pred_head b))) inner =
        ap (λ (x : PredHead). node (H.Part (P.Pred x)) (rows (trees_at (Table e) (numbers (pred_children c))))) hc
        ∙ ap (λ (ns : List ℕ). node (H.Part (P.Pred (pred_head b))) (rows (trees_at (Table e) ns))) nc in
        let from : rows (trees_at (Table s) (take (i + 1) ks)) ≡ join old (row t none) =
        ap (λ (xs : List ℕ). rows (trees_at (Table s) xs)) (take-one ks i k a)
        ∙ (rows-next (Table s) (take i ks) k ∙ ap (λ (x : Tree). join old (row x none)) tree-was) in
        let to : bounds_forest (Table e) (bounds ++ c ∷ []) ≡ join (bounds_forest (Table m) bounds) (row (node (H.Part (P.Pred (pred_head b))) inner) none) =
        ap rows (map_push (pred_kind_tree (Table e)) bounds c)
        ∙ (rows-append (map (pred_kind_tree (Table e)) bounds) (pred_kind_tree (Table e) c ∷ [])
        ∙ (ap (λ (xs : List Tree). join (rows xs) (row (pred_kind_tree (Table e) c) none)) (bounds-grown (Table m) (Table e) bounds r.grows.kept so.fit)
        ∙ ap (λ (x : Tree). join (bounds_forest (Table m) bounds) (row x none)) new)) in
        let one : FoldsBy context others g m d (row t none) (row (node (H.Part (P.Pred (pred_head b))) inner) none) e = passed refl r.folded ended in
        let all = folds-join (Asks context others g) (OnlyMakes context others g) so.folded one in
        let From : Forest → Type 0 = λ ts. FoldsBy context others g s d ts (join (bounds_forest (Table m) bounds) (row (node (H.Part (P.Pred (pred_head b))) inner) none)) e in
        let To : Forest → Type 0 = λ ts. FoldsBy context others g s d (rows (trees_at (Table s) (take (i + 1) ks))) ts e in
        let grown = bounds-grown (Table m) (Table e) bounds r.grows.kept so.fit in
        let among : FitsAmong (world (context m.1)) t = subst (FitsAmong (world (context m.1))) (sym is) (fit-at (world (context m.1)) (Table m) well k) in
        let again = takes-again (world (context m.1)) t inner among (folds-kinds context others g r.folded) in
        let In : World → Type 0 = λ w. AllTake w (map (pred_kind_tree (Table m)) bounds ++ node (H.Part (P.Pred (pred_head b))) inner ∷ []) in
        let Of : List Tree → Type 0 = λ ts. AllTake (world (context e.1)) ts in
        let take : Of (map (pred_kind_tree (Table m)) bounds ++ node (H.Part (P.Pred (pred_head b))) inner ∷ []) =
        subst In (sym (world-kept (context m.1) (context e.1) r.grows).0)
        (take-push (world (context m.1)) (map (pred_kind_tree (Table m)) bounds) (node (H.Part (P.Pred (pred_head b))) inner) so.takes again) in
        let named : one_if (names_trait c.value) ≡ one_if (is_principal t.head) =
        ap one_if (sym (bound-principal (Table e) c.value c refl) ∙ ap (λ (x : PredHead). is_principal (H.Part (P.Pred x))) hc) in
        let counted = principals-one bounds c in
        let joined = principals-join old (row t none) in
        let whole = ap principals from in
        subst Sofar (sym u)
        (record {
          grows = grows-trans (context s.1) (context m.1) (context e.1) so.grows r.grows;
          fit = All-push (PredFits (Table e)) bounds c (All-weaker (PredFits (Table m)) (PredFits (Table e)) (λ y h. pred-fits-grown (Table m) (Table e) y r.grows.kept h) bounds so.fit) fits;
          takes = subst Of
              (sym (map_push (pred_kind_tree (Table e)) bounds c
              ∙ (ap (λ (x : Tree). map (pred_kind_tree (Table e)) bounds ++ x ∷ []) new
              ∙ ap (λ (ts : List Tree). ts ++ node (H.Part (P.Pred (pred_head b))) inner ∷ []) grown)))
              take;
          principal = omega (arith, named, counted, joined, whole, so.principal);
          folded = subst To (sym to) (subst From (sym from) all);
        })

    -- a bound's fold stopped
    pub bounds-stop : {A B : Type 0} (listed : A → List ℕ) (seen : List Tree → B → Forest) (x : Stop) → Relists context others g listed m (d + 1) (pred_children b) (Err x) e
        → Outcome context others g seen s d (rows (trees_at (Table s) ks)) (Err x) e
    bounds-stop listed seen x r =
        let Whole : Forest → Type 0 = λ ts. StopsBy context others g s d ts x e in
        let At : Tree → Type 0 = λ t. StopsBy context others g m d (row t none) x e in
        let here : At (pred_kind_tree (Table m) b) = below_passed refl r.stopped in
        record {
          grows = grows-trans (context s.1) (context m.1) (context e.1) so.grows r.grows;
          folded = tt;
          stopped = subst Whole (sym (rows-around (Table s) ks i k a))
              (stops-then (Asks context others g) (OnlyMakes context others g) (Refuses context others g) (IsReached context others g) (numbers_given context) so.folded
              (stops-first (Asks context others g) (OnlyMakes context others g) (Refuses context others g) (IsReached context others g) (numbers_given context) _ (subst At (sym tree-was) here)));
        }

  pub outcome-memory : {B : Type 0} (seen : List Tree → B → Forest) (s e : F × M) (d : ℕ) (ts : Forest) → Grows (context s.1) (context e.1)
      → IsReached context others g s e → Outcome context others g seen s d ts (Err Memory) e
  outcome-memory seen s e d ts h l = record { grows = h; folded = tt; stopped = memory l }

  -- all bounds were folded, and are made or not
  module _ (s m e : F × M) (d : ℕ) (ks : List ℕ) (bounds : List (Binder ExistentialPredicate)) (i : ℕ) (so : BoundsSoFar s d ks bounds i m) (l : length ks ≤ i)
      (o : OnlyMakes context others g m e) where
    whole : FoldsBy context others g s d (rows (trees_at (Table s) ks)) (bounds_forest (Table m) bounds) e
    whole =
        let P : List ℕ → Type 0 = λ xs. FoldsBy context others g s d (rows (trees_at (Table s) xs)) (bounds_forest (Table m) bounds) e in
        subst P (take_all i ks l) (folds-made (Asks context others g) (OnlyMakes context others g) so.folded o)

    pub one-principal : principals (rows (trees_at (Table s) ks)) ≤ 1 → AtMostOnePrincipal bounds
    one-principal h =
        let e = ap (λ (xs : List ℕ). principals (rows (trees_at (Table s) xs))) (take_all i ks l) in
        omega (arith, so.principal, e, h)

    pub bounds-made : (k : ℕ) → (tree_at (Table e) k).children ≡ bounds_forest (Table m) bounds
        → Outcome context others g (λ us n. (tree_at us n).children) s d (rows (trees_at (Table s) ks)) (Ok k) e
    bounds-made k t =
        let P : Forest → Type 0 = λ us. FoldsBy context others g s d (rows (trees_at (Table s) ks)) us e in
        record { grows = grows-trans (context s.1) (context m.1) (context e.1) so.grows o.grows; folded = subst P (sym t) whole; stopped = tt }

    pub bounds-unmade : {B : Type 0} (seen : List Tree → B → Forest) (x : Stop) → context e.1 ≡ context m.1
        → IsMkListStop (Table m) (length bounds + 1) (heights (bounds_forest (Table m) bounds)) x
        → Outcome context others g seen s d (rows (trees_at (Table s) ks)) (Err x) e
    bounds-unmade seen x u (inl z) =
        let P : Stop → Type 0 = λ y. Outcome context others g seen s d (rows (trees_at (Table s) ks)) (Err y) e in
        subst P (sym z) (outcome-memory seen s e d (rows (trees_at (Table s) ks)) (grows-trans (context s.1) (context m.1) (context e.1) so.grows o.grows)
        (by_nodes (folds-reached context others g so.folded) o))
    bounds-unmade seen x u (inr (z, inl few)) =
        let P : Stop → Type 0 = λ y. Outcome context others g seen s d (rows (trees_at (Table s) ks)) (Err y) e in
        let same = ap (λ (c : Context). length c.trees) u in
        let short : 4294967295 < length (Table e) + (count (bounds_forest (Table m) bounds) + 1) = omega (arith, few, same, count-bounds (Table m) bounds) in
        subst P (sym z) (record {
          grows = grows-trans (context s.1) (context m.1) (context e.1) so.grows o.grows;
          folded = tt;
          stopped = row-few (Asks context others g) (OnlyMakes context others g) (Refuses context others g) (IsReached context others g) (numbers_given context) whole (all-bounds (Table m) bounds) short;
        })
    bounds-unmade seen x u (inr (z, inr high)) =
        let P : Stop → Type 0 = λ y. Outcome context others g seen s d (rows (trees_at (Table s) ks)) (Err y) e in
        subst P (sym z) (record {
          grows = grows-trans (context s.1) (context m.1) (context e.1) so.grows o.grows;
          folded = tt;
          stopped = row-high (Asks context others g) (OnlyMakes context others g) (Refuses context others g) (IsReached context others g) (numbers_given context) whole high;
        })
