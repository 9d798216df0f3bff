-- The fold of one number.
use Rattle.std.proofs.Common.{◌≡◌, ℕ, zero, suc, ◌+◌, ◌<◌, ◌≤◌, List, [], ◌∷◌, length, Option, Some, None, Result, Ok, Err, Bool, true, false, refl, sym, ◌∙◌, ap, subst, arith, inl, inr}
use Rattle.std.specs.Prelude.{IfOk, IfErr, map}
use Rattle.std.specs.Fn.{Mut}
use Rattle.std.specs.Borrow.{MutBor}
use Rattle.ir_trees.specs.declared.ir.kinds.GenericArg.{GenericArg}
use Rattle.ir_trees.specs.declared.ir.stop.Stop.{Stop}
use Rattle.ir_trees.specs.declared.ir.stop.Stop.TheVariants.{Memory}
use Rattle.ir_trees.specs.declared.ir.heads.Head.{Head}
use Rattle.ir_trees.specs.declared.ir.heads.Head.TheVariants as H
use Rattle.ir_trees.specs.declared.ir.node.Node.{Node}
use Rattle.ir_trees.specs.declared.ir.node.Node.TheVariants as N
use Rattle.std.proofs.Common.{Vec, Global, slice_get}
use Rattle.std.proofs.lemmas.List.{length-map}
use Rattle.ir_trees.specs.declared.ir.heads.ListHead.TheVariants as L
use Rattle.ir_trees.specs.declared.ir.kinds.GenericArg.TheVariants as A
use Rattle.ir_trees.specs.declared.ir.kinds.TyKind.{TyKind}
use Rattle.ir_trees.specs.declared.ir.kinds.TyKind.TheVariants as K
use Rattle.ir_trees.specs.declared.ir.kinds.Pattern.TheVariants as Pat
use Rattle.ir_trees.specs.declared.ir.kinds.ConstKind.{ConstKind}
use Rattle.ir_trees.specs.declared.ir.kinds.ConstKind.TheVariants as CK
use Rattle.ir_trees.specs.declared.ir.kinds.RegionKind.{RegionKind}
use Rattle.ir_trees.specs.declared.ir.kinds.VarKind.{VarKind}
use Rattle.ir_trees.specs.declared.ir.kinds.Pred.{Pred}
use Rattle.ir_trees.specs.declared.ir.kinds.Var.{Var}
use Rattle.ir_trees.specs.declared.ir.kinds.Clause.{Clause}
use Rattle.ir_trees.specs.declared.ir.kinds.ClauseKind.{ClauseKind}
use Rattle.ir_trees.specs.declared.ir.kinds.ClauseKind.TheVariants as Cl
use Rattle.ir_trees.specs.declared.ir.kinds.Binder.{Binder}
use Rattle.ir_trees.specs.declared.ir.kinds.ExistentialPredicate.{ExistentialPredicate}
use Rattle.ir_trees.specs.declared.ir.kinds.ExistentialPredicate.TheVariants as E
use Rattle.ir_trees.specs.Syntax.Trees.{Kind, PredicateKind, PredicatesKind, Forest, none, tree, Tree, kind_of, heights, height, binders_of, row, put, is_list}
use Rattle.ir_trees.specs.Syntax.Kinds.{Child, numbers, sorts, arg_child, ty_children, const_children, pred_children, clause_children}
use Rattle.ir_trees.specs.Syntax.Nodes.{tree_at, kind_at, trees_at, kinds_at, rows, node_of, node_tree, head_of, children_of, Fits, AreLeaves, is_rebuilt, is_bound_kind, have_bound, clause_child, var_child}
use Rattle.ir_trees.specs.Syntax.Table.{Below, IsNodeOf, HasOnePrincipal}
use Rattle.ir_trees.specs.Declarations.Names.{principals}
use Rattle.ir_trees.proofs.Growth.Sorts.{node_kind, preds_node}
use Rattle.ir_trees.specs.Syntax.Words.{IsMkStop, pred_list_forest}
use Rattle.ir_trees.specs.Declarations.Context.{Context, Grows, world}
use Rattle.ir_trees.specs.Declarations.Worlds.{World}
use Rattle.ir_trees.specs.Declarations.References.{Takes, FitsAmong, IsWellFormed}
use Rattle.ir_trees.proofs.Kinding.References.{fit-at}
use Rattle.ir_folds.proofs.Traversal.FoldKinds.{takes-again, folds-kinds}
use Rattle.ir_trees.specs.Instantiation.Folds.{is_asked, is_asked_kind, node, ended, replaced, opened, passed, memory, refused, below_asked, below_passed, Asks, Refuses, OnlyMakes, FoldsBy, StopsBy, IsReached, here, by_call, by_nodes, full, numbers_given, Outcome, IsSaid, Said, Renumbers, Relists}
use Rattle.ir_trees.proofs.Growth.Kept.{grows-refl, grows-trans, number-kept, world-kept}
use Rattle.ir_trees.proofs.Syntax.Lists.{below_kind, kind_of-tree_at, node_tree-append}
use Rattle.ir_trees.specs.Syntax.Trees.{there}
use Rattle.ir_trees.proofs.Syntax.Splits.{list_of, list-head, list-head_of, rows-height}
use Rattle.ir_trees.proofs.Syntax.Rows.{join-none}
use Rattle.ir_folds.proofs.Traversal.FoldRows.{folds-made, row-high}
use Rattle.ir_folds.proofs.Traversal.FoldSteps.{asked-single, there-head, extends-length, folds-reached, reached-then}
use Rattle.ir_folds.proofs.Traversal.FoldBounds.{still-variables}
use Rattle.ir_trees.proofs.Instantiation.Folding.{or-left, or-right}

-- the row of one tree, by whether it is a list
pub row-one : (t : Tree) → is_list t.head ≡ false → row t none ≡ tree t.head t.children none
row-one t e = ap (λ (b : Bool). put b t none) e

pub row-members : (t : Tree) → is_list t.head ≡ true → row t none ≡ t.children
row-members t e = ap (λ (b : Bool). put b t none) e ∙ join-none t.children

pub list-binds-nothing : (h : Head) → is_list h ≡ true → (d : ℕ) → d + binders_of h ≡ d
list-binds-nothing h e d = let l = list-head h e in let b : binders_of h ≡ 0 = ap binders_of l.1 in omega arith

-- the height of a row of one tree
row-one-height : (t : Tree) → heights (row t none) ≡ height t
row-one-height t = let r = rows-height (t ∷ []) in omega (arith, r)

module _ {M Rest F : Type 0} (context : M → Context) (others : M → Rest)
    (g : Mut F (MutBor M × (GenericArg × (ℕ × Unit {0}))) (Result (Option GenericArg) Stop × (MutBor M × Unit {0}))) where
  abbrev Table : F × M → List Tree
  Table s = (context s.1).trees

  -- a tree that isn't answered is gone into
  open-folds : (s m e : F × M) (d n : ℕ) (inner : Forest) → IsSaid context others g s d n None m
      → FoldsBy context others g m (d + binders_of (tree_at (Table s) n).head) (tree_at (Table s) n).children inner e
      → FoldsBy context others g s d (row (tree_at (Table s) n) none) (row (node (tree_at (Table s) n).head inner) none) e
  open-folds s m e d n inner (inl (a, h)) p =
      let t = tree_at (Table s) n in
      let single = asked-single t.head a in
      let From : Forest → Type 0 = λ ts. FoldsBy context others g s d ts (tree t.head inner none) e in
      let To : Forest → Type 0 = λ ts. FoldsBy context others g s d (row t none) ts e in
      subst To (sym (row-one (node t.head inner) single)) (subst From (sym (row-one t single)) (opened a h p ended))
  open-folds s m e d n inner (inr (a, h)) p =
      let t = tree_at (Table s) n in
      let Start : F × M → Type 0 = λ x. FoldsBy context others g x (d + binders_of t.head) t.children inner e in
      at (is_list t.head) refl a (subst Start h p)
    where
      at : (b : Bool) → is_list (tree_at (Table s) n).head ≡ b → is_asked (tree_at (Table s) n).head ≡ false
          → FoldsBy context others g s (d + binders_of (tree_at (Table s) n).head) (tree_at (Table s) n).children inner e
          → FoldsBy context others g s d (row (tree_at (Table s) n) none) (row (node (tree_at (Table s) n).head inner) none) e
      at true l a q =
          let t = tree_at (Table s) n in
          let From : Forest → Type 0 = λ ts. FoldsBy context others g s d ts inner e in
          let To : Forest → Type 0 = λ ts. FoldsBy context others g s d (row t none) ts e in
          let Under : ℕ → Type 0 = λ x. FoldsBy context others g s x t.children inner e in
          subst To (sym (row-members (node t.head inner) l)) (subst From (sym (row-members t l)) (subst Under (list-binds-nothing t.head l d) q))
      at false l a q =
          let t = tree_at (Table s) n in
          let From : Forest → Type 0 = λ ts. FoldsBy context others g s d ts (tree t.head inner none) e in
          let To : Forest → Type 0 = λ ts. FoldsBy context others g s d (row t none) ts e in
          subst To (sym (row-one (node t.head inner) l)) (subst From (sym (row-one t l)) (passed a q ended))

  open-stops : (s m e : F × M) (d n : ℕ) (x : Stop) → IsSaid context others g s d n None m
      → StopsBy context others g m (d + binders_of (tree_at (Table s) n).head) (tree_at (Table s) n).children x e
      → StopsBy context others g s d (row (tree_at (Table s) n) none) x e
  open-stops s m e d n x (inl (a, h)) p =
      let t = tree_at (Table s) n in
      let From : Forest → Type 0 = λ ts. StopsBy context others g s d ts x e in
      subst From (sym (row-one t (asked-single t.head a))) (below_asked a h p)
  open-stops s m e d n x (inr (a, h)) p =
      let t = tree_at (Table s) n in
      let Start : F × M → Type 0 = λ y. StopsBy context others g y (d + binders_of t.head) t.children x e in
      at (is_list t.head) refl a (subst Start h p)
    where
      at : (b : Bool) → is_list (tree_at (Table s) n).head ≡ b → is_asked (tree_at (Table s) n).head ≡ false
          → StopsBy context others g s (d + binders_of (tree_at (Table s) n).head) (tree_at (Table s) n).children x e
          → StopsBy context others g s d (row (tree_at (Table s) n) none) x e
      at true l a q =
          let t = tree_at (Table s) n in
          let From : Forest → Type 0 = λ ts. StopsBy context others g s d ts x e in
          let Under : ℕ → Type 0 = λ y. StopsBy context others g s y t.children x e in
          subst From (sym (row-members t l)) (subst Under (list-binds-nothing t.head l d) q)
      at false l a q =
          let t = tree_at (Table s) n in
          let From : Forest → Type 0 = λ ts. StopsBy context others g s d ts x e in
          subst From (sym (row-one t l)) (below_passed a q)

  -- what comes after what was asked
  pub said-nothing : (s m : F × M) (d n : ℕ) (o : Option ℕ) → ((x : ℕ) → o ≡ Some x → ⊥) → Said context others g s d n (Ok o) m → Said context others g s d n (Ok None) m
  said-nothing s m d n None lacks h = h
  said-nothing s m d n (Some x) lacks h = absurd (lacks x refl)

  pub said-reached : (s m : F × M) (d n : ℕ) → Said context others g s d n (Ok None) m → IsReached context others g s m
  said-reached s m d n h = at h.said
    where
      at : IsSaid context others g s d n None m → IsReached context others g s m
      at (inl (a, k)) = by_call here k
      at (inr (a, k)) = subst (λ x. IsReached context others g s x) (sym k) here

  pub number-memory : (s e : F × M) (d n : ℕ) → Grows (context s.1) (context e.1) → IsReached context others g s e → Renumbers context others g s d n (Err Memory) e
  number-memory s e d n h l = record { grows = h; sort = tt; folded = tt; stopped = memory l }

  pub number-refused : (s e : F × M) (d n : ℕ) (x : Stop) → Said context others g s d n (Err x) e → Renumbers context others g s d n (Err x) e
  number-refused s e d n x h =
      let t = tree_at (Table s) n in
      let From : Forest → Type 0 = λ ts. StopsBy context others g s d ts x e in
      record {
        grows = h.grows;
        sort = tt;
        folded = tt;
        stopped = subst From (sym (row-one t (asked-single t.head h.stopped.0))) (refused h.stopped.0 h.stopped.1);
      }

  pub number-answered : (s e : F × M) (d n k : ℕ) → n < length (Table s) → Said context others g s d n (Ok (Some k)) e → Renumbers context others g s d n (Ok k) e
  number-answered s e d n k inside h =
      let th : there (kind_at (Table s) n) ≡ true = ap there (kind_of-tree_at (Table s) n inside) ∙ there-head (tree_at (Table s) n).head in
      let below : k < length (Table e) = below_kind (Table e) k (kind_at (Table s) n) th h.said.2 in
      let t = tree_at (Table s) n in
      let u = tree_at (Table e) k in
      let same : is_asked u.head ≡ true =
      ap is_asked_kind (sym (kind_of-tree_at (Table e) k below) ∙ (h.said.2 ∙ kind_of-tree_at (Table s) n inside)) ∙ h.said.0 in
      let From : Forest → Type 0 = λ ts. FoldsBy context others g s d ts (tree u.head u.children none) e in
      let To : Forest → Type 0 = λ ts. FoldsBy context others g s d (row t none) ts e in
      record {
        grows = h.grows;
        sort = h.said.2;
        folded = subst To (sym (row-one u (asked-single u.head same))) (subst From (sym (row-one t (asked-single t.head h.said.0))) (replaced h.said.0 h.said.1 ended));
        stopped = tt;
      }

  -- what has no children that are folded stays
  pub number-still : (s m : F × M) (d n : ℕ) → n < length (Table s) → Said context others g s d n (Ok None) m
      → FoldsBy context others g m (d + binders_of (tree_at (Table s) n).head) (tree_at (Table s) n).children (tree_at (Table s) n).children m
      → Renumbers context others g s d n (Ok n) m
  number-still s m d n inside h p =
      let same = number-kept (Table s) (Table m) n h.grows.kept inside in
      let To : Tree → Type 0 = λ t. FoldsBy context others g s d (row (tree_at (Table s) n) none) (row t none) m in
      record {
        grows = h.grows;
        sort = same.0;
        folded = subst To (sym same.1) (open-folds s m m d n (tree_at (Table s) n).children h.said p);
        stopped = tt;
      }

  -- the tree of a node, before and after what was asked
  module _ (s m : F × M) (d n : ℕ) (inside : n < length (Table s)) (h : Said context others g s d n (Ok None) m) (a c : Node)
      (i : IsNodeOf (Table m) n a) (same_head : head_of c ≡ head_of a) (same_children : children_of c ≡ children_of a) where
    pub copy-tree : tree_at (Table s) n ≡ node_tree (Table m) c
    copy-tree =
        sym (number-kept (Table s) (Table m) n h.grows.kept inside).1
        ∙ (i.tree
        ∙ (ap (λ (x : Head). node_of x (trees_at (Table m) (numbers (children_of a)))) (sym same_head)
        ∙ ap (λ (cs : List Child). node_of (head_of c) (trees_at (Table m) (numbers cs))) (sym same_children)))

    pub copy-fits : Fits (Table m) c
    copy-fits = let P : List Child → Type 0 = λ cs. kinds_at (Table m) (numbers cs) ≡ sorts cs in subst P (sym same_children) i.fits

    pub copy-below : Below n (numbers (children_of c))
    copy-below = let P : List Child → Type 0 = λ cs. Below n (numbers cs) in subst P (sym same_children) i.below

    -- a node without children
    pub number-leaf : children_of c ≡ [] → Renumbers context others g s d n (Ok n) m
    number-leaf e =
        let none-below : (tree_at (Table s) n).children ≡ none = ap (λ (t : Tree). t.children) copy-tree ∙ ap (λ (cs : List Child). rows (trees_at (Table m) (numbers cs))) e in
        let P : Forest → Type 0 = λ ts. FoldsBy context others g m (d + binders_of (tree_at (Table s) n).head) ts ts m in
        number-still s m d n inside h (subst P (sym none-below) ended)

    pub number-stopped : {A : Type 0} (listed : A → List ℕ) (e : F × M) (x : Stop) → Relists context others g listed m (d + binders_of (head_of c)) (children_of c) (Err x) e
        → Renumbers context others g s d n (Err x) e
    number-stopped listed e x r =
        let P : Tree → Type 0 = λ t. StopsBy context others g m (d + binders_of t.head) t.children x e in
        record {
          grows = grows-trans (context s.1) (context m.1) (context e.1) h.grows r.grows;
          sort = tt;
          folded = tt;
          stopped = open-stops s m e d n x h.said (subst P (sym copy-tree) r.stopped);
        }

    -- the node over folded children takes them
    pub number-takes : {A : Type 0} (listed : A → List ℕ) (v : A) (e : F × M) (b : Node) → IsWellFormed (context m.1)
        → Relists context others g listed m (d + binders_of (head_of c)) (children_of c) (Ok v) e → head_of b ≡ head_of c → numbers (children_of b) ≡ listed v
        → Takes (world (context e.1)) (node_tree (Table e) b)
    number-takes listed v e b well q hb nb =
        let now : tree_at (Table m) n ≡ node_tree (Table m) c = (number-kept (Table s) (Table m) n h.grows.kept inside).1 ∙ copy-tree in
        let among : FitsAmong (world (context m.1)) (node_tree (Table m) c) = subst (FitsAmong (world (context m.1))) now (fit-at (world (context m.1)) (Table m) well n) in
        let again = takes-again (world (context m.1)) (node_tree (Table m) c) (rows (trees_at (Table e) (listed v))) among (folds-kinds context others g q.folded) in
        let is-new : node_tree (Table e) b ≡ node_of (head_of c) (trees_at (Table e) (listed v)) =
        ap (λ (y : Head). node_of y (trees_at (Table e) (numbers (children_of b)))) hb ∙ ap (λ (ks : List ℕ). node_of (head_of c) (trees_at (Table e) ks)) nb in
        let In : World → Type 0 = λ w. Takes w (node_of (head_of c) (trees_at (Table e) (listed v))) in
        let Of : Tree → Type 0 = λ t. Takes (world (context e.1)) t in
        let there : Of (node_of (head_of c) (trees_at (Table e) (listed v))) = subst In (sym (world-kept (context m.1) (context e.1) q.grows).0) again in
        subst Of (sym is-new) there

    -- a node whose children were folded is made again
    pub number-again : {A : Type 0} (listed : A → List ℕ) (v : A) (e f : F × M) (b : Node) (r : Result ℕ Stop)
        → Relists context others g listed m (d + binders_of (head_of c)) (children_of c) (Ok v) e
        → head_of b ≡ head_of c → numbers (children_of b) ≡ listed v → OnlyMakes context others g e f
        → IfOk r (λ k. kind_at (Table f) k ≡ kind_of (head_of b)) → IfOk r (λ k. tree_at (Table f) k ≡ node_tree (Table e) b)
        → IfErr r (λ x. IsMkStop (Table f) (height (node_tree (Table e) b)) x)
        → Renumbers context others g s d n r f
    number-again listed v e f b r q hb nb o k t x = at r k t x
      where
        new : Tree
        new = node_of (head_of c) (trees_at (Table e) (listed v))

        is-new : node_tree (Table e) b ≡ new
        is-new = ap (λ (y : Head). node_of y (trees_at (Table e) (numbers (children_of b)))) hb ∙ ap (λ (ks : List ℕ). node_of (head_of c) (trees_at (Table e) ks)) nb

        folded : FoldsBy context others g s d (row (tree_at (Table s) n) none) (row new none) f
        folded =
            let P : Tree → Type 0 = λ y. FoldsBy context others g m (d + binders_of y.head) y.children (rows (trees_at (Table e) (listed v))) f in
            let Q : Tree → Type 0 = λ y. FoldsBy context others g s d (row (tree_at (Table s) n) none) (row (node y.head (rows (trees_at (Table e) (listed v)))) none) f in
            subst Q copy-tree
            (open-folds s m f d n (rows (trees_at (Table e) (listed v))) h.said
            (subst P (sym copy-tree) (folds-made (Asks context others g) (OnlyMakes context others g) q.folded o)))

        reached : IsReached context others g s f
        reached = by_nodes (reached-then context others g (said-reached s m d n h) (folds-reached context others g q.folded)) o

        grown : Grows (context s.1) (context f.1)
        grown = grows-trans (context s.1) (context m.1) (context f.1) h.grows (grows-trans (context m.1) (context e.1) (context f.1) q.grows o.grows)

        at : (r : Result ℕ Stop) → IfOk r (λ k. kind_at (Table f) k ≡ kind_of (head_of b)) → IfOk r (λ k. tree_at (Table f) k ≡ node_tree (Table e) b)
            → IfErr r (λ x. IsMkStop (Table f) (height (node_tree (Table e) b)) x) → Renumbers context others g s d n r f
        at (Ok k) w t x =
            let P : Tree → Type 0 = λ y. FoldsBy context others g s d (row (tree_at (Table s) n) none) (row y none) f in
            record {
              grows = grown;
              sort = w ∙ (ap kind_of (hb ∙ sym (ap (λ (y : Tree). y.head) copy-tree)) ∙ sym (kind_of-tree_at (Table s) n inside));
              folded = subst P (sym (t ∙ is-new)) folded;
              stopped = tt;
            }
        at (Err y) w t (inl z) = let P : Stop → Type 0 = λ u. Renumbers context others g s d n (Err u) f in subst P (sym z) (number-memory s f d n grown reached)
        at (Err y) w t (inr (z, inl left)) = let P : Stop → Type 0 = λ u. Renumbers context others g s d n (Err u) f in
            subst P (sym z) (record { grows = grown; sort = tt; folded = tt; stopped = full reached left })
        at (Err y) w t (inr (z, inr high)) =
            let P : Stop → Type 0 = λ u. Renumbers context others g s d n (Err u) f in
            let tall : 1024 < heights (row new none) = omega (arith, high, row-one-height new, ap height is-new) in
            subst P (sym z) (record { grows = grown; sort = tt; folded = tt; stopped = row-high (Asks context others g) (OnlyMakes context others g) (Refuses context others g) (IsReached context others g) (numbers_given context) folded tall })

    -- a node whose children stay isn't made again
    pub number-unchanged : {A : Type 0} (listed : A → List ℕ) (v : A) (e : F × M) → Relists context others g listed m (d + binders_of (head_of c)) (children_of c) (Ok v) e
        → numbers (children_of c) ≡ listed v → Renumbers context others g s d n (Ok n) e
    number-unchanged listed v e q nb =
        let kept = number-kept (Table s) (Table e) n (grows-trans (context s.1) (context m.1) (context e.1) h.grows q.grows).kept inside in
        let same : node_tree (Table e) c ≡ node_tree (Table m) c = ap (λ (us : List Tree). node_tree us c) q.grows.kept.is ∙ node_tree-append (Table m) q.grows.kept.added c copy-fits in
        number-again listed v e e c (Ok n) q refl nb (record { same = refl; grows = grows-refl (context e.1); rest = refl })
        (kept.0 ∙ (kind_of-tree_at (Table s) n inside ∙ ap (λ (t : Tree). kind_of t.head) copy-tree)) (kept.1 ∙ (copy-tree ∙ sym same)) tt

    -- a list of bounds has one principal at most
    pub copy-principal : (v : Vec Pred Global) → c ≡ N.Preds v → principals (pred_list_forest (Table m) v.items) ≤ 1
    copy-principal v k =
        let longer = extends-length (Table s) (Table m) h.grows.kept in
        let there : n < length (Table m) = omega (arith, inside, longer) in
        let kind : kind_at (Table m) n ≡ PredicatesKind = node_kind (Table m) n a there i ∙ (ap kind_of (sym same_head) ∙ ap (λ (x : Node). kind_of (head_of x)) k) in
        let w = preds_node (Table m) n a kind i in
        let one : HasOnePrincipal (Table m) (N.Preds w.0) = subst (HasOnePrincipal (Table m)) w.1 i.principal in
        let same = ap (λ (cs : List Child). principals (rows (trees_at (Table m) (numbers cs)))) (sym (ap children_of k) ∙ (same_children ∙ ap children_of w.1)) in
        omega (arith, one, same)

    -- what stands under a list of bounds, and the list that was made of it
    pub number-bounds : (v : Vec Pred Global) (e : F × M) (r : Result ℕ Stop) → c ≡ N.Preds v → IfOk r (λ k. kind_at (Table e) k ≡ PredicatesKind)
        → Outcome context others g (λ us k. (tree_at us k).children) m d (pred_list_forest (Table m) v.items) r e → Renumbers context others g s d n r e
    number-bounds v e r k w o = at r w o
      where
        head-is : (tree_at (Table s) n).head ≡ H.List L.Preds
        head-is = ap (λ (t : Tree). t.head) copy-tree ∙ ap head_of k

        under : (tree_at (Table s) n).children ≡ pred_list_forest (Table m) v.items
        under = ap (λ (t : Tree). t.children) copy-tree ∙ ap (λ (x : Node). rows (trees_at (Table m) (numbers (children_of x)))) k

        kind-is : kind_at (Table s) n ≡ PredicatesKind
        kind-is = kind_of-tree_at (Table s) n inside ∙ ap kind_of head-is

        depth : d ≡ d + binders_of (tree_at (Table s) n).head
        depth = let b : binders_of (tree_at (Table s) n).head ≡ 0 = ap binders_of head-is in omega arith

        at : (r : Result ℕ Stop) → IfOk r (λ k. kind_at (Table e) k ≡ PredicatesKind)
            → Outcome context others g (λ us k. (tree_at us k).children) m d (pred_list_forest (Table m) v.items) r e → Renumbers context others g s d n r e
        at (Ok j) w o =
            let To : Tree → Type 0 = λ y. FoldsBy context others g s d (row (tree_at (Table s) n) none) (row y none) e in
            let From : Forest → Type 0 = λ us. FoldsBy context others g m (d + binders_of (tree_at (Table s) n).head) us (tree_at (Table e) j).children e in
            let Depth : ℕ → Type 0 = λ x. FoldsBy context others g m x (pred_list_forest (Table m) v.items) (tree_at (Table e) j).children e in
            let head : (tree_at (Table e) j).head ≡ H.List L.Preds =
            list-head_of (tree_at (Table e) j).head L.Preds (ap list_of (sym (kind_of-tree_at (Table e) j (below_kind (Table e) j PredicatesKind refl w)) ∙ w)) in
            let same : node (tree_at (Table s) n).head (tree_at (Table e) j).children ≡ tree_at (Table e) j =
            ap (λ (x : Head). node x (tree_at (Table e) j).children) (head-is ∙ sym head) in
            record {
              grows = grows-trans (context s.1) (context m.1) (context e.1) h.grows o.grows;
              sort = w ∙ sym kind-is;
              folded = subst To same (open-folds s m e d n (tree_at (Table e) j).children h.said (subst From (sym under) (subst Depth depth o.folded)));
              stopped = tt;
            }
        at (Err x) w o =
            let From : Forest → Type 0 = λ us. StopsBy context others g m (d + binders_of (tree_at (Table s) n).head) us x e in
            let Depth : ℕ → Type 0 = λ y. StopsBy context others g m y (pred_list_forest (Table m) v.items) x e in
            record {
              grows = grows-trans (context s.1) (context m.1) (context e.1) h.grows o.grows;
              sort = tt;
              folded = tt;
              stopped = open-stops s m e d n x h.said (subst From (sym under) (subst Depth depth o.stopped));
            }

    -- the variables of a binder
    pub number-variables : (v : Vec Var Global) → c ≡ N.Vars v → AreLeaves (Table m) → Renumbers context others g s d n (Ok n) m
    number-variables v k l =
        let fits : Fits (Table m) (N.Vars v) = subst (Fits (Table m)) k copy-fits in
        number-still s m d n inside h
        (still-variables context others g m (d + binders_of (tree_at (Table s) n).head) (tree_at (Table s) n) v.items l fits
        (ap (λ (t : Tree). t.children) copy-tree ∙ ap (λ (x : Node). rows (trees_at (Table m) (numbers (children_of x)))) k))

    -- no single bound
    pub number-bound : (b : Binder ExistentialPredicate) → c ≡ N.Pred b → is_bound_kind (kind_at (Table s) n) ≡ false → ⊥
    number-bound b k lacks =
        let kind : kind_at (Table s) n ≡ PredicateKind = kind_of-tree_at (Table s) n inside ∙ ap (λ (t : Tree). kind_of t.head) (copy-tree ∙ ap (node_tree (Table m)) k) in
        let yes : is_bound_kind (kind_at (Table s) n) ≡ true = ap is_bound_kind kind in absurd cc

-- no child of another node is a single bound
no-bound-args : (xs : List GenericArg) → have_bound (sorts (map arg_child xs)) ≡ false
no-bound-args [] = refl
no-bound-args (A.Ty t ∷ xs) = no-bound-args xs
no-bound-args (A.Const t ∷ xs) = no-bound-args xs
no-bound-args (A.Region t ∷ xs) = no-bound-args xs

no-bound-clauses : (xs : List Clause) → have_bound (sorts (map clause_child xs)) ≡ false
no-bound-clauses [] = refl
no-bound-clauses (x ∷ xs) = no-bound-clauses xs

no-bound-vars : (xs : List Var) → have_bound (sorts (map var_child xs)) ≡ false
no-bound-vars [] = refl
no-bound-vars (x ∷ xs) = no-bound-vars xs

no-bound-ty : (k : TyKind) → have_bound (sorts (ty_children k)) ≡ false
no-bound-ty (K.Pat _ Pat.NotNull) = refl
no-bound-ty (K.Pat _ (Pat.Range _ _)) = refl
no-bound-ty _ = refl

no-bound-const : (k : ConstKind) → have_bound (sorts (const_children k)) ≡ false
no-bound-const (CK.Unevaluated _ _) = refl
no-bound-const _ = refl

pub no-bound-pred : (v : ExistentialPredicate) (b : Binder ExistentialPredicate) → b.value ≡ v → have_bound (sorts (pred_children b)) ≡ false
no-bound-pred (E.Trait _) b e = rw e refl
no-bound-pred (E.Projection _) b e = rw e refl
no-bound-pred (E.AutoTrait _) b e = rw e refl

no-bound-clause : (v : ClauseKind) (b : Binder ClauseKind) → b.value ≡ v → have_bound (sorts (clause_children b)) ≡ false
no-bound-clause (Cl.Trait _) b e = rw e refl
no-bound-clause (Cl.Projection _) b e = rw e refl
no-bound-clause (Cl.TypeOutlives _ _) b e = rw e refl
no-bound-clause (Cl.RegionOutlives _ _) b e = rw e refl
no-bound-clause (Cl.AliasRelate _ _) b e = rw e refl
no-bound-clause (Cl.ConstEquate _ _) b e = rw e refl

pub no-bound : (d : Node) → ((v : Vec Pred Global) → d ≡ N.Preds v → ⊥) → have_bound (sorts (children_of d)) ≡ false
no-bound (N.Ty k) lacks = no-bound-ty k
no-bound (N.Const k) lacks = no-bound-const k
no-bound (N.Region k) lacks = refl
no-bound (N.Args v) lacks = no-bound-args v.items
no-bound (N.Preds v) lacks = absurd (lacks v refl)
no-bound (N.Clauses v) lacks = no-bound-clauses v.items
no-bound (N.Pred b) lacks = no-bound-pred b.value b refl
no-bound (N.Clause b) lacks = no-bound-clause b.value b refl
no-bound (N.Sig b) lacks = refl
no-bound (N.Vars v) lacks = no-bound-vars v.items
no-bound (N.Var k) lacks = refl

pub is-rebuilt : (d : Node) → ((k : RegionKind) → d ≡ N.Region k → ⊥) → ((v : Vec Pred Global) → d ≡ N.Preds v → ⊥) → ((b : Binder ExistentialPredicate) → d ≡ N.Pred b → ⊥)
    → ((v : Vec Var Global) → d ≡ N.Vars v → ⊥) → ((k : VarKind) → d ≡ N.Var k → ⊥) → is_rebuilt d ≡ true
is-rebuilt (N.Region k) r p b v w = absurd (r k refl)
is-rebuilt (N.Preds x) r p b v w = absurd (p x refl)
is-rebuilt (N.Pred x) r p b v w = absurd (b x refl)
is-rebuilt (N.Vars x) r p b v w = absurd (v x refl)
is-rebuilt (N.Var x) r p b v w = absurd (w x refl)
is-rebuilt _ r p b v w = refl

-- a child, by its kind
pub no-bound-at : (ts : List Tree) (ks : List ℕ) (ss : List Kind) (i k : ℕ) → kinds_at ts ks ≡ ss → have_bound ss ≡ false → slice_get ks i ≡ Some k → is_bound_kind (kind_at ts k) ≡ false
no-bound-at ts [] ss i k e n a = absurd cc
no-bound-at ts (j ∷ ks) [] i k e n a = absurd cc
no-bound-at ts (j ∷ ks) (x ∷ ss) zero k e n a =
    let f : kind_at ts j ≡ x = cc in let h : j ≡ k = cc in
    ap (λ (y : ℕ). is_bound_kind (kind_at ts y)) (sym h) ∙ (ap is_bound_kind f ∙ or-left (is_bound_kind x) (have_bound ss) n)
no-bound-at ts (j ∷ ks) (x ∷ ss) (suc i) k e n a = let f : kinds_at ts ks ≡ ss = cc in no-bound-at ts ks ss i k f (or-right (is_bound_kind x) (have_bound ss) n) a

pub same-count : (ts : List Tree) (ks : List ℕ) (cs : List Child) → kinds_at ts ks ≡ sorts cs → length ks ≡ length cs
same-count ts ks cs e = sym (length-map ks (kind_at ts)) ∙ (ap length e ∙ length-map cs (λ (c : Child). c.1))
