-- A row tells which trees it was put together from: a node has one list at most, and what follows it is single.
use Rattle.std.proofs.Common.{◌≡◌, ℕ, zero, suc, ◌+◌, max, List, [], ◌∷◌, length, Option, Some, None, refl, sym, ◌∙◌, ap, arith, ◌⊎◌, inl, inr}
use Rattle.std.specs.Prelude.{map, Bool, true, false, ◌||◌}
use Rattle.ir_trees.specs.declared.ir.kinds.TyKind.{TyKind}
use Rattle.ir_trees.specs.declared.ir.kinds.TyKind.TheVariants as K
use Rattle.ir_trees.specs.declared.ir.kinds.Pattern.TheVariants as Pat
use Rattle.ir_trees.specs.declared.ir.kinds.ConstKind.{ConstKind}
use Rattle.ir_trees.specs.declared.ir.kinds.ConstKind.TheVariants as CK
use Rattle.ir_trees.specs.declared.ir.kinds.ExistentialPredicate.{ExistentialPredicate}
use Rattle.ir_trees.specs.declared.ir.kinds.ExistentialPredicate.TheVariants as E
use Rattle.ir_trees.specs.declared.ir.kinds.Binder.{Binder}
use Rattle.ir_trees.specs.declared.ir.kinds.Pred.{Pred}
use Rattle.ir_trees.specs.declared.ir.kinds.Var.{Var}
use Rattle.ir_trees.specs.declared.ir.kinds.Clause.{Clause}
use Rattle.ir_trees.specs.declared.ir.kinds.ClauseKind.{ClauseKind}
use Rattle.ir_trees.specs.declared.ir.kinds.ClauseKind.TheVariants as Cl
use Rattle.ir_trees.specs.declared.ir.kinds.GenericArg.{GenericArg}
use Rattle.ir_trees.specs.declared.ir.kinds.GenericArg.TheVariants as A
use Rattle.ir_trees.specs.declared.ir.heads.Head.{Head}
use Rattle.ir_trees.specs.declared.ir.heads.Head.TheVariants as H
use Rattle.ir_trees.specs.declared.ir.heads.Builtin.TheVariants as B
use Rattle.ir_trees.specs.declared.ir.heads.ConstHead.TheVariants as C
use Rattle.ir_trees.specs.declared.ir.heads.PredHead.TheVariants as PH
use Rattle.ir_trees.specs.declared.ir.heads.ClauseHead.TheVariants as ClH
use Rattle.ir_trees.specs.declared.ir.heads.PartHead.{PartHead}
use Rattle.ir_trees.specs.declared.ir.heads.PartHead.TheVariants as P
use Rattle.ir_trees.specs.declared.ir.heads.ListHead.{ListHead}
use Rattle.ir_trees.specs.declared.ir.heads.ListHead.TheVariants as L
use Rattle.ir_trees.specs.declared.ir.heads.VariableSort.{VariableSort}
use Rattle.ir_trees.specs.declared.ir.heads.VariableSort.TheVariants as V
use Rattle.ir_trees.specs.Syntax.Trees.{Kind, ArgumentsKind, PredicatesKind, ClausesKind, Forest, none, tree, Tree, kind_of, sort_kind, part_kind, is_list_kind, is_list, put, row, join, count, kind_weight, heights, height, holds, tree_holds}
use Rattle.ir_trees.specs.Syntax.Kinds.{Child, numbers, sorts, arg_child}
use Rattle.ir_trees.specs.Syntax.Nodes.{tree_at, kind_at, trees_at, kinds_at, rows, tallest, any_holds, node_tree, head_of, children_of, pred_child, clause_child, var_child, Fits}
use Rattle.ir_trees.specs.declared.ir.node.Node.{Node}
use Rattle.ir_trees.specs.declared.ir.node.Node.TheVariants as N
use Rattle.ir_trees.specs.Syntax.Table.{Below}
use Rattle.ir_trees.proofs.Syntax.Lists.{below_kind, Fits-below, kind_of-tree_at}
use Rattle.ir_trees.specs.Syntax.Trees.{there}

abbrev pub list_of : Kind → Option ListHead
list_of ArgumentsKind = Some L.Args
list_of PredicatesKind = Some L.Preds
list_of ClausesKind = Some L.Clauses
list_of _ = None

none-list : (k : Kind) → list_of k ≡ None → is_list_kind k ≡ false
none-list ArgumentsKind e = absurd cc
none-list PredicatesKind e = absurd cc
none-list ClausesKind e = absurd cc
none-list _ e = refl

some-list : (k : Kind) (l : ListHead) → list_of k ≡ Some l → is_list_kind k ≡ true
some-list ArgumentsKind l e = refl
some-list PredicatesKind l e = refl
some-list ClausesKind l e = refl
some-list _ l e = absurd cc

sort-single : (s : VariableSort) → is_list_kind (sort_kind s) ≡ false
sort-single V.Constant = refl
sort-single _ = refl

part-single : (p : PartHead) → is_list_kind (part_kind p) ≡ false
part-single (P.Pred _) = refl
part-single (P.Clause _) = refl
part-single P.Sig = refl
part-single P.Vars = refl
part-single (P.Var _) = refl

pub list-head : (h : Head) → is_list h ≡ true → (l : ListHead) × (h ≡ H.List l)
list-head (H.Infer v) e = absurd (let f = sort-single v.sort in cc)
list-head (H.Part p) e = absurd (let f = part-single p in cc)
list-head (H.List l) e = (l, refl)
list-head _ e = absurd cc

-- a list's head from its kind
pub list-head_of : (h : Head) (l : ListHead) → list_of (kind_of h) ≡ Some l → h ≡ H.List l
list-head_of h l e =
    let g = list-head h (some-list (kind_of h) l e) in
    let f : list_of (kind_of (H.List g.0)) ≡ Some l = ap (λ (x : Head). list_of (kind_of x)) (sym g.1) ∙ e in
    g.1 ∙ ap H.List (of g.0 f)
  where
    of : (m : ListHead) → list_of (kind_of (H.List m)) ≡ Some l → m ≡ l
    of L.Args f = cc
    of L.Preds f = cc
    of L.Clauses f = cc

-- lists of one kind with equal members are equal
pub lists-agree : (ts : List Tree) (n m : ℕ) (k : Kind) (l : ListHead) → there k ≡ true → list_of k ≡ Some l → kind_at ts n ≡ k → kind_at ts m ≡ k
    → (tree_at ts n).children ≡ (tree_at ts m).children → tree_at ts n ≡ tree_at ts m
lists-agree ts n m k l h i a b e =
    let head : (j : ℕ) → kind_at ts j ≡ k → (tree_at ts j).head ≡ H.List l =
    λ j g. list-head_of (tree_at ts j).head l (ap list_of (sym (kind_of-tree_at ts j (below_kind ts j k h g)) ∙ g) ∙ i) in
    let q : (tree_at ts n).head ≡ (tree_at ts m).head = head n a ∙ sym (head m b) in
    λ i. record { head = q i; children = e i }

-- which children are lists
abbrev pub lists : List Tree → List (Option ListHead)
lists [] = []
lists (t ∷ ts) = list_of (kind_of t.head) ∷ lists ts

abbrev pub no_list : List (Option ListHead) → Bool
no_list [] = true
no_list (None ∷ bs) = no_list bs
no_list (Some _ ∷ bs) = false

abbrev pub one_list : List (Option ListHead) → Bool
one_list [] = true
one_list (None ∷ bs) = one_list bs
one_list (Some _ ∷ bs) = no_list bs

pub no-one : (bs : List (Option ListHead)) → no_list bs ≡ true → one_list bs ≡ true
no-one [] e = refl
no-one (None ∷ bs) e = no-one bs e
no-one (Some _ ∷ bs) e = absurd cc

pub count-join : (a b : Forest) → count (join a b) ≡ count a + count b
count-join none b = omega arith
count-join (tree h x r) b = omega (arith, count-join r b)

cancel : (a b c d : Forest) → count c ≡ count d → join a c ≡ join b d → (a ≡ b) × (c ≡ d)
cancel none none c d n e = (refl, e)
cancel none (tree h x r) c d n e = absurd (omega (arith, n, ap count e, count-join r d))
cancel (tree h x r) none c d n e = absurd (omega (arith, n, ap count e, count-join r c))
cancel (tree h x r) (tree g y s) c d n e =
    let f : join r c ≡ join s d = cc in let k = cancel r s c d n f in
    let p : h ≡ g = cc in let q : x ≡ y = cc in let o = k.0 in (cc, k.1)

pub single-row : (t : Tree) (f : Forest) → list_of (kind_of t.head) ≡ None → row t f ≡ tree t.head t.children f
single-row t f e = ap (λ (b : Bool). put b t f) (none-list (kind_of t.head) e)

pub list-row : (t : Tree) (f : Forest) (l : ListHead) → list_of (kind_of t.head) ≡ Some l → row t f ≡ join t.children f
list-row t f l e = ap (λ (b : Bool). put b t f) (some-list (kind_of t.head) l e)

pub count-single : (bs : List (Option ListHead)) (xs : List Tree) → lists xs ≡ bs → no_list bs ≡ true → count (rows xs) ≡ length bs
count-single [] [] e n = refl
count-single [] (x ∷ xs) e n = absurd cc
count-single (b ∷ bs) [] e n = absurd cc
count-single (None ∷ bs) (x ∷ xs) e n =
    let f : list_of (kind_of x.head) ≡ None = cc in let g : lists xs ≡ bs = cc in
    omega (arith, ap count (single-row x (rows xs) f), count-single bs xs g n)
count-single (Some _ ∷ bs) (x ∷ xs) e n = absurd cc

same_tree : (x y : Tree) → x.head ≡ y.head → x.children ≡ y.children → x ≡ y
same_tree x y h k i = record { head = h i; children = k i }

pub agree : (bs : List (Option ListHead)) (xs ys : List Tree) → lists xs ≡ bs → lists ys ≡ bs → one_list bs ≡ true → rows xs ≡ rows ys → xs ≡ ys
agree [] [] [] e f o r = refl
agree [] [] (y ∷ ys) e f o r = absurd cc
agree [] (x ∷ xs) ys e f o r = absurd cc
agree (b ∷ bs) [] ys e f o r = absurd cc
agree (b ∷ bs) (x ∷ xs) [] e f o r = absurd cc
agree (None ∷ bs) (x ∷ xs) (y ∷ ys) e f o r =
    let ex : list_of (kind_of x.head) ≡ None = cc in let ey : list_of (kind_of y.head) ≡ None = cc in
    let es : lists xs ≡ bs = cc in let fs : lists ys ≡ bs = cc in
    let q : tree x.head x.children (rows xs) ≡ tree y.head y.children (rows ys) =
    sym (single-row x (rows xs) ex) ∙ (r ∙ single-row y (rows ys) ey) in
    let h : x.head ≡ y.head = cc in let k : x.children ≡ y.children = cc in let g : rows xs ≡ rows ys = cc in
    let t = same_tree x y h k in let u = agree bs xs ys es fs o g in cc
agree (Some l ∷ bs) (x ∷ xs) (y ∷ ys) e f o r =
    let ex : list_of (kind_of x.head) ≡ Some l = cc in let ey : list_of (kind_of y.head) ≡ Some l = cc in
    let es : lists xs ≡ bs = cc in let fs : lists ys ≡ bs = cc in
    let n : count (rows xs) ≡ count (rows ys) = count-single bs xs es o ∙ sym (count-single bs ys fs o) in
    let q : join x.children (rows xs) ≡ join y.children (rows ys) = sym (list-row x (rows xs) l ex) ∙ (r ∙ list-row y (rows ys) l ey) in
    let k = cancel x.children y.children (rows xs) (rows ys) n q in
    let t = same_tree x y (list-head_of x.head l ex ∙ sym (list-head_of y.head l ey)) k.0 in
    let u = agree bs xs ys es fs (no-one bs o) k.1 in cc

abbrev nones : ℕ → List (Option ListHead)
nones zero = []
nones (suc n) = None ∷ nones n

-- which children of a node with the head are lists
abbrev pub shape : Head → ℕ → List (Option ListHead)
shape (H.Adt _) n = Some L.Args ∷ []
shape (H.FnDef _) n = Some L.Args ∷ []
shape (H.Alias _ _) n = Some L.Args ∷ []
shape (H.Builtin B.Tuple) n = Some L.Args ∷ []
shape (H.Const (C.Unevaluated _)) n = Some L.Args ∷ []
shape (H.Builtin (B.FnPtr _)) n = None ∷ Some L.Args ∷ None ∷ []
shape H.Dynamic n = Some L.Preds ∷ None ∷ []
shape (H.Closure _ _) n = Some L.Args ∷ None ∷ None ∷ []
shape (H.Part (P.Pred (PH.Trait _))) n = None ∷ Some L.Args ∷ []
shape (H.Part (P.Pred (PH.Projection _))) n = None ∷ Some L.Args ∷ None ∷ []
shape (H.Part (P.Clause (ClH.Trait _ _))) n = None ∷ Some L.Args ∷ []
shape (H.Part (P.Clause (ClH.Projection _))) n = None ∷ Some L.Args ∷ None ∷ []
shape _ n = nones n

nones-no : (n : ℕ) → no_list (nones n) ≡ true
nones-no zero = refl
nones-no (suc n) = nones-no n

nones-one : (n : ℕ) → one_list (nones n) ≡ true
nones-one n = no-one (nones n) (nones-no n)

pub shape-one : (h : Head) (n : ℕ) → one_list (shape h n) ≡ true
shape-one (H.Adt _) n = refl
shape-one (H.FnDef _) n = refl
shape-one (H.Alias _ _) n = refl
shape-one (H.Builtin B.Tuple) n = refl
shape-one (H.Const (C.Unevaluated _)) n = refl
shape-one (H.Builtin (B.FnPtr _)) n = refl
shape-one H.Dynamic n = refl
shape-one (H.Closure _ _) n = refl
shape-one (H.Part (P.Pred (PH.Trait _))) n = refl
shape-one (H.Part (P.Pred (PH.Projection _))) n = refl
shape-one (H.Part (P.Clause (ClH.Trait _ _))) n = refl
shape-one (H.Part (P.Clause (ClH.Projection _))) n = refl
shape-one _ n = nones-one n

shape-args : (xs : List GenericArg) → map list_of (sorts (map arg_child xs)) ≡ nones (length (map arg_child xs))
shape-args [] = refl
shape-args (A.Ty _ ∷ xs) = ap (λ (x : List (Option ListHead)). None ∷ x) (shape-args xs)
shape-args (A.Const _ ∷ xs) = ap (λ (x : List (Option ListHead)). None ∷ x) (shape-args xs)
shape-args (A.Region _ ∷ xs) = ap (λ (x : List (Option ListHead)). None ∷ x) (shape-args xs)

shape-preds : (xs : List Pred) → map list_of (sorts (map pred_child xs)) ≡ nones (length (map pred_child xs))
shape-preds [] = refl
shape-preds (p ∷ xs) = ap (λ (x : List (Option ListHead)). None ∷ x) (shape-preds xs)

shape-clauses : (xs : List Clause) → map list_of (sorts (map clause_child xs)) ≡ nones (length (map clause_child xs))
shape-clauses [] = refl
shape-clauses (c ∷ xs) = ap (λ (x : List (Option ListHead)). None ∷ x) (shape-clauses xs)

shape-vars : (xs : List Var) → map list_of (sorts (map var_child xs)) ≡ nones (length (map var_child xs))
shape-vars [] = refl
shape-vars (p ∷ xs) = ap (λ (x : List (Option ListHead)). None ∷ x) (shape-vars xs)

abbrev Shaped : Node → Type 0
Shaped d = map list_of (sorts (children_of d)) ≡ shape (head_of d) (length (children_of d))

shape-ty : (k : TyKind) → Shaped (N.Ty k)
shape-ty (K.Pat _ Pat.NotNull) = refl
shape-ty (K.Pat _ (Pat.Range _ _)) = refl
shape-ty _ = refl

shape-const : (k : ConstKind) → Shaped (N.Const k)
shape-const (CK.Unevaluated _ _) = refl
shape-const _ = refl

shape-pred : (v : ExistentialPredicate) (b : Binder ExistentialPredicate) → b.value ≡ v → Shaped (N.Pred b)
shape-pred (E.Trait _) b e = rw e refl
shape-pred (E.Projection _) b e = rw e refl
shape-pred (E.AutoTrait _) b e = rw e refl

shape-clause : (v : ClauseKind) (b : Binder ClauseKind) → b.value ≡ v → Shaped (N.Clause b)
shape-clause (Cl.Trait _) b e = rw e refl
shape-clause (Cl.Projection _) b e = rw e refl
shape-clause (Cl.TypeOutlives _ _) b e = rw e refl
shape-clause (Cl.RegionOutlives _ _) b e = rw e refl
shape-clause (Cl.AliasRelate _ _) b e = rw e refl
shape-clause (Cl.ConstEquate _ _) b e = rw e refl

pub shaped : (d : Node) → Shaped d
shaped (N.Ty k) = shape-ty k
shaped (N.Const k) = shape-const k
shaped (N.Region k) = refl
shaped (N.Args v) = shape-args v.items
shaped (N.Preds v) = shape-preds v.items
shaped (N.Clauses v) = shape-clauses v.items
shaped (N.Pred b) = shape-pred b.value b refl
shaped (N.Clause b) = shape-clause b.value b refl
shaped (N.Sig b) = refl
shaped (N.Vars v) = shape-vars v.items
shaped (N.Var k) = refl

lists-at : (ts : List Tree) (ks : List ℕ) → Below (length ts) ks → lists (trees_at ts ks) ≡ map list_of (kinds_at ts ks)
lists-at ts [] b = refl
lists-at ts (k ∷ ks) b =
    let e = ap list_of (sym (kind_of-tree_at ts k b.0)) in let f = lists-at ts ks b.1 in cc

pub lists-node : (ts : List Tree) (d : Node) → Fits ts d → lists (trees_at ts (numbers (children_of d))) ≡ shape (head_of d) (length (children_of d))
lists-node ts d f = lists-at ts (numbers (children_of d)) (Fits-below ts d f) ∙ (ap (map list_of) f ∙ shaped d)

-- nodes with one root and equal rows have equal children
pub nodes-agree : (ts : List Tree) (d f : Node) → Fits ts d → Fits ts f → head_of d ≡ head_of f → length (children_of d) ≡ length (children_of f)
    → node_tree ts d ≡ node_tree ts f → trees_at ts (numbers (children_of d)) ≡ trees_at ts (numbers (children_of f))
nodes-agree ts d f p q h n e =
    let s : shape (head_of f) (length (children_of f)) ≡ shape (head_of d) (length (children_of d)) = rw (h, n) refl in
    agree (shape (head_of d) (length (children_of d))) _ _ (lists-node ts d p) (lists-node ts f q ∙ s)
    (shape-one (head_of d) (length (children_of d))) (ap (λ (t : Tree). t.children) e)

length-nones : (n : ℕ) → length (nones n) ≡ n
length-nones zero = refl
length-nones (suc n) = ap suc (length-nones n)

abbrev Uniform : Head → Type 0
Uniform h = (n : ℕ) → shape h n ≡ nones n

abbrev Steady : Head → Type 0
Steady h = ((n m : ℕ) → shape h n ≡ shape h m) ⊎ ((n : ℕ) → shape h n ≡ nones n)

steady : (h : Head) → Steady h
steady (H.Adt _) = inl (λ n m. refl)
steady (H.FnDef _) = inl (λ n m. refl)
steady (H.Alias _ _) = inl (λ n m. refl)
steady (H.Builtin B.Tuple) = inl (λ n m. refl)
steady (H.Const (C.Unevaluated _)) = inl (λ n m. refl)
steady (H.Builtin (B.FnPtr _)) = inl (λ n m. refl)
steady H.Dynamic = inl (λ n m. refl)
steady (H.Closure _ _) = inl (λ n m. refl)
steady (H.Part (P.Pred (PH.Trait _))) = inl (λ n m. refl)
steady (H.Part (P.Pred (PH.Projection _))) = inl (λ n m. refl)
steady (H.Part (P.Clause (ClH.Trait _ _))) = inl (λ n m. refl)
steady (H.Part (P.Clause (ClH.Projection _))) = inl (λ n m. refl)
steady _ = inr (λ n. refl)

length-lists : (cs : List Child) → length (map list_of (sorts cs)) ≡ length cs
length-lists [] = refl
length-lists (c ∷ cs) = ap suc (length-lists cs)

counted : (ts : List Tree) (d : Node) → Fits ts d → Uniform (head_of d) → count (rows (trees_at ts (numbers (children_of d)))) ≡ length (children_of d)
counted ts d f u =
    count-single (nones (length (children_of d))) _ (lists-node ts d f ∙ u (length (children_of d))) (nones-no (length (children_of d)))
    ∙ length-nones (length (children_of d))

-- nodes with one head and equally many trees under them have equally many children
pub counts-agree : (ts : List Tree) (d f : Node) → Fits ts d → Fits ts f → head_of d ≡ head_of f
    → count (rows (trees_at ts (numbers (children_of d)))) ≡ count (rows (trees_at ts (numbers (children_of f))))
    → length (children_of d) ≡ length (children_of f)
counts-agree ts d f p q h e = at (steady (head_of d))
  where
    at : Steady (head_of d) → length (children_of d) ≡ length (children_of f)
    at (inl s) =
        sym (length-lists (children_of d))
        ∙ (ap length (shaped d ∙ (s (length (children_of d)) (length (children_of f)) ∙ (ap (λ (x : Head). shape x (length (children_of f))) h ∙ sym (shaped f))))
        ∙ length-lists (children_of f))
    at (inr u) =
        let v : Uniform (head_of f) = λ n. ap (λ (x : Head). shape x n) (sym h) ∙ u n in
        sym (counted ts d p u) ∙ (e ∙ counted ts f q v)

-- equal nodes have one root
pub root-agree : (ts : List Tree) (d f : Node) → Fits ts d → Fits ts f → node_tree ts d ≡ node_tree ts f
    → (head_of d ≡ head_of f) × (length (children_of d) ≡ length (children_of f))
root-agree ts d f p q e =
    let h : head_of d ≡ head_of f = ap (λ (t : Tree). t.head) e in
    (h, counts-agree ts d f p q h (ap (λ (t : Tree). count t.children) e))

-- heights and marks of a row
list-weight : (k : Kind) → is_list_kind k ≡ true → kind_weight k ≡ 0
list-weight ArgumentsKind e = refl
list-weight PredicatesKind e = refl
list-weight ClausesKind e = refl
list-weight _ e = absurd cc

pub heights-join : (a b : Forest) → heights (join a b) ≡ max (heights a) (heights b)
heights-join none b = omega arith
heights-join (tree h x r) b = omega (arith, heights-join r b)

row-height : (b : Bool) (t : Tree) (f : Forest) → is_list t.head ≡ b → heights (put b t f) ≡ max (height t) (heights f)
row-height true t f e = omega (arith, heights-join t.children f, list-weight (kind_of t.head) e)
row-height false t f e = refl

pub rows-height : (ts : List Tree) → heights (rows ts) ≡ tallest ts
rows-height [] = refl
rows-height (t ∷ ts) = row-height (is_list t.head) t (rows ts) refl ∙ ap (max (height t)) (rows-height ts)

pub or-assoc : (a b c : Bool) → (a || b) || c ≡ a || (b || c)
or-assoc true b c = refl
or-assoc false b c = refl

pub holds-join : (p : Head → Bool) (a b : Forest) → holds p (join a b) ≡ holds p a || holds p b
holds-join p none b = refl
holds-join p (tree h x r) b =
    ap (λ (y : Bool). p h || (holds p x || y)) (holds-join p r b)
    ∙ (ap (λ (y : Bool). p h || y) (sym (or-assoc (holds p x) (holds p r) (holds p b)))
    ∙ sym (or-assoc (p h) (holds p x || holds p r) (holds p b)))

module _ (p : Head → Bool) (off : (l : ListHead) → p (H.List l) ≡ false) where
  row-holds : (b : Bool) (t : Tree) (f : Forest) → is_list t.head ≡ b → holds p (put b t f) ≡ tree_holds p t || holds p f
  row-holds true t f e =
      let l = list-head t.head e in
      let n : p t.head ≡ false = ap p l.1 ∙ off l.0 in
      holds-join p t.children f ∙ sym (ap (λ (y : Bool). (y || holds p t.children) || holds p f) n)
  row-holds false t f e = sym (or-assoc (p t.head) (holds p t.children) (holds p f))

  pub rows-holds : (ts : List Tree) → holds p (rows ts) ≡ any_holds p ts
  rows-holds [] = refl
  rows-holds (t ∷ ts) =
      row-holds (is_list t.head) t (rows ts) refl ∙ ap (λ (y : Bool). tree_holds p t || y) (rows-holds ts)
