-- Tables in which equal trees have one number.
use Rattle.std.proofs.Common.{◌≡◌, ℕ, zero, suc, ◌+◌, ◌<◌, ◌≤◌, true, false, List, [], ◌∷◌, ◌++◌, length, take, Option, Some, None, get_or, refl, sym, ◌∙◌, ap, arith, ◌⊎◌, inl, inr, length-append}
use Rattle.std.specs.Map.{keys_of, lookup}
use Rattle.indexmap.proofs.MapLemmas.{Missing-position}
use Rattle.std.specs.List.{position}
use Rattle.std.specs.Prelude.{IsTrue, nat_eq}
use Rattle.std.specs.Cmp.{unsigned_Decides}
use Rattle.std.proofs.lemmas.Bool.{cases_lt}
use Rattle.std.proofs.lemmas.List.Sums.{fails_before_first}
use Rattle.std.proofs.lemmas.List.Quantifiers.{position-Some}
use Rattle.ir_trees.specs.Syntax.Trees.{Tree}
use Rattle.ir_trees.specs.declared.ir.node.Node.{Node}
use Rattle.ir_trees.specs.Syntax.Nodes.{tree_at, trees_at, node_of, node_tree, Fits}
use Rattle.ir_trees.specs.Syntax.Shapes.{child_numbers, same_shape}
use Rattle.ir_trees.specs.Syntax.Table.{Row, trees_after, AreRows, AreDistinct, IsNew, Below}
use Rattle.ir_trees.proofs.Syntax.Equal.{clash}
use Rattle.ir_trees.proofs.Syntax.Lists.{Fits-below, tree_at-append, tree_at-last}
use Rattle.ir_trees.proofs.Syntax.Shapes.{shape-is, shape-same}
use Rattle.ir_trees.proofs.Syntax.Splits.{root-agree, nodes-agree}
use Rattle.ir_trees.proofs.Growth.Tables.{no_marks, table_length, table_row}

-- equal trees, one by one, have the same numbers
numbers-agree : (ts : List Tree) → AreDistinct ts → (ks js : List ℕ) → Below (length ts) ks → Below (length ts) js → trees_at ts ks ≡ trees_at ts js → ks ≡ js
numbers-agree ts a [] [] b c e = refl
numbers-agree ts a [] (j ∷ js) b c e = absurd cc
numbers-agree ts a (k ∷ ks) [] b c e = absurd cc
numbers-agree ts a (k ∷ ks) (j ∷ js) b c e =
    let h : tree_at ts k ≡ tree_at ts j = cc in let t : trees_at ts ks ≡ trees_at ts js = cc in
    let p = a k j b.0 c.0 h in let q = numbers-agree ts a ks js b.1 c.1 t in λ i. p i ∷ q i

-- nodes with equal trees are of one shape, and the other way round
pub shape-of-tree : (ts : List Tree) (d f : Node) → AreDistinct ts → Fits ts d → Fits ts f → node_tree ts d ≡ node_tree ts f → same_shape d f ≡ true
shape-of-tree ts d f a p q e =
    let r = root-agree ts d f p q e in
    let t = nodes-agree ts d f p q r.0 r.1 e in
    shape-same d f r.0 (numbers-agree ts a (child_numbers d) (child_numbers f) (Fits-below ts d p) (Fits-below ts f q) t)

pub tree-of-shape : (ts : List Tree) (d f : Node) → same_shape d f ≡ true → node_tree ts d ≡ node_tree ts f
tree-of-shape ts d f e =
    let p = shape-is d f e in
    λ i. node_of (p.0 i) (trees_at ts (p.1 i))

keys-get : (es : List Row) (i : ℕ) (r : Row) → get_or (keys_of es) i r.0 ≡ (get_or es i r).0
keys-get [] i r = refl
keys-get (e ∷ es) zero r = refl
keys-get (e ∷ es) (suc i) r = keys-get es i r

keys-length : (es : List Row) → length (keys_of es) ≡ length es
keys-length [] = refl
keys-length (e ∷ es) = ap suc (keys-length es)

get_or-self : (es : List Row) (i : ℕ) (r : Row) → i < length es → get_or es i r ≡ get_or es i (get_or es i r)
get_or-self [] i r h = absurd (omega arith)
get_or-self (e ∷ es) zero r h = refl
get_or-self (e ∷ es) (suc i) r h = get_or-self es i r (omega arith)

-- a node that the table has: its number has its tree
pub found : (ts : List Tree) (es : List Row) (d : Node) (i : ℕ) → trees_after [] es ≡ ts → AreRows [] es
    → Some i ≡ position (same_shape d) (keys_of es)
    → (i < length ts) × (tree_at ts i ≡ node_tree ts d)
found ts es d i e a p =
    let q : Row = get_or es i (d, record { height = 0; marks = no_marks }) in
    let s = position-Some (same_shape d) (keys_of es) i d (sym p) in
    let l : i < length es = omega (arith, s.0, keys-length es) in
    let t = table_length ts es e in
    let r = table_row ts es i q e a (omega arith) (get_or-self es i (d, record { height = 0; marks = no_marks }) l) in
    let k : same_shape d q.0 ≡ true = ap (same_shape d) (sym (keys-get es i (d, record { height = 0; marks = no_marks }))) ∙ s.1 in
    (omega arith, r.tree ∙ sym (tree-of-shape ts d q.0 k))

-- a node that the table doesn't have: no number has its tree
pub absent : (ts : List Tree) (es : List Row) (d : Node) → trees_after [] es ≡ ts → AreRows [] es → AreDistinct ts → Fits ts d
    → None ≡ position (same_shape d) (keys_of es) → IsNew ts (node_tree ts d)
absent ts es d e a u f p i h t =
    let past : Row = (d, record { height = 0; marks = no_marks }) in
    let q : Row = get_or es i past in
    let l : i < length es = omega (arith, table_length ts es e) in
    let r = table_row ts es i q e a h (get_or-self es i past l) in
    let k : same_shape d q.0 ≡ true = shape-of-tree ts d q.0 u f r.fits (sym t ∙ r.tree) in
    let m : same_shape d q.0 ≡ false = ap (same_shape d) (sym (keys-get es i past)) ∙ fails_before_first (same_shape d) (keys_of es) i d (omega (arith, keys-length es, (Missing-position (same_shape d) es (sym p)).or_len)) in
    clash _ k m

-- a table with one more tree, which is new
pub distinct-more : (ts us : List Tree) (t : Tree) → us ≡ ts ++ t ∷ [] → AreDistinct ts → IsNew ts t → AreDistinct us
distinct-more ts us t e a w m n h k p =
    let s : length us ≡ length ts + 1 = ap length e ∙ length-append ts (t ∷ []) in
    let at : (j : ℕ) → j < length ts → tree_at us j ≡ tree_at ts j = λ j l. ap (λ (xs : List Tree). tree_at xs j) e ∙ tree_at-append ts (t ∷ []) j l in
    let last : (j : ℕ) → j ≡ length ts → tree_at us j ≡ t = λ j l. ap (tree_at us) l ∙ (ap (λ (xs : List Tree). tree_at xs (length ts)) e ∙ tree_at-last ts t) in
    both s at last (old-or-last m s h) (old-or-last n s k)
  where
    old-or-last : (j : ℕ) → length us ≡ length ts + 1 → j < length us → (j < length ts) ⊎ (j ≡ length ts)
    old-or-last j s l = at (cases_lt j (length ts))
      where
        at : (j < length ts) ⊎ (length ts ≤ j) → (j < length ts) ⊎ (j ≡ length ts)
        at (inl x) = inl x
        at (inr x) = inr (omega arith)

    both : length us ≡ length ts + 1 → ((j : ℕ) → j < length ts → tree_at us j ≡ tree_at ts j) → ((j : ℕ) → j ≡ length ts → tree_at us j ≡ t)
        → (m < length ts) ⊎ (m ≡ length ts) → (n < length ts) ⊎ (n ≡ length ts) → m ≡ n
    both s at last (inl x) (inl y) = a m n x y (sym (at m x) ∙ (p ∙ at n y))
    both s at last (inl x) (inr y) = absurd (w m x (sym (at m x) ∙ (p ∙ last n y)))
    both s at last (inr x) (inl y) = absurd (w n y (sym (at n y) ∙ (sym p ∙ last m x)))
    both s at last (inr x) (inr y) = x ∙ sym y

-- the first trees of a table
pub distinct-front : (ts : List Tree) (k : ℕ) → AreDistinct ts → AreDistinct (take k ts)
distinct-front ts k a m n h l e =
    let b = length-take-most ts k in
    a m n (omega arith) (omega arith) (sym (tree_at-take ts k m h) ∙ (e ∙ tree_at-take ts k n l))
  where
    length-take-most : (ts : List Tree) (k : ℕ) → length (take k ts) ≤ length ts
    length-take-most [] zero = omega arith
    length-take-most [] (suc k) = omega arith
    length-take-most (t ∷ ts) zero = omega arith
    length-take-most (t ∷ ts) (suc k) = omega (arith, length-take-most ts k)

    tree_at-take : (ts : List Tree) (k n : ℕ) → n < length (take k ts) → tree_at (take k ts) n ≡ tree_at ts n
    tree_at-take [] zero n h = refl
    tree_at-take [] (suc k) n h = refl
    tree_at-take (t ∷ ts) zero n h = absurd (omega arith)
    tree_at-take (t ∷ ts) (suc k) zero h = refl
    tree_at-take (t ∷ ts) (suc k) (suc n) h = tree_at-take ts k n (omega arith)

-- a node whose tree is new has no entry
pub missing : (ts : List Tree) (es : List Row) (d : Node) → trees_after [] es ≡ ts → AreRows [] es → Fits ts d → IsNew ts (node_tree ts d) → lookup (same_shape d) es ≡ None
missing ts es d e a f w = by (position (same_shape d) (keys_of es)) refl
  where
    by : (r : Option ℕ) → position (same_shape d) (keys_of es) ≡ r → lookup (same_shape d) es ≡ None
    by None p = (Missing-position (same_shape d) es p).value
    by (Some i) p = let x = found ts es d i e a (sym p) in absurd (w i x.0 x.1)

-- equal trees by equal numbers
pub same-by-number : (ts : List Tree) (m n i j : ℕ) → AreDistinct ts → m < length ts → n < length ts → i ≡ m → j ≡ n
    → (IsTrue (nat_eq i j) → tree_at ts m ≡ tree_at ts n) × (tree_at ts m ≡ tree_at ts n → IsTrue (nat_eq i j))
same-by-number ts m n i j a h k p q = (
  (λ e. ap (tree_at ts) (sym p ∙ ((unsigned_Decides i j).0 e ∙ q))),
  (λ e. (unsigned_Decides i j).1 (p ∙ (a m n h k e ∙ sym q))),
)
