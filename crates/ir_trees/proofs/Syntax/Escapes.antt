-- Bound variables that escape from the children of a node, one child after the other.
use Rattle.std.proofs.Common.{◌≡◌, ℕ, ◌+◌, List, [], ◌∷◌, drop, Some, slice_get, refl, sym, ◌∙◌, ap, arith}
use Rattle.std.specs.Prelude.{Bool, true, false, ◌||◌}
use Rattle.ir_trees.specs.declared.ir.heads.Head.{Head}
use Rattle.ir_trees.specs.Syntax.Trees.{Kind, there, Forest, none, tree, Tree, is_list, is_list_kind, put, join, binders_of}
use Rattle.ir_trees.specs.Syntax.Binders.{is_beyond, escapes, tree_escapes}
use Rattle.ir_trees.specs.Syntax.Kinds.{numbers}
use Rattle.ir_trees.specs.declared.ir.node.Node.{Node}
use Rattle.ir_trees.specs.Syntax.Nodes.{tree_at, kind_at, trees_at, rows, children_of, head_of}
use Rattle.ir_trees.specs.Syntax.Table.{IsNodeOf}
use Rattle.ir_trees.proofs.Syntax.Lists.{below_kind, kind_of-tree_at}
use Rattle.ir_trees.proofs.Syntax.Splits.{list-head, or-assoc}
use Rattle.ir_trees.proofs.Syntax.Children.{rest, or-true, or-false, or-true_right}

-- whether one escapes from any of the trees
abbrev pub any_escape : ℕ → List Tree → Bool
any_escape n [] = false
any_escape n (t ∷ ts) = tree_escapes n t || any_escape n ts

escape-join : (n : ℕ) (a b : Forest) → escapes n (join a b) ≡ escapes n a || escapes n b
escape-join n none b = refl
escape-join n (tree h x r) b =
    let p = is_beyond n h in let q = escapes (n + binders_of h) x in
    ap (λ (y : Bool). p || (q || y)) (escape-join n r b)
    ∙ (ap (λ (y : Bool). p || y) (sym (or-assoc q (escapes n r) (escapes n b)))
    ∙ sym (or-assoc p (q || escapes n r) (escapes n b)))

-- a list has no binder, and is no variable
list-escapes : (n : ℕ) (t : Tree) → is_list t.head ≡ true → tree_escapes n t ≡ escapes n t.children
list-escapes n t e =
    let l = list-head t.head e in
    let zero_more : n + 0 ≡ n = omega arith in
    ap (λ (h : Head). is_beyond n h || escapes (n + binders_of h) t.children) l.1
    ∙ ap (λ (m : ℕ). escapes m t.children) zero_more

put-escapes : (n : ℕ) (b : Bool) (t : Tree) (f : Forest) → is_list t.head ≡ b → escapes n (put b t f) ≡ tree_escapes n t || escapes n f
put-escapes n true t f e =
    escape-join n t.children f ∙ ap (λ (y : Bool). y || escapes n f) (sym (list-escapes n t e))
put-escapes n false t f e = sym (or-assoc (is_beyond n t.head) (escapes (n + binders_of t.head) t.children) (escapes n f))

rows-escape : (n : ℕ) (ts : List Tree) → escapes n (rows ts) ≡ any_escape n ts
rows-escape n [] = refl
rows-escape n (t ∷ ts) =
    put-escapes n (is_list t.head) t (rows ts) refl ∙ ap (λ (y : Bool). tree_escapes n t || y) (rows-escape n ts)

step : (n : ℕ) (ts : List Tree) (ks : List ℕ) (i k : ℕ) → slice_get ks i ≡ Some k
    → any_escape n (trees_at ts (drop i ks)) ≡ tree_escapes n (tree_at ts k) || any_escape n (trees_at ts (drop (i + 1) ks))
step n ts ks i k e = ap (any_escape n) (rest ts ks i k e)

-- all children from number i on say what all say
abbrev pub SameFrom : ℕ → List Tree → Node → ℕ → Type 0
SameFrom n ts d i = any_escape n (trees_at ts (numbers (children_of d))) ≡ any_escape n (trees_at ts (drop i (numbers (children_of d))))

pub escape-found : (n : ℕ) (ts : List Tree) (k : ℕ) (d : Node) (i j m : ℕ) → IsNodeOf ts k d → m ≡ n + binders_of (head_of d)
    → slice_get (numbers (children_of d)) i ≡ Some j → SameFrom m ts d i → tree_escapes m (tree_at ts j) ≡ true → true ≡ tree_escapes n (tree_at ts k)
escape-found n ts k d i j m a b e l h =
    let cs = trees_at ts (numbers (children_of d)) in
    let o = or-true (tree_escapes m (tree_at ts j)) (any_escape m (trees_at ts (drop (i + 1) (numbers (children_of d))))) h in
    let all : escapes m (rows cs) ≡ true = rows-escape m cs ∙ (l ∙ (step m ts (numbers (children_of d)) i j e ∙ o)) in
    let here : escapes (n + binders_of (head_of d)) (rows cs) ≡ true = ap (λ (x : ℕ). escapes x (rows cs)) (sym b) ∙ all in
    sym (ap (tree_escapes n) a.tree ∙ or-true_right (is_beyond n (head_of d)) _ here)

pub escape-on : (m : ℕ) (ts : List Tree) (d : Node) (i j : ℕ) → slice_get (numbers (children_of d)) i ≡ Some j
    → SameFrom m ts d i → tree_escapes m (tree_at ts j) ≡ false → SameFrom m ts d (i + 1)
escape-on m ts d i j e l h = l ∙ (step m ts (numbers (children_of d)) i j e ∙ or-false _ _ h)

pub escape-none : (n : ℕ) (ts : List Tree) (k : ℕ) (d : Node) (i m : ℕ) → IsNodeOf ts k d → m ≡ n + binders_of (head_of d) → is_beyond n (head_of d) ≡ false
    → SameFrom m ts d i → trees_at ts (drop i (numbers (children_of d))) ≡ [] → false ≡ tree_escapes n (tree_at ts k)
escape-none n ts k d i m a b h l e =
    let cs = trees_at ts (numbers (children_of d)) in
    let all : escapes m (rows cs) ≡ false = rows-escape m cs ∙ (l ∙ ap (any_escape m) e) in
    let here : escapes (n + binders_of (head_of d)) (rows cs) ≡ false = ap (λ (x : ℕ). escapes x (rows cs)) (sym b) ∙ all in
    sym (ap (tree_escapes n) a.tree ∙ (or-false (is_beyond n (head_of d)) _ h ∙ here))

-- what escapes from a list escapes from its members
pub members-escape : (ts : List Tree) (n : ℕ) (k : Kind) → there k ≡ true → is_list_kind k ≡ true → kind_at ts n ≡ k → tree_escapes 0 (tree_at ts n) ≡ escapes 0 (tree_at ts n).children
members-escape ts n k t l e =
    list-escapes 0 (tree_at ts n) (ap is_list_kind (sym (kind_of-tree_at ts n (below_kind ts n k t e)) ∙ e) ∙ l)
