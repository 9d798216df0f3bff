-- What stands in which place below a number.
use Rattle.std.specs.Prelude.{MatchOption}
use Rattle.std.proofs.Common.{◌≡◌, ℕ, zero, suc, ◌+◌, ◌<◌, Bool, true, false, List, [], ◌∷◌, length, drop, slice_get, Option, Some, None, refl, sym, ◌∙◌, ap, arith, if◌then◌else◌}
use Rattle.ir_trees.specs.declared.ir.heads.Head.{Head}
use Rattle.ir_trees.specs.declared.ir.heads.ListHead.{ListHead}
use Rattle.ir_trees.specs.declared.ir.heads.Head.TheVariants as H
use Rattle.ir_trees.specs.declared.ir.heads.PartHead.TheVariants as P
use Rattle.ir_trees.specs.declared.ir.node.Node.{Node}
use Rattle.ir_trees.specs.Syntax.Trees.{Forest, none, tree, Tree, count, is_list, join, put, row, skip, kind_of}
use Rattle.ir_trees.specs.Syntax.Kinds.{numbers}
use Rattle.ir_trees.specs.Syntax.Nodes.{tree_at, trees_at, rows, node_tree, head_of, children_of}
use Rattle.ir_trees.specs.Calls.Places.{has_single_children, single_row, width_at, IsPart}
use Rattle.ir_trees.specs.Instantiation.Results.{IsChildAt}
use Rattle.ir_trees.specs.Syntax.Table.{IsNodeOf}
use Rattle.ir_trees.proofs.Syntax.Children.{Below-get, rest}
use Rattle.ir_trees.proofs.Syntax.Rows.{join-none}
use Rattle.ir_trees.proofs.Syntax.Splits.{list-head, list_of, lists, no_list, shape, count-single, lists-node, single-row}

-- Skipping

pub skip-on : (n : ℕ) (ts : Forest) → skip (suc n) ts ≡ skip 1 (skip n ts)
skip-on zero ts = refl
skip-on (suc n) none = refl
skip-on (suc n) (tree h below rest) = skip-on n rest

skip-near : (n : ℕ) (a b : Forest) → n < count a → skip n (join a b) ≡ join (skip n a) b
skip-near zero a b l = refl
skip-near (suc n) none b l = absurd (omega arith)
skip-near (suc n) (tree h below rest) b l = skip-near n rest b (omega arith)

skip-far : (n : ℕ) (a b : Forest) (m : ℕ) → n ≡ count a + m → skip n (join a b) ≡ skip m b
skip-far n none b m e = let f : n ≡ m = omega arith in ap (λ (i : ℕ). skip i b) f
skip-far zero (tree h below rest) b m e = absurd (omega arith)
skip-far (suc n) (tree h below rest) b m e = skip-far n rest b m (omega arith)

-- one tree, and then the others
pub next_there : (n : ℕ) (ts : Forest) (h : Head) (below others : Forest) → skip n ts ≡ tree h below others → skip n ts ≡ tree h below (skip (suc n) ts)
next_there n ts h below others e = e ∙ ap (tree h below) (sym (skip-on n ts ∙ ap (skip 1) e))

-- What a number is among the children of another.

row-joined : (t : Tree) (others : Forest) → row t others ≡ join (row t none) others
row-joined t others = at (is_list t.head)
  where
    at : (b : Bool) → put b t others ≡ join (put b t none) others
    at true = ap (λ ts. join ts others) (sym (join-none t.children))
    at false = refl

row-width : (t : Tree) → count (row t none) ≡ (if is_list t.head then count t.children else 1)
row-width t = at (is_list t.head)
  where
    at : (b : Bool) → count (put b t none) ≡ (if b then count t.children else 1)
    at true = ap count (join-none t.children)
    at false = refl

-- The rows from child number i on, of which so many trees are left to be passed.
abbrev pub IsAt : List Tree → Node → ℕ → ℕ → ℕ → Type 0
IsAt ts d place i left = skip place (rows (trees_at ts (numbers (children_of d)))) ≡ skip left (rows (trees_at ts (drop i (numbers (children_of d)))))

split : (ts : List Tree) (d : Node) (place i left k : ℕ) → slice_get (numbers (children_of d)) i ≡ Some k → IsAt ts d place i left
    → skip place (rows (trees_at ts (numbers (children_of d)))) ≡ skip left (join (single_row ts k) (rows (trees_at ts (drop (i + 1) (numbers (children_of d))))))
split ts d place i left k e at =
    at ∙ ap (λ xs. skip left (rows xs)) (rest ts (numbers (children_of d)) i k e) ∙ ap (skip left) (row-joined (tree_at ts k) (rows (trees_at ts (drop (i + 1) (numbers (children_of d))))))

pub passed_over : (ts : List Tree) (d : Node) (place i left k m : ℕ) → slice_get (numbers (children_of d)) i ≡ Some k → left ≡ width_at ts k + m → IsAt ts d place i left
    → IsAt ts d place (i + 1) m
passed_over ts d place i left k m e l at =
    split ts d place i left k e at
    ∙ skip-far left (single_row ts k) (rows (trees_at ts (drop (i + 1) (numbers (children_of d))))) m (l ∙ ap (λ (w : ℕ). w + m) (sym (row-width (tree_at ts k))))

pub found_there : (ts : List Tree) (n : ℕ) (d : Node) (place i left k c : ℕ) → IsNodeOf ts n d → slice_get (numbers (children_of d)) i ≡ Some k → left < width_at ts k → IsPart ts k left c → IsAt ts d place i left
    → (c < n) × (skip place (tree_at ts n).children ≡ tree (tree_at ts c).head (tree_at ts c).children (skip (suc place) (tree_at ts n).children))
found_there ts n d place i left k c is e l p at =
    let b = Below-get n (numbers (children_of d)) i k is.below e in
    let others = rows (trees_at ts (drop (i + 1) (numbers (children_of d)))) in
    let t = tree_at ts c in
    let w = row-width (tree_at ts k) in
    let all : skip place (rows (trees_at ts (numbers (children_of d)))) ≡ tree t.head t.children (join (skip (suc left) (single_row ts k)) others) =
    split ts d place i left k e at ∙ (skip-near left (single_row ts k) others (omega (arith, l, w)) ∙ ap (λ x. join x others) p.1) in
    (omega (arith, p.0, b), next_there place (tree_at ts n).children t.head t.children (join (skip (suc left) (single_row ts k)) others) (ap (λ (x : Tree). skip place x.children) is.tree ∙ all))

pub none_there : (ts : List Tree) (n : ℕ) (d : Node) (place i left : ℕ) → IsNodeOf ts n d → trees_at ts (drop i (numbers (children_of d))) ≡ [] → IsAt ts d place i left
    → skip place (tree_at ts n).children ≡ none
none_there ts n d place i left is e at = ap (λ (x : Tree). skip place x.children) is.tree ∙ at ∙ ap (λ xs. skip left (rows xs)) e ∙ nothing left
  where
    nothing : (n : ℕ) → skip n none ≡ none
    nothing zero = refl
    nothing (suc n) = refl

-- A list's members are no lists, and the variables of a binder are none.

list-singles : (l : ListHead) (n : ℕ) → no_list (shape (H.List l) n) ≡ true
list-singles l zero = refl
list-singles l (suc n) = list-singles l n

binder-singles : (n : ℕ) → no_list (shape (H.Part P.Vars) n) ≡ true
binder-singles zero = refl
binder-singles (suc n) = binder-singles n

single-shape : (h : Head) (n : ℕ) → has_single_children h ≡ true → no_list (shape h n) ≡ true
single-shape (H.List l) n e = list-singles l n
single-shape (H.Part P.Vars) n e = binder-singles n
single-shape _ n e = absurd cc

list-shape : (h : Head) (n : ℕ) → is_list h ≡ true → no_list (shape h n) ≡ true × (length (shape h n) ≡ n)
list-shape h n e = let l = list-head h e in rw l.1 (nones l.0 n)
  where
    nones : (l : ListHead) (n : ℕ) → no_list (shape (H.List l) n) ≡ true × (length (shape (H.List l) n) ≡ n)
    nones l zero = (refl, refl)
    nones l (suc n) = let r = nones l n in (r.0, ap suc r.1)

singles : (ts : List Tree) (ms : List ℕ) (i m : ℕ) → no_list (lists (trees_at ts ms)) ≡ true → slice_get ms i ≡ Some m
    → skip i (rows (trees_at ts ms)) ≡ tree (tree_at ts m).head (tree_at ts m).children (rows (trees_at ts (drop (suc i) ms)))
singles ts [] i m n e = absurd cc
singles ts (k ∷ ms) i m n e = first (list_of (kind_of (tree_at ts k).head)) refl (λ j g f. singles ts ms j m g f)
  where
    later : (i : ℕ) → slice_get (k ∷ ms) i ≡ Some m → list_of (kind_of (tree_at ts k).head) ≡ None → no_list (lists (trees_at ts ms)) ≡ true → ((j : ℕ) → no_list (lists (trees_at ts ms)) ≡ true → slice_get ms j ≡ Some m → skip j (rows (trees_at ts ms)) ≡ tree (tree_at ts m).head (tree_at ts m).children (rows (trees_at ts (drop (suc j) ms))))
        → skip i (rows (trees_at ts (k ∷ ms))) ≡ tree (tree_at ts m).head (tree_at ts m).children (rows (trees_at ts (drop (suc i) (k ∷ ms))))
    later zero e f g others =
        let q : k ≡ m = cc in
        single-row (tree_at ts k) (rows (trees_at ts ms)) f ∙ ap (λ (x : ℕ). tree (tree_at ts x).head (tree_at ts x).children (rows (trees_at ts ms))) q
    later (suc i) e f g others = ap (skip (suc i)) (single-row (tree_at ts k) (rows (trees_at ts ms)) f) ∙ others i g e

    first : (o : Option ListHead) → list_of (kind_of (tree_at ts k).head) ≡ o → ((j : ℕ) → no_list (lists (trees_at ts ms)) ≡ true → slice_get ms j ≡ Some m → skip j (rows (trees_at ts ms)) ≡ tree (tree_at ts m).head (tree_at ts m).children (rows (trees_at ts (drop (suc j) ms)))) → skip i (rows (trees_at ts (k ∷ ms))) ≡ tree (tree_at ts m).head (tree_at ts m).children (rows (trees_at ts (drop (suc i) (k ∷ ms))))
    first None f others = later i e f (let g : no_list (None ∷ lists (trees_at ts ms)) ≡ true = ap (λ x. no_list (x ∷ lists (trees_at ts ms))) (sym f) ∙ n in g) others
    first (Some l) f others = absurd (let g : no_list (Some l ∷ lists (trees_at ts ms)) ≡ true = ap (λ x. no_list (x ∷ lists (trees_at ts ms))) (sym f) ∙ n in cc)

first-single : (o : Option ListHead) (os : List (Option ListHead)) → no_list (o ∷ os) ≡ true → (o ≡ None) × (no_list os ≡ true)
first-single None os e = (refl, e)
first-single (Some l) os e = absurd cc

past-all : (ts : List Tree) (ms : List ℕ) (i : ℕ) → no_list (lists (trees_at ts ms)) ≡ true → slice_get ms i ≡ None → skip i (rows (trees_at ts ms)) ≡ none
past-all ts [] zero n e = refl
past-all ts [] (suc i) n e = refl
past-all ts (k ∷ ms) zero n e = absurd cc
past-all ts (k ∷ ms) (suc i) n e =
    let f = first-single (list_of (kind_of (tree_at ts k).head)) (lists (trees_at ts ms)) n in
    ap (skip (suc i)) (single-row (tree_at ts k) (rows (trees_at ts ms)) f.0) ∙ past-all ts ms i f.1 e

module _ (ts : List Tree) (n : ℕ) (d : Node) (is : IsNodeOf ts n d) where
  -- the child of a place, where each child is one tree
  pub single_child : (place : ℕ) (r : Option ℕ) → has_single_children (head_of d) ≡ true → r ≡ slice_get (numbers (children_of d)) place
      → MatchOption r (skip place (tree_at ts n).children ≡ none) (IsChildAt ts n place)
  single_child place r e q = at r (sym q)
    where
      singly : no_list (lists (trees_at ts (numbers (children_of d)))) ≡ true
      singly = ap no_list (lists-node ts d is.fits) ∙ single-shape (head_of d) (length (children_of d)) e

      at : (r : Option ℕ) → slice_get (numbers (children_of d)) place ≡ r → MatchOption r (skip place (tree_at ts n).children ≡ none) (IsChildAt ts n place)
      at None f = ap (λ (x : Tree). skip place x.children) is.tree ∙ past-all ts (numbers (children_of d)) place singly f
      at (Some c) f =
          let t = tree_at ts c in (
            Below-get n (numbers (children_of d)) place c is.below f,
            next_there place (tree_at ts n).children t.head t.children (rows (trees_at ts (drop (suc place) (numbers (children_of d)))))
                (ap (λ (x : Tree). skip place x.children) is.tree ∙ singles ts (numbers (children_of d)) place c singly f),
          )

  listed : is_list (head_of d) ≡ true → no_list (lists (trees_at ts (numbers (children_of d)))) ≡ true
  listed e = ap no_list (lists-node ts d is.fits) ∙ (list-shape (head_of d) (length (children_of d)) e).0

  pub list_width : is_list (head_of d) ≡ true → width_at ts n ≡ length (children_of d)
  list_width e =
      let s = list-shape (head_of d) (length (children_of d)) e in
      ap (λ (t : Tree). if is_list t.head then count t.children else 1) is.tree
      ∙ (ap (λ b. if b then count (rows (trees_at ts (numbers (children_of d)))) else 1) e
      ∙ (count-single (shape (head_of d) (length (children_of d))) (trees_at ts (numbers (children_of d))) (lists-node ts d is.fits) s.0 ∙ s.1))

  pub other_width : is_list (head_of d) ≡ false → width_at ts n ≡ 1
  other_width e = ap (λ (t : Tree). if is_list t.head then count t.children else 1) is.tree ∙ ap (λ b. if b then count (rows (trees_at ts (numbers (children_of d)))) else 1) e

  pub member_part : (i c : ℕ) → is_list (head_of d) ≡ true → slice_get (numbers (children_of d)) i ≡ Some c → IsPart ts n i c
  member_part i c e f =
      let b = Below-get n (numbers (children_of d)) i c is.below f in
      let whole : single_row ts n ≡ rows (trees_at ts (numbers (children_of d))) =
      ap (λ (t : Tree). put (is_list t.head) t none) is.tree ∙ (ap (λ b. put b (node_tree ts d) none) e ∙ join-none (rows (trees_at ts (numbers (children_of d))))) in
      let t = tree_at ts c in
      (omega (arith, b), next_there i (single_row ts n) t.head t.children (rows (trees_at ts (drop (suc i) (numbers (children_of d))))) (ap (skip i) whole ∙ singles ts (numbers (children_of d)) i c (listed e) f))

  pub own_part : (i : ℕ) → is_list (head_of d) ≡ false → i < width_at ts n → IsPart ts n i n
  own_part i e l = at i (omega (arith, l, other_width e))
    where
      whole : single_row ts n ≡ tree (tree_at ts n).head (tree_at ts n).children none
      whole = ap (λ b. put b (tree_at ts n) none) (ap (λ (t : Tree). is_list t.head) is.tree ∙ e)

      at : (i : ℕ) → i < 1 → IsPart ts n i n
      at zero l = (omega arith, next_there 0 (single_row ts n) (tree_at ts n).head (tree_at ts n).children none whole)
      at (suc i) l = absurd (omega (arith, l))
