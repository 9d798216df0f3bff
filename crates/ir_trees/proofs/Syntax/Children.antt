-- The children of a node, one after the other.
use Rattle.std.proofs.Common.{◌≡◌, ℕ, zero, suc, ◌+◌, ◌<◌, ◌≤◌, max, List, [], ◌∷◌, length, drop, Some, slice_get, refl, sym, ◌∙◌, ap, arith, add-one}
use Rattle.std.proofs.Common.{get_or}
use Rattle.std.specs.Prelude.{map, Bool, true, false, ◌||◌}
use Rattle.ir_trees.specs.declared.ir.heads.Head.{Head}
use Rattle.ir_trees.specs.declared.ir.heads.ListHead.{ListHead}
use Rattle.ir_trees.specs.declared.ir.heads.Head.TheVariants as H
use Rattle.ir_trees.specs.declared.ir.kinds.GenericArg.{GenericArg}
use Rattle.ir_trees.specs.declared.ir.kinds.Pred.{Pred}
use Rattle.ir_trees.specs.declared.ir.kinds.Var.{Var}
use Rattle.ir_trees.specs.declared.ir.kinds.Clause.{Clause}
use Rattle.ir_trees.specs.Syntax.Trees.{Kind, is_list, is_list_kind, Tree, weight, height, holds, tree_holds}
use Rattle.ir_trees.specs.Syntax.Kinds.{Child, numbers, arg_child, arg_number}
use Rattle.ir_trees.specs.declared.ir.node.Node.{Node}
use Rattle.ir_trees.specs.Syntax.Nodes.{kind_at, tree_at, trees_at, rows, tallest, any_holds, children_of, node_tree, head_of, pred_child, clause_child, var_child, Fits}
use Rattle.ir_trees.specs.Syntax.Table.{Below, IsNodeOf}
use Rattle.ir_trees.specs.Syntax.Flags.{mark, mark_of_list}
use Rattle.ir_trees.specs.declared.ir.heads.Flag.{Flag}
use Rattle.ir_trees.proofs.Syntax.Lists.{below_kind, kind_of-tree_at}
use Rattle.ir_trees.specs.Syntax.Trees.{there}
use Rattle.ir_trees.proofs.Syntax.Splits.{list-head, nodes-agree, rows-holds, rows-height}

pub Below-get : (n : ℕ) (ks : List ℕ) (i k : ℕ) → Below n ks → slice_get ks i ≡ Some k → k < n
Below-get n [] i k b e = absurd cc
Below-get n (j ∷ ks) zero k b e = let e2 : j ≡ k = cc in omega (arith, b.0)
Below-get n (j ∷ ks) (suc i) k b e = Below-get n ks i k b.1 e

drop-get : (ks : List ℕ) (i k : ℕ) → slice_get ks i ≡ Some k → drop i ks ≡ k ∷ drop (suc i) ks
drop-get [] i k e = absurd cc
drop-get (j ∷ ks) zero k e = let e2 : j ≡ k = cc in ap (λ (x : ℕ). x ∷ ks) e2
drop-get (j ∷ ks) (suc i) k e = drop-get ks i k e

pub drop_at : (ks : List ℕ) (i k : ℕ) → slice_get ks i ≡ Some k → drop i ks ≡ k ∷ drop (i + 1) ks
drop_at ks i k e = rw add-one (drop-get ks i k e)

pub highest-step : (ts : List Tree) (ks : List ℕ) (i k a b : ℕ) → slice_get ks i ≡ Some k
    → max a (tallest (trees_at ts (drop i ks))) ≡ b
    → max (max a (height (tree_at ts k))) (tallest (trees_at ts (drop (i + 1) ks))) ≡ b
highest-step ts ks i k a b e h =
    let g : tallest (trees_at ts (drop i ks)) ≡ max (height (tree_at ts k)) (tallest (trees_at ts (drop (i + 1) ks))) =
    ap (λ (xs : List ℕ). tallest (trees_at ts xs)) (drop_at ks i k e) in
    omega arith

pub arg_at : (xs : List GenericArg) (i : ℕ) (a : GenericArg) → i < length xs → a ≡ get_or xs i a → slice_get (numbers (map arg_child xs)) i ≡ Some (arg_number a)
arg_at [] i a h e = absurd (omega arith)
arg_at (x ∷ xs) zero a h e = ap (λ (y : GenericArg). Some (arg_number y)) (sym e)
arg_at (x ∷ xs) (suc i) a h e = arg_at xs i a (omega arith) e

pub length-numbers : (xs : List Child) → length (numbers xs) ≡ length xs
length-numbers [] = refl
length-numbers (x ∷ xs) = ap suc (length-numbers xs)

pub drop-none : (ts : List Tree) (cs : List Child) → trees_at ts (drop (length cs) (numbers cs)) ≡ []
drop-none ts [] = refl
drop-none ts (c ∷ cs) = drop-none ts cs

pub length_args : (xs : List GenericArg) → length (map arg_child xs) ≡ length xs
length_args [] = refl
length_args (x ∷ xs) = ap suc (length_args xs)

pub walk_end : (ts : List Tree) (cs : List Child) (i n : ℕ) → n ≡ length cs → i ≤ n → n ≤ i → trees_at ts (drop i (numbers cs)) ≡ []
walk_end ts cs i n e h g = let f : i ≡ length cs = omega arith in rw f (drop-none ts cs)

-- the children from number i on: that of number i, and the others
pub rest : (ts : List Tree) (ks : List ℕ) (i k : ℕ) → slice_get ks i ≡ Some k → trees_at ts (drop i ks) ≡ tree_at ts k ∷ trees_at ts (drop (i + 1) ks)
rest ts ks i k e = ap (trees_at ts) (drop_at ks i k e)

pub any-step : (p : Head → Bool) (ts : List Tree) (ks : List ℕ) (i k : ℕ) → slice_get ks i ≡ Some k
    → any_holds p (trees_at ts (drop i ks)) ≡ tree_holds p (tree_at ts k) || any_holds p (trees_at ts (drop (i + 1) ks))
any-step p ts ks i k e = ap (any_holds p) (rest ts ks i k e)

pub or-true : (a b : Bool) → a ≡ true → a || b ≡ true
or-true a b e = rw e

pub or-false : (a b : Bool) → a ≡ false → a || b ≡ b
or-false a b e = rw e

pub or-true_right : (a b : Bool) → b ≡ true → a || b ≡ true
or-true_right true b e = refl
or-true_right false b e = e

pub any-found : (p : Head → Bool) (off : (l : ListHead) → p (H.List l) ≡ false) (ts : List Tree) (n : ℕ) (d : Node) (i k : ℕ) → IsNodeOf ts n d → slice_get (numbers (children_of d)) i ≡ Some k
    → any_holds p (trees_at ts (numbers (children_of d))) ≡ any_holds p (trees_at ts (drop i (numbers (children_of d))))
    → tree_holds p (tree_at ts k) ≡ true → true ≡ tree_holds p (tree_at ts n)
any-found p off ts n d i k a e l h =
    let s = any-step p ts (numbers (children_of d)) i k e in
    let o = or-true (tree_holds p (tree_at ts k)) (any_holds p (trees_at ts (drop (i + 1) (numbers (children_of d))))) h in
    let r = or-true_right (p (head_of d)) (holds p (rows (trees_at ts (numbers (children_of d))))) (rows-holds p off (trees_at ts (numbers (children_of d))) ∙ (l ∙ (s ∙ o))) in
    sym (ap (tree_holds p) a.tree ∙ r)

-- no child is left, and none had the mark
pub any-none : (p : Head → Bool) (off : (l : ListHead) → p (H.List l) ≡ false) (ts : List Tree) (n : ℕ) (d : Node) (i : ℕ) → IsNodeOf ts n d
    → p (head_of d) ≡ false
    → any_holds p (trees_at ts (numbers (children_of d))) ≡ any_holds p (trees_at ts (drop i (numbers (children_of d))))
    → trees_at ts (drop i (numbers (children_of d))) ≡ [] → false ≡ tree_holds p (tree_at ts n)
any-none p off ts n d i a h l e =
    let f : any_holds p (trees_at ts (numbers (children_of d))) ≡ false = l ∙ ap (any_holds p) e in
    let r : tree_holds p (node_tree ts d) ≡ false =
    or-false (p (head_of d)) _ h ∙ (rows-holds p off (trees_at ts (numbers (children_of d))) ∙ f) in
    sym (ap (tree_holds p) a.tree ∙ r)

pub any-on : (p : Head → Bool) (ts : List Tree) (d : Node) (i k : ℕ) → slice_get (numbers (children_of d)) i ≡ Some k
    → any_holds p (trees_at ts (numbers (children_of d))) ≡ any_holds p (trees_at ts (drop i (numbers (children_of d))))
    → tree_holds p (tree_at ts k) ≡ false
    → any_holds p (trees_at ts (numbers (children_of d))) ≡ any_holds p (trees_at ts (drop (i + 1) (numbers (children_of d))))
any-on p ts d i k e l h = l ∙ (any-step p ts (numbers (children_of d)) i k e ∙ or-false _ _ h)

-- two walks side by side
pub pair-differs : (ts : List Tree) (d f : Node) (i k j : ℕ) → slice_get (numbers (children_of d)) i ≡ Some k → slice_get (numbers (children_of f)) i ≡ Some j
    → (tree_at ts k ≡ tree_at ts j → ⊥)
    → (trees_at ts (numbers (children_of d)) ≡ trees_at ts (numbers (children_of f)) → trees_at ts (drop i (numbers (children_of d))) ≡ trees_at ts (drop i (numbers (children_of f))))
    → Fits ts d → Fits ts f → head_of d ≡ head_of f → length (children_of d) ≡ length (children_of f)
    → node_tree ts d ≡ node_tree ts f → ⊥
pair-differs ts d f i k j e g n l p q hd hn h =
    let ks = numbers (children_of d) in let js = numbers (children_of f) in
    let all : trees_at ts ks ≡ trees_at ts js = nodes-agree ts d f p q hd hn h in
    let r1 = rest ts ks i k e in let r2 = rest ts js i j g in let l2 = l all in
    let m : tree_at ts k ∷ trees_at ts (drop (i + 1) ks) ≡ tree_at ts j ∷ trees_at ts (drop (i + 1) js) = cc in
    n cc

pub pair-on : (ts : List Tree) (ks js : List ℕ) (i k j : ℕ) → slice_get ks i ≡ Some k → slice_get js i ≡ Some j
    → tree_at ts k ≡ tree_at ts j
    → (trees_at ts ks ≡ trees_at ts js → trees_at ts (drop i ks) ≡ trees_at ts (drop i js))
    × (trees_at ts (drop i ks) ≡ trees_at ts (drop i js) → trees_at ts ks ≡ trees_at ts js)
    → (trees_at ts ks ≡ trees_at ts js → trees_at ts (drop (i + 1) ks) ≡ trees_at ts (drop (i + 1) js))
    × (trees_at ts (drop (i + 1) ks) ≡ trees_at ts (drop (i + 1) js) → trees_at ts ks ≡ trees_at ts js)
pair-on ts ks js i k j e g h l =
    let r1 = rest ts ks i k e in let r2 = rest ts js i j g in (
      (λ a. let b = l.0 a in
          let m : tree_at ts k ∷ trees_at ts (drop (i + 1) ks) ≡ tree_at ts j ∷ trees_at ts (drop (i + 1) js) = sym r1 ∙ (b ∙ r2) in cc),
      (λ a. l.1 (let m : tree_at ts k ∷ trees_at ts (drop (i + 1) ks) ≡ tree_at ts j ∷ trees_at ts (drop (i + 1) js) = cc in r1 ∙ (m ∙ sym r2))),
    )

pub pred_at : (xs : List Pred) (i : ℕ) (a : Pred) → i < length xs → a ≡ get_or xs i a → slice_get (numbers (map pred_child xs)) i ≡ Some a.0
pred_at [] i a h e = absurd (omega arith)
pred_at (x ∷ xs) zero a h e = ap (λ (y : Pred). Some y.0) (sym e)
pred_at (x ∷ xs) (suc i) a h e = pred_at xs i a (omega arith) e

pub var_at : (xs : List Var) (i : ℕ) (a : Var) → i < length xs → a ≡ get_or xs i a → slice_get (numbers (map var_child xs)) i ≡ Some a.0
var_at [] i a h e = absurd (omega arith)
var_at (x ∷ xs) zero a h e = ap (λ (y : Var). Some y.0) (sym e)
var_at (x ∷ xs) (suc i) a h e = var_at xs i a (omega arith) e

pub clause_at : (xs : List Clause) (i : ℕ) (a : Clause) → i < length xs → a ≡ get_or xs i a → slice_get (numbers (map clause_child xs)) i ≡ Some a.0
clause_at [] i a h e = absurd (omega arith)
clause_at (x ∷ xs) zero a h e = ap (λ (y : Clause). Some y.0) (sym e)
clause_at (x ∷ xs) (suc i) a h e = clause_at xs i a (omega arith) e

pub length_clauses : (xs : List Clause) → length (map clause_child xs) ≡ length xs
length_clauses [] = refl
length_clauses (x ∷ xs) = ap suc (length_clauses xs)

pub length_preds : (xs : List Pred) → length (map pred_child xs) ≡ length xs
length_preds [] = refl
length_preds (x ∷ xs) = ap suc (length_preds xs)

pub length_vars : (xs : List Var) → length (map var_child xs) ≡ length xs
length_vars [] = refl
length_vars (x ∷ xs) = ap suc (length_vars xs)

-- no child is left
pub height_end : (ts : List Tree) (d : Node) (i high : ℕ)
    → max high (tallest (trees_at ts (drop i (numbers (children_of d))))) ≡ tallest (trees_at ts (numbers (children_of d)))
    → trees_at ts (drop i (numbers (children_of d))) ≡ [] → height (node_tree ts d) ≡ weight (head_of d) + high
height_end ts d i high e n =
    let t : tallest (trees_at ts (drop i (numbers (children_of d)))) ≡ 0 = ap tallest n in
    omega (arith, rows-height (trees_at ts (numbers (children_of d))), e, t)

-- what is marked in a list, where no list is, stands among its members
pub list-marked : (ts : List Tree) (n : ℕ) (m : Head → Bool) → ((l : ListHead) → m (H.List l) ≡ false) → (k : Kind) → there k ≡ true → is_list_kind k ≡ true → kind_at ts n ≡ k
    → tree_holds m (tree_at ts n) ≡ holds m (tree_at ts n).children
list-marked ts n m none k h i e =
    let t = tree_at ts n in
    let k : is_list t.head ≡ true = ap is_list_kind (sym (kind_of-tree_at ts n (below_kind ts n k h e)) ∙ e) ∙ i in
    let l = list-head t.head k in
    or-false (m t.head) (holds m t.children) (ap m l.1 ∙ none l.0)

pub list-holds : (ts : List Tree) (n : ℕ) (f : Flag) (k : Kind) → there k ≡ true → is_list_kind k ≡ true → kind_at ts n ≡ k
    → tree_holds (mark f) (tree_at ts n) ≡ holds (mark f) (tree_at ts n).children
list-holds ts n f k h i e = list-marked ts n (mark f) (mark_of_list f) k h i e
