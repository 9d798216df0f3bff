-- Lists that are made again, over other numbers.
use Rattle.std.proofs.Common.{◌≡◌, ℕ, zero, suc, ◌+◌, ◌<◌, List, [], ◌∷◌, ◌++◌, length, get_or, take, refl, sym, ◌∙◌, ap, arith}
use Rattle.std.proofs.lemmas.List.{map_push, take_more, length-map}
use Rattle.std.specs.Prelude.{map}
use Rattle.std.proofs.Common.{true, Some}
use Rattle.ir_trees.specs.declared.ir.kinds.Clause.{Clause}
use Rattle.ir_trees.specs.declared.ir.kinds.TyKind.{TyKind}
use Rattle.ir_trees.specs.declared.ir.node.Node.{Node}
use Rattle.ir_trees.specs.declared.ir.heads.Head.TheVariants as H
use Rattle.ir_trees.specs.declared.ir.heads.ListHead.{ListHead}
use Rattle.ir_trees.specs.Syntax.Trees.{Kind, ClauseKind, Tree}
use Rattle.ir_trees.specs.Syntax.Kinds.{Child, numbers, sorts, ty_children}
use Rattle.ir_trees.specs.Syntax.Nodes.{tree_at, kind_at, rows, node_of, children_of, clause_child}
use Rattle.ir_trees.proofs.Syntax.Children.{length_clauses}
use Rattle.ir_trees.proofs.Syntax.Lists.{below_kind, kind_of-tree_at}
use Rattle.ir_trees.specs.Syntax.Trees.{there}
use Rattle.ir_trees.proofs.Syntax.Splits.{list_of, list-head_of}

module _ {X : Type 0} (c : X → Child) where
  -- one member more
  pub numbers-next : (us xs : List X) (x : X) (ns : List ℕ) (i : ℕ) → us ≡ xs ++ x ∷ []
      → numbers (map c xs) ≡ take i ns → i < length ns → (c x).0 ≡ get_or ns i 0 → numbers (map c us) ≡ take (i + 1) ns
  numbers-next us xs x ns i e h l n =
      ap (λ (y : List X). numbers (map c y)) e
      ∙ (ap numbers (map_push c xs x)
      ∙ (map_push (λ (y : Child). y.0) (map c xs) (c x)
      ∙ (ap (λ (y : List ℕ). y ++ (c x).0 ∷ []) h ∙ (ap (λ (y : ℕ). take i ns ++ y ∷ []) n ∙ sym (take_more ns i 0 l)))))

  sorts-get : (xs : List X) (i : ℕ) (a : X) → get_or (sorts (map c xs)) i (c a).1 ≡ (c (get_or xs i a)).1
  sorts-get [] i a = refl
  sorts-get (x ∷ xs) zero a = refl
  sorts-get (x ∷ xs) (suc i) a = sorts-get xs i a

  pub sorts-length : (xs : List X) → length (sorts (map c xs)) ≡ length xs
  sorts-length [] = refl
  sorts-length (x ∷ xs) = ap suc (sorts-length xs)

  pub sorts-next : (us xs : List X) (x : X) (all : List X) (i : ℕ) (a : X) → us ≡ xs ++ x ∷ []
      → sorts (map c xs) ≡ take i (sorts (map c all)) → i < length all → (c x).1 ≡ (c (get_or all i a)).1
      → sorts (map c us) ≡ take (i + 1) (sorts (map c all))
  sorts-next us xs x all i a e h l n =
      ap (λ (y : List X). sorts (map c y)) e
      ∙ (ap sorts (map_push c xs x)
      ∙ (map_push (λ (y : Child). y.1) (map c xs) (c x)
      ∙ (ap (λ (y : List Kind). y ++ (c x).1 ∷ []) h
      ∙ (ap (λ (y : Kind). take i (sorts (map c all)) ++ y ∷ []) (n ∙ sym (sorts-get all i a))
      ∙ sym (take_more (sorts (map c all)) i (c a).1 (omega (arith, sorts-length all)))))))

-- clauses that are as many are of the same sorts
clauses-sorts : (xs ys : List Clause) → length xs ≡ length ys → sorts (map clause_child xs) ≡ sorts (map clause_child ys)
clauses-sorts [] [] e = refl
clauses-sorts [] (y ∷ ys) e = absurd (omega arith)
clauses-sorts (x ∷ xs) [] e = absurd (omega arith)
clauses-sorts (x ∷ xs) (y ∷ ys) e = ap (λ (z : List Kind). ClauseKind ∷ z) (clauses-sorts xs ys (omega arith))

pub clauses-again : (d : Node) (xs ys : List Clause) (ns : List ℕ) → children_of d ≡ map clause_child ys → numbers (map clause_child xs) ≡ ns → length ns ≡ length (children_of d)
    → sorts (map clause_child xs) ≡ sorts (children_of d)
clauses-again d xs ys ns e n l =
    let a = sym (length-map (map clause_child xs) (λ (c : Child). c.0)) ∙ ap length n in
    let b = length_clauses xs in
    let c = ap length e ∙ length_clauses ys in
    clauses-sorts xs ys (omega arith) ∙ ap sorts (sym e)

-- the tree of a list
pub list-tree : (ts : List Tree) (n : ℕ) (k : Kind) (l : ListHead) (xs : List Tree) → there k ≡ true → list_of k ≡ Some l → kind_at ts n ≡ k
    → (tree_at ts n).children ≡ rows xs → tree_at ts n ≡ node_of (H.List l) xs
list-tree ts n k l xs h i a e =
    let head : (tree_at ts n).head ≡ H.List l = list-head_of (tree_at ts n).head l (ap list_of (sym (kind_of-tree_at ts n (below_kind ts n k h a)) ∙ a) ∙ i) in
    λ i. record { head = head i; children = e i }

-- numbers that are as many as the children of a kind
pub count-of : (k j : TyKind) (xs : List ℕ) → length xs ≡ length (ty_children k) → k ≡ j → length xs ≡ length (ty_children j)
count-of k j xs h e = h ∙ ap (λ (x : TyKind). length (ty_children x)) e

pub inside : (i n more : ℕ) (xs : List ℕ) → length xs ≡ n → n ≡ i + suc more → i < length xs
inside i n more xs h e = omega arith

pub one-number : (xs : List ℕ) → length xs ≡ 1 → get_or xs 0 0 ∷ [] ≡ xs
one-number [] h = absurd (omega arith)
one-number (a ∷ []) h = refl
one-number (a ∷ b ∷ xs) h = absurd (omega arith)

pub two-numbers : (xs : List ℕ) → length xs ≡ 2 → get_or xs 0 0 ∷ get_or xs 1 0 ∷ [] ≡ xs
two-numbers [] h = absurd (omega arith)
two-numbers (a ∷ xs) h = ap (λ (ys : List ℕ). a ∷ ys) (one-number xs (omega arith))

pub three-numbers : (xs : List ℕ) → length xs ≡ 3 → get_or xs 0 0 ∷ get_or xs 1 0 ∷ get_or xs 2 0 ∷ [] ≡ xs
three-numbers [] h = absurd (omega arith)
three-numbers (a ∷ xs) h = ap (λ (ys : List ℕ). a ∷ ys) (two-numbers xs (omega arith))
