-- The children of a kind, one tree after the other.
use Rattle.std.proofs.Common.{◌≡◌, ℕ, List, Bool, true, false, refl, sym, ◌∙◌, ap}
use Rattle.ir_trees.specs.Syntax.Trees.{Kind, Forest, none, tree, Tree, kind_of, is_list, is_list_kind, put, row, join}
use Rattle.ir_trees.specs.Syntax.Nodes.{tree_at, kind_at}
use Rattle.ir_trees.specs.Unification.Substitutions.{alone, as_row, row_of}
use Rattle.ir_trees.proofs.Syntax.Lists.{below_kind, kind_of-tree_at}
use Rattle.ir_trees.specs.Syntax.Trees.{there}

pub join-none : (a : Forest) → join a none ≡ a
join-none none = refl
join-none (tree h below rest) = ap (tree h below) (join-none rest)

pub kind-of : (ts : List Tree) (n : ℕ) (k : Kind) → there k ≡ true → kind_at ts n ≡ k → kind_of (tree_at ts n).head ≡ k
kind-of ts n k h e = sym (kind_of-tree_at ts n (below_kind ts n k h e)) ∙ e

pub list-kind : (ts : List Tree) (n : ℕ) (k : Kind) → there k ≡ true → kind_at ts n ≡ k → is_list (tree_at ts n).head ≡ is_list_kind k
list-kind ts n k h e = ap is_list_kind (kind-of ts n k h e)

-- what is no list is one tree
pub row-single : (ts : List Tree) (n : ℕ) (k : Kind) (f : Forest) → there k ≡ true → is_list_kind k ≡ false → kind_at ts n ≡ k
    → row (tree_at ts n) f ≡ tree (tree_at ts n).head (tree_at ts n).children f
row-single ts n k f h l e = ap (λ (b : Bool). put b (tree_at ts n) f) (list-kind ts n k h e ∙ l)

-- a list is its members
pub row-list : (ts : List Tree) (n : ℕ) (k : Kind) (f : Forest) → there k ≡ true → is_list_kind k ≡ true → kind_at ts n ≡ k
    → row (tree_at ts n) f ≡ join (tree_at ts n).children f
row-list ts n k f h l e = ap (λ (b : Bool). put b (tree_at ts n) f) (list-kind ts n k h e ∙ l)

row-as : (b : Bool) (t : Tree) → put b t none ≡ as_row b t
row-as true t = join-none t.children
row-as false t = refl

-- so what the number of a kind is in a row
pub row-of : (ts : List Tree) (n : ℕ) (k : Kind) → there k ≡ true → kind_at ts n ≡ k → row (tree_at ts n) none ≡ row_of k (tree_at ts n)
row-of ts n k h e = ap (λ (b : Bool). put b (tree_at ts n) none) (list-kind ts n k h e) ∙ row-as (is_list_kind k) (tree_at ts n)

-- one tree of a row of one
pub alone-tree : (t u : Tree) → alone t ≡ alone u → t ≡ u
alone-tree t u e = ap first e
  where
    first : Forest → Tree
    first none = t
    first (tree h below rest) = record { head = h; children = below }
