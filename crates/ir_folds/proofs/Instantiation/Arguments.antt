-- Which parameters have an argument of their kind.
use Rattle.std.proofs.Common.{◌≡◌, ℕ, ◌<◌, ◌≤◌, List, length, get_or, Bool, IsTrue, true, false, ◌↔◌, refl, sym, ◌∙◌, ap}
use Rattle.std.specs.Prelude.{not, nat_lt}
use Rattle.ir_trees.specs.declared.ir.heads.Head.TheVariants as H
use Rattle.ir_trees.specs.declared.ir.heads.ListHead.{ListHead}
use Rattle.ir_trees.specs.declared.ir.kinds.GenericArg.{GenericArg}
use Rattle.ir_trees.specs.Syntax.Trees.{Kind, Forest, Tree, kind_of, is_list, is_list_kind, count, holds, tree_holds}
use Rattle.ir_trees.specs.Syntax.Kinds.{arg_number, arg_kind}
use Rattle.ir_trees.specs.Syntax.Nodes.{tree_at, kind_at}
use Rattle.ir_trees.specs.Instantiation.Folding.{argument, lacks_argument}
use Rattle.ir_trees.specs.Syntax.Words.{ListFits, list_forest}
use Rattle.ir_trees.proofs.Syntax.Children.{or-false}
use Rattle.ir_trees.specs.Syntax.Trees.{there}
use Rattle.ir_trees.proofs.Syntax.Members.{arg-there}
use Rattle.ir_trees.proofs.Syntax.Rows.{kind-of}
use Rattle.ir_trees.proofs.Syntax.Splits.{list-head}
use Rattle.ir_folds.proofs.Instantiation.Substituting.{nth-there, nth-missing}

-- the argument of a number is of the kind that it is asked for
pub has-kind : (ts : List Tree) (r : Forest) (xs : List GenericArg) (i : ℕ) (d v : GenericArg) (k : Kind) (b : Bool) → ListFits ts xs → list_forest ts xs ≡ r → i < length xs → get_or xs i d ≡ v
    → IsTrue b ↔ (k ≡ arg_kind v) → IsTrue b ↔ (nat_lt i (count r) ≡ true) × (k ≡ kind_of (argument r i).head)
has-kind ts r xs i d v k b f e h g l =
    let t = nth-there ts r xs i d v f e h g in
    let seen : kind_of (argument r i).head ≡ arg_kind v = ap (λ (t : Tree). kind_of t.head) t.2 ∙ kind-of ts (arg_number v) (arg_kind v) (arg-there v) t.0 in (
      λ x. (t.1, l.0 x ∙ sym seen),
      λ x. l.1 (x.1 ∙ seen),
    )

pub has-none : (ts : List Tree) (r : Forest) (xs : List GenericArg) (i : ℕ) (k : Kind) → ListFits ts xs → list_forest ts xs ≡ r → length xs ≤ i
    → IsTrue false ↔ (nat_lt i (count r) ≡ true) × (k ≡ kind_of (argument r i).head)
has-none ts r xs i k f e h =
    let n = nth-missing ts r xs i f e h in (
      λ x. absurd cc,
      λ x. absurd (let m = sym n ∙ x.0 in cc),
    )

-- a list is no parameter
pub lacks-list : (r : Forest) (l : ListHead) → lacks_argument r (H.List l) ≡ false
lacks-list r l = refl

-- a list lacks what its members lack
list-lacks : (r : Forest) (ts : List Tree) (n : ℕ) (k : Kind) → there k ≡ true → is_list_kind k ≡ true → kind_at ts n ≡ k
    → tree_holds (lacks_argument r) (tree_at ts n) ≡ holds (lacks_argument r) (tree_at ts n).children
list-lacks r ts n k h l e =
    let t = tree_at ts n in
    let list : is_list t.head ≡ true = ap is_list_kind (kind-of ts n k h e) ∙ l in
    or-false (lacks_argument r t.head) (holds (lacks_argument r) t.children) (ap (lacks_argument r) (list-head t.head list).1)

-- what a list lacks nothing of
pub nothing-lacks : (r : Forest) (ts : List Tree) (n : ℕ) (k : Kind) (b : Bool) → there k ≡ true → is_list_kind k ≡ true → kind_at ts n ≡ k
    → b ≡ tree_holds (lacks_argument r) (tree_at ts n) → IsTrue (not b) ↔ (holds (lacks_argument r) (tree_at ts n).children ≡ false)
nothing-lacks r ts n k b h l e s = of b (holds (lacks_argument r) (tree_at ts n).children) (s ∙ list-lacks r ts n k h l e)
  where
    of : (a b : Bool) → a ≡ b → IsTrue (not a) ↔ (b ≡ false)
    of true b e = (λ x. absurd cc, λ x. absurd cc)
    of false b e = (λ x. sym e, λ x. refl)
