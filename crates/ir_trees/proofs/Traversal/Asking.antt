-- Which numbers a fold asks about.
use Rattle.std.proofs.Common.{◌≡◌, ℕ, ◌<◌, List, length, true, false, refl, sym, ◌∙◌, ap}
use Rattle.ir_trees.specs.declared.ir.node.Node.{Node}
use Rattle.ir_trees.specs.declared.ir.heads.Head.{Head}
use Rattle.ir_trees.specs.declared.ir.kinds.GenericArg.{GenericArg}
use Rattle.ir_trees.specs.declared.ir.kinds.GenericArg.TheVariants as A
use Rattle.ir_trees.specs.Declarations.Context.{Context}
use Rattle.ir_trees.specs.Syntax.Kinds.{arg_number, arg_kind}
use Rattle.ir_trees.specs.Syntax.Trees.{Kind, Tree, kind_of}
use Rattle.ir_trees.specs.Syntax.Nodes.{tree_at, kind_at, head_of, is_bound_kind}
use Rattle.ir_trees.specs.Syntax.Table.{IsNodeOf}
use Rattle.ir_trees.specs.Instantiation.Folds.{is_asked, is_asked_kind, IsArg, arg_tree}
use Rattle.ir_trees.proofs.Growth.Sorts.{node_kind}
use Rattle.ir_trees.proofs.Syntax.Lists.{below_kind, kind_of-tree_at}
use Rattle.ir_trees.proofs.Syntax.Members.{arg-there}
use Rattle.ir_trees.proofs.Syntax.Rows.{kind-of}

-- a node of the kind, which is asked about
pub asked-node : (ts : List Tree) (n : ℕ) (d e : Node) (k : Kind) → n < length ts → IsNodeOf ts n d → d ≡ e → kind_of (head_of e) ≡ k → is_asked_kind k ≡ true
    → (kind_at ts n ≡ k) × (is_asked (tree_at ts n).head ≡ true)
asked-node ts n d e k h i same kind asked =
    let at : kind_at ts n ≡ k = node_kind ts n d h i ∙ (ap (λ (x : Node). kind_of (head_of x)) same ∙ kind) in
    (at, ap is_asked_kind (sym (kind_of-tree_at ts n h) ∙ at) ∙ asked)

-- the head of an argument's tree is of the argument's kind
pub arg-head : (c d : Context) (x : GenericArg) (n : ℕ) (h : Head) → d ≡ c → n ≡ arg_number x → IsArg c.trees x → h ≡ (tree_at d.trees n).head → kind_of h ≡ arg_kind x
arg-head c d x n h e m i k =
    ap kind_of k
    ∙ (ap (λ (y : Context). kind_of (tree_at y.trees n).head) e
    ∙ (ap (λ (j : ℕ). kind_of (tree_at c.trees j).head) m ∙ kind-of c.trees (arg_number x) (arg_kind x) (arg-there x) i))

-- and is the one read
pub arg-head-is : (c d : Context) (x : GenericArg) (n : ℕ) (h : Head) → d ≡ c → n ≡ arg_number x → h ≡ (tree_at d.trees n).head → (arg_tree c.trees x).head ≡ h
arg-head-is c d x n h e m k =
    sym (k ∙ (ap (λ (y : Context). (tree_at y.trees n).head) e ∙ ap (λ (j : ℕ). (tree_at c.trees j).head) m))

pub arg-below : (ts : List Tree) (x : GenericArg) → IsArg ts x → arg_number x < length ts
arg-below ts x i = below_kind ts (arg_number x) (arg_kind x) (arg-there x) i

pub arg-bound : (ts : List Tree) (x : GenericArg) → IsArg ts x → is_bound_kind (kind_at ts (arg_number x)) ≡ false
arg-bound ts x i = ap is_bound_kind i ∙ at x
  where
    at : (y : GenericArg) → is_bound_kind (arg_kind y) ≡ false
    at (A.Ty _) = refl
    at (A.Const _) = refl
    at (A.Region _) = refl
