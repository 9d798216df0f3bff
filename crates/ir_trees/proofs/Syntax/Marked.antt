-- The marks of a node's tree are those of its head and of its children's trees.
use Rattle.std.proofs.Common.{◌≡◌, ℕ, ◌+◌, Bool, true, false, List, [], Some, slice_get, drop, refl, sym, ◌∙◌, ap}
use Rattle.std.specs.Prelude.{◌||◌}
use Rattle.ir_trees.specs.declared.ir.heads.Flag.{Flag}
use Rattle.ir_trees.specs.declared.ir.heads.Marks.{Marks}
use Rattle.ir_trees.specs.declared.ir.node.Node.{Node}
use Rattle.ir_trees.specs.Syntax.Flags.{mark, mark_of_list}
use Rattle.ir_trees.specs.Syntax.Kinds.{numbers}
use Rattle.ir_trees.specs.Syntax.Marks.{marked, AreMarks}
use Rattle.ir_trees.specs.Syntax.Nodes.{any_holds, children_of, head_of, node_tree, tree_at, trees_at}
use Rattle.ir_trees.specs.Syntax.Trees.{Tree, tree_holds}
use Rattle.ir_trees.proofs.Syntax.Children.{any-step}
use Rattle.ir_trees.proofs.Syntax.Splits.{rows-holds}

-- so far: the marks kept, with those of the trees that are left, are all
abbrev pub SoFar : List Tree → Node → ℕ → Marks → Type 0
SoFar ts d i m =
    let ks = numbers (children_of d) in
    (f : Flag) → (marked m f || any_holds (mark f) (trees_at ts (drop i ks))) ≡ (mark f (head_of d) || any_holds (mark f) (trees_at ts ks))

or-assoc : (a b c : Bool) → ((a || b) || c) ≡ (a || (b || c))
or-assoc true b c = refl
or-assoc false b c = refl

or-none : (a : Bool) → (a || false) ≡ a
or-none true = refl
or-none false = refl

pub marks-begin : (ts : List Tree) (d : Node) (m : Marks) → ((f : Flag) → marked m f ≡ mark f (head_of d)) → SoFar ts d 0 m
marks-begin ts d m h f = ap (λ (b : Bool). b || any_holds (mark f) (trees_at ts (numbers (children_of d)))) (h f)

pub marks-step : (ts : List Tree) (d : Node) (i k : ℕ) (m o n : Marks) → slice_get (numbers (children_of d)) i ≡ Some k → AreMarks o (tree_at ts k)
    → ((f : Flag) → marked n f ≡ (marked m f || marked o f)) → SoFar ts d i m → SoFar ts d (i + 1) n
marks-step ts d i k m o n e a j s f =
    let ks = numbers (children_of d) in
    let left = any_holds (mark f) (trees_at ts (drop (i + 1) ks)) in
    ap (λ (b : Bool). b || left) (j f ∙ ap (λ (b : Bool). marked m f || b) (a f))
    ∙ (or-assoc (marked m f) (tree_holds (mark f) (tree_at ts k)) left
    ∙ (ap (λ (b : Bool). marked m f || b) (sym (any-step (mark f) ts ks i k e)) ∙ s f))

pub marks-end : (ts : List Tree) (d : Node) (i : ℕ) (m : Marks) → SoFar ts d i m → trees_at ts (drop i (numbers (children_of d))) ≡ [] → AreMarks m (node_tree ts d)
marks-end ts d i m s e f =
    let ks = numbers (children_of d) in
    sym (or-none (marked m f)) ∙ (ap (λ (xs : List Tree). marked m f || any_holds (mark f) xs) (sym e)
    ∙ (s f ∙ ap (λ (b : Bool). mark f (head_of d) || b) (sym (rows-holds (mark f) (mark_of_list f) (trees_at ts ks)))))
