-- Why nodes weren't made of the trees of a context.
use Rattle.std.specs.Prelude.{◌<◌, ◌≤◌, ℕ, List, length, map}
use Rattle.ir_trees.specs.declared.ir.heads.Head.{Head}
use Rattle.ir_trees.specs.declared.ir.stop.Stop.{Stop}
use Rattle.ir_trees.specs.declared.ir.stop.Stop.TheVariants.{Memory, NodesFull}
use Rattle.ir_trees.specs.declared.ir.kinds.Clause.{Clause}
use Rattle.ir_trees.specs.Declarations.Context.{Context, Grows}
use Rattle.ir_trees.specs.Hierarchy.Elaboration.{IsElaborationStop, super_clauses}
use Rattle.ir_trees.specs.Instantiation.Folding.{IsSubstStop, substituted}
use Rattle.ir_trees.specs.Instantiation.Opening.{opened, opened_clause}
use Rattle.ir_trees.specs.Syntax.Nodes.{tallest, tree_at}
use Rattle.ir_trees.specs.Syntax.Trees.{Forest, Kind, none, row, tree, Tree}
use Rattle.ir_trees.specs.Syntax.Words.{clause_tree}
use Rattle.ir_trees.specs.Unification.Substitutions.{alone, row_of}
use Rattle.candidate_eval.specs.declared.structural.Column.{Column}
use Rattle.candidate_eval.specs.Builtins.Callable.{IsCallStop, IsConstCallStop}
use Rattle.candidate_eval.specs.Builtins.Destruct.{IsConditionsStop, destruct_conditions}
use Rattle.candidate_eval.specs.Builtins.Tables as tables
use Rattle.candidate_eval.specs.Builtins.Tables.{IsCellStop, cell}
use Rattle.candidate_eval.specs.Interface.Evaluators as evaluators
use Rattle.candidate_eval.specs.Interface.Noting.{HasWideNode}
use Rattle.candidate_eval.specs.Judges.States.{State, fresh_variables}

-- Values for the variables of a binder: the members of a list that is there, fresh variables, or placeholders of a fresh universe.
pub data AreValues (ts : List Tree) : Forest → Type 0 where
  members : (list : ℕ) → AreValues ts (tree_at ts list).children
  variables : (S : State) (ks : List Kind) → AreValues ts (fresh_variables S ks)
  rigid : (S : State) (ks : List Kind) → AreValues ts (evaluators.rigid S ks)

-- Some of the trees in a row or below it, where a tree that is there stands in the place of any.
pub data IsFilled (ts : List Tree) : Forest → Forest → Type 0 where
  ended : {row : Forest} → IsFilled ts row none
  stays : {h : Head} {below inner rest us : Forest} → IsFilled ts below inner → IsFilled ts rest us → IsFilled ts (tree h below rest) (tree h inner us)
  put_in : {h : Head} {below rest us : Forest} (n : ℕ) → n < length ts → IsFilled ts rest us
      → IsFilled ts (tree h below rest) (tree (tree_at ts n).head (tree_at ts n).children us)
  within : {h : Head} {below rest us : Forest} → IsFilled ts below us → IsFilled ts (tree h below rest) us
  later : {h : Head} {below rest us : Forest} → IsFilled ts rest us → IsFilled ts (tree h below rest) us

-- What calls make of the trees of a context.
pub data IsMade (ts : List Tree) : Forest → Type 0 where
  -- a node, or a list's members, with the members of a list in the place of the parameters
  with_arguments : (k : Kind) (n list : ℕ) → IsMade ts (substituted (tree_at ts list).children 0 (row_of k (tree_at ts n)))
  -- what stands under a binder, with values in the place of its variables
  under_binder : {values : Forest} (n : ℕ) → AreValues ts values → IsMade ts (opened values (row (tree_at ts n) none))
  -- a clause, with values in the place of the variables of its own binder
  instance : {values : Forest} (n : ℕ) → AreValues ts values → IsMade ts (alone (opened_clause values (tree_at ts n)))
  -- some of a node, with others in the place of some below it
  filled : {us : Forest} (k : Kind) (n : ℕ) → IsFilled ts (row_of k (tree_at ts n)) us → IsMade ts us

-- Why a call that was given the first context and left the last made no node. A growth was refused, or no number is left; a tree of height
-- 1,024 or more is there, over which none can be made; or a node has more children than can be counted. Or, of the trees of a context between
-- the two, one of these wasn't made: what calls make of them, an elaboration, or what the tables or a callable ask about.
pub data IsUnmade (first last : Context) : Stop → Type 0 where
  no_memory : IsUnmade first last Memory
  no_number : 4294967295 ≤ length last.trees → IsUnmade first last NodesFull
  high_tree : 1024 ≤ tallest last.trees → IsUnmade first last NodesFull
  wide_node : HasWideNode last.trees → IsUnmade first last NodesFull
  of_trees : {s : Stop} {made : Forest} (old : Context) → Grows first old → Grows old last → IsMade old.trees made
      → IsSubstStop (length last.trees) made s → IsUnmade first last s
  of_elaboration : {s : Stop} (old : Context) (start : List Clause) → Grows first old → Grows old last
      → IsElaborationStop (super_clauses old) (map (clause_tree old.trees) start) (length last.trees) s → IsUnmade first last s
  of_cell : {s : Stop} (old : Context) (column : Column) (n : ℕ) → Grows first old → Grows old last
      → IsCellStop (length last.trees) (cell column (tables.row_of old (tree_at old.trees n))) s → IsUnmade first last s
  of_conditions : {s : Stop} (old : Context) (n : ℕ) → Grows first old → Grows old last
      → IsConditionsStop (length last.trees) (destruct_conditions old (tree_at old.trees n)) s → IsUnmade first last s
  of_call : {s : Stop} (old : Context) (n : ℕ) → Grows first old → Grows old last
      → IsCallStop old (length last.trees) (tree_at old.trees n) s → IsUnmade first last s
  of_const_call : {s : Stop} (old : Context) (n : ℕ) → Grows first old → Grows old last
      → IsConstCallStop old (length last.trees) (tree_at old.trees n) s → IsUnmade first last s
