-- What walks note of trees that they have gone through: equal trees have one number, and are gone into once.
use Rattle.std.specs.Prelude.{◌≡◌, ◌≤◌, ◌⊎◌, ◌||◌, ℕ, Bool, true, false, List, [], ◌∷◌, ◌++◌}
use Rattle.ir_trees.specs.declared.ir.heads.Head.{Head}
use Rattle.ir_trees.specs.declared.ir.heads.Head.TheVariants as H
use Rattle.ir_trees.specs.declared.ir.heads.Variable.{Variable}
use Rattle.ir_trees.specs.Syntax.Nodes.{tree_at}
use Rattle.ir_trees.specs.Syntax.Trees.{Tree, is_alias, tree_holds}
use Rattle.candidate_eval.specs.declared.eval.variable.VariableKind.TheVariants.{Term}
use Rattle.candidate_eval.specs.Judges.States.{is_some}
use Rattle.rounds_judge.specs.Equations.Scopes.{has_binder}
use Rattle.rounds_judge.specs.Obligations.Responding.{with_numbers}
use Rattle.rounds_judge.specs.Table.Keys.{greatest_named}
use Rattle.rounds_judge.specs.Table.TableSettling.{are_bare}
use Rattle.candidate_rounds.specs.Evaluators.Inferences.{Inference, kept_value}
use Rattle.candidate_rounds.specs.Table.Goals.{Each}

-- No placeholder below these numbers is of a universe above that one.
abbrev pub AreUpTo : ℕ → List Tree → List ℕ → Type 0
AreUpTo universe ts ns = Each (λ n. greatest_named (tree_at ts n).children ≤ universe) ns

-- All variables below a number are of those numbers, and have nothing below them.
pub record IsGathered (numbers : List ℕ) (ts : List Tree) (n : ℕ) : Type 0 where
  pub none_new : with_numbers numbers (tree_at ts n).children ≡ numbers
  pub bare : are_bare (tree_at ts n).children ≡ true

abbrev pub AreGathered : List ℕ → List Tree → List ℕ → Type 0
AreGathered numbers ts ns = Each (IsGathered numbers ts) ns

-- What is active at whatever state these variables are of: see `is_active`.

abbrev pub is_kept : Inference → Variable → Bool
is_kept s v = is_some (kept_value s (Term v.sort) v.number)

abbrev pub has_kept : Inference → Head → Bool
has_kept s (H.Infer v) = is_kept s v
has_kept s _ = false

abbrev pub is_active_at : Inference → Head → Bool
is_active_at s h = has_binder h || (is_alias h || has_kept s h)
