-- Open parts by numbers: those that are noted, and what stands in their places.
use Rattle.std.specs.Prelude.{◌≡◌, ℕ, Bool, false, true, ◌&&◌, List, [], ◌∷◌, None, map, if◌then◌else◌}
use Rattle.ir_trees.specs.declared.ir.kinds.Args.{Args}
use Rattle.ir_trees.specs.declared.ir.kinds.GenericArg.{GenericArg}
use Rattle.ir_trees.specs.Instantiation.Folding.{Answers}
use Rattle.ir_trees.specs.Instantiation.Folds.{IsArg, arg_tree, is_asked}
use Rattle.ir_trees.specs.Syntax.Kinds.{arg_kind}
use Rattle.ir_trees.specs.Syntax.Nodes.{tree_at}
use Rattle.ir_trees.specs.Syntax.Trees.{Forest, Tree}
use Rattle.ir_trees.specs.Syntax.Words.{IsArgs, args_forest, list_forest}
use Rattle.candidate_eval.specs.Judges.Lawful.{is_type_or_constant}
use Rattle.rounds_judge.specs.Aliases.Listed.{Listing, listed_in}
use Rattle.rounds_judge.specs.Aliases.OpenParts.{all_to_be, has_loose_alias, opened, paired, with_parts}
use Rattle.candidate_eval.specs.Interface.Evaluators.{IsGoal, pendings_of}
use Rattle.candidate_eval.specs.Judges.States.{Env, State}
use Rattle.rounds_judge.specs.Equations.Opening as states
use Rattle.rounds_judge.specs.Equations.Opening.{are_open, has_alias, opened_by}
use Rattle.candidate_rounds.specs.declared.rounds.opening.Opened.{Opened}
use Rattle.candidate_rounds.specs.declared.rounds.opening.Sides.{Sides}
use Rattle.candidate_rounds.specs.Evaluators.Known.{Evaluator, state}
use Rattle.candidate_rounds.specs.Table.Goals.{Each}

-- No alias stands loose below these numbers.
abbrev pub AreTight : List Tree → List ℕ → Type 0
AreTight ts ns = Each (λ n. has_loose_alias (tree_at ts n).children ≡ false) ns

-- All open parts below these numbers are among the trees.
abbrev pub AreNoted : List Tree → List Tree → List ℕ → Type 0
AreNoted ps ts ns = Each (λ n. with_parts ps (tree_at ts n).children ≡ ps) ns

abbrev pub trees_of : List Tree → List GenericArg → List Tree
trees_of ts xs = map (arg_tree ts) xs

-- the open parts of both lists, each once
abbrev pub parts_of : List Tree → Args → Args → List Tree
parts_of ts a b = with_parts (with_parts [] (args_forest ts a)) (args_forest ts b)

abbrev pub AreArgs : List Tree → List GenericArg → Type 0
AreArgs ts xs = Each (IsArg ts) xs

abbrev pub pairs_at : List Tree → List GenericArg → List GenericArg → List (Tree × Tree)
pairs_at ts ps vs = paired (trees_of ts ps) (list_forest ts vs)

-- what stands in the place of a tree
abbrev pub opened_answers : List GenericArg → List GenericArg → List Tree → Answers
opened_answers ps vs ts d t = if is_asked t.head then listed_in (pairs_at ts ps vs) t else None

-- Open parts, and as many that may stand in their places, each of the kind of its part.
pub record IsPair (ts : List Tree) (x y : GenericArg) : Type 0 where
  pub part : IsArg ts x
  pub other : IsArg ts y
  pub kind : arg_kind y ≡ arg_kind x
  pub is_term : is_type_or_constant (arg_kind x) ≡ true

abbrev pub ArePaired : List Tree → List GenericArg → List GenericArg → Type 0
ArePaired ts [] [] = Unit {0}
ArePaired ts (x ∷ xs) (y ∷ ys) = IsPair ts x y × ArePaired ts xs ys
ArePaired ts _ _ = ⊥

-- The parts of a context and what stands in their places, by trees.

abbrev pub IsOpenedBy : List Tree → Opened → Type 0
IsOpenedBy ts o = ArePaired ts o.parts.items o.variables.items

abbrev pub opened_pairs : List Tree → Opened → List (Tree × Tree)
opened_pairs ts o = pairs_at ts o.parts.items o.variables.items

-- what both lists are opened by at the state of the evaluator
abbrev pub opened_at : Evaluator → List Tree → Args → Args → states.Opened
opened_at r ts a b = opened_by (state r) (parts_of ts a b)

-- The lists and goals are of the context.
pub record AreSidesOf (ts : List Tree) (x : Sides) : Type 0 where
  pub left : IsArgs ts x.left
  pub right : IsArgs ts x.right
  pub goals : Each (λ g. IsGoal ts g.1) x.goals.items

-- The lists are those with fresh variables for open parts, and the goals that these are one.
pub record AreOpened (ts : List Tree) (e : Env) (a b : Forest) (o : states.Opened) (x : Sides) : Type 0 where
  pub left : args_forest ts x.left ≡ opened o.pairs a
  pub right : args_forest ts x.right ≡ opened o.pairs b
  pub goals : pendings_of ts x.goals.items ≡ all_to_be e o.pairs

-- Aliases are open, and one stands in the trees once all values are put in.
abbrev pub asks_openly : Listing → State → Forest → Forest → Bool
asks_openly l S a b = are_open l S && has_alias S a b
