-- What it says that where clauses hold by a table of goals, with what stands for the parameters.
use Rattle.std.specs.Prelude.{◌≡◌, ℕ, Bool, true, false, Option, Some, List, slice_get}
use Rattle.ir_trees.specs.declared.ir.heads.Head.{Head}
use Rattle.ir_trees.specs.declared.ir.heads.Head.TheVariants as H
use Rattle.ir_trees.specs.declared.ir.heads.PartHead.TheVariants as P
use Rattle.ir_trees.specs.declared.ir.heads.ClauseHead.TheVariants as Cl
use Rattle.ir_trees.specs.declared.ir.kinds.Clause.{Clause}
use Rattle.ir_trees.specs.Instantiation.Folding.{substituted_tree}
use Rattle.ir_trees.specs.Syntax.Trees.{Forest, none, Tree}
use Rattle.ir_trees.specs.Syntax.Words.{args_forest, clause_tree}
use Rattle.candidate_eval.specs.Derivations.ImplRules.{TraitGoal}
use Rattle.candidate_eval.specs.Dynamic.ObjectRequirements.{arguments_of, trait_said}
use Rattle.candidate_eval.specs.Judges.States.{Env, State, resolved_tree}
use Rattle.candidate_eval.specs.Outcomes.Responses.{has_only_region_constraints}
use Rattle.candidate_rounds.specs.Evaluators.Leaking.{ResponseLeaks}
use Rattle.candidate_rounds.specs.Table.Goals.{Via}
use Rattle.rounds_judge.specs.Table.GoalTable.{GoalTable, verdict_in}
use Rattle.rounds_judge.specs.Table.Keys.{key_at}
use Rattle.rounds_judge.specs.Table.Verdicts.{Verdict, Yes}
use Rattle.overlaps.specs.declared.opening.Opened.{Opened}
use Rattle.overlaps.specs.declared.opening.Pair.{Pair}

-- It is a Yes, by which no variable gets a value and no two become one.
abbrev pub IsPlainYes : Option (Verdict Via) → Type 0
IsPlainYes (Some (Yes r w)) = has_only_region_constraints r ≡ true
IsPlainYes _ = ⊥

-- Where it is a Yes, what that asks of regions holds for every placeholder.
abbrev pub HoldsForAll : Option (Verdict Via) → Type 0
HoldsForAll (Some (Yes r w)) = ResponseLeaks r → ⊥
HoldsForAll _ = Unit {0}

-- it says what outlives what
abbrev pub is_outlives : Head → Bool
is_outlives (H.Part (P.Clause Cl.TypeOutlives)) = true
is_outlives (H.Part (P.Clause Cl.RegionOutlives)) = true
is_outlives _ = false

-- What the clause says of a trait, asked at the state under that environment, has such a Yes in the table.
pub record IsAnswered (env : Env) (T : GoalTable Via) (S : State) (clause : Tree) : Type 0 where
  pub goal : TraitGoal
  pub says : trait_said clause.head ≡ Some (record { 0 = goal.reference.trait }, goal.polarity)
  pub arguments : goal.reference.arguments ≡ arguments_of clause
  pub under : goal.env ≡ env
  pub answered : IsPlainYes (verdict_in T (key_at S goal))

-- A clause that says what outlives what is assumed; one of a trait is answered; and one of a projection is neither.
pub data Holds (env : Env) (T : GoalTable Via) (S : State) (clause : Tree) : Type 0 where
  assumed : is_outlives clause.head ≡ true → Holds env T S clause
  answered : IsAnswered env T S clause → Holds env T S clause

-- A declared clause does, with these for its parameters and all values of the state put in; and each of several does.

abbrev pub HoldsWith : Env → List Tree → GoalTable Via → State → Forest → Clause → Type 0
HoldsWith env ts T S locals x = Holds env T S (resolved_tree S (substituted_tree locals (clause_tree ts x)))

abbrev pub AllHold : Env → List Tree → GoalTable Via → State → Forest → List Clause → Type 0
AllHold env ts T S locals xs = (n : ℕ) (x : Clause) → slice_get xs n ≡ Some x → HoldsWith env ts T S locals x

-- Each clause of an open impl does, without an environment; and each of two.

abbrev pub ImplHolds : List Tree → GoalTable Via → State → Opened → Type 0
ImplHolds ts T S o = AllHold none ts T S (args_forest ts o.locals) o.wheres.items

pub record BothHold (ts : List Tree) (T : GoalTable Via) (S : State) (p : Pair) : Type 0 where
  pub first : ImplHolds ts T S p.first
  pub second : ImplHolds ts T S p.second
