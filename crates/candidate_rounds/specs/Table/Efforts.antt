-- Runs of a goal, by how long it is computed.
use Rattle.std.specs.Prelude.{◌<◌, ℕ, List}
use Rattle.ir_trees.specs.declared.ir.stop.Stop.{Stop}
use Rattle.ir_trees.specs.Syntax.Trees.{Tree}
use Rattle.candidate_eval.specs.Derivations.ImplRules.{TraitGoal}
use Rattle.candidate_rounds.specs.declared.rounds.effort.Effort.{Effort}
use Rattle.candidate_rounds.specs.declared.rounds.effort.Effort.TheVariants.{AsNeeded, Rounds}
use Rattle.candidate_rounds.specs.Evaluators.Known.{Evaluator}
use Rattle.candidate_rounds.specs.Table.Goals.{Via}
use Rattle.candidate_rounds.specs.Table.Running.{IsLeftStopped, IsLeftUnsettled}
use Rattle.rounds_judge.specs.Table.GoalTable.{GoalTable}
use Rattle.rounds_judge.specs.Table.Keys.{Key}
use Rattle.rounds_judge.specs.Table.Rounds.{PureFolder, IsRun, IsSettled, most_steps}

-- some round is done
abbrev pub IsEffort : Effort → Type 0
IsEffort (Rounds n) = 0 < n
IsEffort AsNeeded = Unit {0}

abbrev pub most_rounds : Effort → ℕ
most_rounds (Rounds n) = n
most_rounds AsNeeded = most_steps

-- The goal of the key was run: in so many rounds at most, or until the table is settled for it.
abbrev pub Runs : PureFolder Via → Key → Effort → GoalTable Via → GoalTable Via → Type 0
Runs A k (Rounds n) T U = IsRun A k n T U
Runs A k AsNeeded T U = IsSettled A k most_steps T U

-- what such a run leaves where it stops
abbrev pub IsLeftBy : List Tree → Evaluator → TraitGoal → Effort → GoalTable Via → GoalTable Via → Stop → Type 0
IsLeftBy ts r g (Rounds n) T U s = IsLeftStopped ts r g n T U s
IsLeftBy ts r g AsNeeded T U s = IsLeftUnsettled ts r g T U s
