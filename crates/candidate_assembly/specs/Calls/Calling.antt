-- Steps of the rule for what can be called.
use Rattle.std.specs.Prelude.{Option, None, if◌then◌else◌}
use Rattle.ir_trees.specs.declared.ir.kinds.GoalSource.TheVariants.{ImplWhereBound}
use Rattle.ir_trees.specs.declared.ir.unify.RightSide.TheVariants as R
use Rattle.ir_trees.specs.Syntax.Trees.{Forest, Tree}
use Rattle.ir_trees.specs.Unification.Unify.{may_unify}
use Rattle.candidate_eval.specs.Interface.Evaluators.{accepted}
use Rattle.candidate_eval.specs.Judges.States.{Env, State, Pending, Judge}

-- The state after an accepted equation of two rows that pass quick rejection.
abbrev pub matched_quickly : Judge → State → Env → Forest → Forest → Option State
matched_quickly J S e a b = if may_unify R.Plain a b then accepted J S e a b else None

-- a clause that a rule nests, as a goal
abbrev pub nested_goal : Env → Tree → Pending
nested_goal e t = record { source = ImplWhereBound; goal = record { env = e; clause = t } }
