-- Goals that a projection is a type, as tables of goals know them.
use Rattle.std.specs.Prelude.{[], length}
use Rattle.ir_trees.specs.declared.ir.heads.VariableSort.TheVariants.{General}
use Rattle.ir_trees.specs.declared.ir.kinds.AssocId.{AssocId}
use Rattle.ir_trees.specs.declared.ir.kinds.PredicatePolarity.TheVariants.{Positive}
use Rattle.ir_trees.specs.Syntax.Trees.{Forest, Tree, join}
use Rattle.ir_trees.specs.Unification.Substitutions.{alone}
use Rattle.candidate_eval.specs.declared.eval.variable.CanonicalVar.{CanonicalVar}
use Rattle.candidate_eval.specs.declared.eval.variable.VariableKind.TheVariants.{Term}
use Rattle.candidate_eval.specs.Derivations.ImplRules.{TraitGoal}
use Rattle.candidate_eval.specs.Judges.States.{Env, State, variable}
use Rattle.rounds_judge.specs.Table.GoalTable.{GoalTable, well_entered}
use Rattle.rounds_judge.specs.Table.Keys.{key_at, newest_of, trait_goal_of}
use Rattle.rounds_judge.specs.Table.TableSettling.{with_open}

-- For each associated type a table of its goals.
abbrev pub ProjectionTables : Type 0 → Type 0
ProjectionTables W = AssocId → GoalTable W

-- the tables by what of each may be read
abbrev pub well_entered_each : {W : Type 0} → ProjectionTables W → ProjectionTables W
well_entered_each Q i = well_entered (Q i)

-- nothing is known of any
abbrev pub no_projections : {W : Type 0} → ProjectionTables W
no_projections i = []

-- The goal that the associated type, of all of these trees but the last, is the last.
abbrev pub projection_goal : Env → AssocId → Forest → TraitGoal
projection_goal e i ts = trait_goal_of e (record { 0 = i.0 }) Positive ts

-- What a projection is, is asked with a new variable in the place of the type. It is of the newest universe in the key that the arguments
-- have.

abbrev pub term_variable : State → Env → AssocId → Forest → CanonicalVar
term_variable S e i args = record { kind = Term General; universe = newest_of (key_at S (projection_goal e i args)) }

abbrev pub with_term : State → Env → AssocId → Forest → State
with_term S e i args = with_open S (term_variable S e i args)

-- the variable, of the state with it
abbrev pub new_term : State → Tree
new_term S = variable (Term General) (length S.variables)

abbrev pub term_asked : State → Env → AssocId → Forest → TraitGoal
term_asked S e i args = projection_goal e i (join args (alone (new_term S)))
