-- The type that a projection is gets known at a state: what a response says of it is given.
use Rattle.std.specs.Prelude.{◌++◌, ◌∷◌, [], length, List, Option}
use Rattle.ir_trees.specs.declared.ir.stop.Stop.{Stop}
use Rattle.ir_trees.specs.Syntax.Trees.{Tree}
use Rattle.candidate_eval.specs.Derivations.ImplRules.{TraitGoal}
use Rattle.candidate_eval.specs.Judges.States.{State}
use Rattle.candidate_eval.specs.Outcomes.Responses.{Response}
use Rattle.rounds_judge.specs.Aliases.Listed.{Listing}
use Rattle.rounds_judge.specs.Table.Keys.{Key, key_at, numbers_at}
use Rattle.rounds_judge.specs.Table.TableSettling.{given, with_open}
use Rattle.candidate_rounds.specs.Evaluators.Inferences.{IsFullAt}
use Rattle.candidate_rounds.specs.Evaluators.Stopping.{IsGivingStop, IsGoalKeyStop}
use Rattle.candidate_rounds.specs.Table.Normalized.{IsNotBegun}
use Rattle.candidate_rounds.specs.Table.Normalizing.{term_variable, with_term}

-- What is known where the response of a projection's key is given: a new variable stands for the type, of the newest universe of the key of
-- its trait's goal.
abbrev pub with_normal : Listing → State → TraitGoal → Response → Option State
with_normal l S g a = let k = key_at S g in given l (with_open S (term_variable k)) (with_term k) (numbers_at S g ++ length S.variables ∷ []) a

-- Why a new variable that stands for the type wasn't made beside those of the key: the key has no room for it, or its newest universe wasn't
-- looked for; or no variable is left at the state.
pub data IsOpenTermStop (ts : List Tree) (S : State) (k : Key) (s : Stop) : Type 0 where
  term_not_begun : IsNotBegun ts k s → IsOpenTermStop ts S k s
  term_not_open : IsFullAt (length S.variables) s → IsOpenTermStop ts S k s

-- Why the key of the projection's trait's goal wasn't made with that variable: the key wasn't made, or then the variable.
pub data IsTermKeyStop (ts : List Tree) (S : State) (g : TraitGoal) (s : Stop) : Type 0 where
  term_key : IsGoalKeyStop ts S g s → IsTermKeyStop ts S g s
  term_key_then : IsOpenTermStop ts S (key_at S g) s → IsTermKeyStop ts S g s

-- Why the type that a projection is wasn't given, as a response says it: the key wasn't made with the variable, what the response says wasn't
-- given, or no node was left for the variable.
pub data IsGivingNormalStop (ts : List Tree) (l : Listing) (S : State) (g : TraitGoal) (a : Response) (s : Stop) : Type 0 where
  normal_key : IsTermKeyStop ts S g s → IsGivingNormalStop ts l S g a s
  normal_given : IsGivingStop ts l (with_open S (term_variable (key_at S g))) (with_term (key_at S g)) (numbers_at S g ++ length S.variables ∷ []) a s → IsGivingNormalStop ts l S g a s
  normal_type : IsFullAt (length ts) s → IsGivingNormalStop ts l S g a s
