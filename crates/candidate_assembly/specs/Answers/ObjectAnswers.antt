-- What calls say that consider a clause of a `dyn` type.
use Rattle.std.specs.Prelude.{◌≡◌, false, Result, IfOk, IfErr, List}
use Rattle.ir_trees.specs.Declarations.Context.{Context}
use Rattle.ir_trees.specs.Syntax.Trees.{Tree}
use Rattle.candidate_eval.specs.declared.eval.refusal.NoSolutionOrStop.{NoSolutionOrStop}
use Rattle.candidate_eval.specs.declared.eval.refusal.NoSolutionOrStop.TheVariants as N
use Rattle.candidate_eval.specs.declared.eval.response.Candidate.{Candidate}
use Rattle.candidate_eval.specs.Interface.Accounts.{Account, by_stop}
use Rattle.candidate_eval.specs.Interface.Evaluators.{Keeps}
use Rattle.candidate_eval.specs.Interface.Knowing.{is_evaluator_stop}
use Rattle.candidate_eval.specs.Derivations.Judging.{Judged, Gives, Refused, Stopped}
use Rattle.candidate_eval.specs.Judges.States.{Judge, State}
use Rattle.candidate_eval.specs.Outcomes.ResponseTrees.{IsResponse, candidate_of}
use Rattle.candidate_assembly.specs.Answers.Telling.{StopsOfItself}
use Rattle.candidate_assembly.specs.Goals.Kinds.{KindRules}
use Rattle.candidate_assembly.specs.Rules.ObjectBounds.{ObjectJudged, OwnClause}
use Rattle.candidate_assembly.specs.Rules.ObjectRule.{IsJudgedByRule}

-- An answer that tells something judged of which R holds: the candidate that is given, of which the numbers are of the context; a refusal; or
-- a stop that the definitions say. Of the evaluator's own stops and of those of what makes nodes they say nothing.
pub record ToldOf (ts : List Tree) (R : Judged → Type 0) (answer : Result Candidate NoSolutionOrStop) : Type 0 where
  pub ok : IfOk answer (λ c. R (Gives (candidate_of ts c)))
  pub fits : IfOk answer (λ c. IsResponse ts c.result)
  pub refused : IfErr answer (λ e. e ≡ N.NoSolution → R Refused)
  pub stopped : IfErr answer (by_stop (λ s. is_evaluator_stop s ≡ false → R (Stopped s)))

-- What a call does that considers a clause of a `dyn` type in a probe that is open already: it answers what is judged of the clause at the
-- state.
pub record TellsObject {E X G : Type 0} (fixed : E → X) (judge : X → Judge) (state : E → State) (probes : E → List State) (context : E → Context) (stops : Account E)
    (K : KindRules G) (old new : E) (g : G) (o : OwnClause) (answer : Result Candidate NoSolutionOrStop) : Type 0 where
  pub kept : Keeps fixed probes context old new
  pub told : ToldOf (context new).trees (ObjectJudged K (judge (fixed old)) (context old) (state old) g o) answer
  pub cause : IfErr answer (by_stop (StopsOfItself fixed context state stops old new))

-- In a probe of its own it leaves a state alike the first besides. What it answers is, as data, what the judge says to the clause's rule.
pub record ConsidersObject {E X G : Type 0} (fixed : E → X) (judge : X → Judge) (state : E → State) (probes : E → List State) (context : E → Context) (stops : Account E)
    (K : KindRules G) (old new : E) (g : G) (o : OwnClause) (answer : Result Candidate NoSolutionOrStop) : Type 0 where
  pub kept : Keeps fixed probes context old new
  pub alike : (judge (fixed old)).alike (state old) (state new)
  pub told : ToldOf (context new).trees (ObjectJudged K (judge (fixed old)) (context old) (state old) g o) answer
  pub as_rule : ToldOf (context new).trees (IsJudgedByRule K (judge (fixed old)) (context old) (state old) g o) answer
  pub cause : IfErr answer (by_stop (StopsOfItself fixed context state stops old new))
