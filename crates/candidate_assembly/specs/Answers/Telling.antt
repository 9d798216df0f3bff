-- What calls say of the rule that they follow.
use Rattle.std.specs.Prelude.{◌≡◌, All, Bool, true, false, Result, Ok, Err, IfOk, IfErr, List, [], map}
use Rattle.ir_trees.specs.declared.ir.kinds.GoalSource.{GoalSource}
use Rattle.ir_trees.specs.declared.ir.stop.Stop.{Stop}
use Rattle.ir_trees.specs.Declarations.Context.{Context}
use Rattle.ir_trees.specs.declared.ir.kinds.Clause.{Clause}
use Rattle.ir_trees.specs.Syntax.Trees.{Forest, Tree, is_param, tree_holds}
use Rattle.ir_trees.specs.Syntax.Words.{clause_tree}
use Rattle.candidate_eval.specs.declared.eval.refusal.NoSolutionOrStop.{NoSolutionOrStop}
use Rattle.candidate_eval.specs.declared.eval.refusal.NoSolutionOrStop.TheVariants as N
use Rattle.candidate_eval.specs.declared.eval.response.Candidate.{Candidate}
use Rattle.candidate_eval.specs.declared.eval.response.CandidateHeadUsages.{CandidateHeadUsages}
use Rattle.candidate_eval.specs.declared.eval.response.CanonicalResponse.{CanonicalResponse}
use Rattle.candidate_eval.specs.declared.eval.source.CandidateSource.{CandidateSource}
use Rattle.candidate_eval.specs.declared.eval.source.CandidateSource.TheVariants.{BuiltinImpl}
use Rattle.candidate_eval.specs.declared.eval.source.BuiltinImplSource.TheVariants.{Misc}
use Rattle.candidate_eval.specs.declared.eval.certainty.Certainty.{Certainty}
use Rattle.candidate_eval.specs.Interface.Accounts.{Account, StopsSomehow, by_stop}
use Rattle.candidate_eval.specs.Interface.Evaluators.{Keeps}
use Rattle.candidate_eval.specs.Interface.Knowing.{is_evaluator_stop}
use Rattle.candidate_eval.specs.Outcomes.ResponseTrees.{IsResponse, candidate_of, response_of}
use Rattle.candidate_eval.specs.Derivations.Rules.{Rule, add, ask}
use Rattle.candidate_eval.specs.Derivations.Judging.{Place, Judged, Gives, Refused, Stopped, judged}
use Rattle.candidate_eval.specs.Judges.States.{Env, State, Judge}

-- An answer is what was judged: the candidate that is given, of which the numbers are of the context; a refusal; or a stop that the
-- definitions say. Of the evaluator's own stops and of those of what makes nodes the definitions say nothing.
pub record Told (ts : List Tree) (answer : Result Candidate NoSolutionOrStop) (judged : Judged) : Type 0 where
  pub ok : IfOk answer (λ c. judged ≡ Gives (candidate_of ts c))
  pub fits : IfOk answer (λ c. IsResponse ts c.result)
  pub refused : IfErr answer (λ e. e ≡ N.NoSolution → judged ≡ Refused)
  pub stopped : IfErr answer (by_stop (λ s. is_evaluator_stop s ≡ false → judged ≡ Stopped s))

-- An answer without its source, and what is judged with it.
pub record ToldAs (ts : List Tree) (source : CandidateSource) (answer : Result CanonicalResponse NoSolutionOrStop) (judged : Judged) : Type 0 where
  pub ok : IfOk answer (λ r. judged ≡ Gives (record { source = source; result = response_of ts r }))
  pub fits : IfOk answer (λ r. IsResponse ts r)
  pub refused : IfErr answer (λ e. e ≡ N.NoSolution → judged ≡ Refused)
  pub stopped : IfErr answer (by_stop (λ s. is_evaluator_stop s ≡ false → judged ≡ Stopped s))

-- Why a call that was given the first evaluator and left the last stopped: of its own stops, since nodes or lists weren't made, or since the
-- evaluator stopped and accounts for it.
abbrev pub StopsOfItself : {E X : Type 0} → (E → X) → (E → Context) → (E → State) → Account E → E → E → Stop → Type 0
StopsOfItself fixed context state stops first last s = is_evaluator_stop s ≡ true → StopsSomehow fixed context state stops first last s

-- What a call does that considers a rule: it answers what the judge does to the rule at the state, and leaves a state alike that one.
pub record Considers {E X : Type 0} (fixed : E → X) (judge : X → Judge) (state : E → State) (probes : E → List State) (context : E → Context) (stops : Account E)
    (old new : E) (rule : Rule) (answer : Result Candidate NoSolutionOrStop) : Type 0 where
  pub kept : Keeps fixed probes context old new
  pub alike : (judge (fixed old)).alike (state old) (state new)
  pub told : Told (context new).trees answer (judged (judge (fixed old)) (state old) rule)
  pub cause : IfErr answer (by_stop (StopsOfItself fixed context state stops old new))

-- The same where what is judged is known by a relation: that holds of what is answered.
pub record ToldSome (ts : List Tree) (R : Judged → Type 0) (answer : Result Candidate NoSolutionOrStop) : Type 0 where
  pub ok : IfOk answer (λ c. R (Gives (candidate_of ts c)))
  pub fits : IfOk answer (λ c. IsResponse ts c.result)
  pub refused : IfErr answer (λ e. e ≡ N.NoSolution → R Refused)
  pub stopped : IfErr answer (by_stop (λ s. is_evaluator_stop s ≡ false → R (Stopped s)))

pub record ConsidersSome {E X : Type 0} (fixed : E → X) (judge : X → Judge) (state : E → State) (probes : E → List State) (context : E → Context) (stops : Account E)
    (old new : E) (R : Judged → Type 0) (answer : Result Candidate NoSolutionOrStop) : Type 0 where
  pub kept : Keeps fixed probes context old new
  pub alike : (judge (fixed old)).alike (state old) (state new)
  pub told : ToldSome (context new).trees R answer
  pub cause : IfErr answer (by_stop (StopsOfItself fixed context state stops old new))

-- An answer that hands out besides a refusal what was used until then, without that.
abbrev pub without_usages : Result (Result Candidate CandidateHeadUsages) Stop → Result Candidate NoSolutionOrStop
without_usages (Ok (Ok c)) = Ok c
without_usages (Ok (Err u)) = Err N.NoSolution
without_usages (Err s) = Err (N.Stop s)

-- where a rule stands at a state, with that for its variables
abbrev pub standing : State → Forest → Place
standing S ls = record { state = S; locals = ls }

-- a rule that nests clauses and asks
abbrev pub flat_rule : Env → Bool → GoalSource → List Tree → CandidateSource → Certainty → Rule
flat_rule e applies s cs source c = record { env = e; applies = applies; steps = map (add s) cs; ending = ask source c }

-- a rule of the language that asks at once
abbrev pub asking_rule : Env → Bool → Certainty → Rule
asking_rule e applies c = record { env = e; applies = applies; steps = []; ending = ask (BuiltinImpl Misc) c }

-- no parameter stands in the clauses
abbrev pub HaveNoParameter : List Tree → List Clause → Type 0
HaveNoParameter ts cs = All (λ c. tree_holds is_param (clause_tree ts c) ≡ false) cs
