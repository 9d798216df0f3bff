-- What a goal of a trait comes to: its list of candidates, those of them that win, and what these are merged to.
use Rattle.std.specs.Prelude.{◌≡◌, false, ℕ, Option, Some, None, List, Result, IfOk, IfErr}
use Rattle.std.specs.List.{Contains}
use Rattle.ir_trees.specs.declared.ir.stop.Stop.{Stop}
use Rattle.ir_trees.specs.Declarations.Context.{Context}
use Rattle.candidate_eval.specs.declared.eval.refusal.NoSolutionOrStop.{NoSolutionOrStop}
use Rattle.candidate_eval.specs.declared.eval.refusal.NoSolutionOrStop.TheVariants as N
use Rattle.candidate_eval.specs.declared.eval.response.CanonicalResponse.{CanonicalResponse}
use Rattle.candidate_eval.specs.Interface.Accounts.{Account, by_stop}
use Rattle.candidate_eval.specs.Interface.Evaluators.{KeepsBut}
use Rattle.candidate_eval.specs.Derivations.ImplRules.{TraitGoal}
use Rattle.candidate_eval.specs.Interface.Knowing.{is_evaluator_stop}
use Rattle.candidate_eval.specs.Outcomes.ResponseTrees.{IsResponse, response_of}
use Rattle.candidate_eval.specs.Outcomes.Responses.{Candidate, Response}
use Rattle.candidate_eval.specs.Judges.States.{Judge, State}
use Rattle.candidate_assembly.specs.declared.assembly.opaques.AssembleCandidatesFrom.TheVariants.{All}
use Rattle.candidate_assembly.specs.declared.assembly.merging.TraitGoalProvenVia.{TraitGoalProvenVia}
use Rattle.candidate_assembly.specs.Answers.AssembledCalls.{IsAssembledAt, IsLeftAlike, NormalChainEnds}
use Rattle.candidate_assembly.specs.Rules.AliasFaults.{PutsOffOnce}
use Rattle.candidate_assembly.specs.Goals.Kinds.{self_type}
use Rattle.candidate_assembly.specs.Answers.Listing.{Listed, Lists, Stops}
use Rattle.candidate_assembly.specs.Answers.Preference.{Proved, answer_by, mode_of, preferred}
use Rattle.candidate_assembly.specs.Answers.Telling.{StopsOfItself}
use Rattle.candidate_assembly.specs.Goals.TraitRules.{trait_bounds, trait_rules}

-- A response, and how the goal is proved; a refusal; or the stop of a rule.
pub data TraitAnswer : Type 0 where
  Answered : Proved → TraitAnswer
  Refused : TraitAnswer
  Stopped : Stop → TraitAnswer

abbrev pub or_refused : Option Proved → TraitAnswer
or_refused None = Refused
or_refused (Some p) = Answered p

-- What a list comes to at a state, for a goal of the trait of that number: the merge of the candidates that win.
abbrev pub answer_of : Judge → Context → State → ℕ → Listed → TraitAnswer
answer_of J c S n (Lists xs) = or_refused (answer_by J S (preferred c S.mode (mode_of c n) xs))
answer_of J c S n (Stops s) = Stopped s

-- What the goal comes to at the first state: its list does, at the state that normalising its self type leaves. The second state is alike
-- that one.
pub record IsTraitAnswer (J : Judge) (c : Context) (S : State) (g : TraitGoal) (U : State) (a : TraitAnswer) : Type 0 where
  pub listed : Listed
  pub list : IsAssembledAt trait_rules trait_bounds c J S g All U listed
  pub answer : a ≡ answer_of J c list.left g.reference.trait listed

-- A call answers what the goal comes to. Of the evaluator's own stops, and of those of making nodes and lists, nothing is said but their
-- cause. It keeps what calls keep, and leaves a state alike the one that normalising the self type leaves, or alike the first.
-- Of faults it puts off at most the one of the end of the goal's chain.
pub record Computes {E X : Type 0} (fixed : E → X) (judge : X → Judge) (state : E → State) (probes : E → List State) (context : E → Context) (stops : Account E)
    (old new : E) (g : TraitGoal) (result : Result (CanonicalResponse × Option TraitGoalProvenVia) NoSolutionOrStop) : Type 0 where
  pub kept : KeepsBut (PutsOffOnce (NormalChainEnds trait_rules trait_bounds (context old) (judge (fixed old)) (state old) g)) fixed probes context old new
  pub fits : IfOk result (λ a. IsResponse (context new).trees a.0)
  pub ok : IfOk result (λ a. IsTraitAnswer (judge (fixed old)) (context old) (state old) g (state new) (Answered (response_of (context new).trees a.0, a.1)))
  pub refused : IfErr result (λ e. e ≡ N.NoSolution → IsTraitAnswer (judge (fixed old)) (context old) (state old) g (state new) Refused)
  pub stopped : IfErr result (by_stop (λ s. is_evaluator_stop s ≡ false → IsTraitAnswer (judge (fixed old)) (context old) (state old) g (state new) (Stopped s)))
  pub left : IsLeftAlike (judge (fixed old)) (state old) g.env (self_type trait_rules (context old) g) (state new)
  pub cause : IfErr result (by_stop (StopsOfItself fixed context state stops old new))

-- One of the candidates has the response.
pub record IsOfOne (xs : List Candidate) (r : Response) : Type 0 where
  pub candidate : Candidate
  pub listed : Contains xs candidate
  pub response : candidate.result ≡ r

-- The list is there, and one of its candidates has the response.
abbrev pub ListsOne : Listed → Response → Type 0
ListsOne (Lists xs) r = IsOfOne xs r
ListsOne (Stops s) r = ⊥
