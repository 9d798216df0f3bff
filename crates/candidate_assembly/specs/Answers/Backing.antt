-- What is promised of what a goal of a trait comes to, as one fact of the answer by its trees: see `proved`, `refused` and `impls` of
-- `compute_trait_goal`, which says the same of numbers.
use Rattle.std.specs.Prelude.{◌≡◌, List, Option, Result}
use Rattle.ir_trees.specs.Declarations.Context.{Context}
use Rattle.ir_trees.specs.Syntax.Trees.{Tree}
use Rattle.candidate_eval.specs.declared.eval.certainty.Certainty.TheVariants.{Yes}
use Rattle.candidate_eval.specs.declared.eval.refusal.NoSolutionOrStop.{NoSolutionOrStop}
use Rattle.candidate_eval.specs.declared.eval.response.CanonicalResponse.{CanonicalResponse}
use Rattle.candidate_eval.specs.Derivations.ImplRules.{TraitGoal}
use Rattle.candidate_eval.specs.Judges.States.{Judge, State}
use Rattle.candidate_assembly.specs.declared.assembly.merging.TraitGoalProvenVia.{TraitGoalProvenVia}
use Rattle.candidate_assembly.specs.Answers.CoherentRefusals.{IsCoherentRefusal, IsPlainGoal, RefusesCoherently}
use Rattle.candidate_assembly.specs.Answers.KnownImpls.{KnownWereRefused, RefusesImpls}
use Rattle.candidate_assembly.specs.Answers.Preference.{Proved}
use Rattle.candidate_assembly.specs.Answers.SureAnswers.{IsProved, YesIsProved}
use Rattle.candidate_assembly.specs.Answers.TraitAnswers.{TraitAnswer, Answered, Refused}

pub record IsBacked (J : Judge) (c : Context) (S : State) (g : TraitGoal) (a : TraitAnswer) : Type 0 where
  -- A sure answer is that of one rule of the goal, whose side condition holds and whose nested goals are granted.
  pub proved : (p : Proved) → a ≡ Answered p → p.0.certainty ≡ Yes → IsProved J c S g p.0
  -- Where a plain goal is refused in coherence, what it implies was refused, or no crate that it doesn't name may write a header that
  -- overlaps it.
  pub refused : a ≡ Refused → IsPlainGoal S g → IsCoherentRefusal J c S g
  -- Then each declared impl that overlaps it was tried, and what it asks for was refused.
  pub impls : a ≡ Refused → IsPlainGoal S g → KnownWereRefused J c S g

-- The same of a call's answer.
pub record AnswerIsBacked (J : Judge) (c : Context) (S : State) (g : TraitGoal) (ts : List Tree) (answer : Result (CanonicalResponse × Option TraitGoalProvenVia) NoSolutionOrStop) : Type 0 where
  pub proved : YesIsProved J c S g ts answer
  pub refused : RefusesCoherently J c S g answer
  pub impls : RefusesImpls J c S g answer
