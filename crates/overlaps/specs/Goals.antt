-- Equations of lists, and what it says that a goal is refused in coherence that leaves nothing open.
use Rattle.std.specs.Prelude.{ℕ, List, Option}
use Rattle.ir_trees.specs.declared.ir.kinds.Args.{Args}
use Rattle.ir_trees.specs.declared.ir.kinds.ParamEnv.{ParamEnv}
use Rattle.ir_trees.specs.Declarations.Context.{Context}
use Rattle.ir_trees.specs.Syntax.Words.{args_forest, env_forest}
use Rattle.candidate_eval.specs.Derivations.ImplRules.{TraitGoal}
use Rattle.candidate_eval.specs.Interface.Evaluators.{accepted}
use Rattle.candidate_eval.specs.Interface.Shown.{View}
use Rattle.candidate_eval.specs.Judges.States.{Judge, State}
use Rattle.candidate_assembly.specs.Answers.CoherentRefusals.{IsCoherentRefusal, IsPlainGoal}
use Rattle.candidate_assembly.specs.Answers.KnownImpls.{KnownWereRefused}
use Rattle.candidate_assembly.specs.Rules.AliasFaults.{PutsOffOnce}

-- the state that an equation of two lists leaves, where an evaluator stands; none where it is refused
abbrev pub lists_equated : View → ParamEnv → Args → Args → Option State
lists_equated V env first second = accepted V.judge V.state (env_forest V.trees env) (args_forest V.trees first) (args_forest V.trees second)

-- The goal leaves nothing open; it was refused for a reason that coherence has, and each declared impl that overlaps it was tried and refused,
-- but for default impls and those with an alias in their headers, of which nothing is said.
pub record WasRefused (J : Judge) (c : Context) (S : State) (g : TraitGoal) : Type 0 where
  pub plain : IsPlainGoal S g
  pub reason : IsCoherentRefusal J c S g
  pub known : KnownWereRefused J c S g

-- One fault is put off at most.
abbrev pub PutsOffOneAtMost : List (List ℕ) → List (List ℕ) → Type 0
PutsOffOneAtMost = PutsOffOnce (λ end. Unit {0})
