-- The orphan check of an evaluator, which normalises by its own normal forms.
use Rattle.std.specs.Prelude.{◌≡◌, true, false, List, Result, Err, IfOk}
use Rattle.ir_trees.specs.declared.ir.kinds.ParamEnv.{ParamEnv}
use Rattle.ir_trees.specs.declared.ir.kinds.Ty.{Ty}
use Rattle.ir_trees.specs.declared.ir.stop.Stop.{Stop}
use Rattle.ir_trees.specs.declared.ir.stop.Stop.TheVariants.{Memory, NodesFull, EvaluatorLimit, WalkDepth, Unnameable}
use Rattle.ir_trees.specs.Declarations.Context.{Context}
use Rattle.ir_trees.specs.Syntax.Trees.{Tree}
use Rattle.ir_trees.specs.Syntax.Words.{IsTy, ty_tree, env_forest}
use Rattle.candidate_eval.specs.declared.coherence.NormalizeErr.{NormalizeErr}
use Rattle.candidate_eval.specs.declared.coherence.NormalizeErr.TheVariants as N
use Rattle.candidate_eval.specs.Interface.Accounts.{Account, IsAccounted, Question}
use Rattle.candidate_eval.specs.Interface.Evaluators.{Keeps}
use Rattle.candidate_eval.specs.Derivations.Judging.{seen_of}
use Rattle.candidate_eval.specs.Knowability.Normalizer.{Untold, IsToldAnswer, shown}
use Rattle.candidate_eval.specs.Judges.States.{State, Judge, resolved_root}

-- the stops of an evaluator, which no judge says
abbrev pub is_evaluator_stop : Untold
is_evaluator_stop Memory = true
is_evaluator_stop NodesFull = true
is_evaluator_stop EvaluatorLimit = true
is_evaluator_stop _ = false

-- Why a check by an evaluator stopped: the walk's own reasons, or the evaluator stopped and accounts for it.
module _ {C X : Type 0} (fixed : C → X) (context : C → Context) (state : C → State) (stops : Account C) where
  pub data StopsKnowing (first last : C) : Stop → Type 0 where
    no_memory : StopsKnowing first last Memory
    too_deep : StopsKnowing first last WalkDepth
    unnameable : StopsKnowing first last Unnameable
    accounted : {s : Stop} → IsAccounted fixed context state stops first last s → StopsKnowing first last s

-- A type was normalised as the judge says: the answer and the state that is left, unless the evaluator stopped.
pub record NormalizesAsJudged {C X : Type 0} (context : C → Context) (fixed : C → X) (probes : C → List State) (state : C → State) (judge : X → Judge) (stops : Account C)
    (old new : C) (env : ParamEnv) (t : Ty) (r : Result Ty (NormalizeErr (Unit {0}))) : Type 0 where
  pub kept : Keeps fixed probes context old new
  pub sort : IfOk r (λ u. IsTy (context new).trees u)
  pub stopped : (s : Stop) → r ≡ Err (N.Stop s) → stops new (state old) (Question.normalize (env_forest (context old).trees env) (ty_tree (context old).trees t)) s
  pub answer : IsToldAnswer is_evaluator_stop r
      → seen_of (state old) ((judge (fixed old)).normalized (state old) (env_forest (context old).trees env) (ty_tree (context old).trees t))
      ≡ record { seen = shown (context new).trees r; after = state new }

-- What is seen of an evaluator is its state, where what is fixed is that.
pub record SeesStates {C X V : Type 0} (seen : C → V) (resolve : V → Tree → Tree) (fixed : C → X) (state : C → State) : Type 0 where
  pub seen_at : X → State → V
  pub state_of : V → State
  pub sees : (c : C) → seen c ≡ seen_at (fixed c) (state c)
  pub shows : (x : X) (S : State) → state_of (seen_at x S) ≡ S
  pub resolves : (v : V) (t : Tree) → resolve v t ≡ resolved_root (state_of v) t
