-- What an evaluator shows, as one value, and what contracts say of two evaluators by it: the one that a call is given, and the one that it
-- leaves.
use Rattle.std.specs.Prelude.{ℕ, Bool, List, Result}
use Rattle.ir_trees.specs.declared.ir.kinds.ParamEnv.{ParamEnv}
use Rattle.ir_trees.specs.declared.ir.kinds.TraitRef.{TraitRef}
use Rattle.ir_trees.specs.declared.ir.kinds.Ty.{Ty}
use Rattle.ir_trees.specs.declared.ir.kinds.Vars.{Vars}
use Rattle.ir_trees.specs.declared.ir.stop.Stop.{Stop}
use Rattle.ir_trees.specs.Declarations.Context.{Context}
use Rattle.ir_trees.specs.Declarations.References.{reference_of}
use Rattle.ir_trees.specs.Syntax.Trees.{Forest, Kind, Tree}
use Rattle.ir_trees.specs.Syntax.Words.{env_forest, vars_tree}
use Rattle.candidate_eval.specs.declared.coherence.NormalizeErr.{NormalizeErr}
use Rattle.candidate_eval.specs.Derivations.Characterization.{binder_kinds}
use Rattle.candidate_eval.specs.Derivations.Judging.{judge_knows}
use Rattle.candidate_eval.specs.Interface.Accounts as accounts
use Rattle.candidate_eval.specs.Interface.Accounts.{Account}
use Rattle.candidate_eval.specs.Interface.Evaluators as evaluators
use Rattle.candidate_eval.specs.Interface.Knowing as knowing
use Rattle.candidate_eval.specs.Judges.States.{Judge, State, fresh_variables}
use Rattle.candidate_eval.specs.Knowability.Orphan.{Checked, Knowability}

-- All that an evaluator shows: the ghost members of its trait and of those below it, in their order. `E.EvalCtxt` is this value.
abbrev pub Shown : Type 0 → Type 1
Shown E = record {
  context : E → Context;
  Rest : Type 0;
  rest : E → Rest;
  is_strict : Bool;
  Seen : Type 0;
  seen : E → Seen;
  resolved : Seen → Tree → Tree;
  Fixed : Type 0;
  fixed : E → Fixed;
  judge : Fixed → Judge;
  state : E → State;
  probes : E → List State;
  stops : Account E;
}

-- What is seen of an evaluator where it stands: what it answers by, its state and its open probes, and the context with its trees.
pub record View : Type 1 where
  pub judge : Judge
  pub state : State
  pub probes : List State
  pub context : Context
  pub trees : List Tree

-- The kinds of a binder's variables; and what stands in their place: fresh variables, or placeholders of a fresh universe.

abbrev pub kinds_under : List Tree → Vars → List Kind
kinds_under ts vars = binder_kinds (vars_tree ts vars).children

abbrev pub fresh_values : View → Vars → Forest
fresh_values V vars = fresh_variables V.state (kinds_under V.trees vars)

abbrev pub rigid_values : View → Vars → Forest
rigid_values V vars = evaluators.rigid V.state (kinds_under V.trees vars)

-- What the judge knows of the impls of a reference, in an environment, and the state that this leaves.
abbrev pub knows_here : View → ParamEnv → TraitRef → Checked State (Knowability (Unit {0}))
knows_here V env r = judge_knows V.judge (env_forest V.trees env) V.state (reference_of V.trees r)

module _ {E : Type 0} (v : Shown E) where
  abbrev pub view : E → View
  view x = record { judge = v.judge (v.fixed x); state = v.state x; probes = v.probes x; context = v.context x; trees = (v.context x).trees }

  -- what is fixed and the open probes stay, the context grows, and no fault is put off
  abbrev pub Keeps : E → E → Type 0
  Keeps = evaluators.Keeps v.fixed v.probes v.context

  -- the same where faults may be put off, related so
  abbrev pub KeepsBut : (List (List ℕ) → List (List ℕ) → Type 0) → E → E → Type 0
  KeepsBut PutsOff = evaluators.KeepsBut PutsOff v.fixed v.probes v.context

  -- the state that is left is alike the one before
  abbrev pub LeavesAlike : E → E → Type 0
  LeavesAlike old new = (v.judge (v.fixed old)).alike (v.state old) (v.state new)

  -- between the first and the last the evaluator was asked something and stopped, and accounts for it
  abbrev pub IsAccounted : E → E → Stop → Type 0
  IsAccounted = accounts.IsAccounted v.fixed v.context v.state v.stops

  -- why a call stopped: a growth was refused, the evaluator stopped, or trees such as these weren't made
  abbrev pub StopsBy : E → E → (Forest → Type 0) → Stop → Type 0
  StopsBy = accounts.StopsBy v.fixed v.context v.state v.stops

  -- the same, where it was something of the trees of a context between the first and the last that wasn't made
  abbrev pub StopsSomehow : E → E → Stop → Type 0
  StopsSomehow = accounts.StopsSomehow v.fixed v.context v.state v.stops

  -- why a check by the evaluator stopped
  abbrev pub StopsKnowing : E → E → Stop → Type 0
  StopsKnowing = knowing.StopsKnowing v.fixed v.context v.state v.stops

  -- a type was normalised as the judge says
  abbrev pub NormalizesAsJudged : E → E → ParamEnv → Ty → Result Ty (NormalizeErr (Unit {0})) → Type 0
  NormalizesAsJudged = knowing.NormalizesAsJudged v.context v.fixed v.probes v.state v.judge v.stops
