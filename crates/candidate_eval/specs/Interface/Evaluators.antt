-- What contracts say of an evaluator and of its calls.
use Rattle.std.specs.Prelude.{◌≡◌, ℕ, suc, false, Option, Some, List, [], ◌∷◌, ◌++◌, map, Result, OnOk, OnErr}
use Rattle.ir_trees.specs.declared.ir.kinds.AliasKind.TheVariants as AK
use Rattle.ir_trees.specs.declared.ir.kinds.AliasTy.{AliasTy}
use Rattle.ir_trees.specs.declared.ir.kinds.Args.{Args}
use Rattle.ir_trees.specs.declared.ir.kinds.Clause.{Clause}
use Rattle.ir_trees.specs.declared.ir.kinds.Const.{Const}
use Rattle.ir_trees.specs.declared.ir.kinds.GenericArg.{GenericArg}
use Rattle.ir_trees.specs.declared.ir.kinds.Goal.{Goal as OfNumbers}
use Rattle.ir_trees.specs.declared.ir.kinds.GoalSource.{GoalSource}
use Rattle.ir_trees.specs.declared.ir.kinds.ParamEnv.{ParamEnv}
use Rattle.ir_trees.specs.declared.ir.kinds.Ty.{Ty}
use Rattle.ir_trees.specs.declared.ir.kinds.TyKind.TheVariants as K
use Rattle.ir_trees.specs.declared.ir.kinds.VarKind.{VarKind}
use Rattle.ir_trees.specs.Instantiation.Folds.{arg_tree}
use Rattle.ir_trees.specs.Instantiation.Owned.{AliasArgumentsFit}
use Rattle.ir_trees.specs.Unification.Substitutions.{alone}
use Rattle.ir_trees.specs.Syntax.Trees.{Kind, Forest, Tree, holds, is_param}
use Rattle.ir_trees.specs.Declarations.Context.{Context, Grows, parameter_kind}
use Rattle.ir_trees.specs.Syntax.Words.{IsArgs, IsParamEnv, IsClause, IsTy, args_forest, env_forest, clause_tree, const_tree, kind_tree, ty_tree}
use Rattle.ir_trees.specs.declared.ir.stop.Stop.{Stop}
use Rattle.ir_trees.specs.declared.ir.stop.Stop.TheVariants as S
use Rattle.candidate_eval.specs.declared.eval.context.ProbeKind.{ProbeKind}
use Rattle.candidate_eval.specs.declared.eval.context.ProbeKind.TheVariants as P
use Rattle.candidate_eval.specs.Derivations.Mentions.{IsBelow}
use Rattle.candidate_eval.specs.Judges.States.{Env, State, Goal, Pending, Judge, with_pending, with_universe, placeholders, next}
pub use Rattle.candidate_eval.specs.Judges.States.{root_value, resolved_root}

-- No fault is put off: those that were are all.
abbrev pub NoFault : Context → Context → Type 0
NoFault old new = new.delayed_bugs ≡ old.delayed_bugs

-- A call keeps what is fixed and the open probes, and numbers have their trees still; the texts of the faults that were put off, and of
-- those that are then, are related so.
pub record KeepsBut {E F : Type 0} (PutsOff : List (List ℕ) → List (List ℕ) → Type 0) (fixed : E → F) (probes : E → List State) (context : E → Context) (old new : E) : Type 0 where
  pub fixed_same : fixed new ≡ fixed old
  pub probes_same : probes new ≡ probes old
  pub grows : Grows (context old) (context new)
  pub faults : PutsOff (context old).delayed_bugs (context new).delayed_bugs

-- No fault is put off: of the evaluator only its state changes.
abbrev pub Keeps : {E F : Type 0} → (E → F) → (E → List State) → (E → Context) → E → E → Type 0
Keeps = KeepsBut (λ old new. new ≡ old)

-- A call that answers puts off these; one that doesn't puts off none.
abbrev pub PutsOffIfOk : {A S : Type 0} → List (List ℕ) → Result A S → List (List ℕ) → List (List ℕ) → Type 0
PutsOffIfOk texts result old new = OnOk result (new ≡ old ++ texts) × OnErr result (new ≡ old)

-- The trees of a goal's numbers.

abbrev pub IsGoal : List Tree → OfNumbers Clause → Type 0
IsGoal ts g = IsParamEnv ts g.param_env × IsClause ts g.predicate

abbrev pub goal_of : List Tree → OfNumbers Clause → Goal
goal_of ts g = record { env = env_forest ts g.param_env; clause = clause_tree ts g.predicate }

abbrev pub pending_of : List Tree → GoalSource → OfNumbers Clause → Pending
pending_of ts s g = record { source = s; goal = goal_of ts g }

-- goals of a source become pending, in order
abbrev pub with_goals_of : List Tree → State → GoalSource → List (OfNumbers Clause) → State
with_goals_of ts S s gs = with_pending S (S.pending ++ map (pending_of ts s) gs)

-- goals, each with its source
abbrev pub pendings_of : List Tree → List (GoalSource × OfNumbers Clause) → List Pending
pendings_of ts gs = map (λ g. pending_of ts g.0 g.1) gs

-- The state after an accepted equation: the goals that it leaves are pending.

abbrev pub with_left : List Pending × State → State
with_left q = with_pending q.1 (q.1.pending ++ q.0)

abbrev pub accepted : Judge → State → Env → Forest → Forest → Option State
accepted J S e a b = next (J.equated S e a b) (λ q. Some (with_left q))

-- the state at which a probe begins
abbrev pub begun : ProbeKind → State → State
begun P.Kept S = S
begun P.SetAside S = with_pending S []

-- What a judge answers of a context's numbers, in an environment: the normal form of a type, or of a constant; and what equating two
-- arguments leaves.

abbrev pub normal_ty : Judge → State → List Tree → ParamEnv → Ty → Option (Tree × State)
normal_ty J S ts env t = J.normalized S (env_forest ts env) (ty_tree ts t)

abbrev pub normal_const : Judge → State → List Tree → ParamEnv → Const → Option (Tree × State)
normal_const J S ts env c = J.normalized S (env_forest ts env) (const_tree ts c)

abbrev pub arguments_equated : Judge → State → List Tree → ParamEnv → GenericArg → GenericArg → Option (List Pending × State)
arguments_equated J S ts env a b = J.equated S (env_forest ts env) (alone (arg_tree ts a)) (alone (arg_tree ts b))

-- the state then, where those goals become pending
abbrev pub arguments_accepted : Judge → State → List Tree → ParamEnv → GenericArg → GenericArg → Option State
arguments_accepted J S ts env a b = accepted J S (env_forest ts env) (alone (arg_tree ts a)) (alone (arg_tree ts b))

-- A list is of the context, and has these trees; a type, and has this tree.

abbrev pub HasTrees : List Tree → Args → Forest → Type 0
HasTrees ts xs f = IsArgs ts xs × (args_forest ts xs ≡ f)

abbrev pub HasTree : List Tree → Ty → Tree → Type 0
HasTree ts x t = IsTy ts x × (ty_tree ts x ≡ t)

abbrev pub kinds_listed : List VarKind → List Kind
kinds_listed ks = map parameter_kind ks

-- Placeholders of a fresh universe for variables of these kinds; none, and no universe, where there are no variables.

abbrev pub rigid : State → List Kind → Forest
rigid S ks = placeholders (suc S.newest_universe) 0 ks

abbrev pub with_rigid : State → List Kind → State
with_rigid S [] = S
with_rigid S (k ∷ ks) = with_universe S

-- the trees of alias types
abbrev pub alias_trees : List Tree → List AliasTy → List Tree
alias_trees ts xs = map (λ a. kind_tree ts (K.Alias a)) xs

-- An opaque type that may be hidden behind a variable: it has the arguments that it takes, and in them stand no parameter and no other
-- variables than the first n.
pub record IsHiddenOpaque (c : Context) (n : ℕ) (a : AliasTy) : Type 0 where
  pub is_opaque : a.kind ≡ AK.Opaque
  pub args : IsArgs c.trees a.args
  pub fit : AliasArgumentsFit c a
  pub no_parameter : holds is_param (args_forest c.trees a.args) ≡ false
  pub below : IsBelow n (args_forest c.trees a.args)

-- The stops of what makes nodes and lists: a growth was refused, or numbers or heights ran out.
abbrev pub IsMakingStop : Stop → Type 0
IsMakingStop S.Memory = Unit {0}
IsMakingStop S.NodesFull = Unit {0}
IsMakingStop _ = ⊥

-- The stops of an evaluator: these, or its own limit was reached. The others come of walks that no evaluator takes.

abbrev pub IsEvaluatorStop : Stop → Type 0
IsEvaluatorStop S.Memory = Unit {0}
IsEvaluatorStop S.NodesFull = Unit {0}
IsEvaluatorStop S.EvaluatorLimit = Unit {0}
IsEvaluatorStop _ = ⊥
