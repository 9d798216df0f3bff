-- What an evaluator of rounds keeps of a state, and how changes of it are undone.
use Rattle.std.specs.Prelude.{false, ◌≡◌, ◌⊎◌, ◌≤◌, ◌<◌, ◌+◌, ℕ, zero, suc, min, max, Bool, Option, Some, None, List, [], ◌∷◌, ◌++◌, take, drop, length, slice_get, if◌then◌else◌}
use Rattle.ir_trees.specs.declared.ir.kinds.Clause.{Clause}
use Rattle.ir_trees.specs.declared.ir.kinds.GenericArg.{GenericArg}
use Rattle.ir_trees.specs.declared.ir.kinds.Goal.{Goal}
use Rattle.ir_trees.specs.declared.ir.kinds.GoalSource.{GoalSource}
use Rattle.ir_trees.specs.declared.ir.kinds.VarKind.{VarKind}
use Rattle.ir_trees.specs.declared.ir.stop.Stop.{Stop}
use Rattle.ir_trees.specs.declared.ir.stop.Stop.TheVariants.{Memory, NodesFull}
use Rattle.ir_trees.specs.declared.ir.heads.Head.{Head}
use Rattle.ir_trees.specs.declared.ir.heads.Head.TheVariants as H
use Rattle.ir_trees.specs.declared.ir.kinds.RegionKind.TheVariants as R
use Rattle.candidate_eval.specs.declared.eval.variable.VariableKind.{VariableKind}
use Rattle.candidate_eval.specs.declared.eval.variable.VariableKind.TheVariants.{Term, Region}
use Rattle.ir_trees.specs.Declarations.Context.{parameter_kind}
use Rattle.candidate_eval.specs.Judges.States.{variable_kind, same_kind}
use Rattle.candidate_rounds.specs.declared.rounds.inference.Entry.{Entry}
use Rattle.candidate_rounds.specs.declared.rounds.inference.Change.{Change}
use Rattle.candidate_rounds.specs.declared.rounds.inference.Change.TheVariants as C

pub record Inference : Type 0 where
  pub newest_universe : ℕ
  pub variables : List Entry
  pub regions : List Clause
  pub goals : List (GoalSource × Goal Clause)
  pub first_pending : ℕ
  -- values in which a variable stands are of variables from the one number on, up to below the other
  pub first_open : ℕ
  pub end_open : ℕ
  -- the changes, the newest last
  pub trail : List Change

-- all but the last
abbrev pub shorter : {A : Type 0} → List A → List A
shorter [] = []
shorter (x ∷ []) = []
shorter (x ∷ y ∷ ys) = x ∷ shorter (y ∷ ys)

-- the variable of that number is another; nothing, where there is none
abbrev pub with_entry : List Entry → ℕ → (Entry → Entry) → List Entry
with_entry [] n f = []
with_entry (e ∷ es) zero f = f e ∷ es
with_entry (e ∷ es) (suc n) f = e ∷ with_entry es n f

abbrev pub with_value : Option GenericArg → Entry → Entry
with_value v e = record e { value = v }

abbrev pub with_universe : ℕ → Entry → Entry
with_universe u e = record e { universe = u }

-- Changes; each is noted.

abbrev pub noted : Inference → Change → Inference
noted s c = record s { trail = s.trail ++ c ∷ [] }

abbrev pub universe_for : Inference → Bool → ℕ
universe_for s is_root = if is_root then 0 else s.newest_universe

abbrev pub with_variable : Inference → VariableKind → Bool → Inference
with_variable s k is_root =
    noted (record s { variables = s.variables ++ record { kind = k; universe = universe_for s is_root; value = None; is_root = is_root } ∷ [] }) C.Variable

-- variables in the place of parameters of these kinds
abbrev pub with_variables : Inference → List VarKind → Inference
with_variables s [] = s
with_variables s (k ∷ ks) = with_variables (with_variable s (variable_kind (parameter_kind k)) false) ks

abbrev pub value_of : Option Entry → Option GenericArg
value_of None = None
value_of (Some e) = e.value

-- the variable is there, and of that kind
abbrev pub is_of_kind : VariableKind → Option Entry → Bool
is_of_kind k None = false
is_of_kind k (Some e) = same_kind e.kind k

-- the value that is kept of the variable of that number, if it is of that kind
abbrev pub kept_value : Inference → VariableKind → ℕ → Option GenericArg
kept_value s k n = if is_of_kind k (slice_get s.variables n) then value_of (slice_get s.variables n) else None

-- A variable's value stands for its head.
abbrev pub kept_at : Inference → Head → Option GenericArg
kept_at s (H.Infer v) = kept_value s (Term v.sort) v.number
kept_at s (H.Region (R.Var n)) = kept_value s Region n
kept_at s _ = None

abbrev pub assign : Inference → ℕ → GenericArg → Inference
assign s n v = noted (record s { variables = with_entry s.variables n (with_value (Some v)) }) (C.Value n (value_of (slice_get s.variables n)))

abbrev pub universe_of : Option Entry → ℕ
universe_of None = 0
universe_of (Some e) = e.universe

abbrev pub lower : Inference → ℕ → ℕ → Inference
lower s n u = noted (record s { variables = with_entry s.variables n (with_universe u) }) (C.Universe n (universe_of (slice_get s.variables n)))

-- a newest universe that is no older
abbrev pub with_newest : Inference → ℕ → Inference
with_newest s u = noted (record s { newest_universe = u }) (C.NewestUniverse s.newest_universe)

abbrev pub enter : Inference → Inference
enter s = with_newest s (suc s.newest_universe)

abbrev pub record_region : Inference → Clause → Inference
record_region s c = noted (record s { regions = s.regions ++ c ∷ [] }) C.Region

abbrev pub add : Inference → GoalSource → Goal Clause → Inference
add s from g = noted (record s { goals = s.goals ++ (from, g) ∷ [] }) C.Goal

abbrev pub add_all : Inference → GoalSource → List (Goal Clause) → Inference
add_all s from [] = s
add_all s from (g ∷ gs) = add_all (add s from g) from gs

-- the variable of that number may have a value in which a variable stands
abbrev pub widen : Inference → ℕ → Inference
widen s n = noted (record s { first_open = min s.first_open n; end_open = max s.end_open (suc n) }) (C.Open s.first_open s.end_open)

-- the goals from there on are pending
abbrev pub begin_pending : Inference → ℕ → Inference
begin_pending s n = noted (record s { first_pending = n }) (C.Pending s.first_pending)

-- What was before a change.
abbrev pub before : Change → Inference → Inference
before C.Variable s = record s { variables = shorter s.variables }
before (C.Value n v) s = record s { variables = with_entry s.variables n (with_value v) }
before (C.Universe n u) s = record s { variables = with_entry s.variables n (with_universe u) }
before (C.NewestUniverse u) s = record s { newest_universe = u }
before C.Region s = record s { regions = shorter s.regions }
before C.Goal s = record s { goals = shorter s.goals }
before (C.Pending n) s = record s { first_pending = n }
before (C.Open n m) s = record s { first_open = n; end_open = m }

-- What was before these changes, of which the newest is undone first.
abbrev pub undone : List Change → Inference → Inference
undone [] s = s
undone (c ∷ cs) s = before c (undone cs s)

-- What was when there were so many changes.
abbrev pub back_to : ℕ → Inference → Inference
back_to n s = record (undone (drop n s.trail) s) { trail = take n s.trail }

-- Why nothing was added to so many: a growth was refused, or no more can be told apart.
abbrev pub IsFullAt : ℕ → Stop → Type 0
IsFullAt n s = (s ≡ Memory) ⊎ ((s ≡ NodesFull) × (4294967295 ≤ n))

-- the same where so many more are to be added
abbrev pub IsOutOfRoom : ℕ → ℕ → Stop → Type 0
IsOutOfRoom n more s = (s ≡ Memory) ⊎ ((s ≡ NodesFull) × (4294967295 < n + more))

-- What is known is more than it was, or the same: all that changed is noted, so that what was before any change that was noted
-- then is what it was.
abbrev pub IsFurther : Inference → Inference → Type 0
IsFurther s t = (length s.trail ≤ length t.trail) × ((n : ℕ) → n ≤ length s.trail → back_to n t ≡ back_to n s)
