-- The state that an evaluator shows, and its judge: what it answers there.
use Rattle.std.specs.Prelude.{ℕ, suc, Bool, true, false, Option, Some, None, List, [], ◌∷◌, ◌++◌, length, slice_get, unwrap_or, if◌then◌else◌}
use Rattle.ir_trees.specs.declared.ir.heads.Head.{Head}
use Rattle.ir_trees.specs.declared.ir.heads.Head.TheVariants as H
use Rattle.ir_trees.specs.declared.ir.heads.ConstHead.TheVariants as C
use Rattle.ir_trees.specs.declared.ir.heads.VariableSort.TheVariants as V
use Rattle.ir_trees.specs.declared.ir.kinds.RegionKind.TheVariants as R
use Rattle.ir_trees.specs.declared.ir.kinds.GoalSource.{GoalSource}
use Rattle.ir_trees.specs.Syntax.Trees.{Kind, ConstantKind, RegionKind, Forest, none, tree, Tree}
use Rattle.ir_trees.specs.Instantiation.Folding.{fold, fold_tree, leaf}
use Rattle.ir_trees.specs.Unification.Substitutions.{same_sort}
use Rattle.ir_trees.specs.Declarations.Worlds.{World}
use Rattle.candidate_eval.specs.declared.eval.mode.TypingMode.{TypingMode}
use Rattle.candidate_eval.specs.declared.eval.variable.VariableKind.{VariableKind}
use Rattle.candidate_eval.specs.declared.eval.variable.VariableKind.TheVariants.{Term, Region}
use Rattle.candidate_eval.specs.Outcomes.Certainties.{Certainty}
pub use Rattle.ir_trees.specs.declared.decl.limits.Limits.{Limits}
use Rattle.candidate_eval.specs.Outcomes.Responses.{Response}

-- The clauses that are taken as given, in their order.
abbrev pub Env : Type 0
Env = Forest

-- A clause that is to be proved.
pub record Goal : Type 0 where
  pub env : Env
  pub clause : Tree

pub record Pending : Type 0 where
  pub source : GoalSource
  pub goal : Goal

-- A variable: what it stands for, the newest universe whose placeholders its value may name, its value, if it has one, and
-- whether the goal came with it.
pub record VariableInfo : Type 0 where
  pub kind : VariableKind
  pub universe : ℕ
  pub value : Option Tree
  pub is_root : Bool

-- Universes are numbered from 0, the root. Variables of all kinds are numbered in one row. Values hold no variable that has a
-- value. Region constraints stand in the order in which they were found, and goals that are still to be proved in the order
-- in which they were added.
pub record State : Type 0 where
  pub newest_universe : ℕ
  pub variables : List VariableInfo
  pub regions : List Tree
  pub pending : List Pending
  pub mode : TypingMode

abbrev pub with_pending : State → List Pending → State
with_pending S ps = record S { pending = ps }

-- A goal that is added is the last of those pending.
abbrev pub added : State → Pending → State
added S p = with_pending S (S.pending ++ p ∷ [])

-- A fresh variable is of the newest universe.

abbrev pub variable : VariableKind → ℕ → Tree
variable (Term s) n = leaf (H.Infer (record { sort = s; number = n }))
variable Region n = leaf (H.Region (R.Var n))

abbrev pub fresh_info : State → VariableKind → VariableInfo
fresh_info S k = record { kind = k; universe = S.newest_universe; value = None; is_root = false }

abbrev pub with_fresh : State → VariableKind → State
with_fresh S k = record S { variables = S.variables ++ fresh_info S k ∷ [] }

-- what stands for a parameter of the kind
abbrev pub variable_kind : Kind → VariableKind
variable_kind ConstantKind = Term V.Constant
variable_kind RegionKind = Region
variable_kind _ = Term V.General

abbrev pub fresh_variables : State → List Kind → Forest
fresh_variables S [] = none
fresh_variables S (k ∷ ks) =
    let t = variable (variable_kind k) (length S.variables) in
    tree t.head t.children (fresh_variables (with_fresh S (variable_kind k)) ks)

abbrev pub with_fresh_variables : State → List Kind → State
with_fresh_variables S [] = S
with_fresh_variables S (k ∷ ks) = with_fresh_variables (with_fresh S (variable_kind k)) ks

-- Placeholders of a universe stand for the variables of a binder, by their numbers.

abbrev pub placeholder : Kind → ℕ → ℕ → Head
placeholder ConstantKind u n = H.Const (C.Placeholder (record { universe = u; index = n }))
placeholder RegionKind u n = H.Region (R.Placeholder (record { universe = u; index = n }))
placeholder _ u n = H.Placeholder (record { universe = u; index = n })

abbrev pub placeholders : ℕ → ℕ → List Kind → Forest
placeholders u n [] = none
placeholders u n (k ∷ ks) = tree (placeholder k u n) none (placeholders u (suc n) ks)

abbrev pub with_universe : State → State
with_universe S = record S { newest_universe = suc S.newest_universe }

-- What stands for heads, if anything does; trees with it put in.

abbrev pub Values : Type 0
Values = Head → Option Tree

abbrev pub valued : Values → Forest → Forest
valued v ts = fold (λ _ t. v t.head) 0 ts

abbrev pub valued_tree : Values → Tree → Tree
valued_tree v t = fold_tree (λ _ u. v u.head) 0 t

-- Kinds of variables, compared.

abbrev pub same_kind : VariableKind → VariableKind → Bool
same_kind (Term s) (Term t) = same_sort s t
same_kind Region Region = true
same_kind _ _ = false

-- the variable is there, and of that kind
abbrev pub has_kind : VariableKind → Option VariableInfo → Bool
has_kind k None = false
has_kind k (Some i) = same_kind i.kind k

-- The values of a state, put in.

abbrev pub value_in : Option VariableInfo → Option Tree
value_in None = None
value_in (Some i) = i.value

abbrev pub value_of : State → ℕ → Option Tree
value_of S n = value_in (slice_get S.variables n)

-- the value of the variable of that number, if it is of that kind
abbrev pub value_as : State → VariableKind → ℕ → Option Tree
value_as S k n = if has_kind k (slice_get S.variables n) then value_of S n else None

-- A value stands for its variable in the variable's own kind alone.
abbrev pub value_at : State → Head → Option Tree
value_at S (H.Infer v) = value_as S (Term v.sort) v.number
value_at S (H.Region (R.Var n)) = value_as S Region n
value_at S _ = None

abbrev pub resolved : State → Forest → Forest
resolved S ts = valued (value_at S) ts

abbrev pub resolved_tree : State → Tree → Tree
resolved_tree S t = valued_tree (value_at S) t

-- The tree, with the value in the place of a variable of types or constants that is its root.

abbrev pub root_value : State → Head → Option Tree
root_value S (H.Infer v) = value_at S (H.Infer v)
root_value S _ = None

abbrev pub resolved_root : State → Tree → Tree
resolved_root S t = unwrap_or (root_value S t.head) t

-- What stays fixed of an evaluator: what is declared, its limits, and what it answers at a state; `None` is a refusal.
pub record Judge : Type 1 where
  pub world : World
  pub local_crate : ℕ
  pub limits : Limits
  -- the second is what closing a probe that was begun at the first may leave
  pub alike : State → State → Type 0
  -- two states, each with trees, that are alike but for the numbers of the variables from that one on
  pub alike_in : ℕ → State → Forest → State → Forest → Type 0
  -- the goals that it vouches for
  pub granted : State → Goal → Type 0
  -- two rows of trees made equal: the goals that this leaves, and the state
  pub equated : State → Env → Forest → Forest → Option (List Pending × State)
  -- a type or constant in normal form
  pub normalized : State → Env → Tree → Option (Tree × State)
  -- what is pending, evaluated
  pub settled : State → Option (Certainty × State)
  -- the response with at most that certainty
  pub responded : State → Certainty → Option Response
  -- the opaque types that may be hidden behind a variable
  pub opaques : State → Tree → List Tree

abbrev pub is_some : {A : Type 0} → Option A → Bool
is_some None = false
is_some (Some a) = true

abbrev pub next : {A B : Type 0} → Option A → (A → Option B) → Option B
next None f = None
next (Some a) f = f a
