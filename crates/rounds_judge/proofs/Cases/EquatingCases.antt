-- Worked equations, by computation.
use Rattle.std.proofs.Common.{◌≡◌, ℕ, refl, true, false, List, [], ◌∷◌, ◌++◌, Option, Some, None}
use Rattle.ir_trees.specs.declared.ir.heads.Head.{Head}
use Rattle.ir_trees.specs.declared.ir.heads.Head.TheVariants as H
use Rattle.ir_trees.specs.declared.ir.heads.Builtin.TheVariants as B
use Rattle.ir_trees.specs.declared.ir.heads.PartHead.TheVariants as P
use Rattle.ir_trees.specs.declared.ir.heads.VariableSort.{VariableSort}
use Rattle.ir_trees.specs.declared.ir.heads.VariableSort.TheVariants as V
use Rattle.ir_trees.specs.declared.ir.kinds.AliasKind.TheVariants as A
use Rattle.ir_trees.specs.declared.ir.kinds.RegionKind.TheVariants as R
use Rattle.ir_trees.specs.declared.ir.kinds.UintTy.TheVariants as U
use Rattle.ir_trees.specs.declared.ir.kinds.VarKind.TheVariants as K
use Rattle.ir_trees.specs.declared.ir.kinds.Mutability.TheVariants as M
use Rattle.ir_trees.specs.Syntax.Trees.{Forest, none, tree, Tree}
use Rattle.ir_trees.specs.Unification.Substitutions.{alone}
use Rattle.ir_trees.specs.Instantiation.Folding.{leaf}
use Rattle.candidate_eval.specs.declared.eval.mode.TypingMode.TheVariants.{PostAnalysis}
use Rattle.candidate_eval.specs.declared.eval.variable.VariableKind.TheVariants.{Term}
use Rattle.candidate_eval.specs.Judges.States.{State, VariableInfo, resolved}
use Rattle.candidate_eval.specs.Interface.Evaluators.{resolved_root}
use Rattle.rounds_judge.specs.Aliases.Listed.{Listing}
use Rattle.rounds_judge.specs.Equations.Equating.{equated, outlives}

-- an alias that isn't listed is rigid
abbrev rigid : List (Tree × Tree) → Listing
rigid ps = record { pairs = ps; is_open = false }

abbrev nothing : Listing
nothing = rigid []

abbrev root : VariableSort → VariableInfo
root s = record { kind = Term s; universe = 0; value = None; is_root = true }

abbrev with_value : Tree → VariableInfo
with_value t = record { kind = Term V.General; universe = 0; value = Some t; is_root = true }

abbrev start : List VariableInfo → State
start is = record { newest_universe = 0; variables = is; regions = []; pending = []; mode = PostAnalysis }

abbrev var : ℕ → Tree
var n = leaf (H.Infer (record { sort = V.General; number = n }))

abbrev integer : ℕ → Tree
integer n = leaf (H.Infer (record { sort = V.Integer; number = n }))

abbrev u8 : Tree
u8 = leaf (H.Builtin (B.Uint U.U8))

abbrev u16 : Tree
u16 = leaf (H.Builtin (B.Uint U.U16))

abbrev over : Head → List Tree → Tree
over h ts = record { head = h; children = go ts }
  where
    go : List Tree → Forest
    go [] = none
    go (t ∷ ts) = tree t.head t.children (go ts)

abbrev pair : Tree → Tree → Tree
pair t u = over (H.Builtin B.Tuple) (t ∷ u ∷ [])

abbrev one : List VariableInfo
one = root V.General ∷ []

abbrev two : List VariableInfo
two = root V.General ∷ root V.General ∷ []

abbrev equate : Listing → State → Tree → Tree → Option State
equate l S x y = equated l S (alone x) (alone y)

-- both sides give a value
both_get_values : equate nothing (start two) (pair (var 0) u8) (pair u16 (var 1)) ≡ Some (start (with_value u16 ∷ with_value u8 ∷ []))
both_get_values = refl

-- no value holds its variable
no_cycle : equate nothing (start one) (var 0) (over (H.Builtin B.Slice) (var 0 ∷ [])) ≡ None
no_cycle = refl

-- also through a value
no_cycle_through_a_value : equate nothing (start two) (pair (var 0) (var 1)) (pair (over (H.Builtin B.Slice) (var 1 ∷ [])) (over (H.Builtin B.Slice) (var 0 ∷ []))) ≡ None
no_cycle_through_a_value = refl

-- an integer variable is no `char`
integers_alone : equate nothing (start (root V.Integer ∷ [])) (integer 0) (leaf (H.Builtin B.Char)) ≡ None
integers_alone = refl

abbrev placeholder : ℕ → Tree
placeholder u = leaf (H.Placeholder (record { universe = u; index = 0 }))

-- no placeholder of a newer universe
no_newer_universe : equate nothing (start one) (var 0) (placeholder 1) ≡ None
no_newer_universe = refl

-- a variable is itself
itself : equate nothing (start one) (var 0) (var 0) ≡ Some (start one)
itself = refl

abbrev reference : Tree → Tree → Tree
reference r t = over (H.Ref M.Not) (r ∷ t ∷ [])

abbrev static : Tree
static = leaf (H.Region R.Static)

abbrev region : ℕ → Tree
region n = leaf (H.Region (R.Placeholder (record { universe = 0; index = n })))

-- regions that differ are recorded
regions_recorded : equate nothing (start []) (reference static u8) (reference (region 0) u8) ≡ Some (record (start []) { regions = outlives static (region 0) ∷ outlives (region 0) static ∷ [] })
regions_recorded = refl

abbrev binder : Tree
binder = over (H.Part P.Vars) (leaf (H.Part (P.Var K.Region)) ∷ [])

abbrev bound_region : Tree
bound_region = leaf (H.Region (R.Bound (record { depth = 0; index = 0 })))

-- under a binder
abbrev under : Tree → Tree
under t = over (H.Builtin B.UnsafeBinder) (binder ∷ t ∷ [])

-- a value under a binder names the placeholder of a fresh universe
value_under_a_binder : equate nothing (start one) (under (reference bound_region u8)) (under (var 0))
    ≡ Some (record (start (with_value (reference (leaf (H.Region (R.Placeholder (record { universe = 1; index = 0 })))) u8) ∷ [])) { newest_universe = 1 })
value_under_a_binder = refl

-- what a binder binds is no value outside of it
abbrev type_binder : Tree
type_binder = over (H.Part P.Vars) (leaf (H.Part (P.Var K.Ty)) ∷ [])

no_bound_type : equate nothing (start one) (over (H.Builtin B.UnsafeBinder) (type_binder ∷ leaf (H.Bound (record { depth = 0; index = 0 })) ∷ [])) (over (H.Builtin B.UnsafeBinder) (type_binder ∷ var 0 ∷ [])) ≡ None
no_bound_type = refl

abbrev alias : Tree → Tree
alias t = over (H.Alias A.Projection (record { 0 = 0 })) (t ∷ [])

-- a listed alias is its type, also where a value lists it
abbrev listing : Listing
listing = rigid ((alias u8, u16) ∷ [])

listed_later : equate listing (start one) (pair (var 0) (alias (var 0))) (pair u8 u16) ≡ Some (start (with_value u8 ∷ []))
listed_later = refl

-- another alias is equal to itself alone
unlisted : equate listing (start []) (alias u16) u8 ≡ None
unlisted = refl

structural : equate listing (start one) (alias (var 0)) (alias u16) ≡ Some (start (with_value u16 ∷ []))
structural = refl

-- a value goes in the place of its variable in that variable's own sort alone
abbrev with_other_sort : List VariableInfo
with_other_sort = record { kind = Term V.Integer; universe = 0; value = Some (integer 1); is_root = true } ∷ []

other_sort : equate nothing (start (with_other_sort ++ root V.General ∷ [])) (var 1) u8 ≡ Some (start (with_other_sort ++ with_value u8 ∷ []))
other_sort = refl

-- and so when values are put in
abbrev with_u8 : State
with_u8 = start (with_value u8 ∷ [])

own_kind : resolved with_u8 (alone (var 0)) ≡ alone u8
own_kind = refl

another_sort : resolved with_u8 (alone (integer 0)) ≡ alone (integer 0)
another_sort = refl

no_region : resolved with_u8 (alone (leaf (H.Region (R.Var 0)))) ≡ alone (leaf (H.Region (R.Var 0)))
no_region = refl

root_of_another_sort : resolved_root with_u8 (integer 0) ≡ integer 0
root_of_another_sort = refl
