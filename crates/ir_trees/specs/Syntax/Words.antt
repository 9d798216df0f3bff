-- the words of the context's contracts
use Rattle.std.specs.Prelude.{◌≡◌, ℕ, ◌⊎◌, ◌+◌, ◌<◌, ◌≤◌, Bool, true, false, List, length, map, All, count_by}
use Rattle.ir_trees.specs.declared.ir.kinds.Ty.{Ty}
use Rattle.ir_trees.specs.declared.ir.kinds.Const.{Const}
use Rattle.ir_trees.specs.declared.ir.kinds.Region.{Region}
use Rattle.ir_trees.specs.declared.ir.kinds.Args.{Args}
use Rattle.ir_trees.specs.declared.ir.kinds.Preds.{Preds}
use Rattle.ir_trees.specs.declared.ir.kinds.Pred.{Pred}
use Rattle.ir_trees.specs.declared.ir.kinds.Vars.{Vars}
use Rattle.ir_trees.specs.declared.ir.kinds.Var.{Var}
use Rattle.ir_trees.specs.declared.ir.kinds.Sig.{Sig}
use Rattle.ir_trees.specs.declared.ir.kinds.Clause.{Clause}
use Rattle.ir_trees.specs.declared.ir.kinds.ParamEnv.{ParamEnv}
use Rattle.ir_trees.specs.declared.ir.kinds.ClosureSig.{ClosureSig}
use Rattle.ir_trees.specs.declared.ir.kinds.ClauseKind.{ClauseKind}
use Rattle.ir_trees.specs.declared.ir.kinds.VarKind.{VarKind}
use Rattle.ir_trees.specs.declared.ir.kinds.Binder.{Binder}
use Rattle.ir_trees.specs.declared.ir.kinds.ExistentialPredicate.{ExistentialPredicate}
use Rattle.ir_trees.specs.declared.ir.kinds.ExistentialPredicate.TheVariants as E
use Rattle.ir_trees.specs.declared.ir.kinds.GenericArg.{GenericArg}
use Rattle.ir_trees.specs.declared.ir.kinds.TyKind.{TyKind}
use Rattle.ir_trees.specs.declared.ir.kinds.ConstKind.{ConstKind}
use Rattle.ir_trees.specs.declared.ir.kinds.RegionKind.{RegionKind}
use Rattle.ir_trees.specs.declared.ir.heads.Head.TheVariants as H
use Rattle.ir_trees.specs.declared.ir.heads.PartHead.TheVariants as P
use Rattle.ir_trees.specs.declared.ir.node.Node.TheVariants as N
use Rattle.ir_trees.specs.declared.ir.stop.Stop.{Stop}
use Rattle.ir_trees.specs.declared.ir.stop.Stop.TheVariants.{Memory, NodesFull}
use Rattle.ir_trees.specs.Syntax.Trees.{TypeKind, ConstantKind, RegionKind as OfRegion, PredicateKind, ClauseKind as OfClause, SignatureKind, BinderKind, VariableKind, ArgumentsKind, PredicatesKind, ClausesKind, Forest, none, Tree}
use Rattle.ir_trees.specs.Syntax.Kinds.{numbers, sorts, arg_child}
use Rattle.ir_trees.specs.Syntax.Nodes.{tree_at, kind_at, trees_at, kinds_at, rows, node_tree, Fits, pred_child, clause_child, var_child}

-- the numbers of a context
abbrev pub IsTy : List Tree → Ty → Type 0
IsTy ts t = kind_at ts t.0 ≡ TypeKind

abbrev pub IsConst : List Tree → Const → Type 0
IsConst ts c = kind_at ts c.0 ≡ ConstantKind

abbrev pub IsRegion : List Tree → Region → Type 0
IsRegion ts r = kind_at ts r.0 ≡ OfRegion

abbrev pub IsArgs : List Tree → Args → Type 0
IsArgs ts a = kind_at ts a.0 ≡ ArgumentsKind

abbrev pub IsPreds : List Tree → Preds → Type 0
IsPreds ts p = kind_at ts p.0 ≡ PredicatesKind

abbrev pub IsPred : List Tree → Pred → Type 0
IsPred ts p = kind_at ts p.0 ≡ PredicateKind

abbrev pub IsSig : List Tree → Sig → Type 0
IsSig ts s = kind_at ts s.0 ≡ SignatureKind

abbrev pub IsClause : List Tree → Clause → Type 0
IsClause ts c = kind_at ts c.0 ≡ OfClause

abbrev pub IsParamEnv : List Tree → ParamEnv → Type 0
IsParamEnv ts e = kind_at ts e.0 ≡ ClausesKind

abbrev pub IsVars : List Tree → Vars → Type 0
IsVars ts v = kind_at ts v.0 ≡ BinderKind

abbrev pub IsVar : List Tree → Var → Type 0
IsVar ts v = kind_at ts v.0 ≡ VariableKind

-- and their trees
abbrev pub ty_tree : List Tree → Ty → Tree
ty_tree ts t = tree_at ts t.0

abbrev pub const_tree : List Tree → Const → Tree
const_tree ts c = tree_at ts c.0

abbrev pub region_tree : List Tree → Region → Tree
region_tree ts r = tree_at ts r.0

abbrev pub pred_tree : List Tree → Pred → Tree
pred_tree ts p = tree_at ts p.0

abbrev pub sig_tree : List Tree → Sig → Tree
sig_tree ts s = tree_at ts s.0

abbrev pub clause_tree : List Tree → Clause → Tree
clause_tree ts c = tree_at ts c.0

abbrev pub vars_tree : List Tree → Vars → Tree
vars_tree ts v = tree_at ts v.0

abbrev pub var_tree : List Tree → Var → Tree
var_tree ts v = tree_at ts v.0

-- a list is its members in a row
abbrev pub args_forest : List Tree → Args → Forest
args_forest ts a = (tree_at ts a.0).children

abbrev pub preds_forest : List Tree → Preds → Forest
preds_forest ts p = (tree_at ts p.0).children

abbrev pub env_forest : List Tree → ParamEnv → Forest
env_forest ts e = (tree_at ts e.0).children

-- the numbers in a kind, or in a list, are of the context
abbrev pub KindFits : List Tree → TyKind → Type 0
KindFits ts k = Fits ts (N.Ty k)

abbrev pub ConstKindFits : List Tree → ConstKind → Type 0
ConstKindFits ts k = Fits ts (N.Const k)

abbrev pub PredFits : List Tree → Binder ExistentialPredicate → Type 0
PredFits ts b = Fits ts (N.Pred b)

abbrev pub SigFits : List Tree → Binder ClosureSig → Type 0
SigFits ts b = Fits ts (N.Sig b)

abbrev pub ClauseFits : List Tree → Binder ClauseKind → Type 0
ClauseFits ts b = Fits ts (N.Clause b)

abbrev pub ListFits : List Tree → List GenericArg → Type 0
ListFits ts xs = kinds_at ts (numbers (map arg_child xs)) ≡ sorts (map arg_child xs)

abbrev pub PredListFits : List Tree → List Pred → Type 0
PredListFits ts xs = kinds_at ts (numbers (map pred_child xs)) ≡ sorts (map pred_child xs)

abbrev pub ClauseListFits : List Tree → List Clause → Type 0
ClauseListFits ts xs = kinds_at ts (numbers (map clause_child xs)) ≡ sorts (map clause_child xs)

abbrev pub VarListFits : List Tree → List Var → Type 0
VarListFits ts xs = kinds_at ts (numbers (map var_child xs)) ≡ sorts (map var_child xs)

abbrev pub BoundsFit : List Tree → List (Binder ExistentialPredicate) → Type 0
BoundsFit ts bs = All (PredFits ts) bs

abbrev pub names_trait : ExistentialPredicate → Bool
names_trait (E.Trait _) = true
names_trait _ = false

-- One bound at most is by a trait that isn't an auto trait: the principal.
abbrev pub AtMostOnePrincipal : List (Binder ExistentialPredicate) → Type 0
AtMostOnePrincipal bs = count_by (λ b. names_trait b.value) bs ≤ 1

-- and their trees
abbrev pub kind_tree : List Tree → TyKind → Tree
kind_tree ts k = node_tree ts (N.Ty k)

abbrev pub const_kind_tree : List Tree → ConstKind → Tree
const_kind_tree ts k = node_tree ts (N.Const k)

abbrev pub region_kind_tree : RegionKind → Tree
region_kind_tree k = record { head = H.Region k; children = none }

abbrev pub pred_kind_tree : List Tree → Binder ExistentialPredicate → Tree
pred_kind_tree ts b = node_tree ts (N.Pred b)

abbrev pub sig_kind_tree : List Tree → Binder ClosureSig → Tree
sig_kind_tree ts b = node_tree ts (N.Sig b)

abbrev pub clause_kind_tree : List Tree → Binder ClauseKind → Tree
clause_kind_tree ts b = node_tree ts (N.Clause b)

abbrev pub var_kind_tree : VarKind → Tree
var_kind_tree k = record { head = H.Part (P.Var k); children = none }

abbrev pub list_forest : List Tree → List GenericArg → Forest
list_forest ts xs = rows (trees_at ts (numbers (map arg_child xs)))

abbrev pub pred_list_forest : List Tree → List Pred → Forest
pred_list_forest ts xs = rows (trees_at ts (numbers (map pred_child xs)))

abbrev pub clause_list_forest : List Tree → List Clause → Forest
clause_list_forest ts xs = rows (trees_at ts (numbers (map clause_child xs)))

abbrev pub vars_kind_tree : List Tree → List Var → Tree
vars_kind_tree ts xs = record { head = H.Part P.Vars; children = rows (trees_at ts (numbers (map var_child xs))) }

-- the bounds in a row
abbrev pub bounds_forest : List Tree → List (Binder ExistentialPredicate) → Forest
bounds_forest ts bs = rows (map (pred_kind_tree ts) bs)

-- a binder over a leaf for each of its variables
abbrev pub binder_tree : List VarKind → Tree
binder_tree ks = record { head = H.Part P.Vars; children = rows (map var_kind_tree ks) }

-- why a tree of the height was not added: memory, no number is left, or it is too high
abbrev pub IsMkStop : List Tree → ℕ → Stop → Type 0
IsMkStop ts high s = (s ≡ Memory) ⊎ ((s ≡ NodesFull) × ((length ts ≡ 4294967295) ⊎ (1024 < high)))

-- why a tree of the height was not added with so many nodes: memory, fewer numbers are left, or it is too high
abbrev pub IsMkListStop : List Tree → ℕ → ℕ → Stop → Type 0
IsMkListStop ts nodes high s = (s ≡ Memory) ⊎ ((s ≡ NodesFull) × ((4294967295 < length ts + nodes) ⊎ (1024 < high)))
