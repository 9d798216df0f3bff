-- Finite trees: a head, and children in order.
use Rattle.std.specs.Prelude.{Bool, true, false, ◌||◌, ◌==◌, ℕ, zero, suc, ◌+◌, max, Option, Some, None}
use Rattle.ir_trees.specs.declared.ir.kinds.RegionKind.TheVariants as R
use Rattle.ir_trees.specs.declared.ir.heads.Head.{Head}
use Rattle.ir_trees.specs.declared.ir.heads.Head.TheVariants as H
use Rattle.ir_trees.specs.declared.ir.heads.Builtin.TheVariants as B
use Rattle.ir_trees.specs.declared.ir.heads.ConstHead.TheVariants as C
use Rattle.ir_trees.specs.declared.ir.heads.PartHead.TheVariants as P
use Rattle.ir_trees.specs.declared.ir.heads.ListHead.{ListHead}
use Rattle.ir_trees.specs.declared.ir.heads.ListHead.TheVariants as L
use Rattle.ir_trees.specs.declared.ir.heads.PartHead.{PartHead}
use Rattle.ir_trees.specs.declared.ir.heads.VariableSort.{VariableSort}
use Rattle.ir_trees.specs.declared.ir.heads.VariableSort.TheVariants as V

-- What a tree can stand for; `NoKind` is of no tree.
pub data Kind : Type 0 where
  TypeKind : Kind
  ConstantKind : Kind
  RegionKind : Kind
  PredicateKind : Kind
  ClauseKind : Kind
  SignatureKind : Kind
  BinderKind : Kind
  VariableKind : Kind
  ArgumentsKind : Kind
  PredicatesKind : Kind
  ClausesKind : Kind
  NoKind : Kind

-- Trees in a row: none, or one with its head and its children, and then the others.
pub data Forest : Type 0 where
  none : Forest
  tree : Head → Forest → Forest → Forest

-- One tree: its head, and the trees below it in a row.
pub record Tree : Type 0 where
  pub head : Head
  pub children : Forest

abbrev pub sort_kind : VariableSort → Kind
sort_kind V.Constant = ConstantKind
sort_kind _ = TypeKind

abbrev pub part_kind : PartHead → Kind
part_kind (P.Pred _) = PredicateKind
part_kind (P.Clause _) = ClauseKind
part_kind P.Sig = SignatureKind
part_kind P.Vars = BinderKind
part_kind (P.Var _) = VariableKind

abbrev pub list_kind : ListHead → Kind
list_kind L.Args = ArgumentsKind
list_kind L.Preds = PredicatesKind
list_kind L.Clauses = ClausesKind

-- what a tree with the head stands for
abbrev pub kind_of : Head → Kind
kind_of (H.Infer v) = sort_kind v.sort
kind_of (H.Const _) = ConstantKind
kind_of (H.Region _) = RegionKind
kind_of (H.Part p) = part_kind p
kind_of (H.List l) = list_kind l
kind_of _ = TypeKind

abbrev pub is_type_kind : Kind → Bool
is_type_kind TypeKind = true
is_type_kind _ = false

abbrev pub is_type : Head → Bool
is_type h = is_type_kind (kind_of h)

-- one row, and then another
abbrev pub join : Forest → Forest → Forest
join none bs = bs
join (tree h below rest) bs = tree h below (join rest bs)

abbrev pub count : Forest → ℕ
count none = 0
count (tree h below rest) = 1 + count rest

-- the trees from number n on
abbrev pub skip : ℕ → Forest → Forest
skip zero ts = ts
skip (suc n) none = none
skip (suc n) (tree h below rest) = skip n rest

-- something stands there
abbrev pub there : Kind → Bool
there NoKind = false
there _ = true

-- What a node is among the children of another: a list is its members, all else is one tree.
abbrev pub is_list_kind : Kind → Bool
is_list_kind ArgumentsKind = true
is_list_kind PredicatesKind = true
is_list_kind ClausesKind = true
is_list_kind _ = false

abbrev pub is_list : Head → Bool
is_list h = is_list_kind (kind_of h)

abbrev pub put : Bool → Tree → Forest → Forest
put true t rest = join t.children rest
put false t rest = tree t.head t.children rest

abbrev pub row : Tree → Forest → Forest
row t rest = put (is_list t.head) t rest

-- Types and constants add one to the height, all else nothing.
abbrev pub kind_weight : Kind → ℕ
kind_weight TypeKind = 1
kind_weight ConstantKind = 1
kind_weight _ = 0

abbrev pub weight : Head → ℕ
weight h = kind_weight (kind_of h)

abbrev pub heights : Forest → ℕ
heights none = 0
heights (tree h below rest) = max (weight h + heights below) (heights rest)

abbrev pub height : Tree → ℕ
height t = weight t.head + heights t.children

-- Whether a head with the mark stands anywhere in the trees.
abbrev pub holds : (Head → Bool) → Forest → Bool
holds mark none = false
holds mark (tree h below rest) = mark h || (holds mark below || holds mark rest)

abbrev pub tree_holds : (Head → Bool) → Tree → Bool
tree_holds mark t = mark t.head || holds mark t.children

-- The tree with every region replaced by one.
abbrev pub erased_head : Head → Head
erased_head (H.Region _) = H.Region R.Static
erased_head h = h

abbrev pub erase : Forest → Forest
erase none = none
erase (tree h below rest) = tree (erased_head h) (erase below) (erase rest)

abbrev pub is_param : Head → Bool
is_param (H.Param _) = true
is_param (H.Const (C.Param _)) = true
is_param _ = false

abbrev pub is_alias : Head → Bool
is_alias (H.Alias _ _) = true
is_alias (H.Const (C.Unevaluated _)) = true
is_alias _ = false

abbrev pub is_error : Head → Bool
is_error H.Error = true
is_error (H.Const C.Error) = true
is_error _ = false

-- a type variable, a type placeholder or a bound type
abbrev pub is_loose : Head → Bool
is_loose (H.Infer v) = is_type_kind (sort_kind v.sort)
is_loose (H.Placeholder _) = true
is_loose (H.Bound _) = true
is_loose _ = false

-- The number of a variable to be solved; those of regions are numbered with the others.
abbrev pub variable_number : Head → Option ℕ
variable_number (H.Infer v) = Some v.number
variable_number (H.Region (R.Var n)) = Some n
variable_number _ = None

abbrev pub is_same_number : ℕ → Option ℕ → Bool
is_same_number n None = false
is_same_number n (Some m) = m == n

-- it is the variable of that number
abbrev pub is_number : ℕ → Head → Bool
is_number n h = is_same_number n (variable_number h)

-- how many binders stand between a head and its children
abbrev pub binders_of : Head → ℕ
binders_of (H.Builtin (B.FnPtr _)) = 1
binders_of (H.Builtin B.UnsafeBinder) = 1
binders_of (H.Part (P.Pred _)) = 1
binders_of (H.Part (P.Clause _)) = 1
binders_of (H.Part P.Sig) = 1
binders_of _ = 0
