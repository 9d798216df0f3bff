-- What each cell is read from, where a type is given by its kind: the tables over numbers.
use Rattle.std.specs.Prelude.{◌≡◌, All, Bool, true, false, Option, Some, None, List, [], ◌∷◌, map, if◌then◌else◌}
use Rattle.ir_trees.specs.declared.ir.kinds.TyKind.{TyKind}
use Rattle.ir_trees.specs.declared.ir.kinds.TyKind.TheVariants as K
use Rattle.ir_trees.specs.declared.ir.kinds.AliasKind.{AliasKind}
use Rattle.ir_trees.specs.declared.ir.kinds.AliasKind.TheVariants as AK
use Rattle.ir_trees.specs.declared.ir.kinds.AliasTy.{AliasTy}
use Rattle.ir_trees.specs.declared.ir.kinds.InferTy.TheVariants as I
use Rattle.ir_trees.specs.declared.ir.kinds.AdtId.{AdtId}
use Rattle.ir_trees.specs.declared.ir.kinds.Args.{Args}
use Rattle.ir_trees.specs.declared.ir.kinds.GenericArg.{GenericArg}
use Rattle.ir_trees.specs.declared.ir.kinds.GenericArg.TheVariants as G
use Rattle.ir_trees.specs.declared.ir.kinds.Ty.{Ty}
use Rattle.ir_trees.specs.declared.decl.contents.Sizedness.{Sizedness}
use Rattle.ir_trees.specs.declared.decl.contents.Sizedness.TheVariants as S
use Rattle.ir_trees.specs.Instantiation.Folding.{lacks_argument}
use Rattle.ir_trees.specs.Syntax.Trees.{Forest, none, Tree, tree_holds}
use Rattle.ir_trees.specs.Declarations.Context.{Context, world}
use Rattle.ir_trees.specs.Declarations.Lookups.{adt_flags, definition}
use Rattle.ir_trees.specs.Syntax.Words.{IsTy, IsArgs, IsVars, ty_tree, args_forest, vars_tree}
use Rattle.ir_trees.specs.Validity.WellFormed.{TypesFit}
use Rattle.ir_trees.specs.Declarations.Worlds.{AdtSort, OpaqueSort, parameters, kinds_of}
use Rattle.candidate_eval.specs.declared.structural.asked.Asked.{Asked}
use Rattle.candidate_eval.specs.declared.structural.asked.Asked.TheVariants as A
use Rattle.candidate_eval.specs.declared.structural.Column.{Column}
use Rattle.candidate_eval.specs.declared.structural.Column.TheVariants as C
use Rattle.candidate_eval.specs.declared.structural.Constituents.{Constituents}
use Rattle.candidate_eval.specs.declared.structural.Under.{Under}
use Rattle.candidate_eval.specs.declared.structural.Under.TheVariants as U
use Rattle.candidate_eval.specs.Builtins.Tables.{Parts, Cell, Refused, Asks, types_of, last_type, first_of, bytes, is_phantom, is_manually_drop, field_types, constraint_types, hidden_types, with_args}

-- the types that it asks about, and the variables of the binder that they stand under
abbrev pub asked_types : Context → Asked → List Tree
asked_types c A.Refused = []
asked_types c A.Nothing = []
asked_types c A.Bytes = bytes ∷ []
asked_types c (A.Type t) = ty_tree c.trees t ∷ []
asked_types c (A.Under b) = ty_tree c.trees b.value ∷ []
asked_types c (A.Members a) = types_of (args_forest c.trees a)
asked_types c (A.LastMember a) = last_type (args_forest c.trees a)
asked_types c (A.FirstArgument a) = first_of (args_forest c.trees a)
asked_types c (A.Fields i a) = field_types c i.0 (args_forest c.trees a)
asked_types c (A.Constraint i a s) = constraint_types c i.0 (args_forest c.trees a) s
asked_types c (A.Hidden i a) = hidden_types c i.0 (args_forest c.trees a)

abbrev pub asked_variables : Context → Asked → Forest
asked_variables c (A.Under b) = (vars_tree c.trees b.vars).children
asked_variables c _ = none

-- the cell that is read from it
abbrev pub asked_cell : Context → Asked → Cell
asked_cell c A.Refused = Refused
asked_cell c a = Asks (record { variables = asked_variables c a; types = asked_types c a })

abbrev pub is_refused : Asked → Bool
is_refused A.Refused = true
is_refused _ = false

abbrev pub under_of : Asked → Under
under_of (A.Under b) = U.Binder b.vars
under_of _ = U.NoBinder

-- its numbers are of the context, and arguments are those that the definition takes
abbrev pub AskedFits : Context → Asked → Type 0
AskedFits c (A.Type t) = IsTy c.trees t
AskedFits c (A.Under b) = IsVars c.trees b.vars × IsTy c.trees b.value
AskedFits c (A.Members a) = IsArgs c.trees a
AskedFits c (A.LastMember a) = IsArgs c.trees a
AskedFits c (A.FirstArgument a) = IsArgs c.trees a
AskedFits c (A.Fields i a) = IsArgs c.trees a × (parameters (world c) AdtSort i.0 ≡ Some (kinds_of (args_forest c.trees a)))
AskedFits c (A.Constraint i a s) = IsArgs c.trees a × (parameters (world c) AdtSort i.0 ≡ Some (kinds_of (args_forest c.trees a)))
AskedFits c (A.Hidden i a) = IsArgs c.trees a × (parameters (world c) OpaqueSort i.0 ≡ Some (kinds_of (args_forest c.trees a)))
AskedFits c _ = Unit {0}

-- whether the types are there: the slice of bytes is made
abbrev pub is_listed : Asked → Bool
is_listed A.Bytes = false
is_listed _ = true

-- the arguments that are put into what is declared
abbrev pub arguments_of : Asked → Option Args
arguments_of (A.Fields i a) = Some a
arguments_of (A.Constraint i a s) = Some a
arguments_of (A.Hidden i a) = Some a
arguments_of _ = None

-- each parameter in the types has one of the arguments
abbrev pub HaveArguments : Context → Args → List Ty → Type 0
HaveArguments c a ts = All (λ t. tree_holds (lacks_argument (args_forest c.trees a)) (ty_tree c.trees t) ≡ false) ts

-- the trees of types, with the arguments put in, if there are any
abbrev pub trees_with : Context → Option Args → List Ty → List Tree
trees_with c None ts = map (ty_tree c.trees) ts
trees_with c (Some a) ts = with_args c (args_forest c.trees a) ts

-- The columns.

abbrev pub owned_asked : Context → AdtId → Args → Asked
owned_asked c i a = if is_phantom (adt_flags (definition c i.0)) then A.FirstArgument a else A.Fields i a

abbrev pub alias_asked : AliasKind → AliasTy → Asked
alias_asked AK.Opaque a = A.Hidden a.id a.args
alias_asked _ a = A.Refused

abbrev pub auto_asked : Context → TyKind → Asked
auto_asked c K.Str = A.Bytes
auto_asked c (K.Slice t) = A.Type t
auto_asked c (K.Array t n) = A.Type t
auto_asked c (K.Pat t p) = A.Type t
auto_asked c (K.RawPtr t m) = A.Type t
auto_asked c (K.Ref r t m) = A.Type t
auto_asked c (K.Tuple a) = A.Members a
auto_asked c (K.Closure i a) = A.Type a.upvars
auto_asked c (K.UnsafeBinder b) = A.Under b
auto_asked c (K.Adt i a) = owned_asked c i a
auto_asked c (K.Alias a) = alias_asked a.kind a
auto_asked c (K.Dynamic p r) = A.Refused
auto_asked c (K.Param n) = A.Refused
auto_asked c (K.Placeholder p) = A.Refused
auto_asked c (K.Bound v) = A.Refused
auto_asked c (K.Infer v) = A.Refused
auto_asked c _ = A.Nothing

abbrev pub unsized_asked : Sizedness → Asked
unsized_asked S.Sized = A.Refused
unsized_asked S.MetaSized = A.Nothing

abbrev pub sizedness_asked : Sizedness → TyKind → Asked
sizedness_asked s K.Str = unsized_asked s
sizedness_asked s (K.Slice t) = unsized_asked s
sizedness_asked s (K.Dynamic p r) = unsized_asked s
sizedness_asked s (K.Tuple a) = A.LastMember a
sizedness_asked s (K.UnsafeBinder b) = A.Under b
sizedness_asked s (K.Adt i a) = A.Constraint i a s
sizedness_asked s (K.Foreign i) = A.Refused
sizedness_asked s (K.Alias a) = A.Refused
sizedness_asked s (K.Param n) = A.Refused
sizedness_asked s (K.Placeholder p) = A.Refused
sizedness_asked s (K.Bound v) = A.Refused
sizedness_asked s _ = A.Nothing

abbrev pub copy_asked : TyKind → Asked
copy_asked (K.FnDef i a) = A.Nothing
copy_asked (K.FnPtr s) = A.Nothing
copy_asked K.Error = A.Nothing
copy_asked (K.Pat t p) = A.Type t
copy_asked (K.Tuple a) = A.Members a
copy_asked (K.Closure i a) = A.Type a.upvars
copy_asked _ = A.Refused

abbrev pub dropped_asked : Context → AdtId → Args → Asked
dropped_asked c i a = if is_manually_drop (adt_flags (definition c i.0)) then A.Nothing else A.Fields i a

abbrev pub destruct_asked : Context → TyKind → Asked
destruct_asked c (K.Slice t) = A.Type t
destruct_asked c (K.Array t n) = A.Type t
destruct_asked c (K.Pat t p) = A.Type t
destruct_asked c (K.Tuple a) = A.Members a
destruct_asked c (K.Closure i a) = A.Type a.upvars
destruct_asked c (K.Adt i a) = dropped_asked c i a
destruct_asked c (K.Dynamic p r) = A.Refused
destruct_asked c (K.UnsafeBinder b) = A.Refused
destruct_asked c (K.Foreign i) = A.Refused
destruct_asked c (K.Alias a) = A.Refused
destruct_asked c (K.Param n) = A.Refused
destruct_asked c (K.Placeholder p) = A.Refused
destruct_asked c (K.Bound v) = A.Refused
destruct_asked c _ = A.Nothing

-- what the column asks about a type of that kind
abbrev pub asked_for : Context → Column → TyKind → Asked
asked_for c C.Auto k = auto_asked c k
asked_for c (C.Sizedness s) k = sizedness_asked s k
asked_for c C.CopyClone k = copy_asked k
asked_for c C.Destruct k = destruct_asked c k

-- The kinds that a column excludes none of.

abbrev pub is_opaque : AliasKind → Bool
is_opaque AK.Opaque = true
is_opaque _ = false

abbrev pub auto_known : TyKind → Bool
auto_known (K.Alias a) = is_opaque a.kind
auto_known (K.Dynamic p r) = false
auto_known (K.Param n) = false
auto_known (K.Placeholder p) = false
auto_known (K.Bound v) = false
auto_known (K.Infer v) = false
auto_known _ = true

abbrev pub kind_known : TyKind → Bool
kind_known (K.Bound v) = false
kind_known (K.Infer (I.TyVar n)) = false
kind_known _ = true

abbrev pub known : Column → TyKind → Bool
known C.Auto k = auto_known k
known _ k = kind_known k

-- What was made.

abbrev pub variables : List Tree → Under → Forest
variables ts U.NoBinder = none
variables ts (U.Binder v) = (vars_tree ts v).children

abbrev pub parts_of : List Tree → Constituents → Parts
parts_of ts c = record { variables = variables ts c.under; types = map (ty_tree ts) c.types.items }

abbrev pub IsUnder : List Tree → Under → Type 0
IsUnder ts U.NoBinder = Unit {0}
IsUnder ts (U.Binder v) = IsVars ts v

-- the numbers of the binder and of the types are of the context
pub record ArePartsIn (ts : List Tree) (c : Constituents) : Type 0 where
  pub under : IsUnder ts c.under
  pub types : TypesFit ts c.types.items

-- the first argument, if it is a type
abbrev pub first_ty : List GenericArg → Option Ty
first_ty (G.Ty t ∷ xs) = Some t
first_ty _ = None

-- the types among arguments
abbrev pub ty_args : List GenericArg → List Ty
ty_args [] = []
ty_args (G.Ty t ∷ xs) = t ∷ ty_args xs
ty_args (_ ∷ xs) = ty_args xs
