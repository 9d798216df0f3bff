-- The structural tables: the types that the builtin rules ask about, for each kind of type.
use Rattle.std.specs.Prelude.{◌≡◌, ◌⊎◌, ℕ, Bool, true, false, Option, Some, None, List, [], ◌∷◌, map, slice_get, if◌then◌else◌}
use Rattle.ir_trees.specs.declared.ir.heads.Head.{Head}
use Rattle.ir_trees.specs.declared.ir.heads.Head.TheVariants as H
use Rattle.ir_trees.specs.declared.ir.heads.Builtin.{Builtin}
use Rattle.ir_trees.specs.declared.ir.heads.Builtin.TheVariants as B
use Rattle.ir_trees.specs.declared.ir.heads.VariableSort.{VariableSort}
use Rattle.ir_trees.specs.declared.ir.heads.VariableSort.TheVariants as V
use Rattle.ir_trees.specs.declared.ir.kinds.AliasKind.{AliasKind}
use Rattle.ir_trees.specs.declared.ir.kinds.AliasKind.TheVariants as K
use Rattle.ir_trees.specs.declared.ir.kinds.Ty.{Ty}
use Rattle.ir_trees.specs.declared.ir.kinds.UintTy.TheVariants as U
use Rattle.ir_trees.specs.declared.ir.stop.Stop.{Stop}
use Rattle.ir_trees.specs.declared.ir.stop.Stop.TheVariants.{Memory}
use Rattle.ir_trees.specs.declared.decl.contents.Sizedness.{Sizedness}
use Rattle.ir_trees.specs.declared.decl.contents.Sizedness.TheVariants as S
use Rattle.ir_trees.specs.declared.decl.definition.AdtFlags.{AdtFlags}
use Rattle.ir_trees.specs.Syntax.Trees.{Forest, none, tree, Tree, is_type}
use Rattle.ir_trees.specs.Instantiation.Folding.{substituted_tree, IsSubstStop}
use Rattle.ir_trees.specs.Unification.Substitutions.{alone}
use Rattle.ir_trees.specs.Declarations.Context.{Context}
use Rattle.ir_trees.specs.Declarations.Declaring.{adt_at}
use Rattle.ir_trees.specs.Hierarchy.Elaboration.{first_children}
use Rattle.ir_trees.specs.Declarations.Lookups.{maybe, constraint, adt_flags, hidden_type, definition}
use Rattle.ir_trees.specs.Syntax.Words.{ty_tree}
use Rattle.candidate_eval.specs.declared.structural.Column.{Column}
use Rattle.candidate_eval.specs.declared.structural.Column.TheVariants as C

-- types, and the variables of the binder that they stand under, if there is one
pub record Parts : Type 0 where
  pub variables : Forest
  pub types : List Tree

-- A cell of the table: no call asks for it; it is refused; or it asks about types.
pub data Cell : Type 0 where
  Excluded : Cell
  Refused : Cell
  Asks : Parts → Cell

-- One line of the table: an auto trait, a sizedness trait, `Copy` or `Clone`, and what has to be `Destruct`.
pub record Row : Type 0 where
  pub auto : Cell
  pub sizedness : Sizedness → Cell
  pub copy : Cell
  pub destruct : Cell

abbrev pub cells : Cell → (Sizedness → Cell) → Cell → Cell → Row
cells a s c d = record { auto = a; sizedness = s; copy = c; destruct = d }

abbrev pub asks : List Tree → Cell
asks ts = Asks (record { variables = none; types = ts })

abbrev pub nothing : Cell
nothing = asks []

-- whatever the sizedness
abbrev pub always : Cell → Sizedness → Cell
always c s = c

-- a type whose size only a pointer's metadata tells
abbrev pub unsized : Sizedness → Cell
unsized S.Sized = Refused
unsized S.MetaSized = nothing

-- the types among trees in a row, in order
abbrev pub types_of : Forest → List Tree
types_of none = []
types_of (tree h below rest) = if is_type h then record { head = h; children = below } ∷ types_of rest else types_of rest

abbrev pub last_of : {X : Type 0} → List X → List X
last_of [] = []
last_of (t ∷ []) = t ∷ []
last_of (t ∷ (u ∷ us)) = last_of (u ∷ us)

-- the first tree in a row, if it is a type
abbrev pub first_of : Forest → List Tree
first_of none = []
first_of (tree h below rest) = if is_type h then record { head = h; children = below } ∷ [] else []

-- the last type: of a closure, that of its upvars
abbrev pub last_type : Forest → List Tree
last_type below = last_of (types_of below)

-- the type under a binder, which comes first
abbrev pub under : Forest → Cell
under below = Asks (record { variables = first_children below; types = types_of below })

abbrev pub u8 : Tree
u8 = record { head = H.Builtin (B.Uint U.U8); children = none }

abbrev pub bytes : Tree
bytes = record { head = H.Builtin B.Slice; children = tree (H.Builtin (B.Uint U.U8)) none none }

-- What is declared, with the type's arguments in the place of parameters.

abbrev pub with_args : Context → Forest → List Ty → List Tree
with_args c args ts = map (λ t. substituted_tree args (ty_tree c.trees t)) ts

abbrev pub field_types : Context → ℕ → Forest → List Tree
field_types c i args = with_args c args (maybe [] (λ a. a.fields) (adt_at c i))

abbrev pub optional : Option Ty → List Ty
optional None = []
optional (Some t) = t ∷ []

abbrev pub constraint_types : Context → ℕ → Forest → Sizedness → List Tree
constraint_types c i args s = with_args c args (optional (maybe None (constraint s) (adt_at c i)))

abbrev pub hidden_types : Context → ℕ → Forest → List Tree
hidden_types c i args = with_args c args (optional (hidden_type (definition c i)))

-- whether it is the marker type
abbrev pub is_phantom : Option AdtFlags → Bool
is_phantom None = false
is_phantom (Some f) = f.phantom_data

-- the types of a data type's fields; the marker type owns a value of its first argument
abbrev pub owned_types : Context → ℕ → Forest → List Tree
owned_types c i args = if is_phantom (adt_flags (definition c i)) then first_of args else field_types c i args

-- whether its fields aren't dropped with it
abbrev pub is_manually_drop : Option AdtFlags → Bool
is_manually_drop None = false
is_manually_drop (Some f) = f.manually_drop

abbrev pub dropped_types : Context → ℕ → Forest → List Tree
dropped_types c i args = if is_manually_drop (adt_flags (definition c i)) then [] else field_types c i args

-- The table.

abbrev pub scalar : Row
scalar = cells nothing (always nothing) Refused nothing

abbrev pub builtin_row : Builtin → Forest → Row
builtin_row B.Bool _ = scalar
builtin_row B.Char _ = scalar
builtin_row (B.Int _) _ = scalar
builtin_row (B.Uint _) _ = scalar
builtin_row (B.Float _) _ = scalar
builtin_row B.Never _ = scalar
builtin_row (B.FnPtr _) _ = cells nothing (always nothing) nothing nothing
builtin_row B.Str _ = cells (asks (bytes ∷ [])) unsized Refused nothing
builtin_row B.Slice below = cells (asks (types_of below)) unsized Refused (asks (types_of below))
builtin_row B.Array below = cells (asks (types_of below)) (always nothing) Refused (asks (types_of below))
builtin_row (B.Pat _) below = cells (asks (types_of below)) (always nothing) (asks (types_of below)) (asks (types_of below))
builtin_row (B.RawPtr _) below = cells (asks (types_of below)) (always nothing) Refused nothing
builtin_row B.Tuple below = cells (asks (types_of below)) (always (asks (last_type below))) (asks (types_of below)) (asks (types_of below))
builtin_row B.UnsafeBinder below = cells (under below) (always (under below)) Refused Refused

abbrev pub variable_row : VariableSort → Row
variable_row V.Integer = cells Excluded (always nothing) Refused nothing
variable_row V.Floating = cells Excluded (always nothing) Refused nothing
variable_row _ = cells Excluded (always Excluded) Excluded Excluded

abbrev pub alias_row : Context → AliasKind → ℕ → Forest → Row
alias_row c K.Opaque i args = cells (asks (hidden_types c i args)) (always Refused) Refused Refused
alias_row c _ i args = cells Excluded (always Refused) Refused Refused

abbrev pub row : Context → Head → Forest → Row
row c (H.Builtin b) below = builtin_row b below
row c (H.FnDef _) below = cells nothing (always nothing) nothing nothing
row c H.Error below = cells nothing (always nothing) nothing nothing
row c (H.Infer v) below = variable_row v.sort
row c H.Dynamic below = cells Excluded unsized Refused Refused
row c (H.Ref _) below = cells (asks (types_of below)) (always nothing) Refused nothing
row c (H.Closure _ _) below = cells (asks (last_type below)) (always nothing) (asks (last_type below)) (asks (last_type below))
row c (H.Foreign _) below = cells nothing (always Refused) Refused Refused
row c (H.Adt i) below = cells (asks (owned_types c i.0 below)) (λ s. asks (constraint_types c i.0 below s)) Refused (asks (dropped_types c i.0 below))
row c (H.Alias k i) below = alias_row c k i.0 below
row c (H.Param _) below = cells Excluded (always Refused) Refused Refused
row c (H.Placeholder _) below = cells Excluded (always Refused) Refused Refused
row c _ below = cells Excluded (always Excluded) Excluded Excluded

abbrev pub row_of : Context → Tree → Row
row_of c t = row c t.head t.children

-- the cell of a line in a column
abbrev pub cell : Column → Row → Cell
cell C.Auto r = r.auto
cell (C.Sizedness s) r = r.sizedness s
cell C.CopyClone r = r.copy
cell C.Destruct r = r.destruct

abbrev pub is_excluded : Cell → Bool
is_excluded Excluded = true
is_excluded _ = false

-- One of the types was not made.
pub record IsTypeStop (given : ℕ) (ts : List Tree) (s : Stop) : Type 0 where
  pub place : ℕ
  pub type : Tree
  pub is : slice_get ts place ≡ Some type
  pub stop : IsSubstStop given (alone type) s

-- Why types that a cell asks about were not made: a growth was refused, or one of them was not made.
abbrev pub IsTypesStop : ℕ → List Tree → Stop → Type 0
IsTypesStop given ts s = (s ≡ Memory) ⊎ IsTypeStop given ts s

abbrev pub IsCellStop : ℕ → Cell → Stop → Type 0
IsCellStop given (Asks p) s = IsTypesStop given p.types s
IsCellStop given _ s = ⊥
