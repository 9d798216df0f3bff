-- With how many tests impls are found, of a trait that has five: for `#0`, `u8`, `Vec<#0>`, `u16` and `Out<#0>`.
use Rattle.std.proofs.Common.{◌≡◌, ℕ, false, [], ◌∷◌, refl}
use Rattle.ir_trees.specs.declared.decl.contents.ImplId.{ImplId}
use Rattle.ir_trees.specs.declared.decl.contents.ImplPolarity.TheVariants.{Positive}
use Rattle.ir_trees.specs.declared.decl.definition.DefinitionKind.TheVariants as D
use Rattle.ir_trees.specs.declared.decl.definition.TraitFlags.{TraitFlags}
use Rattle.ir_trees.specs.declared.ir.heads.Builtin.TheVariants as B
use Rattle.ir_trees.specs.declared.ir.heads.Head.{Head}
use Rattle.ir_trees.specs.declared.ir.heads.Head.TheVariants as H
use Rattle.ir_trees.specs.declared.ir.heads.ListHead.TheVariants as L
use Rattle.ir_trees.specs.declared.ir.heads.Variable.{Variable}
use Rattle.ir_trees.specs.declared.ir.heads.VariableSort.TheVariants as V
use Rattle.ir_trees.specs.declared.ir.kinds.AliasKind.TheVariants as A
use Rattle.ir_trees.specs.declared.ir.kinds.UintTy.TheVariants as U
use Rattle.ir_trees.specs.Declarations.Contents.{Impl}
use Rattle.ir_trees.specs.Declarations.Context.{Context}
use Rattle.ir_trees.specs.Declarations.Limits.{first_limits}
use Rattle.ir_trees.specs.Instantiation.Folding.{leaf}
use Rattle.ir_trees.specs.Syntax.Trees.{Tree}
use Rattle.ir_trees.specs.Unification.ImplLists.{tests}
use Rattle.ir_trees.specs.Unification.Impls.{relevant_impls}
use Rattle.ir_trees.specs.Unification.Substitutions.{alone}

-- Types, and the list that has one of them alone.

abbrev u8 : Tree
u8 = leaf (H.Builtin (B.Uint U.U8))

abbrev u16 : Tree
u16 = leaf (H.Builtin (B.Uint U.U16))

abbrev parameter : Tree
parameter = leaf (H.Param 0)

abbrev over : Head → Tree → Tree
over h t = record { head = h; children = alone t }

abbrev list : Tree → Tree
list t = over (H.List L.Args) t

-- an impl of the trait for the type of that list
abbrev impl_for : ℕ → Impl
impl_for n = record {
  crate = record { 0 = 0 };
  parameters = [];
  trait_ref = record { def_id = record { 0 = 0 }; args = record { 0 = n } };
  polarity = Positive;
  is_default = false;
  wheres = [];
  super_outlives = [];
  specializes = [];
  values = [];
}

abbrev impl_number : ℕ → ImplId
impl_number n = record { 0 = n }

abbrev declared : TraitFlags → Context
declared f = record {
  crates = 1;
  local = record { 0 = 0 };
  limits = first_limits;
  declarations = record { crate = record { 0 = 0 }; parameters = []; kind = D.Trait f 0 } ∷ [];
  contents = record {
    adts = [];
    traits = record { supers = []; wheres = []; items = []; impls = impl_number 0 ∷ impl_number 1 ∷ impl_number 2 ∷ impl_number 3 ∷ impl_number 4 ∷ [] } ∷ [];
    bounds = [];
    impls = impl_for 0 ∷ impl_for 1 ∷ impl_for 2 ∷ impl_for 3 ∷ impl_for 4 ∷ [];
    lang_items = [];
    misnamed = false;
  };
  trees = list parameter ∷ list u8 ∷ list (over (H.Adt (record { 0 = 1 })) parameter) ∷ list u16 ∷ list (over (H.Alias A.Projection (record { 0 = 2 })) parameter) ∷ [];
  declared_nodes = 5;
  delayed_bugs = [];
}

-- For `u8` the one for it and those for `#0` and `Out<#0>` are tested, and found; for a slice those two; for a variable for integers two
-- more are; and for a variable for any type none is tested.

integer_tests : (f : TraitFlags) → tests (declared f) 0 u8 ≡ 3
integer_tests f = refl

integer_found : (f : TraitFlags) → relevant_impls (declared f) 0 u8 ≡ impl_number 0 ∷ impl_number 1 ∷ impl_number 4 ∷ []
integer_found f = refl

slice_tests : (f : TraitFlags) → tests (declared f) 0 (over (H.Builtin B.Slice) u8) ≡ 2
slice_tests f = refl

slice_found : (f : TraitFlags) → relevant_impls (declared f) 0 (over (H.Builtin B.Slice) u8) ≡ impl_number 0 ∷ impl_number 4 ∷ []
slice_found f = refl

abbrev variable : Variable → Tree
variable v = leaf (H.Infer v)

variable_tests : (f : TraitFlags) → tests (declared f) 0 (variable (record { sort = V.Integer; number = 0 })) ≡ 4
variable_tests f = refl

any_tests : (f : TraitFlags) → tests (declared f) 0 (variable (record { sort = V.General; number = 0 })) ≡ 0
any_tests f = refl
