-- The derived equality of heads decides.
use Rattle.std.proofs.Common.{◌≡◌, ap, Bool, true, false, refl, rules, Option, ℕ}
use Rattle.ir_trees.specs.declared.ir.heads.Head.{Head}
use Rattle.ir_trees.specs.declared.ir.heads.Head.TheVariants as H
use Rattle.ir_trees.specs.declared.ir.heads.Builtin.{Builtin}
use Rattle.ir_trees.specs.declared.ir.heads.PartHead.{PartHead}
use Rattle.ir_trees.specs.declared.ir.heads.ConstHead.{ConstHead}
use Rattle.ir_trees.specs.declared.ir.heads.Variable.{Variable}
use Rattle.ir_trees.specs.declared.ir.kinds.RegionKind.{RegionKind}
use Rattle.ir_trees.specs.declared.ir.kinds.ClosureKind.{ClosureKind}
use Rattle.ir_trees.specs.declared.ir.kinds.ClosureId.{ClosureId}
use Rattle.ir_trees.specs.declared.ir.kinds.AliasId.{AliasId}
use Rattle.ir_trees.specs.declared.ir.kinds.AliasKind.{AliasKind}
use Rattle.ir_trees.specs.declared.ir.kinds.Mutability.{Mutability}
use Rattle.ir_trees.specs.declared.ir.kinds.AdtId.{AdtId}
use Rattle.ir_trees.specs.declared.ir.kinds.ForeignId.{ForeignId}
use Rattle.ir_trees.specs.declared.ir.kinds.FnId.{FnId}
use Rattle.ir_trees.specs.declared.ir.kinds.Placeholder.{Placeholder}
use Rattle.ir_trees.specs.declared.ir.kinds.BoundVar.{BoundVar}
use Rattle.ir_trees.specs.declared.ir.heads.ListHead.{ListHead}
use Rattle.ir_trees.specs.contracts.ir.heads.HeadPartialEq.TheImpl.{eq-value}

pub builtin_is : (a b : Builtin) → eq-value.it (H.Builtin a) (H.Builtin b) ≡ true → a ≡ b
builtin_is a b e = search rules

pub part_is : (a b : PartHead) → eq-value.it (H.Part a) (H.Part b) ≡ true → a ≡ b
part_is a b e = search rules

pub const_is : (a b : ConstHead) → eq-value.it (H.Const a) (H.Const b) ≡ true → a ≡ b
const_is a b e = search rules

pub region_is : (a b : RegionKind) → eq-value.it (H.Region a) (H.Region b) ≡ true → a ≡ b
region_is a b e = search rules

pub closure_is : (i j : ClosureId) (a b : Option ClosureKind) → eq-value.it (H.Closure i a) (H.Closure j b) ≡ true → H.Closure i a ≡ H.Closure j b
closure_is i j a b e = search rules

pub variable_is : (a b : Variable) → eq-value.it (H.Infer a) (H.Infer b) ≡ true → a ≡ b
variable_is a b e = search rules

pub clash : {A : Type 0} (b : Bool) → b ≡ true → b ≡ false → A
clash true e f = absurd cc
clash false e f = absurd cc

pub no_true : {A : Type 0} → false ≡ true → A
no_true e = absurd cc

pub alias_is : (i j : AliasId) (a b : AliasKind) → eq-value.it (H.Alias a i) (H.Alias b j) ≡ true → H.Alias a i ≡ H.Alias b j
alias_is i j a b e = search rules

pub list_is : (a b : ListHead) → eq-value.it (H.List a) (H.List b) ≡ true → a ≡ b
list_is a b e = search rules

ref_is : (a b : Mutability) → eq-value.it (H.Ref a) (H.Ref b) ≡ true → a ≡ b
ref_is a b e = search rules

adt_is : (a b : AdtId) → eq-value.it (H.Adt a) (H.Adt b) ≡ true → a ≡ b
adt_is a b e = search rules

foreign_is : (a b : ForeignId) → eq-value.it (H.Foreign a) (H.Foreign b) ≡ true → a ≡ b
foreign_is a b e = search rules

fndef_is : (a b : FnId) → eq-value.it (H.FnDef a) (H.FnDef b) ≡ true → a ≡ b
fndef_is a b e = search rules

param_is : (a b : ℕ) → eq-value.it (H.Param a) (H.Param b) ≡ true → a ≡ b
param_is a b e = search rules

placeholder_is : (a b : Placeholder) → eq-value.it (H.Placeholder a) (H.Placeholder b) ≡ true → a ≡ b
placeholder_is a b e = search rules

bound_is : (a b : BoundVar) → eq-value.it (H.Bound a) (H.Bound b) ≡ true → a ≡ b
bound_is a b e = search rules

pub head_is : (a b : Head) → eq-value.it a b ≡ true → a ≡ b
head_is (H.Builtin a) (H.Builtin b) e = ap H.Builtin (builtin_is a b e)
head_is (H.Part a) (H.Part b) e = ap H.Part (part_is a b e)
head_is (H.Const a) (H.Const b) e = ap H.Const (const_is a b e)
head_is (H.Region a) (H.Region b) e = ap H.Region (region_is a b e)
head_is (H.Infer a) (H.Infer b) e = ap H.Infer (variable_is a b e)
head_is (H.List a) (H.List b) e = ap H.List (list_is a b e)
head_is (H.Ref a) (H.Ref b) e = ap H.Ref (ref_is a b e)
head_is (H.Adt a) (H.Adt b) e = ap H.Adt (adt_is a b e)
head_is (H.Foreign a) (H.Foreign b) e = ap H.Foreign (foreign_is a b e)
head_is (H.FnDef a) (H.FnDef b) e = ap H.FnDef (fndef_is a b e)
head_is (H.Param a) (H.Param b) e = ap H.Param (param_is a b e)
head_is (H.Placeholder a) (H.Placeholder b) e = ap H.Placeholder (placeholder_is a b e)
head_is (H.Bound a) (H.Bound b) e = ap H.Bound (bound_is a b e)
head_is (H.Closure i a) (H.Closure j b) e = closure_is i j a b e
head_is (H.Alias a i) (H.Alias b j) e = alias_is i j a b e
head_is H.Dynamic H.Dynamic e = refl
head_is H.Error H.Error e = refl
head_is _ _ e = no_true e

pub head_itself : (a : Head) → eq-value.it a a ≡ true
head_itself (H.Builtin a) = search rules
head_itself (H.Part a) = search rules
head_itself (H.Const a) = search rules
head_itself (H.Region a) = search rules
head_itself (H.Infer a) = search rules
head_itself (H.List a) = search rules
head_itself (H.Ref a) = search rules
head_itself (H.Adt a) = search rules
head_itself (H.Foreign a) = search rules
head_itself (H.FnDef a) = search rules
head_itself (H.Param a) = search rules
head_itself (H.Placeholder a) = search rules
head_itself (H.Bound a) = search rules
head_itself (H.Closure i a) = search rules
head_itself (H.Alias a i) = search rules
head_itself H.Dynamic = refl
head_itself H.Error = refl
