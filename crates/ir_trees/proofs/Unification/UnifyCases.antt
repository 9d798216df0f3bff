-- Worked cases of quick rejection, by computation; and that references which overlap have a common instance.
use Rattle.std.proofs.Common.{◌≡◌, Bool, true, false, [], refl}
use Rattle.ir_trees.specs.declared.ir.kinds.UintTy.TheVariants as U
use Rattle.ir_trees.specs.declared.ir.heads.Head.{Head}
use Rattle.ir_trees.specs.declared.ir.heads.Head.TheVariants as H
use Rattle.ir_trees.specs.declared.ir.heads.Builtin.TheVariants as B
use Rattle.ir_trees.specs.declared.ir.heads.ConstHead.TheVariants as C
use Rattle.ir_trees.specs.declared.ir.heads.VariableSort.TheVariants as V
use Rattle.ir_trees.specs.declared.ir.unify.RightSide.{RightSide}
use Rattle.ir_trees.specs.declared.ir.unify.RightSide.TheVariants as S
use Rattle.ir_trees.specs.Syntax.Trees.{Forest, none, tree}
use Rattle.ir_trees.specs.Declarations.Worlds.{Reference}
use Rattle.ir_trees.specs.Unification.Substitutions.{Universes, Overlap}
use Rattle.ir_trees.specs.Unification.Unify.{may_unify, stands_for_any, stands_for_any_on_right, IsFilled, CommonInstance}

abbrev leaf : Head → Forest
leaf h = tree h none none

abbrev byte : Forest
byte = leaf (H.Builtin (B.Uint U.U8))

abbrev vec : Forest → Forest
vec element = tree (H.Adt (record { 0 = 0 })) element none

abbrev array : Forest → Forest
array length = tree (H.Builtin B.Array) (tree (H.Builtin (B.Uint U.U8)) none length) none

variable_meets_byte : may_unify S.Plain (vec (leaf (H.Infer (record { sort = V.General; number = 0 })))) (vec byte) ≡ true
variable_meets_byte = refl

integer_is_no_char : may_unify S.Plain (leaf (H.Infer (record { sort = V.Integer; number = 0 }))) (leaf (H.Builtin B.Char)) ≡ false
integer_is_no_char = refl

three_is_not_four : may_unify S.Plain (array (leaf (H.Const (C.Value 3)))) (array (leaf (H.Const (C.Value 4)))) ≡ false
three_is_not_four = refl

byte_is_no_parameter : may_unify S.Plain byte (leaf (H.Param 0)) ≡ false
byte_is_no_parameter = refl

byte_meets_a_header : may_unify S.Header byte (leaf (H.Param 0)) ≡ true
byte_meets_a_header = refl

-- on the left a parameter is itself alone
parameter_meets_no_byte : may_unify S.Header (leaf (H.Param 0)) byte ≡ false
parameter_meets_no_byte = refl

filled_itself : (mark : Head → Bool) (a : Forest) → IsFilled mark a a
filled_itself mark none = tt
filled_itself mark (tree h a r) = ((λ _. (refl, filled_itself mark a)), filled_itself mark r)

-- a byte is a common instance of itself and of a header's parameter
byte_in_a_header : (u v : Universes) → CommonInstance S.Header u v byte (leaf (H.Param 0))
byte_in_a_header u v =
    record {
      first = byte;
      second = byte;
      first_is = filled_itself stands_for_any byte;
      second_is = ((λ e. absurd cc), tt);
      first_values = [];
      second_values = [];
      first_allowed = tt;
      second_allowed = tt;
      common = refl;
    }

pub overlap_is_common : (right : RightSide) (u v : Universes) (a b : Reference) → Overlap u v a b → CommonInstance right u v a.arguments b.arguments
overlap_is_common right u v a b o =
    record {
      first = a.arguments;
      second = b.arguments;
      first_is = filled_itself stands_for_any a.arguments;
      second_is = filled_itself (stands_for_any_on_right right) b.arguments;
      first_values = o.left;
      second_values = o.right;
      first_allowed = o.left_allowed;
      second_allowed = o.right_allowed;
      common = o.common;
    }
