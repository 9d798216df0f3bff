-- Quick rejection: whether two rows of trees could be made equal, and what a no means.
use Rattle.std.specs.Prelude.{◌≡◌, Bool, true, false, ◌&&◌, ◌||◌, if◌then◌else◌}
use Rattle.ir_trees.specs.contracts.ir.heads.HeadPartialEq.TheImpl.{eq-value}
use Rattle.ir_trees.specs.declared.ir.heads.Head.{Head}
use Rattle.ir_trees.specs.declared.ir.heads.Head.TheVariants as H
use Rattle.ir_trees.specs.declared.ir.heads.ConstHead.TheVariants as C
use Rattle.ir_trees.specs.declared.ir.heads.VariableSort.{VariableSort}
use Rattle.ir_trees.specs.declared.ir.heads.VariableSort.TheVariants as V
use Rattle.ir_trees.specs.declared.ir.unify.RightSide.{RightSide}
use Rattle.ir_trees.specs.declared.ir.unify.RightSide.TheVariants as S
use Rattle.ir_trees.specs.Syntax.Trees.{Forest, none, tree, Tree, erase, is_param, is_alias, is_error}
use Rattle.ir_trees.specs.Unification.Substitutions.{Substitution, Universes, IsAllowed, apply, same_sort, is_integer, is_float}

-- whether any tree may stand in the place of one with the head: an alias, an error, a bound type or constant
abbrev pub stands_for_any : Head → Bool
stands_for_any (H.Bound d) = true
stands_for_any (H.Const (C.Bound d)) = true
stands_for_any h = is_alias h || is_error h

-- the same on the right: there it is also a parameter, where the side is an impl header
abbrev pub stands_for_any_on_right : RightSide → Head → Bool
stands_for_any_on_right S.Plain g = stands_for_any g
stands_for_any_on_right S.Header g = is_param g || stands_for_any g

-- whether it is a general variable, a variable for constants, or a region
abbrev pub is_free : Head → Bool
is_free (H.Infer v) = same_sort v.sort V.General || same_sort v.sort V.Constant
is_free (H.Region r) = true
is_free _ = false

-- whether a tree with the head may be made equal to any other, on the left and on the right
abbrev pub meets_any : Head → Bool
meets_any h = is_free h || stands_for_any h

abbrev pub meets_any_on_right : RightSide → Head → Bool
meets_any_on_right right g = is_free g || stands_for_any_on_right right g

abbrev pub is_variable_of : VariableSort → Head → Bool
is_variable_of s (H.Infer v) = same_sort v.sort s
is_variable_of s _ = false

-- the equality that heads derive
abbrev pub same_head : Head → Head → Bool
same_head h g = eq-value.it h g

-- What a pair of trees says, by the first row that applies, where `below` is what their children say:
--   one of them may be made equal to any tree: yes;
--   one is an integer variable: the other is an integer type or variable, too;
--   one is a floating-point variable: the other is a floating-point type or variable, too;
--   else their heads are equal, and so says `below`.
abbrev pub pair_may : RightSide → Head → Head → Bool → Bool
pair_may right h g below =
    if meets_any h || meets_any_on_right right g then true
    else (if is_variable_of V.Integer h || is_variable_of V.Integer g then is_integer h && is_integer g
    else (if is_variable_of V.Floating h || is_variable_of V.Floating g then is_float h && is_float g
    else same_head h g && below))

-- Whether two rows of trees may be made equal: they are equally long, and each pair may.
abbrev pub may_unify : RightSide → Forest → Forest → Bool
may_unify right none none = true
may_unify right (tree h a r) (tree g b s) = pair_may right h g (may_unify right a b) && may_unify right r s
may_unify right _ _ = false

abbrev pub trees_may_unify : RightSide → Tree → Tree → Bool
trees_may_unify right t u = pair_may right t.head u.head (may_unify right t.children u.children)

-- The second row is the first one with some tree in the place of each that has the mark.
abbrev pub IsFilled : (Head → Bool) → Forest → Forest → Type 0
IsFilled mark none none = Unit {0}
IsFilled mark (tree h a r) (tree k b s) = (mark h ≡ false → (k ≡ h) × IsFilled mark a b) × IsFilled mark r s
IsFilled mark _ _ = ⊥

-- The rows have a common instance, with some trees in the places where any may stand. Each side has allowed values of its
-- own; `u` and `v` are the universes of their variables.
pub record CommonInstance (right : RightSide) (u v : Universes) (a b : Forest) : Type 0 where
  pub first : Forest
  pub second : Forest
  pub first_is : IsFilled stands_for_any a first
  pub second_is : IsFilled (stands_for_any_on_right right) b second
  pub first_values : Substitution
  pub second_values : Substitution
  pub first_allowed : IsAllowed u first_values
  pub second_allowed : IsAllowed v second_values
  pub common : erase (apply first_values first) ≡ erase (apply second_values second)

-- They have none, whatever stands in those places, and whatever the universes are.
pub record NoCommonInstance (right : RightSide) (a b : Forest) : Type 0 where
  pub apart : (u v : Universes) → CommonInstance right u v a b → ⊥
