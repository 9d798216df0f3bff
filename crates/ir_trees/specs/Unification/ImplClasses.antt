-- What the impls of a trait are listed under, by the heads of the types that they are for, so that those that may be for a type
-- are found by its head.
use Rattle.std.specs.Prelude.{ℕ, suc, Bool, false, true, not, ◌&&◌, ◌||◌, nat_lt, List, [], ◌∷◌, Option, Some, None, if◌then◌else◌}
use Rattle.ir_trees.specs.declared.ir.heads.Head.{Head}
use Rattle.ir_trees.specs.declared.ir.classes.ImplClass.{ImplClass}
use Rattle.ir_trees.specs.declared.ir.classes.ImplClass.TheVariants as K
use Rattle.ir_trees.specs.declared.ir.heads.VariableSort.TheVariants as V
use Rattle.ir_trees.specs.declared.ir.unify.RightSide.TheVariants as S
use Rattle.ir_trees.specs.Syntax.Trees.{Tree}
use Rattle.ir_trees.specs.Unification.Substitutions.{is_float, is_integer}
use Rattle.ir_trees.specs.Unification.Unify.{is_variable_of, meets_any, meets_any_on_right, same_head}

-- whether a header's type with the head may be equal to types with several heads: any may stand in its place, or it is a variable
-- for integers or for floating-point types
abbrev pub is_open : Head → Bool
is_open g = meets_any_on_right S.Header g || (is_variable_of V.Integer g || is_variable_of V.Floating g)

-- whether an impl for a type with the head is listed there
abbrev pub is_in : ImplClass → Head → Bool
is_in (K.Of h) g = not (is_open g) && same_head g h
is_in K.Integer g = not (is_open g) && is_integer g
is_in K.Float g = not (is_open g) && is_float g
is_in K.Open g = is_open g

-- the one place where each is, and the one where numbers are besides
abbrev pub class_of : Head → ImplClass
class_of g = if is_open g then K.Open else K.Of g

abbrev pub number_class : Head → Option ImplClass
number_class g = if is_open g then None else (if is_integer g then Some K.Integer else (if is_float g then Some K.Float else None))

-- Where all impls are that may be for a type with the head, besides those for open types. There is no such place where the type
-- may be equal to any.
abbrev pub sought : Head → Option ImplClass
sought h =
    if meets_any h then None
    else (if is_variable_of V.Integer h then Some K.Integer
    else (if is_variable_of V.Floating h then Some K.Float
    else Some (K.Of h)))

-- whether an impl for the type is listed there; one for no type is nowhere
abbrev pub is_listed : ImplClass → Option Tree → Bool
is_listed k None = false
is_listed k (Some u) = is_in k u.head

-- what passes, each with its place, from `n` on
abbrev pub places : {X : Type 0} → (X → Bool) → ℕ → List X → List (ℕ × X)
places f n [] = []
places f n (x ∷ xs) = if f x then (n, x) ∷ places f (suc n) xs else places f (suc n) xs

-- whether the next of one list comes before the next of another, by their places
abbrev pub comes_first : {X : Type 0} → Option (ℕ × X) → Option (ℕ × X) → Bool
comes_first None y = false
comes_first (Some x) None = true
comes_first (Some x) (Some y) = nat_lt x.0 y.0

-- two lists by rising places, joined in order
abbrev pub joined_from : {X : Type 0} → ℕ × X → (List (ℕ × X) → List (ℕ × X)) → List (ℕ × X) → List (ℕ × X)
joined_from x rest [] = x ∷ rest []
joined_from x rest (y ∷ ys) = if nat_lt x.0 y.0 then x ∷ rest (y ∷ ys) else y ∷ joined_from x rest ys

abbrev pub joined : {X : Type 0} → List (ℕ × X) → List (ℕ × X) → List (ℕ × X)
joined [] ys = ys
joined (x ∷ xs) ys = joined_from x (joined xs) ys
