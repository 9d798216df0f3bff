use Rattle.std.proofs.Common.{◌≡◌, ℕ, List, [], ◌∷◌, Bool, true, false, refl, sym, subst}
use Rattle.std.specs.Borrow.{Bor}
use Rattle.std.specs.Prelude.{Option, Some, IfSome, nat_eq, ◌&&◌, if◌then◌else◌}
use Rattle.std.specs.Cmp.Lexicographic.{pointwise}
use Rattle.ir_trees.specs.Syntax.Kinds.{ty_children}
use Rattle.assembly_notation.specs.declared.notation.Head.{Head}
use Rattle.assembly_notation.specs.declared.notation.Head.TheVariants.{Leaf}
use Rattle.assembly_notation.specs.Notation.{IsChildless}
use Rattle.assembly_notation.specs.Tables.{table_value}
use Rattle.assembly_notation.proofs.notation.fixed_head.Goals as goal

abbrev is_none : {X : Type 0} → List X → Bool
is_none [] = true
is_none (x ∷ xs) = false

abbrev is_childless : Head → Bool
is_childless (Leaf kind) = is_none (ty_children kind)
is_childless _ = true

none : {X : Type 0} → (xs : List X) → is_none xs ≡ true → xs ≡ []
none [] e = refl
none (x ∷ xs) e = absurd cc

childless : (h : Head) → is_childless h ≡ true → IsChildless h
childless (Leaf kind) e = none (ty_children kind) e
childless _ e = tt

abbrev are_childless : List (Bor (List ℕ) × Head) → Bool
are_childless [] = true
are_childless (row ∷ rows) = is_childless row.1 && are_childless rows

both : (a b : Bool) → (a && b) ≡ true → (a ≡ true) × (b ≡ true)
both true true e = (refl, refl)
both true false e = absurd cc
both false b e = absurd cc

either : (b : Bool) (h : Head) (r : Option Head) → is_childless h ≡ true → IfSome r IsChildless → IfSome (if b then Some h else r) IsChildless
either true h r e i = childless h e
either false h r e i = i

listed : (rows : List (Bor (List ℕ) × Head)) (word : List ℕ) → are_childless rows ≡ true → IfSome (table_value rows word) IsChildless
unfolding table_value
listed [] word a = tt
listed (row ∷ rows) word a = either (pointwise nat_eq row.0.now word) row.1 (table_value rows word) (both _ _ a).0 (listed rows word (both _ _ a).1)

found : (rows : List (Bor (List ℕ) × Head)) (word : List ℕ) (r : Option Head) → r ≡ table_value rows word → are_childless rows ≡ true → IfSome r IsChildless
found rows word r e a = subst (λ (o : Option Head). IfSome o IsChildless) (sym e) (listed rows word a)

pub returns-in-38 : goal.returns-in-38
returns-in-38 c = found _ _ _ c.listed-in-38.ensures refl

pub returns-in-117 : goal.returns-in-117
returns-in-117 c = found _ _ _ c.listed.ensures refl

pub returns-in-105 : goal.returns-in-105
returns-in-105 c = found _ _ _ c.listed-in-105.ensures refl

pub returns-in-102 : goal.returns-in-102
returns-in-102 c = found _ _ _ c.listed-in-102.ensures refl

pub returns-in-98 : goal.returns-in-98
returns-in-98 c = found _ _ _ c.listed-in-98.ensures refl
