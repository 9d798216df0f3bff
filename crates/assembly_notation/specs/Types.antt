-- What the first words of bounds make of those that follow.
use Rattle.assembly_notation.specs.declared.types.BoundHead.{BoundHead}
use Rattle.assembly_notation.specs.declared.types.BoundHead.TheVariants.{Trait}

-- The bound is by an auto trait or an associated type.
abbrev pub IsNoPrincipal : BoundHead → Type 0
IsNoPrincipal (Trait _ _) = ⊥
IsNoPrincipal _ = Unit {0}
