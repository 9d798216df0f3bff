-- What the words of types say.
use Rattle.std.specs.Prelude.{◌≡◌, []}
use Rattle.ir_trees.specs.declared.ir.kinds.TyKind.{TyKind}
use Rattle.ir_trees.specs.Syntax.Kinds.{ty_children}
use Rattle.assembly_notation.specs.declared.notation.Head.{Head}
use Rattle.assembly_notation.specs.declared.notation.Head.TheVariants.{Leaf}

-- A type without children.
abbrev pub IsLeaf : TyKind → Type 0
IsLeaf kind = ty_children kind ≡ []

-- A word that is a whole type is such a one.
abbrev pub IsChildless : Head → Type 0
IsChildless (Leaf kind) = IsLeaf kind
IsChildless _ = Unit {0}
