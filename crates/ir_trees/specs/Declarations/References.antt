-- The references of a context, and what it is that its trees fit the declarations.
use Rattle.std.specs.Prelude.{◌≡◌, false, Some, List, [], ◌∷◌}
use Rattle.ir_trees.specs.declared.ir.kinds.TraitRef.{TraitRef}
use Rattle.ir_trees.specs.Syntax.Trees.{TypeKind, none, Tree, row, is_list}
use Rattle.ir_trees.specs.Declarations.Worlds.{World, Reference, Fits, IsOf, TraitSort, child_kinds, joined, kinds_of, parameters}
use Rattle.ir_trees.specs.Declarations.Context.{Context, world}
use Rattle.ir_trees.specs.Syntax.Words.{args_forest}

-- The trait and the trees of the arguments.
abbrev pub reference_of : List Tree → TraitRef → Reference
reference_of ts r = record { trait = r.def_id.0; arguments = args_forest ts r.args }

-- The reference is one of the world that the context declares.
abbrev pub IsReference : Context → TraitRef → Type 0
IsReference c r = IsOf (world c) (reference_of c.trees r)

-- The arguments are those that the trait takes: a type, and then one of the kind of each of its parameters.
abbrev pub ArgumentsFit : Context → TraitRef → Type 0
ArgumentsFit c r = joined (Some (TypeKind ∷ [])) (parameters (world c) TraitSort r.def_id.0) ≡ Some (kinds_of (args_forest c.trees r.args))

-- The tree's children are those that its head takes; a list takes any.
abbrev pub Takes : World → Tree → Type 0
Takes w t = is_list t.head ≡ false → child_kinds w t.head (kinds_of t.children) ≡ Some (kinds_of t.children)

abbrev pub AllTake : World → List Tree → Type 0
AllTake w [] = Unit {0}
AllTake w (t ∷ ts) = Takes w t × AllTake w ts

-- The tree fits the world; of a list, its members do.
abbrev pub FitsAmong : World → Tree → Type 0
FitsAmong w t = Fits w (row t none)

abbrev pub AllFit : World → List Tree → Type 0
AllFit w [] = Unit {0}
AllFit w (t ∷ ts) = FitsAmong w t × AllFit w ts

-- All trees of the context fit what it declares.
abbrev pub IsWellFormed : Context → Type 0
IsWellFormed c = AllFit (world c) c.trees
