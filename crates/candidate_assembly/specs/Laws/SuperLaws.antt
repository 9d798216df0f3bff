-- What a clause names is given, and a tree fits. Arguments of a context fit.
use Rattle.std.proofs.Common.{◌≡◌, Some, List, [], ◌∷◌}
use Rattle.std.specs.Prelude.{IfSome}
use Rattle.ir_trees.specs.declared.ir.heads.Head.{Head}
use Rattle.ir_trees.specs.declared.ir.heads.PartHead.TheVariants as P
use Rattle.ir_trees.specs.declared.ir.kinds.Args.{Args}
use Rattle.ir_trees.specs.Declarations.Context.{Context, world}
use Rattle.ir_trees.specs.Hierarchy.Elaboration.{trait_of}
use Rattle.ir_trees.specs.Syntax.Trees.{Tree}
use Rattle.ir_trees.specs.Validity.WellFormed.{IsWellFormedTable}
use Rattle.ir_trees.specs.Syntax.Words.{IsArgs, args_forest}
use Rattle.ir_trees.specs.Declarations.Worlds.{Fits, World, child_kinds, kinds_of}
use Rattle.ir_trees.proofs.Kinding.References.{args-fit}
use Rattle.candidate_assembly.specs.Laws.BuiltinLaws.{nodes_fit}
use Rattle.candidate_assembly.specs.Laws.Given.{TraitIsGiven}

-- of each tree in a list
abbrev pub Each : (Tree → Type 0) → List Tree → Type 0
Each P [] = Unit {0}
Each P (t ∷ ts) = P t × Each P ts

-- What the trait that a clause speaks of holds is given.

abbrev pub NamesGiven : Context → Head → Type 0
NamesGiven c h = IfSome (trait_of h) (TraitIsGiven c)

abbrev pub IsNamed : Context → Tree → Type 0
IsNamed c t = NamesGiven c t.head

abbrev pub NameGiven : Context → List Tree → Type 0
NameGiven c ts = Each (IsNamed c) ts

-- The bounds of a type that fits take the children that they have.

abbrev pub TakesThem : World → Tree → Type 0
TakesThem w t = child_kinds w t.head (kinds_of t.children) ≡ Some (kinds_of t.children)

abbrev pub TakeTheirs : World → List Tree → Type 0
TakeTheirs w ts = Each (TakesThem w) ts

-- A tree takes the children that it has, and these fit.

pub record IsFitting (w : World) (t : Tree) : Type 0 where
  pub takes : TakesThem w t
  pub below : Fits w t.children

pub arguments_fit : (c : Context) → IsWellFormedTable c → (a : Args) → IsArgs c.trees a → Fits (world c) (args_forest c.trees a)
arguments_fit c t a i = args-fit c a (nodes_fit c t) i
