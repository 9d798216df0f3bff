-- What goals are asked under is of the table that it was read into.
use Rattle.std.specs.Prelude.{◌≡◌, Bool, true, false, Option, Some, None, List, All, take}
use Rattle.ir_trees.specs.declared.ir.kinds.Ty.{Ty}
use Rattle.ir_trees.specs.Syntax.Trees.{Tree, is_alias}
use Rattle.ir_trees.specs.Syntax.Words.{IsTy, IsClause, ty_tree}
use Rattle.ir_trees.specs.Declarations.Context.{Context}
use Rattle.assembly_notation.specs.declared.given.Given.{Given}

-- Whether the type is an alias; of an alias in it nothing is said.
abbrev pub names_alias : List Tree → Ty → Bool
names_alias ts t = is_alias (ty_tree ts t).head

-- What is noted of the type, if anything, is whether it is an alias.
abbrev pub IsNoted : Option Bool → List Tree → Ty → Type 0
IsNoted None ts t = Unit {0}
IsNoted (Some b) ts t = names_alias ts t ≡ b

-- The first is an alias, and what it is normalised to is none; both are types of the table.
pub record IsNormalForm (ts : List Tree) (p : Ty × Ty) : Type 0 where
  pub sort : IsTy ts p.0
  pub alias : names_alias ts p.0 ≡ true
  pub ty : IsTy ts p.1
  pub no_alias : names_alias ts p.1 ≡ false

-- Each number that is kept is that of a node of its sort.
pub record GivenFits (ts : List Tree) (g : Given) : Type 0 where
  pub clauses : All (IsClause ts) g.clauses.items
  pub normal_forms : All (IsNormalForm ts) g.normal_forms.items

-- These nodes came with the declarations, so they are never taken back.
abbrev pub GivenIsDeclared : Context → Given → Type 0
GivenIsDeclared c g = GivenFits (take c.declared_nodes c.trees) g
