-- What is declared, where arguments are given for its parameters.
use Rattle.std.specs.Prelude.{◌≡◌, ℕ, Bool, true, false, Option, Some, None, List, All}
use Rattle.ir_trees.specs.declared.ir.heads.Head.{Head}
use Rattle.ir_trees.specs.declared.ir.kinds.AliasTy.{AliasTy}
use Rattle.ir_trees.specs.declared.ir.kinds.Clause.{Clause}
use Rattle.ir_trees.specs.declared.decl.contents.AliasBoundKind.{AliasBoundKind}
use Rattle.ir_trees.specs.declared.decl.contents.AliasBoundKind.TheVariants as K
use Rattle.ir_trees.specs.Declarations.Contents.{Bounds, Impl}
use Rattle.ir_trees.specs.Declarations.Context.{Context, world}
use Rattle.ir_trees.specs.Instantiation.Folding.{lacks_argument}
use Rattle.ir_trees.specs.Syntax.Trees.{Forest, Tree, holds, tree_holds, variable_number}
use Rattle.ir_trees.specs.Syntax.Binders.{tree_escapes}
use Rattle.ir_trees.specs.Syntax.Words.{ClauseListFits, args_forest, clause_tree, ty_tree}
use Rattle.ir_trees.specs.Validity.WellFormed.{TypesFit, types_of_values}
use Rattle.ir_trees.specs.declared.ir.kinds.Ty.{Ty}
use Rattle.ir_trees.specs.Declarations.Worlds.{alias_kinds, kinds_of}

abbrev pub is_numbered : Option ℕ → Bool
is_numbered None = false
is_numbered (Some n) = true

-- a variable to be solved
abbrev pub is_unsolved : Head → Bool
is_unsolved h = is_numbered (variable_number h)

-- The clauses are of the context. Each parameter in them has an argument of its kind, and no variable stands in them.
pub record ClausesAreOwned (ts : List Tree) (args : Forest) (xs : List Clause) : Type 0 where
  pub fit : ClauseListFits ts xs
  pub have : All (λ x. tree_holds (lacks_argument args) (clause_tree ts x) ≡ false) xs
  pub closed : All (λ x. tree_holds is_unsolved (clause_tree ts x) ≡ false) xs

-- The same of types; and no bound variable escapes from them.
pub record TypesAreOwned (ts : List Tree) (args : Forest) (xs : List Ty) : Type 0 where
  pub fit : TypesFit ts xs
  pub have : All (λ x. tree_holds (lacks_argument args) (ty_tree ts x) ≡ false) xs
  pub closed : All (λ x. tree_holds is_unsolved (ty_tree ts x) ≡ false) xs
  pub bound : All (λ x. tree_escapes 0 (ty_tree ts x) ≡ false) xs

-- The same of an impl's header, of its clauses and of what associated types are.
pub record ImplIsOwned (ts : List Tree) (args : Forest) (x : Impl) : Type 0 where
  pub have : holds (lacks_argument args) (args_forest ts x.trait_ref.args) ≡ false
  pub closed : holds is_unsolved (args_forest ts x.trait_ref.args) ≡ false
  pub wheres : ClausesAreOwned ts args x.wheres
  pub super_outlives : ClausesAreOwned ts args x.super_outlives
  pub values : TypesAreOwned ts args (types_of_values x.values)

abbrev pub bounds_among : AliasBoundKind → Bounds → List Clause
bounds_among K.SelfBounds b = b.self_bounds
bounds_among K.NonSelfBounds b = b.non_self_bounds

-- The arguments are those that the alias takes.
abbrev pub AliasArgumentsFit : Context → AliasTy → Type 0
AliasArgumentsFit c a = alias_kinds (world c) a.kind a.id.0 ≡ Some (kinds_of (args_forest c.trees a.args))
