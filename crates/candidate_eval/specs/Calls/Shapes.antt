-- A view as the walk takes it: an item of a class, or trees to walk.
use Rattle.std.specs.Prelude.{◌≡◌, true, false, List}
use Rattle.ir_trees.specs.declared.ir.heads.Head.TheVariants as H
use Rattle.ir_trees.specs.declared.ir.kinds.Mutability.{Mutability}
use Rattle.ir_trees.specs.declared.ir.kinds.AdtId.{AdtId}
use Rattle.ir_trees.specs.declared.ir.kinds.Args.{Args}
use Rattle.ir_trees.specs.declared.ir.kinds.Ty.{Ty}
use Rattle.ir_trees.specs.Declarations.Context.{Context, world}
use Rattle.ir_trees.specs.Syntax.Trees.{none, tree, Tree, is_type}
use Rattle.ir_trees.specs.Syntax.Words.{IsTy, IsArgs, ty_tree, args_forest}
use Rattle.candidate_eval.specs.declared.coherence.table.Shape.{Shape}
use Rattle.candidate_eval.specs.declared.coherence.table.Shape.TheVariants as S
use Rattle.candidate_eval.specs.Knowability.Orphan.{CrateTest, InCrate, crate_test, is_local, is_fundamental}
use Rattle.candidate_eval.specs.Calls.Table.{table, is_walked}

-- The view is a reference to the type.
pub record IsReference (ts : List Tree) (view : Tree) (target : Ty) : Type 0 where
  pub sort : IsTy ts target
  pub mutability : Mutability
  pub lifetime : Tree
  pub is_no_type : is_type lifetime.head ≡ false
  pub is : view ≡ record { head = H.Ref mutability; children = tree lifetime.head lifetime.children (tree (ty_tree ts target).head (ty_tree ts target).children none) }

-- The view is a fundamental type with these arguments that the crate test doesn't take.
pub record IsFundamental (c : Context) (test : CrateTest) (view : Tree) (arguments : Args) : Type 0 where
  pub sort : IsArgs c.trees arguments
  pub adt : AdtId
  pub is : view ≡ record { head = H.Adt adt; children = args_forest c.trees arguments }
  pub is_foreign : is_local (world c) test adt.0 ≡ false
  pub fundamental : is_fundamental (world c) adt.0 ≡ true

abbrev pub IsShape : Context → InCrate → Tree → Shape → Type 0
IsShape c m t (S.Item k) = (is_walked (world c) (crate_test m c.local.0) t.head ≡ false) × (table (world c) (crate_test m c.local.0) m t.head t.children ≡ k)
IsShape c m t (S.Target u) = IsReference c.trees t u
IsShape c m t (S.Arguments a) = IsFundamental c (crate_test m c.local.0) t a
