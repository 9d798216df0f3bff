-- What is read of an impl, and what its rule does for a row of arguments.
use Rattle.std.specs.Prelude.{◌≡◌, Some, List, [], map}
use Rattle.ir_trees.specs.declared.decl.contents.ImplId.{ImplId}
use Rattle.ir_trees.specs.Declarations.Context.{Context, parameter_kind}
use Rattle.ir_trees.specs.Declarations.Contents.{Impl}
use Rattle.ir_trees.specs.Declarations.Declaring.{impl_at}
use Rattle.ir_trees.specs.Declarations.Lookups.{maybe}
use Rattle.ir_trees.specs.Instantiation.Owned.{ImplIsOwned}
use Rattle.ir_trees.specs.Syntax.Trees.{Kind, Forest}
use Rattle.ir_trees.specs.Validity.WellFormed.{ImplIsGiven}
use Rattle.candidate_eval.specs.Derivations.ImplRules.{impl_steps}
use Rattle.candidate_eval.specs.Derivations.Rules.{Step}
use Rattle.candidate_assembly.specs.declared.trait_goals.impls.DeclaredImpl.{DeclaredImpl}

-- the kinds of an impl's parameters; of what is no impl there are none
abbrev pub impl_kinds : Context → ImplId → List Kind
impl_kinds c n = map parameter_kind (maybe [] (λ (i : Impl). i.parameters) (impl_at c n))

-- All that an impl's rule does; of what is no impl there is nothing to do.
abbrev pub steps_at : Context → Forest → ImplId → List Step
steps_at c a n = maybe [] (impl_steps c.trees a) (impl_at c n)

-- It was read of the impl of that number, whose parameters have these arguments.
pub record IsDeclared (c : Context) (n : ImplId) (args : Forest) (d : DeclaredImpl) : Type 0 where
  pub by : Impl
  pub is : impl_at c n ≡ Some by
  pub given : ImplIsGiven c by
  pub owned : ImplIsOwned c.trees args by
  pub of_trait : d.def_id ≡ by.trait_ref.def_id
  pub header : d.header ≡ by.trait_ref.args
  pub wheres : d.wheres.items ≡ by.wheres
  pub super_outlives : d.super_outlives.items ≡ by.super_outlives
