-- The impls of a trait that may apply to a type, by what each is for.
use Rattle.std.specs.Prelude.{ℕ, Bool, true, false, Option, Some, None, List, [], if◌then◌else◌}
use Rattle.std.specs.List.{filter}
use Rattle.ir_trees.specs.declared.decl.contents.ImplId.{ImplId}
use Rattle.ir_trees.specs.declared.ir.heads.Head.{Head}
use Rattle.ir_trees.specs.declared.ir.heads.Head.TheVariants as H
use Rattle.ir_trees.specs.declared.ir.unify.RightSide.TheVariants as S
use Rattle.ir_trees.specs.Syntax.Trees.{Kind, ArgumentsKind, Forest, none, tree, Tree, is_type}
use Rattle.ir_trees.specs.Syntax.Nodes.{kind_at}
use Rattle.ir_trees.specs.Unification.Unify.{trees_may_unify}
use Rattle.ir_trees.specs.Declarations.Contents.{Impl}
use Rattle.ir_trees.specs.Declarations.Context.{Context}
use Rattle.ir_trees.specs.Declarations.Declaring.{trait_at, impl_at}
use Rattle.ir_trees.specs.Declarations.Lookups.{maybe}
use Rattle.ir_trees.specs.Syntax.Words.{args_forest}

abbrev pub first_type : Forest → Option Tree
first_type none = None
first_type (tree h below rest) = if is_type h then Some (record { head = h; children = below }) else None

abbrev pub listed_type : Kind → Forest → Option Tree
listed_type ArgumentsKind ts = first_type ts
listed_type _ ts = None

-- The type that an impl is for: the first of its header's arguments. There is none where these aren't a list that begins
-- with a type.
abbrev pub self_type : List Tree → Option Impl → Option Tree
self_type ts None = None
self_type ts (Some i) = listed_type (kind_at ts i.trait_ref.args.0) (args_forest ts i.trait_ref.args)

-- whether an impl for the second type may be one for the first, by quick rejection against a header
abbrev pub may_be_for : Tree → Option Tree → Bool
may_be_for t None = false
may_be_for t (Some u) = trees_may_unify S.Header t u

-- a parameter that is a type
abbrev pub is_type_param : Head → Bool
is_type_param (H.Param i) = true
is_type_param _ = false

abbrev pub is_for_parameter : Option Tree → Bool
is_for_parameter None = false
is_for_parameter (Some u) = is_type_param u.head

-- the impls of the trait, in the order of their declaration; of what is no trait there are none
abbrev pub impls_of : Context → ℕ → List ImplId
impls_of c i = maybe [] (λ t. t.impls) (trait_at c i)

-- The impls of the trait that may be for the type, and those for any type: the ones whose own type is a parameter.
abbrev pub is_relevant : Context → Tree → ImplId → Bool
is_relevant c t i = may_be_for t (self_type c.trees (impl_at c i))

abbrev pub is_blanket : Context → ImplId → Bool
is_blanket c i = is_for_parameter (self_type c.trees (impl_at c i))

abbrev pub relevant_impls : Context → ℕ → Tree → List ImplId
relevant_impls c i t = filter (is_relevant c t) (impls_of c i)

abbrev pub blanket_impls : Context → ℕ → List ImplId
blanket_impls c i = filter (is_blanket c) (impls_of c i)
