-- The lists of impls.
use Rattle.std.specs.Prelude.{◌≡◌, ℕ, ◌+◌, ◌||◌, Bool, Option, List, [], is_some, length, map, slice_get}
use Rattle.std.proofs.Common.{Vec, Global}
use Rattle.std.specs.List.{filter}
use Rattle.std.specs.Option.{option_map_or}
use Rattle.indexmap.specs.IndexMap.{IndexMap, get}
use Rattle.ir_trees.specs.declared.decl.contents.ImplId.{ImplId}
use Rattle.ir_trees.specs.declared.decl.heads.ImplList.{ImplList}
use Rattle.ir_trees.specs.contracts.decl.heads.ImplListPartialEq.TheImpl.{eq-value}
use Rattle.ir_trees.specs.declared.ir.classes.ImplClass.{ImplClass}
use Rattle.ir_trees.specs.contracts.ir.classes.ImplClassPartialEq.TheImpl.{eq-value as classes}
use Rattle.ir_trees.specs.declared.ir.classes.ImplClass.TheVariants as K
use Rattle.ir_trees.specs.declared.ir.heads.Head.{Head}
use Rattle.ir_trees.specs.Syntax.Trees.{Tree}
use Rattle.ir_trees.specs.Declarations.Contents.{TraitContents, Impl}
use Rattle.ir_trees.specs.Declarations.Context.{Context}
use Rattle.ir_trees.specs.Declarations.Lookups.{maybe}
use Rattle.ir_trees.specs.Unification.Impls.{impls_of, self_type}
use Rattle.ir_trees.specs.Unification.ImplClasses.{is_listed, joined, places, sought}

-- the equalities that classes and lists derive
abbrev pub same_class : ImplClass → ImplClass → Bool
same_class = classes.it

abbrev pub same_list : ImplList → ImplList → Bool
same_list = eq-value.it

-- what is in that list
abbrev pub listed_at : {S : Type 0} → IndexMap ImplList (Vec (ℕ × ImplId) Global) S → ImplList → List (ℕ × ImplId)
listed_at m l = option_map_or (λ v. v.items) (get same_list m l) []

-- whether the impl is listed there
abbrev pub impl_is_in : List Tree → List Impl → ImplClass → ImplId → Bool
impl_is_in ts impls k i = is_listed k (self_type ts (slice_get impls i.0))

-- the impls of a trait, by its place among the traits
abbrev pub own_impls : List TraitContents → ℕ → List ImplId
own_impls traits n = maybe [] (λ t. t.impls) (slice_get traits n)

-- those of some impls of a trait that are in a list, each with its place among them
abbrev pub listed_among : List Tree → List Impl → List ImplId → ImplList → List (ℕ × ImplId)
listed_among ts impls own l = places (impl_is_in ts impls l.class) 0 own

-- what is to be in a list: of the impls of its trait those of its class, in the order of their declaration
abbrev pub list_of : List Tree → List TraitContents → List Impl → ImplList → List (ℕ × ImplId)
list_of ts traits impls l = places (impl_is_in ts impls l.class) 0 (own_impls traits l.of)

-- Each list has just that. It is opaque, as few proofs need it.
unfoldable pub AreListed : {S : Type 0} → IndexMap ImplList (Vec (ℕ × ImplId) Global) S → List Tree → List TraitContents → List Impl → Type 0
AreListed m ts traits impls = (l : ImplList) → listed_at m l ≡ list_of ts traits impls l

-- the impls of the trait of that class
abbrev pub class_impls : Context → ℕ → ImplClass → List ImplId
class_impls c i k = filter (impl_is_in c.trees c.contents.impls k) (impls_of c i)

-- what is listed there, and what is listed for open types, joined
abbrev pub both_lists : Context → ℕ → ImplClass → List ImplId
both_lists c i k =
    let listed : ImplClass → List (ℕ × ImplId) = λ j. places (impl_is_in c.trees c.contents.impls j) 0 (impls_of c i) in
    map (λ (x : ℕ × ImplId). x.1) (joined (listed k) (listed K.Open))

-- An impl for the type may be for one with the head: the type is listed by what is sought for the head, or for open types. Where nothing is
-- sought, each impl for a type may be.
abbrev pub may_have_head : Head → Option Tree → Bool
may_have_head h o = option_map_or (λ k. is_listed k o || is_listed K.Open o) (sought h) (is_some o)

-- the impls of the trait that are for types with the head
abbrev pub head_impls : Context → ℕ → Head → List ImplId
head_impls c i h = filter (λ (n : ImplId). may_have_head h (self_type c.trees (slice_get c.contents.impls n.0))) (impls_of c i)

-- How many tests the impls that may be for a type are found with: one for each impl in the two lists that are joined, and none
-- where all impls of the trait are.
abbrev pub tests : Context → ℕ → Tree → ℕ
tests c i t = option_map_or (λ k. length (class_impls c i k) + length (class_impls c i K.Open)) (sought t.head) 0
