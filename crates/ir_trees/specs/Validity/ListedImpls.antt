-- Whether declared impls stand in the lists of their traits.
use Rattle.std.specs.Prelude.{◌≡◌, ℕ, Bool, false, Some, List, [], slice_get}
use Rattle.std.specs.List.{Contains}
use Rattle.ir_trees.specs.declared.decl.contents.ImplId.{ImplId}
use Rattle.ir_trees.specs.Declarations.Declaration.{Declaration}
use Rattle.ir_trees.specs.Declarations.Declaring.{place, trait_place}
use Rattle.ir_trees.specs.Declarations.Contents.{TraitContents, Impl}
use Rattle.ir_trees.specs.Declarations.Lookups.{maybe}

-- the impls of the trait with that number; of what is no trait there are none
abbrev pub impls_among : List Declaration → List TraitContents → ℕ → List ImplId
impls_among ds traits i = maybe [] (λ t. t.impls) (slice_get traits (place trait_place ds i))

-- Each impl stands in the list of its trait.
abbrev pub EachIsListed : List Declaration → List TraitContents → List Impl → Type 0
EachIsListed ds traits impls = (n : ImplId) (i : Impl) → slice_get impls n.0 ≡ Some i → Contains (impls_among ds traits i.trait_ref.def_id.0) n

-- That is so unless a call has misnamed something. It is opaque, as few proofs need to see into it.
unfoldable pub ListsImpls : List Declaration → List TraitContents → List Impl → Bool → Type 0
ListsImpls ds traits impls misnamed = misnamed ≡ false → EachIsListed ds traits impls
