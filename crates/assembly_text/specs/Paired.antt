-- With which impls `check` asks about an impl: with each later one of its trait, but for those with which it can't overlap.
use Rattle.std.specs.Prelude.{◌≡◌, ◌<◌, ◌==◌, ◌||◌, ◌&&◌, nat_lt, ◌++◌, ◌∷◌, [], ℕ, zero, suc, Bool, false, Option, Some, None, List, ◌⊎◌, All, map, if◌then◌else◌}
use Rattle.std.specs.BTreeMap.{BTreeMap, get}
use Rattle.std.specs.List.{Contains}
use Rattle.std.specs.List.Sorted.{IsStrictlyIncreasing}
use Rattle.std.specs.Option.{option_map_or}
use Rattle.std.specs.Ordering.{nat_cmp}
use Rattle.std.proofs.Common.{Vec, Global}
use Rattle.ir_trees.specs.declared.decl.contents.ImplId.{ImplId}
use Rattle.ir_trees.specs.declared.ir.kinds.TraitId.{TraitId}
use Rattle.ir_trees.specs.declared.ir.kinds.TraitRef.{TraitRef}
use Rattle.ir_trees.specs.declared.ir.kinds.VarKind.{VarKind}
use Rattle.ir_trees.specs.declared.ir.unify.RightSide.TheVariants.{Header}
use Rattle.ir_trees.specs.Declarations.Contents.{Impl}
use Rattle.ir_trees.specs.Declarations.Context.{Context, Grows, parameter_kind}
use Rattle.ir_trees.specs.Declarations.Declaring.{impl_at}
use Rattle.ir_trees.specs.Declarations.Lookups.{maybe}
use Rattle.ir_trees.specs.Instantiation.Folding.{substituted}
use Rattle.ir_trees.specs.Syntax.Nodes.{rows}
use Rattle.ir_trees.specs.Syntax.Trees.{Forest, Tree, holds, is_alias}
use Rattle.ir_trees.specs.Syntax.Words.{args_forest}
use Rattle.ir_trees.specs.Unification.Unify.{NoCommonInstance, may_unify}
use Rattle.ir_trees.specs.Validity.WellFormed.{IsWellFormedTable}
use Rattle.candidate_eval.specs.Judges.States.{variable, variable_kind}
use Rattle.candidate_assembly.specs.Answers.KnownImpls.{header_of}
use Rattle.assembly_text.specs.declared.checking.ImplsWithAliases.{ImplsWithAliases}

-- a variable for each parameter of these kinds, of its kind, numbered from that number on
abbrev pub variables_for : ℕ → List VarKind → List Tree
variables_for n [] = []
variables_for n (k ∷ ks) = variable (variable_kind (parameter_kind k)) n ∷ variables_for (suc n) ks

-- the arguments of the impl's header, with a variable in the place of each parameter
abbrev pub open_header : Context → Impl → Forest
open_header c i = substituted (rows (variables_for 0 i.parameters)) 0 (header_of c i)

-- whether an alias stands in the header of the impl
abbrev pub has_alias : Context → Impl → Bool
has_alias c i = holds is_alias (header_of c i)

-- The two impls can't overlap, by their headers: no alias stands in either, and they have no common instance, whatever stands in the place of
-- the parameters of either.
pub record CannotOverlap (c : Context) (i j : Impl) : Type 0 where
  pub no_alias : has_alias c i || has_alias c j ≡ false
  pub apart : NoCommonInstance Header (open_header c i) (header_of c j)

-- Those are the impls of these numbers; the second one comes after the first, and is of the same trait.
pub record AreInOrder (c : Context) (a b : ImplId) (i j : Impl) : Type 0 where
  pub first : impl_at c a ≡ Some i
  pub second : impl_at c b ≡ Some j
  pub later : a.0 < b.0
  pub same_trait : j.trait_ref.def_id ≡ i.trait_ref.def_id

-- whether the last one comes after the first and is of the trait
abbrev pub is_later_of : Context → ImplId → TraitId → ImplId → Bool
is_later_of c a t b = maybe false (λ j. nat_lt a.0 b.0 && (j.trait_ref.def_id.0 == t.0)) (impl_at c b)

-- whether an alias, in the first header or in that of the impl, or quick rejection leaves it open that the headers are equal
abbrev pub may_meet : Context → Bool → Forest → ImplId → Bool
may_meet c aliased header b = maybe false (λ j. aliased || (has_alias c j || may_unify Header header (header_of c j))) (impl_at c b)

-- whether the pair is asked about: the last one comes after the first, is of the reference's trait, and may meet that reference
abbrev pub is_asked_with : Context → ImplId → TraitRef → Bool → ImplId → Bool
is_asked_with c a t aliased b = is_later_of c a t.def_id b && may_meet c aliased (args_forest c.trees t.args) b

-- a later impl of the impl's trait
abbrev pub IsLater : Context → ImplId → ImplId → Type 0
IsLater c a b = (i : Impl) × (j : Impl) × AreInOrder c a b i j

-- Each later impl of the impl's trait, with a number below that one, is among these, or can't overlap with it.
abbrev pub HasAllThatMayOverlap : Context → ℕ → ImplId → List ImplId → Type 0
HasAllThatMayOverlap c number a others = (b : ImplId) (i j : Impl) → AreInOrder c a b i j → b.0 < number → Contains others b ⊎ CannotOverlap c i j

-- The impl is paired with no others than later impls of its trait, each once and in their order, and with all that may overlap with it.
pub record IsPairedWithAll (c : Context) (number : ℕ) (a : ImplId) (others : List ImplId) : Type 0 where
  pub in_order : IsStrictlyIncreasing (map (λ (b : ImplId). b.0) others)
  pub are_later : All (IsLater c a) others
  pub are_all : HasAllThatMayOverlap c number a others

-- the same by a context that comes after
abbrev pub IsPairedHere : Context → ℕ → ImplId → List ImplId → Type 0
IsPairedHere first number a others = (c : Context) × Grows first c × IsPairedWithAll c number a others

-- The reference is the header of the impl of that number, with a variable in the place of each parameter.
pub record IsOpenHeader (c : Context) (a : ImplId) (t : TraitRef) : Type 0 where
  pub by : Impl
  pub is : impl_at c a ≡ Some by
  pub of_trait : t.def_id ≡ by.trait_ref.def_id
  pub header : args_forest c.trees t.args ≡ open_header c by

-- the trait of the impl, if an alias stands in its header
abbrev pub trait_with_alias : Context → ImplId → Option TraitId
trait_with_alias c n = maybe None (λ i. if has_alias c i then Some i.trait_ref.def_id else None) (impl_at c n)

-- whether that is this trait
abbrev pub is_trait : ℕ → Option TraitId → Bool
is_trait t o = maybe false (λ (d : TraitId). d.0 == t) o

-- the impl, if it is to be added
abbrev pub one_if : Bool → ImplId → List ImplId
one_if b n = if b then n ∷ [] else []

-- the impls of the trait with numbers below that one in whose headers an alias stands, in order
abbrev pub with_aliases_below : Context → ℕ → ℕ → List ImplId
with_aliases_below c t zero = []
with_aliases_below c t (suc n) = with_aliases_below c t n ++ one_if (is_trait t (trait_with_alias c (record { 0 = n }))) (record { 0 = n })

-- what the map has of the trait
abbrev pub listed_of : BTreeMap ℕ (Vec ImplId Global) → ℕ → List ImplId
listed_of m t = option_map_or (λ (v : Vec ImplId Global). v.items) (get nat_cmp m t) []

-- It has those of each trait, as they were declared in a context before.
pub record HasImplsWithAliases (now : Context) (found : ImplsWithAliases) : Type 0 where
  pub context : Context
  pub grows : Grows context now
  pub well_formed : IsWellFormedTable context
  pub of_each : (t : ℕ) → listed_of found.of t ≡ with_aliases_below context t found.number
