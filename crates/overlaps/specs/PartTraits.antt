-- Traits of which a goal may rest on an impl of an auto trait: those that lead to one, or to unsizing.
--
-- A trait leads to another one if a goal of it may be proved or refused by rules that ask for a goal of the other: what it declares, its impls
-- declare or its associated types are bound by says something of the other, or the language's rule of it asks for the other.
use Rattle.std.specs.Prelude.{◌≡◌, ◌⊎◌, ◌<◌, ◌++◌, ◌||◌, ℕ, Bool, false, true, Option, None, Some, List, [], slice_index_or}
use Rattle.std.specs.List.{Contains}
use Rattle.ir_trees.specs.declared.decl.contents.ImplId.{ImplId}
use Rattle.ir_trees.specs.declared.decl.contents.LangItem.{LangItem}
use Rattle.ir_trees.specs.declared.decl.contents.LangItem.TheVariants as item
use Rattle.ir_trees.specs.declared.decl.definition.TraitFlags.{TraitFlags}
use Rattle.ir_trees.specs.declared.ir.heads.ClauseHead.TheVariants as Cl
use Rattle.ir_trees.specs.declared.ir.heads.ConstHead.TheVariants as C
use Rattle.ir_trees.specs.declared.ir.heads.Flag.TheVariants as flag
use Rattle.ir_trees.specs.declared.ir.heads.Head.{Head}
use Rattle.ir_trees.specs.declared.ir.heads.Head.TheVariants as H
use Rattle.ir_trees.specs.declared.ir.heads.PartHead.TheVariants as P
use Rattle.ir_trees.specs.declared.ir.kinds.AssocId.{AssocId}
use Rattle.ir_trees.specs.declared.ir.kinds.Clause.{Clause}
use Rattle.ir_trees.specs.declared.ir.kinds.TraitId.{TraitId}
use Rattle.ir_trees.specs.Declarations.Context.{Context, Grows}
use Rattle.ir_trees.specs.Declarations.Contents.{Impl}
use Rattle.ir_trees.specs.Declarations.Declaring.{bounds_at, impl_at, item_number, trait_at}
use Rattle.ir_trees.specs.Declarations.Lookups.{assoc_trait, definition, maybe, trait_flags}
use Rattle.ir_trees.specs.Syntax.Flags.{mark}
use Rattle.ir_trees.specs.Syntax.Trees.{Forest, tree, Tree, holds, is_alias, skip}
use Rattle.ir_trees.specs.Syntax.Words.{args_forest, clause_tree}
use Rattle.candidate_eval.specs.Dynamic.ObjectRequirements.{first_tree}

-- the trait of which a clause with the head says something, or of whose associated type it says what that is
abbrev pub trait_spoken_of : Context → Head → Option TraitId
trait_spoken_of c (H.Part (P.Clause (Cl.Trait t p))) = Some t
trait_spoken_of c (H.Part (P.Clause (Cl.Projection i))) = assoc_trait (definition c i.0)
trait_spoken_of c _ = None

-- One of these is so.
abbrev pub One : {A : Type 0} → List A → (A → Type 0) → Type 0
One {A} xs Q = (x : A) × Contains xs x × Q x

-- One of the clauses speaks of the trait.
abbrev pub IsSaid : Context → List Clause → TraitId → Type 0
IsSaid c xs t = One xs (λ x. trait_spoken_of c (clause_tree c.trees x).head ≡ Some t)

-- the super clauses, where clauses, associated types and impls of a trait, the where clauses of an impl, and the bounds of an associated type

abbrev pub supers_at : Context → TraitId → List Clause
supers_at c t = maybe [] (λ a. a.supers) (trait_at c t.0)

abbrev pub trait_wheres_at : Context → TraitId → List Clause
trait_wheres_at c t = maybe [] (λ a. a.wheres) (trait_at c t.0)

abbrev pub items_at : Context → TraitId → List AssocId
items_at c t = maybe [] (λ a. a.items) (trait_at c t.0)

abbrev pub impls_at : Context → TraitId → List ImplId
impls_at c t = maybe [] (λ a. a.impls) (trait_at c t.0)

abbrev pub wheres_at : Context → ImplId → List Clause
wheres_at c i = maybe [] (λ a. a.wheres) (impl_at c i)

abbrev pub self_bounds_at : Context → AssocId → List Clause
self_bounds_at c i = maybe [] (λ b. b.self_bounds) (bounds_at c i.0)

abbrev pub non_self_bounds_at : Context → AssocId → List Clause
non_self_bounds_at c i = maybe [] (λ b. b.non_self_bounds) (bounds_at c i.0)

-- A bound of the associated type speaks of the trait; one of a trait's associated types does; and a where clause of one of its impls does.

abbrev pub IsSaidOfItem : Context → AssocId → TraitId → Type 0
IsSaidOfItem c i t = IsSaid c (self_bounds_at c i) t ⊎ IsSaid c (non_self_bounds_at c i) t

abbrev pub IsSaidOfItems : Context → TraitId → TraitId → Type 0
IsSaidOfItems c s t = One (items_at c s) (λ i. IsSaidOfItem c i t)

abbrev pub IsSaidByImpl : Context → TraitId → TraitId → Type 0
IsSaidByImpl c s t = One (impls_at c s) (λ i. IsSaid c (wheres_at c i) t)

-- the trait is the lang item
abbrev pub IsItem : Context → LangItem → TraitId → Type 0
IsItem c i t = slice_index_or c.contents.lang_items (item_number i) None ≡ Some t

-- The language's rule of the first item asks for the second one: what is called has a sized output, and what isn't dropped is `Copy`. Besides, rules ask
-- for their own trait.
pub data Asks : LangItem → LangItem → Type 0 where
  by_fn : Asks item.Fn item.Sized
  by_fn_mut : Asks item.FnMut item.Sized
  by_fn_once : Asks item.FnOnce item.Sized
  by_no_drop : Asks item.BikeshedGuaranteedNoDrop item.Copy

pub record IsAskedByLanguage (c : Context) (s t : TraitId) : Type 0 where
  pub of : LangItem
  pub asked : LangItem
  pub asks : Asks of asked
  pub of_is : IsItem c of s
  pub asked_is : IsItem c asked t

-- The first trait leads to the other one at once: by a super clause, by a where clause, as an alias asks for it, by a bound of an associated type, as
-- objects ask for it, by a where clause of an impl, or by the language's rule.
pub data IsNext (c : Context) (s t : TraitId) : Type 0 where
  by_super : IsSaid c (supers_at c s) t → IsNext c s t
  by_where : IsSaid c (trait_wheres_at c s) t → IsNext c s t
  by_bound : IsSaidOfItems c s t → IsNext c s t
  by_impl : IsSaidByImpl c s t → IsNext c s t
  by_language : IsAskedByLanguage c s t → IsNext c s t

-- It does so, step by step.
pub data LeadsTo (c : Context) (of : TraitId) : TraitId → Type 0 where
  itself : LeadsTo c of of
  further : {s t : TraitId} → LeadsTo c of s → IsNext c s t → LeadsTo c of t

-- An auto trait of which there is such an impl, which doesn't bar each type with the head of the impl's own.
pub record IsAutoWith (c : Context) (Q : ImplId → Type 0) (t : TraitId) : Type 0 where
  pub flags : TraitFlags
  pub is : trait_flags (definition c t.0) ≡ Some flags
  pub auto : flags.auto ≡ true
  pub by_type : flags.by_head ≡ false
  pub impl_of : ImplId
  pub listed : Contains (impls_at c t) impl_of
  pub such : Q impl_of

-- The trait leads to such an auto trait, or to unsizing, by which a goal may lead to each auto trait that the target's bounds name.
pub record LeadsToAutoWith (c : Context) (Q : ImplId → Type 0) (of : TraitId) : Type 0 where
  pub trait : TraitId
  pub leads : LeadsTo c of trait
  pub rests : IsItem c item.Unsize trait ⊎ IsAutoWith c Q trait

-- By any impl: a goal of the trait may rest on one.
abbrev pub MayRestOnPart : Context → TraitId → Type 0
MayRestOnPart c of = LeadsToAutoWith c (λ i. Unit {0}) of

-- a parameter, or a region
abbrev pub is_parameter : Head → Bool
is_parameter (H.Param n) = true
is_parameter (H.Const (C.Param n)) = true
is_parameter (H.Region r) = true
is_parameter _ = false

-- The tree stands at that place of a row.
abbrev pub StandsAt : Tree → ℕ → Forest → Type 0
StandsAt t place ts = (rest : Forest) × (skip place ts ≡ tree t.head t.children rest)

-- The type is no whole of the types with its head: it is an alias, or something that is no parameter and no region stands below its head, or one of them
-- does so twice.
pub data IsPart (t : Tree) : Type 0 where
  is_an_alias : is_alias t.head ≡ true → IsPart t
  has_another : (place : ℕ) (x : Tree) → StandsAt x place t.children → is_parameter x.head ≡ false → IsPart t
  has_one_twice : (m n : ℕ) (x : Tree) → m < n → StandsAt x m t.children → StandsAt x n t.children → IsPart t

-- The impl is for a part of the types with a head.
pub record IsForPart (c : Context) (of : ImplId) : Type 0 where
  pub declared : Impl
  pub is : impl_at c of ≡ Some declared
  pub part : IsPart (first_tree (args_forest c.trees declared.trait_ref.args))

-- By an impl for a part: what a goal of the trait comes to may be otherwise for some of its instances.
abbrev pub RestsOnPart : Context → TraitId → Type 0
RestsOnPart c of = LeadsToAutoWith c (IsForPart c) of

-- It is on no part, as a context has it that comes after.
pub record RestsOnNoPart (c : Context) (of : TraitId) : Type 0 where
  pub later : Context
  pub grows : Grows c later
  pub never : RestsOnPart later of → ⊥

-- a variable of types or of constants stands in the trees
abbrev pub HaveVariable : Forest → Type 0
HaveVariable ts = holds (mark flag.TyInfer) ts || holds (mark flag.ConstInfer) ts ≡ true

-- What a goal of the trait with these arguments comes to is so of its instances, as far as auto traits go: no variable stands in it, or it rests on no
-- part.
abbrev pub IsOfInstances : Context → TraitId → Forest → Type 0
IsOfInstances c of arguments = HaveVariable arguments → RestsOnNoPart c of

-- The clause speaks of no trait that rests on a part.
abbrev pub SpeaksOfNoPart : Context → Tree → Type 0
SpeaksOfNoPart c clause = (t : TraitId) → trait_spoken_of c clause.head ≡ Some t → RestsOnNoPart c t

-- To a list of traits those with the property were added, and no others.
pub record Adds (Q : TraitId → Type 0) (xs ys : List TraitId) : Type 0 where
  pub more : List TraitId
  pub begins : ys ≡ xs ++ more
  pub only : (t : TraitId) → Contains ys t → Contains xs t ⊎ Q t
  pub all : (t : TraitId) → Q t → Contains ys t
