-- What a type has to fulfil so as to be an object of a trait, and what the bounds of the object's type say of it as clauses.
use Rattle.std.specs.Prelude.{◌≡◌, ℕ, Bool, true, false, not, ◌&&◌, Option, Some, List, [], ◌∷◌, ◌++◌, map, if◌then◌else◌}
use Rattle.std.specs.List.{filter, flat_map}
use Rattle.ir_trees.specs.declared.ir.heads.Head.{Head}
use Rattle.ir_trees.specs.declared.ir.heads.Head.TheVariants as H
use Rattle.ir_trees.specs.declared.ir.heads.PartHead.TheVariants as P
use Rattle.ir_trees.specs.declared.ir.heads.PredHead.TheVariants as PH
use Rattle.ir_trees.specs.declared.ir.heads.ClauseHead.TheVariants as Cl
use Rattle.ir_trees.specs.declared.ir.kinds.Args.{Args}
use Rattle.ir_trees.specs.declared.ir.kinds.AssocId.{AssocId}
use Rattle.ir_trees.specs.declared.ir.kinds.Binder.{Binder}
use Rattle.ir_trees.specs.declared.ir.kinds.Clause.{Clause}
use Rattle.ir_trees.specs.declared.ir.kinds.ExistentialPredicate.{ExistentialPredicate}
use Rattle.ir_trees.specs.declared.ir.kinds.ExistentialPredicate.TheVariants as E
use Rattle.ir_trees.specs.declared.ir.kinds.ExistentialProjection.{ExistentialProjection}
use Rattle.ir_trees.specs.declared.decl.definition.AssocKind.{AssocKind}
use Rattle.ir_trees.specs.declared.decl.definition.AssocKind.TheVariants as A
use Rattle.ir_trees.specs.Syntax.Trees.{Forest, none, tree, Tree, tree_holds}
use Rattle.ir_trees.specs.Declarations.Context.{Context}
use Rattle.ir_trees.specs.Declarations.Declaring.{bounds_at, trait_at}
use Rattle.ir_trees.specs.Hierarchy.Elaboration.{IsElaboration, first_children, super_clauses}
use Rattle.ir_trees.specs.Instantiation.Folding.{lacks_argument, substituted_tree}
use Rattle.ir_trees.specs.Declarations.Lookups.{assoc_kind, definition, maybe, requires_sized_self}
use Rattle.ir_trees.specs.Hierarchy.Supers.{after_first, supers_at}
use Rattle.ir_trees.specs.Syntax.Words.{args_forest, clause_tree}
use Rattle.candidate_eval.specs.declared.objects.required.Declared.{Declared}
use Rattle.candidate_eval.specs.declared.objects.required.Declared.TheVariants as D

-- The object's own bounds. One of them may say which type an associated type of the object is: a projection bound.

abbrev pub is_projection_bound : Head → Bool
is_projection_bound (H.Part (P.Pred (PH.Projection i))) = true
is_projection_bound _ = false

-- the head of the clause that says the same
abbrev pub clause_head_of : Head → Head
clause_head_of (H.Part (P.Pred (PH.Projection i))) = H.Part (P.Clause (Cl.Projection i))
clause_head_of h = h

-- What a projection bound says of the object, as a clause: that the associated type, of the object and the bound's arguments, is
-- the bound's term. It stands under the bound's binder. The object's type names no variable that is bound outside of it, so it
-- stands there as it is.
abbrev pub said_of : Tree → Tree → Tree
said_of object bound = record {
  head = clause_head_of bound.head;
  children = tree (H.Part P.Vars) (first_children bound.children) (tree object.head object.children (after_first bound.children));
}

-- One bound says this, or nothing: what says that a trait holds says nothing of an associated type.
abbrev pub own_bound : Tree → Tree → List Tree
own_bound object bound = if is_projection_bound bound.head then said_of object bound ∷ [] else []

-- the trees in a row, as a list
abbrev pub each_of : Forest → List Tree
each_of none = []
each_of (tree h below rest) = record { head = h; children = below } ∷ each_of rest

-- What bounds in a row say of the object, in their order.
abbrev pub own_bounds : Tree → Forest → List Tree
own_bounds object bounds = flat_map (own_bound object) (each_of bounds)

-- What is declared, for the arguments of a reference: a clause has each argument in the place of its parameter. Where one of its
-- parameters has no argument of its kind, it stays as it is declared.
abbrev pub with_arguments : Forest → Tree → Tree
with_arguments args c = if tree_holds (lacks_argument args) c then c else substituted_tree args c

-- An object has an associated type of its trait where that doesn't require that `Self` is sized.

abbrev pub is_type_item : Option AssocKind → Bool
is_type_item (Some A.Type) = true
is_type_item _ = false

abbrev pub is_required : Context → AssocId → Bool
is_required c i = is_type_item (assoc_kind (definition c i.0)) && not (requires_sized_self (definition c i.0))

-- the bounds of an associated type itself, and those of what it is a projection of
abbrev pub self_bounds : Context → ℕ → List Clause
self_bounds c i = maybe [] (λ b. b.self_bounds) (bounds_at c i)

abbrev pub non_self_bounds : Context → ℕ → List Clause
non_self_bounds c i = maybe [] (λ b. b.non_self_bounds) (bounds_at c i)

-- all its bounds: those of itself, and then the others
abbrev pub item_bounds : Context → AssocId → List Tree
item_bounds c i = map (clause_tree c.trees) (self_bounds c i.0) ++ map (clause_tree c.trees) (non_self_bounds c i.0)

-- the bounds of those of the items that an object has, in their order
abbrev pub bounds_of_items : Context → List AssocId → List Tree
bounds_of_items c is = flat_map (item_bounds c) (filter (is_required c) is)

-- the items of a trait, in the order of their declaration
abbrev pub items_of : Context → ℕ → List AssocId
items_of c i = maybe [] (λ t. t.items) (trait_at c i)

-- the bounds of all associated types that an object of the trait has
abbrev pub required_bounds : Context → ℕ → List Tree
required_bounds c i = bounds_of_items c (items_of c i)

-- What an object of the trait with these arguments has to fulfil: first the elaboration of the trait's super clauses, then the
-- bounds of its associated types.
pub record AreRequirements (c : Context) (i : ℕ) (args : Forest) (ts : List Tree) : Type 0 where
  pub supers : List Tree
  pub elaborated : IsElaboration c (map (with_arguments args) (super_clauses c i)) supers
  pub are : ts ≡ supers ++ map (with_arguments args) (required_bounds c i)

-- A projection bound as a bound.
abbrev pub as_bound : Binder ExistentialProjection → Binder ExistentialPredicate
as_bound b = record { vars = b.vars; value = E.Projection b.value }

-- Where clauses are declared: a trait's super clauses, and the two rows of an associated type's bounds.
abbrev pub declared_at : Context → Declared → List Clause
declared_at c (D.SuperClauses i) = supers_at (trait_at c i.0)
declared_at c (D.SelfBounds i) = self_bounds c i.0
declared_at c (D.NonSelfBounds i) = non_self_bounds c i.0

abbrev pub declared_trees : Context → Declared → List Tree
declared_trees c d = map (clause_tree c.trees) (declared_at c d)

-- clauses that are declared, for the arguments of a list
abbrev pub for_arguments : Context → Args → List Tree → List Tree
for_arguments c args ts = map (with_arguments (args_forest c.trees args)) ts

-- To a list of clauses, in the context before, these were added, in the context after.
abbrev pub Adds : Context → Context → List Clause → List Clause → List Tree → Type 0
Adds before after old new ts = map (clause_tree after.trees) new ≡ map (clause_tree before.trees) old ++ ts
