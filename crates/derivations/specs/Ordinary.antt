-- What an object has to fulfil, as far as derivations speak of it.
use Rattle.std.specs.Prelude.{◌≡◌, ℕ, Bool, true, false, not, Option, Some, None, List, slice_get}
use Rattle.std.specs.List.{All, Contains}
use Rattle.ir_trees.specs.declared.ir.heads.Head.{Head}
use Rattle.ir_trees.specs.declared.ir.heads.Head.TheVariants as H
use Rattle.ir_trees.specs.declared.ir.heads.ConstHead.TheVariants as C
use Rattle.ir_trees.specs.declared.ir.kinds.AssocId.{AssocId}
use Rattle.ir_trees.specs.declared.ir.kinds.VarKind.{VarKind}
use Rattle.ir_trees.specs.declared.ir.kinds.VarKind.TheVariants as V
use Rattle.ir_trees.specs.Declarations.Context.{Context, world}
use Rattle.ir_trees.specs.Declarations.Lookups.{assoc_trait, definition}
use Rattle.ir_trees.specs.Declarations.Worlds.{AssociatedTypeSort, TraitSort, parameters}
use Rattle.ir_trees.specs.Hierarchy.Elaboration.{super_clauses}
use Rattle.ir_trees.specs.Instantiation.Opening.{is_bound_variable, opened_clause}
use Rattle.ir_trees.specs.Instantiation.Owned.{is_unsolved}
use Rattle.ir_trees.specs.Syntax.Binders.{escapes}
use Rattle.ir_trees.specs.Syntax.Trees.{Forest, Kind, Tree, holds, is_param, none, tree, tree_holds}
use Rattle.ir_trees.specs.Unification.Substitutions.{alone}
use Rattle.ir_trees.specs.Validity.Misplaced.{is_same_kind, kinds_of_declared}
use Rattle.candidate_eval.specs.Builtins.Callable.{all_but_last}
use Rattle.candidate_eval.specs.Derivations.ImplRules.{TraitGoal}
use Rattle.candidate_eval.specs.Dynamic.ObjectRequirements.{arguments_of, first_tree}
use Rattle.candidate_eval.specs.Dynamic.ObjectRules.{projections_in}
use Rattle.candidate_eval.specs.Dynamic.Objects.{Projection}
use Rattle.candidate_eval.specs.Dynamic.Replacing.{own_projection}
use Rattle.candidate_eval.specs.Dynamic.Required.{AreRequirements, own_bounds, required_bounds}
use Rattle.candidate_eval.specs.Judges.States.{Values}
use Rattle.candidate_assembly.specs.Goals.Kinds.{passes}
use Rattle.candidate_assembly.specs.Goals.Projections.{trait_number}
use Rattle.candidate_assembly.specs.Goals.TraitRules.{trait_rules}
use Rattle.candidate_assembly.specs.Laws.SuperLaws.{IsFitting}
use Rattle.candidate_assembly.specs.Rules.DynBounds.{ArePrincipalSupers, is_dynamic}
use Rattle.candidate_assembly.specs.Rules.ObjectBounds.{OwnClause, has_own_clauses, own_clauses, reference_by, trait_by}
use Rattle.rounds_judge.specs.Table.Keys.{goal_trees}
use Rattle.derivations.specs.Clean.{IsClean}

-- What an object has to fulfil: no bound variable escapes from a projection of the object's own in it, and no parameter stands in it.
abbrev pub IsOrdinary : Tree → Forest → List Tree → Type 0
IsOrdinary object bounds required =
    All (λ (p : Projection). escapes 0 p.arguments ≡ false) (projections_in (own_projection object (own_bounds object bounds)) required)
    × All (λ (t : Tree). holds is_param (alone t) ≡ false) required

-- So it is of an instance of a trait's reference, with trees for what its binder binds: wherever none of its arguments holds a parameter or a
-- bound variable that escapes, what an object of it has to fulfil is ordinary.
abbrev pub IsOrdinaryOf : Context → Forest → ℕ → Tree → Forest → List Tree → Type 0
IsOrdinaryOf d bounds n reference more required =
    let args : Forest = arguments_of (opened_clause more reference) in
    escapes 0 args ≡ false → holds is_param args ≡ false → AreRequirements d n args required → IsOrdinary (first_tree args) bounds required

-- Trees without children, of which none is a bound variable.
abbrev pub AreBare : Forest → Type 0
AreBare none = Unit {0}
AreBare (tree h below rest) = (is_bound_variable h ≡ false) × (below ≡ none) × AreBare rest

-- So it is of each clause that objects of the type state of themselves, with bare trees for what its binder binds.
abbrev pub TypeIsOrdinary : Context → Tree → Type 0
TypeIsOrdinary d type =
    (supers : List Tree) (own : OwnClause) (more : Forest) (required : List Tree) → ArePrincipalSupers d type supers → Contains (own_clauses type supers) own → AreBare more
    → IsOrdinaryOf d (all_but_last type.children) (trait_by d own.clause.head) (reference_by d own.clause) more required

-- A closed `dyn` type without parameters, which fits what is declared.
pub record IsObjectType (d : Context) (type : Tree) : Type 0 where
  pub dynamic : is_dynamic type.head ≡ true
  pub fits : IsFitting (world d) type
  pub no_parameter : holds is_param (alone type) ≡ false
  pub is_closed : escapes 0 (alone type) ≡ false

-- What is declared is ordinary: so each such type is. It isn't where what a trait or a bound of its associated types asks holds a projection of
-- `Self` with a variable that its own binder binds.
abbrev pub ObjectsAreOrdinary : Context → Type 0
ObjectsAreOrdinary d = (type : Tree) → IsObjectType d type → TypeIsOrdinary d type

-- A clause asks for no bound variable: none stands in it.
abbrev pub IsUnbound : Tree → Type 0
IsUnbound t = tree_holds is_bound_variable t ≡ false

-- Each parameter in a clause is one of the trait's, and of its kind.

abbrev pub is_of_kind : VarKind → Option VarKind → Bool
is_of_kind k None = false
is_of_kind k (Some j) = is_same_kind k j

abbrev pub is_another : List VarKind → Head → Bool
is_another ks (H.Param i) = not (is_of_kind V.Ty (slice_get ks i))
is_another ks (H.Const (C.Param i)) = not (is_of_kind V.Const (slice_get ks i))
is_another ks _ = false

abbrev pub names_others : Tree → Option (List VarKind) → Bool
names_others t None = false
names_others t (Some ks) = tree_holds (is_another ks) t

abbrev pub NamesThoseOf : Context → ℕ → Tree → Type 0
NamesThoseOf d n t = names_others t (kinds_of_declared (slice_get d.declarations n)) ≡ false

-- What is declared asks plainly: no bound variable stands in a super clause of a trait or in a bound of an associated type that its objects have,
-- and an associated type, and such a bound, has no parameter but those of the trait.
pub record AsksPlainly (d : Context) : Type 0 where
  pub supers : (n : ℕ) → All IsUnbound (super_clauses d n)
  pub bounds : (n : ℕ) → All IsUnbound (required_bounds d n)
  pub named : (n : ℕ) → All (NamesThoseOf d n) (required_bounds d n)
  pub items : (i : AssocId) (ks : List Kind) → parameters (world d) AssociatedTypeSort i.0 ≡ Some ks
      → parameters (world d) TraitSort (trait_number (assoc_trait (definition d i.0))) ≡ Some ks

-- Trees stand for variables alone.
abbrev pub IsOfVariables : Values → Type 0
IsOfVariables v = (h : Head) → is_unsolved h ≡ false → v h ≡ None

-- An object states a clause of itself that may be what the goal says, and what an object of an instance of that clause has to fulfil isn't
-- ordinary. Where what is declared is ordinary there is no such goal.
pub record IsUnordinary (c : Context) (g : TraitGoal) : Type 0 where
  pub no_parameter : holds is_param (goal_trees g) ≡ false
  pub clean : IsClean g.reference.arguments
  pub closed : escapes 0 g.reference.arguments ≡ false
  pub fits : IsFitting (world c) (first_tree g.reference.arguments)
  pub supers : List Tree
  pub own : OwnClause
  pub has_own : has_own_clauses c g.reference.trait (first_tree g.reference.arguments) ≡ true
  pub are_supers : ArePrincipalSupers c (first_tree g.reference.arguments) supers
  pub is_own : Contains (own_clauses (first_tree g.reference.arguments) supers) own
  pub passes : passes trait_rules c g own.clause ≡ true
  pub more : Forest
  pub required : List Tree
  pub bare : AreBare more
  pub is_closed : escapes 0 (arguments_of (opened_clause more (reference_by c own.clause))) ≡ false
  pub free : holds is_param (arguments_of (opened_clause more (reference_by c own.clause))) ≡ false
  pub are : AreRequirements c (trait_by c own.clause.head) (arguments_of (opened_clause more (reference_by c own.clause))) required
  pub unordinary : IsOrdinary (first_tree (arguments_of (opened_clause more (reference_by c own.clause)))) (all_but_last (first_tree g.reference.arguments).children) required → ⊥
