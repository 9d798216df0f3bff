-- The bounds of `dyn` types, and what each says of a type.
use Rattle.std.specs.Prelude.{◌≡◌, ℕ, Bool, true, false, ◌==◌, Option, Some, None, List, [], ◌∷◌}
use Rattle.std.specs.List.{filter}
use Rattle.ir_trees.specs.declared.ir.heads.Head.{Head}
use Rattle.ir_trees.specs.declared.ir.heads.Head.TheVariants as H
use Rattle.ir_trees.specs.declared.ir.heads.PartHead.TheVariants as P
use Rattle.ir_trees.specs.declared.ir.heads.PredHead.TheVariants as PH
use Rattle.ir_trees.specs.declared.ir.heads.ClauseHead.TheVariants as Cl
use Rattle.ir_trees.specs.declared.ir.kinds.Args.{Args}
use Rattle.ir_trees.specs.declared.ir.kinds.ClauseKind.{ClauseKind}
use Rattle.ir_trees.specs.declared.ir.kinds.ClauseKind.TheVariants as K
use Rattle.ir_trees.specs.declared.ir.kinds.ExistentialPredicate.{ExistentialPredicate}
use Rattle.ir_trees.specs.declared.ir.kinds.ExistentialPredicate.TheVariants as E
use Rattle.ir_trees.specs.declared.ir.kinds.PredicatePolarity.TheVariants as Pol
use Rattle.ir_trees.specs.declared.ir.kinds.TraitId.{TraitId}
use Rattle.ir_trees.specs.Declarations.Context.{Context}
use Rattle.ir_trees.specs.Hierarchy.Elaboration.{AreSupertraits}
use Rattle.ir_trees.specs.Syntax.Trees.{Forest, none, Tree}
use Rattle.ir_trees.specs.Syntax.Words.{args_forest}
use Rattle.candidate_eval.specs.Builtins.Callable.{all_but_last, last_tree}
use Rattle.candidate_eval.specs.Dynamic.Required.{clause_head_of, each_of, said_of}
use Rattle.candidate_assembly.specs.Rules.BuiltinRules.{flag_of_trait}

abbrev pub is_dynamic : Head → Bool
is_dynamic H.Dynamic = true
is_dynamic _ = false

-- the bounds in their order, after which comes the region
abbrev pub bounds_in : Tree → List Tree
bounds_in t = each_of (all_but_last t.children)

abbrev pub region_in : Tree → Tree
region_in t = last_tree t.children

-- By its head a bound is the principal, says which type an associated type is, or names an auto trait.

abbrev pub is_principal : Head → Bool
is_principal (H.Part (P.Pred (PH.Trait i))) = true
is_principal _ = false

abbrev pub projects : ℕ → Head → Bool
projects n (H.Part (P.Pred (PH.Projection i))) = i.0 == n
projects n _ = false

abbrev pub auto_of : Head → List ℕ
auto_of (H.Part (P.Pred (PH.AutoTrait i))) = i.0 ∷ []
auto_of _ = []

-- the trait that a principal is of, and that a clause speaks of
abbrev pub trait_of_bound : Head → Option ℕ
trait_of_bound (H.Part (P.Pred (PH.Trait i))) = Some i.0
trait_of_bound (H.Part (P.Clause (Cl.Trait i p))) = Some i.0
trait_of_bound _ = None

abbrev pub same_number : Option ℕ → Option ℕ → Bool
same_number (Some m) (Some n) = m == n
same_number _ _ = false

abbrev pub first_listed : {A : Type 0} → List A → Option A
first_listed [] = None
first_listed (x ∷ xs) = Some x

abbrev pub principal_in : Tree → Option Tree
principal_in t = first_listed (filter (λ b. is_principal b.head) (bounds_in t))

-- Objects of the principal's trait may be made; without a principal nothing bars them.
abbrev pub number_is_compatible : Context → Option ℕ → Bool
number_is_compatible c None = false
number_is_compatible c (Some n) = flag_of_trait (λ f. f.dyn_compatible) c n

abbrev pub is_compatible : Context → Option Tree → Bool
is_compatible c None = true
is_compatible c (Some p) = number_is_compatible c (trait_of_bound p.head)

-- What a bound says of a type, as a clause under the bound's binder: that its trait holds, or what an associated type is.

abbrev pub clause_head_by : Head → Head
clause_head_by (H.Part (P.Pred (PH.Trait i))) = H.Part (P.Clause (Cl.Trait i Pol.Positive))
clause_head_by (H.Part (P.Pred (PH.AutoTrait i))) = H.Part (P.Clause (Cl.Trait i Pol.Positive))
clause_head_by h = clause_head_of h

abbrev pub bound_said : Tree → Tree → Tree
bound_said type bound = record { head = clause_head_by bound.head; children = (said_of type bound).children }

-- The same of numbers: the arguments of a bound, of which one by an auto trait has none, and what it says with a list of arguments, which is
-- the type before the bound's own.

abbrev pub bound_arguments : List Tree → ExistentialPredicate → Forest
bound_arguments ts (E.Trait r) = args_forest ts r.args
bound_arguments ts (E.Projection p) = args_forest ts p.args
bound_arguments ts (E.AutoTrait i) = none

abbrev pub trait_said : TraitId → Args → ClauseKind
trait_said i a = K.Trait (record { trait_ref = record { def_id = i; args = a }; polarity = Pol.Positive })

abbrev pub kind_said : ExistentialPredicate → Args → ClauseKind
kind_said (E.Trait r) a = trait_said r.def_id a
kind_said (E.Projection p) a = K.Projection (record { projection_term = record { def_id = p.def_id; args = a }; term = p.term })
kind_said (E.AutoTrait i) a = trait_said i a

-- The supertraits of a `dyn` type's principal, the principal itself being number 0; without one there are none.

abbrev pub AreSupersOf : Context → Tree → Option Tree → List Tree → Type 0
AreSupersOf c type None ts = ts ≡ []
AreSupersOf c type (Some p) ts = AreSupertraits c (bound_said type p) ts

abbrev pub ArePrincipalSupers : Context → Tree → List Tree → Type 0
ArePrincipalSupers c type ts = AreSupersOf c type (principal_in type) ts
