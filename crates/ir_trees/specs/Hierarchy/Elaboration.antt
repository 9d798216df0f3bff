-- What clauses imply by the super clauses of their traits, and the list of it.
use Rattle.std.specs.Prelude.{◌≡◌, ◌⊎◌, ℕ, ◌<◌, ◌+◌, ◌-◌, Bool, true, false, ◌==◌, ◌&&◌, nat_lt, Option, Some, None, List, [], ◌∷◌, ◌++◌, map, if◌then◌else◌}
use Rattle.std.specs.List.{filter, list_any}
use Rattle.ir_trees.specs.declared.ir.kinds.BoundVar.{BoundVar}
use Rattle.ir_trees.specs.declared.ir.kinds.ClauseKind.{ClauseKind}
use Rattle.ir_trees.specs.declared.ir.kinds.ClauseKind.TheVariants as K
use Rattle.ir_trees.specs.declared.ir.kinds.TraitId.{TraitId}
use Rattle.ir_trees.specs.declared.ir.kinds.TraitRef.{TraitRef}
use Rattle.ir_trees.specs.declared.ir.kinds.PredicatePolarity.{PredicatePolarity}
use Rattle.ir_trees.specs.declared.ir.kinds.PredicatePolarity.TheVariants as Polarity
use Rattle.ir_trees.specs.declared.ir.kinds.Clause.{Clause}
use Rattle.ir_trees.specs.declared.ir.kinds.VarKind.{VarKind}
use Rattle.ir_trees.specs.declared.ir.kinds.Vars.{Vars}
use Rattle.ir_trees.specs.declared.ir.kinds.RegionKind.TheVariants as R
use Rattle.ir_trees.specs.declared.ir.stop.Stop.{Stop}
use Rattle.ir_trees.specs.declared.ir.stop.Stop.TheVariants.{Memory, NodesFull}
use Rattle.ir_trees.specs.declared.ir.heads.Head.{Head}
use Rattle.ir_trees.specs.declared.ir.heads.Head.TheVariants as H
use Rattle.ir_trees.specs.declared.ir.heads.ConstHead.TheVariants as C
use Rattle.ir_trees.specs.declared.ir.heads.PartHead.TheVariants as P
use Rattle.ir_trees.specs.declared.ir.heads.ClauseHead.TheVariants as Cl
use Rattle.ir_trees.specs.Syntax.Trees.{Forest, none, tree, Tree, join, count, holds}
use Rattle.ir_trees.specs.Instantiation.Folding.{fold, fold_tree, leaf, put_if_there, substituted, IsSubstStop}
use Rattle.ir_trees.specs.Unification.Substitutions.{alone}
use Rattle.ir_trees.specs.Unification.Unify.{same_head}
use Rattle.ir_trees.specs.Hierarchy.Supers.{after_first, supers_at}
use Rattle.ir_trees.specs.Hierarchy.Supertraits.{head_trait}
use Rattle.ir_trees.specs.Declarations.Context.{Context}
use Rattle.ir_trees.specs.Declarations.Declaring.{trait_at}
use Rattle.ir_trees.specs.Syntax.Words.{args_forest, clause_tree, vars_tree, binder_tree}

-- A super clause, instantiated by a clause that its trait holds. Both stand under binders of their own, which become one: it
-- has the variables of that clause first, and then those of the super clause.

-- the variable of the same binder with a number so much higher
abbrev pub later : ℕ → BoundVar → BoundVar
later n v = record { depth = v.depth; index = v.index + n }

-- the leaf with that variable, where it is of the binder that stands above the `d` binders passed
abbrev pub later_leaf : ℕ → ℕ → BoundVar → (BoundVar → Head) → Option Tree
later_leaf n d v head = if v.depth == d then Some (leaf (head (later n v))) else None

abbrev pub later_head : ℕ → ℕ → Head → Option Tree
later_head n d (H.Bound v) = later_leaf n d v H.Bound
later_head n d (H.Const (C.Bound v)) = later_leaf n d v (λ x. H.Const (C.Bound x))
later_head n d (H.Region (R.Bound v)) = later_leaf n d v (λ x. H.Region (R.Bound x))
later_head n d _ = None

-- Trees that stand under a binder, whose variables are numbered from `n` on.
abbrev pub renumbered : ℕ → Forest → Forest
renumbered n ts = fold (λ d t. later_head n d t.head) 0 ts

abbrev pub first_children : Forest → Forest
first_children none = none
first_children (tree h below rest) = below

-- the variables of a clause's binder
abbrev pub variables_of : Tree → Forest
variables_of t = first_children t.children

-- what stands under it: of a clause that a trait holds, the trait's arguments
abbrev pub under_binder : Tree → Forest
under_binder t = after_first t.children

-- In the super clause the variables of its binder move up by as many as the clause binds; then the clause's arguments stand
-- in the place of the parameters. They stand under the joint binder already, so only further binders shift them.
abbrev pub instance : Forest → Forest → Tree → Tree
instance variables args s = record {
  head = s.head;
  children = tree (H.Part P.Vars) (join variables (variables_of s)) (substituted args 0 (renumbered (count variables) (under_binder s)));
}

abbrev pub implied : Tree → Tree → Tree
implied t s = instance (variables_of t) (under_binder t) s

-- Of both steps at once: what stands for a head under `d` binders below the super clause's own.
abbrev pub either : {X : Type 0} → Option X → Option X → Option X
either None o = o
either (Some x) o = Some x

abbrev pub instance_head : Forest → ℕ → ℕ → Head → Option Tree
instance_head args n d h = either (put_if_there args d h) (later_head n d h)

-- a super clause with arguments in it and the variables of its binder later by so many, for which that binder isn't widened yet
abbrev pub instance_below : Forest → ℕ → Tree → Tree
instance_below args n x = fold_tree (λ d t. instance_head args n (d - 1) t.head) 0 x

-- a variable with a number above 2^32 - 1
abbrev pub is_too_high : Head → Bool
is_too_high (H.Bound v) = nat_lt 4294967295 v.index
is_too_high (H.Const (C.Bound v)) = nat_lt 4294967295 v.index
is_too_high (H.Region (R.Bound v)) = nat_lt 4294967295 v.index
is_too_high _ = false

-- Why such answers were not put in, where so many numbers are given: for what stops a substitution; or a variable that comes
-- would have too high a number.
pub data IsRenumberStop (given : ℕ) (made : Forest) : Stop → Type 0 where
  unput : {s : Stop} → IsSubstStop given made s → IsRenumberStop given made s
  high_variable : holds is_too_high made ≡ true → IsRenumberStop given made NodesFull

-- why an answer was not made; where nothing is answered, nothing stops
abbrev pub IsHeadStop : ℕ → Option Tree → Stop → Type 0
IsHeadStop given None s = ⊥
IsHeadStop given (Some t) s = IsRenumberStop given (alone t) s

-- Why an instance was not made: for one of these; or fewer numbers are left than the variables of the joint binder take, one for
-- each and one more.
abbrev pub IsInstanceStop : ℕ → Tree → Stop → Type 0
IsInstanceStop given made s = IsRenumberStop given (alone made) s ⊎ ((s ≡ NodesFull) × (4294967295 < given + (count (variables_of made) + 1)))

-- A binder over the variables of two, one after the other; and why it was not made: for want of memory, or of a number for each
-- and one more.
pub record IsJoint (ts : List Tree) (v : Vars) (outer inner : Forest) : Type 0 where
  pub kinds : List VarKind
  pub is : vars_tree ts v ≡ binder_tree kinds
  pub both : (binder_tree kinds).children ≡ join outer inner

abbrev pub IsJointStop : ℕ → Forest → Stop → Type 0
IsJointStop given variables s = (s ≡ Memory) ⊎ ((s ≡ NodesFull) × (4294967295 < given + (count variables + 1)))

-- the trees of the super clauses of each trait
abbrev pub SuperClauses : Type 0
SuperClauses = ℕ → List Tree

abbrev pub super_clauses : Context → SuperClauses
super_clauses c i = map (clause_tree c.trees) (supers_at (trait_at c i))

abbrev pub supers_if : SuperClauses → Option ℕ → List Tree
supers_if supers None = []
supers_if supers (Some i) = supers i

-- The clauses that one implies at once: the super clauses of the trait that it says to hold; any other implies none.
abbrev pub implied_by : SuperClauses → Tree → List Tree
implied_by supers t = map (implied t) (supers_if supers (head_trait t.head))

-- whether two trees are equal
abbrev pub same_forest : Forest → Forest → Bool
same_forest none none = true
same_forest (tree h a r) (tree g b s) = same_head h g && (same_forest a b && same_forest r s)
same_forest _ _ = false

abbrev pub same_tree : Tree → Tree → Bool
same_tree t u = same_head t.head u.head && same_forest t.children u.children

abbrev pub is_same_clause : List Tree → Clause → Clause → Bool
is_same_clause ts c x = same_tree (clause_tree ts x) (clause_tree ts c)

abbrev pub lists : List Tree → Tree → Bool
lists ts t = list_any (λ u. same_tree u t) ts

-- those of the second list that the first doesn't have, each once, in their order
abbrev pub unlisted : List Tree → List Tree → List Tree
unlisted seen [] = []
unlisted seen (t ∷ ts) = if lists seen t then unlisted seen ts else t ∷ unlisted (seen ++ t ∷ []) ts

-- The list so far is walked, in its order: it is what was walked already, and then what is still to be walked. What the next
-- clause implies and the list doesn't have is appended. The last is the whole list.
pub data Elaborates (supers : SuperClauses) : List Tree → List Tree → List Tree → Type 0 where
  ended : {walked : List Tree} → Elaborates supers walked [] walked
  step : {walked left all : List Tree} {t : Tree}
      → Elaborates supers (walked ++ t ∷ []) (left ++ unlisted (walked ++ t ∷ left) (implied_by supers t)) all → Elaborates supers walked (t ∷ left) all

-- The elaboration of clauses: these, each once, and then all that they imply.
abbrev pub IsElaboration : Context → List Tree → List Tree → Type 0
IsElaboration c ts all = Elaborates (super_clauses c) [] (unlisted [] ts) all

-- a clause that a trait holds, or that it doesn't
abbrev pub trait_of : Head → Option ℕ
trait_of (H.Part (P.Clause (Cl.Trait i p))) = Some i.0
trait_of _ = None

abbrev pub is_there : {X : Type 0} → Option X → Bool
is_there None = false
is_there (Some x) = true

-- The supertraits of a trait clause, of which this is the elaboration: the trait clauses of it, in their order. The clause
-- itself is number 0.
abbrev pub supertraits : List Tree → List Tree
supertraits all = filter (λ t. is_there (trait_of t.head)) all

abbrev pub is_trait_clause : Tree → Bool
is_trait_clause t = is_there (trait_of t.head)

pub record AreSupertraits (c : Context) (t : Tree) (ts : List Tree) : Type 0 where
  pub all : List Tree
  pub elaborated : IsElaboration c (t ∷ []) all
  pub are : ts ≡ supertraits all

abbrev pub number_listed : List ℕ → ℕ → Bool
number_listed ns n = list_any (λ m. m == n) ns

abbrev pub with_number : List ℕ → Option ℕ → List ℕ
with_number ns None = ns
with_number ns (Some n) = if number_listed ns n then ns else ns ++ n ∷ []

abbrev pub traits_among : List ℕ → List Tree → List ℕ
traits_among ns [] = ns
traits_among ns (t ∷ ts) = traits_among (with_number ns (trait_of t.head)) ts

-- Their traits, each once, in the order in which they first come.
abbrev pub supertrait_ids : List Tree → List ℕ
supertrait_ids all = traits_among [] (supertraits all)

pub record AreSupertraitIds (c : Context) (t : Tree) (ns : List ℕ) : Type 0 where
  pub all : List Tree
  pub elaborated : IsElaboration c (t ∷ []) all
  pub are : ns ≡ supertrait_ids all

abbrev pub id_numbers : List TraitId → List ℕ
id_numbers ids = map (λ (i : TraitId). i.0) ids

-- A rank of traits: each trait that a super clause says to hold is of a lower one than the trait of the super clause.
abbrev pub IsLower : (ℕ → ℕ) → ℕ → Option ℕ → Type 0
IsLower rank n None = Unit {0}
IsLower rank n (Some i) = rank i < n

abbrev pub AreLower : (ℕ → ℕ) → ℕ → List Tree → Type 0
AreLower rank n [] = Unit {0}
AreLower rank n (t ∷ ts) = IsLower rank n (head_trait t.head) × AreLower rank n ts

pub record IsRank (supers : SuperClauses) (rank : ℕ → ℕ) : Type 0 where
  pub lower : (i : ℕ) → AreLower rank (rank i) (supers i)

-- Each of the second is in the first.
abbrev pub AreListed : List Tree → List Tree → Type 0
AreListed all [] = Unit {0}
AreListed all (t ∷ ts) = (lists all t ≡ true) × AreListed all ts

-- All that the clauses imply at once is in the list.
abbrev pub HasImplied : SuperClauses → List Tree → List Tree → Type 0
HasImplied supers all [] = Unit {0}
HasImplied supers all (t ∷ ts) = AreListed all (implied_by supers t) × HasImplied supers all ts

-- One of the clauses, or what is implied at once by one that is implied.
pub data IsImplied (supers : SuperClauses) (start : List Tree) : Tree → Type 0 where
  given : {t : Tree} → lists start t ≡ true → IsImplied supers start t
  by : {t u : Tree} → IsImplied supers start t → lists (implied_by supers t) u ≡ true → IsImplied supers start u

abbrev pub AreImplied : SuperClauses → List Tree → List Tree → Type 0
AreImplied supers start [] = Unit {0}
AreImplied supers start (t ∷ ts) = IsImplied supers start t × AreImplied supers start ts

-- To a list of clauses those of these trees are added which it doesn't have, by the trees before and after.
abbrev pub AppendsUnlisted : List Tree → List Tree → List Clause → List Clause → List Tree → Type 0
AppendsUnlisted ts us old new others = map (clause_tree us) new ≡ map (clause_tree ts) old ++ unlisted (map (clause_tree ts) old) others

-- what the super clauses of its trait say of a reference under a binder of these variables
abbrev pub instances : Context → Vars → TraitRef → List Tree
instances c vars r = map (instance (vars_tree c.trees vars).children (args_forest c.trees r.args)) (super_clauses c r.def_id.0)

-- One of these was not made.
pub record IsUnmade (given : ℕ) (us : List Tree) (s : Stop) : Type 0 where
  pub tree : Tree
  pub listed : lists us tree ≡ true
  pub stop : IsInstanceStop given tree s

-- Why an elaboration was not made, where so many numbers are given: a growth was refused, or an implied clause was not made.
pub data IsElaborationStop (supers : SuperClauses) (start : List Tree) (given : ℕ) : Stop → Type 0 where
  no_memory : IsElaborationStop supers start given Memory
  unmade : {s : Stop} {u : Tree} → IsImplied supers start u → IsInstanceStop given u s → IsElaborationStop supers start given s

-- the reference that a clause says to hold
abbrev pub held_if : TraitRef → PredicatePolarity → Option TraitRef
held_if r Polarity.Positive = Some r
held_if r _ = None

abbrev pub held_reference : ClauseKind → Option TraitRef
held_reference (K.Trait p) = held_if p.trait_ref p.polarity
held_reference _ = None
