-- What an object's own bounds say of its associated types.
use Rattle.std.specs.Prelude.{◌≡◌, ℕ, Bool, true, false, ◌==◌, ◌&&◌, Option, Some, None, List, [], ◌∷◌, ◌++◌, length}
use Rattle.std.specs.List.{filter, Contains}
use Rattle.ir_trees.specs.declared.ir.heads.Head.{Head}
use Rattle.ir_trees.specs.declared.ir.heads.Head.TheVariants as H
use Rattle.ir_trees.specs.declared.ir.heads.PartHead.TheVariants as P
use Rattle.ir_trees.specs.declared.ir.heads.ClauseHead.TheVariants as Cl
use Rattle.ir_trees.specs.declared.ir.kinds.AliasTerm.{AliasTerm}
use Rattle.ir_trees.specs.declared.ir.kinds.ProjectionPredicate.{ProjectionPredicate}
use Rattle.ir_trees.specs.Syntax.Trees.{Forest, Tree}
use Rattle.ir_trees.specs.declared.ir.stop.Stop.{Stop}
use Rattle.ir_trees.specs.Unification.Substitutions.{alone}
use Rattle.ir_trees.specs.Instantiation.Opening.{opened_clause}
use Rattle.ir_trees.specs.Hierarchy.Supers.{after_first}
use Rattle.ir_trees.specs.Syntax.Words.{IsArgs, IsTy, args_forest, ty_tree}
use Rattle.candidate_eval.specs.Builtins.Callable.{all_but_last, last_tree}
use Rattle.candidate_eval.specs.Derivations.Characterization.{bound_kinds}
use Rattle.candidate_eval.specs.declared.objects.object.AmbiguousOrStop.{AmbiguousOrStop}
use Rattle.candidate_eval.specs.declared.objects.object.AmbiguousOrStop.TheVariants as A
use Rattle.candidate_eval.specs.Interface.Evaluators.{accepted}
use Rattle.candidate_eval.specs.Judges.States.{Env, State, Judge, fresh_variables, with_fresh_variables, with_pending, is_some}

-- A bound is a clause of the object's type: that an associated type of it, with these arguments, is this term.

-- whether it is about the associated type of that number
abbrev pub is_about : ℕ → Head → Bool
is_about i (H.Part (P.Clause (Cl.Projection j))) = j.0 == i
is_about i _ = false

abbrev pub arguments_in : Tree → Forest
arguments_in c = all_but_last (after_first c.children)

abbrev pub term_in : Tree → Tree
term_in c = last_tree (after_first c.children)

-- A bound with fresh variables in the place of its binder's, and the state then.

abbrev pub fresh_instance : State → Tree → Tree
fresh_instance S c = opened_clause (fresh_variables S (bound_kinds c.children)) c

abbrev pub with_instance : State → Tree → State
with_instance S c = with_fresh_variables S (bound_kinds c.children)

-- An associated type with its arguments, of which the first is the object's type.
pub record Projection : Type 0 where
  pub item : ℕ
  pub arguments : Forest

abbrev pub projection_at : List Tree → AliasTerm → Projection
projection_at ts p = record { item = p.def_id.0; arguments = args_forest ts p.args }

-- An instance's arguments are equated with the projection's; the goals that this leaves are pending, and are evaluated.

abbrev pub bound_equated : Judge → Env → State → Tree → Forest → Option State
bound_equated J e S c args = accepted J (with_instance S c) e (arguments_in (fresh_instance S c)) args

abbrev pub is_settled : Judge → State → Bool
is_settled J S = is_some (J.settled S)

abbrev pub is_equated : Judge → Option State → Bool
is_equated J None = false
is_equated J (Some S) = is_settled J S

-- A bound matches a projection of the same associated type where, with nothing pending, neither is refused.
abbrev pub bound_matches : Judge → Env → State → Tree → Projection → Bool
bound_matches J e S c p = is_about p.item c.head && is_equated J (bound_equated J e (with_pending S []) c p.arguments)

-- Bounds that are tried one after the other, from a state on. Each is tried in a probe, which leaves a state alike the one
-- before. Those that were tried, those that match, in their order, and the state then.
pub data Tried (J : Judge) (e : Env) (p : Projection) (S : State) : List Tree → List Tree → State → Type 0 where
  none_yet : Tried J e p S [] [] S
  found : (T : State) (c : Tree) (cs ds : List Tree) {U : State} → Tried J e p S cs ds T → bound_matches J e T c p ≡ true → J.alike T U → Tried J e p S (cs ++ c ∷ []) (ds ++ c ∷ []) U
  passed : (T : State) (c : Tree) (cs ds : List Tree) {U : State} → Tried J e p S cs ds T → bound_matches J e T c p ≡ false → J.alike T U → Tried J e p S (cs ++ c ∷ []) ds U

-- The only bound that matches was equated, at a state alike the one that trying leaves, and gives its term; the state then. In between
-- the equation is tried in a probe, so that a refusal leaves nothing behind.
pub record IsPicked (J : Judge) (e : Env) (p : Projection) (S : State) (cs : List Tree) (term : Tree) (T : State) : Type 0 where
  pub last : State
  pub now : State
  pub bound : Tree
  pub tried : Tried J e p S cs (bound ∷ []) last
  pub alike : J.alike last now
  pub equated : bound_equated J e now bound p.arguments ≡ Some T
  pub is : term ≡ term_in (fresh_instance now bound)

-- No bound was picked, and the state then: none matches, or two or more do; or the equation of the only one that matches is refused, by
-- a probe. The last is what no evaluator does of which the trees mention its state's variables alone: it refuses what it accepted in
-- the probe before; what it leaves then isn't said.
pub data IsAmbiguous (J : Judge) (e : Env) (p : Projection) (S : State) (cs : List Tree) (T : State) : Type 0 where
  not_one : (ds : List Tree) → Tried J e p S cs ds T → (length ds ≡ 1 → ⊥) → IsAmbiguous J e p S cs T
  refused : (R : State) (d : Tree) → Tried J e p S cs (d ∷ []) R → bound_equated J e R d p.arguments ≡ None → J.alike R T → IsAmbiguous J e p S cs T
  changed : (R Q : State) (d : Tree) → Tried J e p S cs (d ∷ []) R → is_some (bound_equated J e R d p.arguments) ≡ true → J.alike R Q → bound_equated J e Q d p.arguments ≡ None → IsAmbiguous J e p S cs T

-- What is read of a bound.
pub record IsBound (ts : List Tree) (c : Tree) (p : ProjectionPredicate) : Type 0 where
  pub arguments : IsArgs ts p.projection_term.args
  pub term : IsTy ts p.term
  pub head : c.head ≡ H.Part (P.Clause (Cl.Projection p.projection_term.def_id))
  pub arguments_are : arguments_in c ≡ args_forest ts p.projection_term.args
  pub term_is : term_in c ≡ ty_tree ts p.term

-- Where closed probes leave the very state before, all bounds are tried at one state, at which the only one that matches is
-- equated.

abbrev pub IsExact : Judge → Type 0
IsExact J = (S T : State) → J.alike S T → T ≡ S

pub record IsPickedAtOnce (J : Judge) (e : Env) (p : Projection) (S : State) (cs : List Tree) (term : Tree) (T : State) : Type 0 where
  pub bound : Tree
  pub only : filter (λ c. bound_matches J e S c p) cs ≡ bound ∷ []
  pub equated : bound_equated J e S bound p.arguments ≡ Some T
  pub is : term ≡ term_in (fresh_instance S bound)

-- Too little is known, which wants no cause, or a stop.
abbrev pub by_object_stop : (Stop → Type 0) → AmbiguousOrStop → Type 0
by_object_stop P A.Ambiguous = Unit {0}
by_object_stop P (A.Stop s) = P s

-- What is said where too little is known.
abbrev pub if_ambiguous : Type 0 → AmbiguousOrStop → Type 0
if_ambiguous P e = e ≡ A.Ambiguous → P

-- An instance of a bound, with variables that were fresh at some state; of one of some bounds.

pub record IsInstance (bound : Tree) (ts : Forest) : Type 0 where
  pub state : State
  pub is : ts ≡ alone (fresh_instance state bound)

pub record IsInstanceOfOne (bounds : List Tree) (ts : Forest) : Type 0 where
  pub bound : Tree
  pub listed : Contains bounds bound
  pub instance : IsInstance bound ts
