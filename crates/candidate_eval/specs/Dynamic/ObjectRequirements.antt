-- What an object candidate asks for, besides that its trait reference fits.
use Rattle.std.specs.Prelude.{◌≡◌, ℕ, Option, Some, None, List, map}
use Rattle.ir_trees.specs.declared.ir.heads.Head.{Head}
use Rattle.ir_trees.specs.declared.ir.heads.Head.TheVariants as H
use Rattle.ir_trees.specs.declared.ir.heads.PartHead.TheVariants as P
use Rattle.ir_trees.specs.declared.ir.heads.ClauseHead.TheVariants as Cl
use Rattle.ir_trees.specs.declared.ir.kinds.Binder.{Binder}
use Rattle.ir_trees.specs.declared.ir.kinds.Clause.{Clause}
use Rattle.ir_trees.specs.declared.ir.kinds.ClauseKind.{ClauseKind}
use Rattle.ir_trees.specs.declared.ir.kinds.ClauseKind.TheVariants as K
use Rattle.ir_trees.specs.declared.ir.kinds.Goal.{Goal as OfNumbers}
use Rattle.ir_trees.specs.declared.ir.kinds.ParamEnv.{ParamEnv}
use Rattle.ir_trees.specs.declared.ir.kinds.PredicatePolarity.{PredicatePolarity}
use Rattle.ir_trees.specs.declared.ir.kinds.PredicatePolarity.TheVariants as Polarity
use Rattle.ir_trees.specs.declared.ir.kinds.TraitId.{TraitId}
use Rattle.ir_trees.specs.declared.ir.kinds.TraitPredicate.{TraitPredicate}
use Rattle.ir_trees.specs.declared.ir.kinds.TraitRef.{TraitRef}
use Rattle.ir_trees.specs.declared.ir.kinds.Vars.{Vars}
use Rattle.ir_trees.specs.Declarations.Context.{Context}
use Rattle.ir_trees.specs.Instantiation.Folds.{node}
use Rattle.ir_trees.specs.Syntax.Nodes.{error_tree}
use Rattle.ir_trees.specs.Hierarchy.Supers.{after_first}
use Rattle.ir_trees.specs.Syntax.Trees.{Forest, none, tree, Tree}
use Rattle.candidate_eval.specs.Dynamic.Objects.{fresh_instance, with_instance}
use Rattle.candidate_eval.specs.Dynamic.ObjectRules.{IsAskedByRule, IsUnknownByRule}
use Rattle.candidate_eval.specs.Dynamic.Replacing.{AreReplaced, AreStuck}
use Rattle.candidate_eval.specs.Dynamic.Required.{AreRequirements, own_bounds}
use Rattle.candidate_eval.specs.Judges.States.{Env, State, Goal, Judge}

-- What is said of a trait, as a clause under a binder of these variables.
abbrev pub trait_fact : Vars → TraitPredicate → Binder ClauseKind
trait_fact vars p = record { vars = vars; value = K.Trait p }

-- A reference as the predicate that its trait holds, and under its binder as the clause that says so.

abbrev pub held_predicate : TraitRef → TraitPredicate
held_predicate r = record { trait_ref = r; polarity = Polarity.Positive }

abbrev pub reference_clause : Binder TraitRef → Binder ClauseKind
reference_clause r = trait_fact r.vars (held_predicate r.value)

-- the trait that a clause speaks of, and whether it says that it holds
abbrev pub trait_said : Head → Option (TraitId × PredicatePolarity)
trait_said (H.Part (P.Clause (Cl.Trait i p))) = Some (i, p)
trait_said _ = None

-- the trait that a clause says to hold
abbrev pub trait_held : Head → Option TraitId
trait_held (H.Part (P.Clause (Cl.Trait i Polarity.Positive))) = Some i
trait_held _ = None

-- what stands under the clause's binder: the trait's arguments
abbrev pub arguments_of : Tree → Forest
arguments_of c = after_first c.children

-- the first of the arguments: the object's type
abbrev pub first_tree : Forest → Tree
first_tree none = error_tree
first_tree (tree h below rest) = node h below

abbrev pub goal_in : Env → Tree → Goal
goal_in e c = record { env = e; clause = c }

-- the reference's arguments, with fresh variables for those of its binder
abbrev pub fresh_arguments : State → Tree → Forest
fresh_arguments S reference = arguments_of (fresh_instance S reference)

-- What is asked of the object of a reference: what an object of its trait has to fulfil, where each projection of the object's own
-- is what the object's bounds say. The goals, in their order, and the state then, at which the goals that equations left are
-- pending.
pub record AreAsked (J : Judge) (e : Env) (c : Context) (S : State) (i : ℕ) (reference : Tree) (bounds : Forest) (goals : List Goal) (T : State) : Type 0 where
  pub required : List Tree
  pub requirements : AreRequirements c i (fresh_arguments S reference) required
  pub replaced : List Tree
  pub are_replaced : AreReplaced J e (first_tree (fresh_arguments S reference)) (own_bounds (first_tree (fresh_arguments S reference)) bounds) (with_instance S reference) required replaced T
  pub are : goals ≡ map (goal_in e) replaced
  -- and as the data of a rule, from the state to which its step for these fresh variables leads
  pub as_rule : IsAskedByRule J e (first_tree (fresh_arguments S reference)) (own_bounds (first_tree (fresh_arguments S reference)) bounds) (with_instance S reference) required replaced T

-- Too little is known of one of the projections; the state then.
pub record AreUnknown (J : Judge) (e : Env) (c : Context) (S : State) (i : ℕ) (reference : Tree) (bounds : Forest) (T : State) : Type 0 where
  pub required : List Tree
  pub requirements : AreRequirements c i (fresh_arguments S reference) required
  pub stuck : AreStuck J e (first_tree (fresh_arguments S reference)) (own_bounds (first_tree (fresh_arguments S reference)) bounds) (with_instance S reference) required T
  -- and as the data of a rule, from the state to which its step for these fresh variables leads
  pub as_rule : IsUnknownByRule J e (first_tree (fresh_arguments S reference)) (own_bounds (first_tree (fresh_arguments S reference)) bounds) (with_instance S reference) required T

-- Clauses as goals in an environment.
abbrev pub goals_in : ParamEnv → List Clause → List (OfNumbers Clause)
goals_in env cs = map (λ c. record { param_env = env; predicate = c }) cs
