-- What a refusal in coherence says of the impls that are declared: each that overlaps the goal was tried, and what it asks for was refused.
use Rattle.std.specs.Prelude.{◌≡◌, false, Option, Some, None, List, ◌++◌, map, Result, IfErr}
use Rattle.ir_trees.specs.declared.decl.contents.ImplId.{ImplId}
use Rattle.ir_trees.specs.declared.ir.kinds.Clause.{Clause}
use Rattle.ir_trees.specs.declared.ir.kinds.GoalSource.{GoalSource}
use Rattle.ir_trees.specs.declared.ir.kinds.GoalSource.TheVariants.{ImplWhereBound, Misc}
use Rattle.ir_trees.specs.Declarations.Context.{Context, parameter_kind}
use Rattle.ir_trees.specs.Declarations.Contents.{Impl}
use Rattle.ir_trees.specs.Declarations.Declaring.{impl_at}
use Rattle.ir_trees.specs.Instantiation.Folding.{substituted, substituted_tree}
use Rattle.ir_trees.specs.Unification.Substitutions.{Overlap}
use Rattle.ir_trees.specs.Syntax.Trees.{Forest, Kind, holds, is_alias}
use Rattle.ir_trees.specs.Syntax.Words.{args_forest, clause_tree}
use Rattle.ir_trees.specs.Declarations.Worlds.{Reference}
use Rattle.candidate_eval.specs.declared.eval.certainty.Certainty.{Certainty}
use Rattle.candidate_eval.specs.declared.eval.refusal.NoSolutionOrStop.{NoSolutionOrStop}
use Rattle.candidate_eval.specs.declared.eval.refusal.NoSolutionOrStop.TheVariants as N
use Rattle.candidate_eval.specs.declared.eval.response.CanonicalResponse.{CanonicalResponse}
use Rattle.candidate_eval.specs.Derivations.ImplRules.{TraitGoal, impl_certainty}
use Rattle.candidate_eval.specs.Judges.Lawful.{HasLeafValues}
use Rattle.candidate_eval.specs.Judges.Soundness.{AreTreesOf, IsSound, Live, ValuesFit, universes}
use Rattle.candidate_eval.specs.Judges.States.{Env, Judge, Pending, State, fresh_variables, resolved, with_fresh_variables, with_pending}
use Rattle.candidate_assembly.specs.declared.assembly.merging.TraitGoalProvenVia.{TraitGoalProvenVia}
use Rattle.candidate_assembly.specs.Answers.CoherentRefusals.{IsPlainGoal}

-- An impl, tried at a state: fresh variables stand for its parameters.

abbrev pub kinds_of_impl : Impl → List Kind
kinds_of_impl i = map parameter_kind i.parameters

abbrev pub header_of : Context → Impl → Forest
header_of c i = args_forest c.trees i.trait_ref.args

abbrev pub header_at : Context → State → Impl → Reference
header_at c S i = record { trait = i.trait_ref.def_id.0; arguments = substituted (fresh_variables S (kinds_of_impl i)) 0 (header_of c i) }

-- the clauses, with the variables in the place of the parameters, as goals
abbrev pub goals_at : Context → State → Env → GoalSource → Impl → List Clause → List Pending
goals_at c S e s i xs = map (λ x. record { source = s; goal = record { env = e; clause = substituted_tree (fresh_variables S (kinds_of_impl i)) (clause_tree c.trees x) } }) xs

-- all that the impl asks for: its where clauses, and what outlives bounds of super traits give
abbrev pub impl_goals : Context → State → Env → Impl → List Pending
impl_goals c S e i = goals_at c S e ImplWhereBound i i.wheres ++ goals_at c S e Misc i i.super_outlives

-- A declared impl of the goal's trait that serves the goal, and whose header overlaps it: no default impl, no alias in its header, and its
-- parameters are variables of the newest universe.
pub record Concerns (c : Context) (S : State) (g : TraitGoal) (n : ImplId) (i : Impl) (certainty : Certainty) : Type 0 where
  pub is : impl_at c n ≡ Some i
  pub serves : impl_certainty S.mode g.polarity i.polarity ≡ Some certainty
  pub not_default : i.is_default ≡ false
  pub no_alias : holds is_alias (header_of c i) ≡ false
  pub overlap : Overlap (universes S) (λ v. S.newest_universe) g.reference (header_at c S i)

-- The equation of the goal with its header was accepted, and what was pending then, all that the impl asks for among it, was refused.
pub record ImplWasRefused (J : Judge) (c : Context) (S : State) (g : TraitGoal) (i : Impl) (certainty : Certainty) : Type 0 where
  pub after : State
  pub left : List Pending
  pub accepted : J.equated (with_fresh_variables S (kinds_of_impl i)) (resolved S g.env) g.reference.arguments (header_at c S i).arguments ≡ Some (left, after)
  pub refused : J.responded (with_pending after (left ++ impl_goals c S (resolved S g.env) i)) certainty ≡ None

-- The goal's arguments are trees of the state, of what counts there; the values of what counts make sense, and their variables and regions
-- are leaves.
pub record HasLeafyValues (S : State) (g : TraitGoal) : Type 0 where
  pub live : Live
  pub sound : IsSound S live
  pub fits : ValuesFit S live
  pub leaves : HasLeafValues S live
  pub trees : AreTreesOf S live g.reference.arguments

-- That is so of each declared impl that overlaps the goal.
abbrev pub KnownWereRefused : Judge → Context → State → TraitGoal → Type 0
KnownWereRefused J c S g = (n : ImplId) (i : Impl) (certainty : Certainty) → Concerns c S g n i certainty → ImplWasRefused J c S g i certainty

-- And of each goal that leaves nothing open and is refused in coherence.
abbrev pub RefusesImpls : Judge → Context → State → TraitGoal → Result (CanonicalResponse × Option TraitGoalProvenVia) NoSolutionOrStop → Type 0
RefusesImpls J c S g result = IfErr result (λ e. e ≡ N.NoSolution → IsPlainGoal S g → KnownWereRefused J c S g)
