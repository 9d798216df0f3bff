-- The goals that are vouched for with a table of goals: instances of its Yes entries, and those that need no table.
use Rattle.std.specs.Prelude.{◌≡◌, ℕ, Option, Some}
use Rattle.std.specs.List.{Contains}
use Rattle.ir_trees.specs.declared.ir.heads.Head.{Head}
use Rattle.ir_trees.specs.declared.ir.heads.Head.TheVariants as H
use Rattle.ir_trees.specs.declared.ir.heads.PartHead.TheVariants as P
use Rattle.ir_trees.specs.declared.ir.heads.ClauseHead.TheVariants as Cl
use Rattle.ir_trees.specs.declared.ir.heads.Variable.{Variable}
use Rattle.ir_trees.specs.Unification.Substitutions.{Universes}
use Rattle.ir_trees.specs.Hierarchy.Supers.{after_first}
use Rattle.ir_trees.specs.Syntax.Trees.{Forest, Tree, join}
use Rattle.candidate_eval.specs.Derivations.Characterization.{bound_kinds}
use Rattle.candidate_eval.specs.Derivations.ImplRules.{TraitGoal}
use Rattle.candidate_eval.specs.Judges.Instances.{IsAllowedInto, instance, answer_values, response_universes}
use Rattle.candidate_eval.specs.Outcomes.Responses.{Response}
use Rattle.candidate_eval.specs.Judges.Soundness.{universes}
use Rattle.candidate_eval.specs.Judges.States.{Env, State, Goal, resolved, valued}
use Rattle.rounds_judge.specs.Aliases.Congruence.{Same}
use Rattle.rounds_judge.specs.Obligations.Granted.{FactsGranted, IsFreshFor, facts_in}
use Rattle.rounds_judge.specs.Table.GoalTable.{Entry, GoalTable}
use Rattle.rounds_judge.specs.Table.Keys.{trait_goal_of}
use Rattle.rounds_judge.specs.Aliases.Listed.{Listing}
use Rattle.rounds_judge.specs.Table.Verdicts.{Yes}

-- Trees of a key with the response's values put in, and then an instance of what these leave open.
abbrev pub answered : Response → (Variable → Tree) → Forest → Forest
answered r values ts = valued (instance (λ v. Some (values v))) (valued (answer_values r) ts)

-- The goal is an allowed instance of a Yes, modulo the listed pairs. The instance says a value for each variable.
pub record IsGrantedByYes {W : Type 0} (T : GoalTable W) (l : Listing) (u : Universes) (g : TraitGoal) : Type 0 where
  pub entry : Entry W
  pub entered : Contains T entry
  pub response : Response
  pub way : Option W
  pub is_yes : entry.verdict ≡ Some (Yes response way)
  pub values : Variable → Tree
  pub allowed : IsAllowedInto (response_universes response) u (λ v. Some (values v))
  pub same_trait : entry.key.goal.reference.trait ≡ g.reference.trait
  pub same_polarity : entry.key.goal.polarity ≡ g.polarity
  pub env : Same l (answered response values entry.key.goal.env) g.env
  pub arguments : Same l (answered response values entry.key.goal.reference.arguments) g.reference.arguments

-- The facts of a clause under an environment, by its head.
abbrev pub FactsGrantedWith : {W : Type 0} → GoalTable W → Listing → Universes → Env → Head → Forest → Type 0
FactsGrantedWith T l u e (H.Part (P.Clause (Cl.Trait i p))) ts = IsGrantedByYes T l u (trait_goal_of e i p ts)
FactsGrantedWith T l u e h ts = FactsGranted l h ts

-- A goal is granted where the instance with placeholders of one fresh universe is, with all values put in.
pub record IsGrantedWith {W : Type 0} (T : GoalTable W) (l : Listing) (S : State) (g : Goal) : Type 0 where
  pub universe : ℕ
  pub is_fresh : IsFreshFor (universes S) (bound_kinds g.clause.children) universe (join g.env (after_first g.clause.children))
  pub facts : FactsGrantedWith T l (universes S) (resolved S g.env) g.clause.head (resolved S (facts_in universe g.clause))
