-- What is vouched for with tables of goals of traits and of projections.
use Rattle.std.specs.Prelude.{◌≡◌, ◌⊎◌, ℕ}
use Rattle.ir_trees.specs.declared.ir.heads.ClauseHead.TheVariants as Cl
use Rattle.ir_trees.specs.declared.ir.heads.Head.{Head}
use Rattle.ir_trees.specs.declared.ir.heads.Head.TheVariants as H
use Rattle.ir_trees.specs.declared.ir.heads.PartHead.TheVariants as Part
use Rattle.ir_trees.specs.declared.ir.kinds.AssocId.{AssocId}
use Rattle.ir_trees.specs.Hierarchy.Supers.{after_first}
use Rattle.ir_trees.specs.Syntax.Trees.{Forest, Tree, join}
use Rattle.ir_trees.specs.Unification.Substitutions.{Universes, alone}
use Rattle.candidate_eval.specs.Derivations.Characterization.{bound_kinds}
use Rattle.candidate_eval.specs.Judges.Soundness.{universes}
use Rattle.candidate_eval.specs.Judges.States.{Env, Goal, State, resolved}
use Rattle.rounds_judge.specs.Aliases.Congruence.{AreListed, SameBy}
use Rattle.rounds_judge.specs.Aliases.Listed.{Listing}
use Rattle.rounds_judge.specs.Obligations.Granted.{FactsGranted, IsFreshFor, facts_in}
use Rattle.rounds_judge.specs.Obligations.Settling.{alias_of, first_fact, term_of}
use Rattle.rounds_judge.specs.Projections.ProjectionGoals.{ProjectionTables, projection_goal}
use Rattle.rounds_judge.specs.Table.GoalTable.{GoalTable}
use Rattle.rounds_judge.specs.Table.Keys.{trait_goal_of}
use Rattle.rounds_judge.specs.Table.TableGranted.{IsGrantedByYes}

-- A projection, and what it is by an allowed instance of a Yes.
pub record IsProjected {W : Type 0} (Q : ProjectionTables W) (l : Listing) (u : Universes) (e : Env) (t s : Tree) : Type 0 where
  pub item : AssocId
  pub facts : Forest
  pub by : IsGrantedByYes (Q item) l u (projection_goal e item facts)
  pub alias : alias_of item facts ≡ t
  pub type : term_of facts ≡ s

-- Two trees are one under an environment: they are listed, or a Yes says that the first is the second.
abbrev pub AreOne : {W : Type 0} → ProjectionTables W → Listing → Universes → Env → Tree → Tree → Type 0
AreOne Q l u e t s = AreListed l t s ⊎ IsProjected Q l u e t s

-- The facts of a clause under an environment, by its head, where the sides of these pairs are one.
abbrev pub FactsGrantedModulo : {W : Type 0} → (Tree → Tree → Type 0) → GoalTable W → Listing → Universes → Env → Head → Forest → Type 0
FactsGrantedModulo P T l u e (H.Part (Part.Clause (Cl.Trait i p))) ts = IsGrantedByYes T l u (trait_goal_of e i p ts)
FactsGrantedModulo P T l u e (H.Part (Part.Clause (Cl.Projection i))) ts = SameBy P (alone (alias_of i ts)) (alone (term_of ts))
FactsGrantedModulo P T l u e (H.Part (Part.Clause Cl.AliasRelate)) ts = SameBy P (alone (first_fact ts)) (alone (term_of ts))
FactsGrantedModulo P T l u e (H.Part (Part.Clause Cl.ConstEquate)) ts = SameBy P (alone (first_fact ts)) (alone (term_of ts))
FactsGrantedModulo P T l u e h ts = FactsGranted l h ts

-- A goal is granted where the instance with placeholders of one fresh universe is, with all values put in.
pub record IsGrantedBy {W : Type 0} (Q : ProjectionTables W) (T : GoalTable W) (l : Listing) (S : State) (g : Goal) : Type 0 where
  pub universe : ℕ
  pub is_fresh : IsFreshFor (universes S) (bound_kinds g.clause.children) universe (join g.env (after_first g.clause.children))
  pub facts : FactsGrantedModulo (AreOne Q l (universes S) (resolved S g.env)) T l (universes S) (resolved S g.env) g.clause.head (resolved S (facts_in universe g.clause))
