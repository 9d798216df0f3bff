-- What it says that a where clause of one of two impls is refused, where their headers are equal.
use Rattle.std.specs.Prelude.{◌≡◌, ℕ, true, false, Option, Some, None, List, [], slice_get}
use Rattle.ir_trees.specs.declared.decl.contents.ImplId.{ImplId}
use Rattle.ir_trees.specs.declared.ir.kinds.Clause.{Clause}
use Rattle.ir_trees.specs.declared.ir.kinds.TraitPredicate.{TraitPredicate}
use Rattle.ir_trees.specs.Declarations.Context.{Context, Grows}
use Rattle.ir_trees.specs.Declarations.Contents.{Impl}
use Rattle.ir_trees.specs.Instantiation.Folding.{substituted_tree}
use Rattle.ir_trees.specs.Instantiation.Owned.{ClausesAreOwned}
use Rattle.ir_trees.specs.Syntax.Trees.{Forest, none, Tree, holds, is_alias}
use Rattle.ir_trees.specs.Syntax.Words.{IsArgs, args_forest, clause_tree}
use Rattle.candidate_eval.specs.Derivations.ImplRules.{TraitGoal}
use Rattle.candidate_eval.specs.Dynamic.ObjectRequirements.{arguments_of, trait_said}
use Rattle.candidate_eval.specs.Interface.Evaluators.{accepted}
use Rattle.candidate_eval.specs.Judges.States.{Judge, State, fresh_variables, resolved_tree}
use Rattle.candidate_assembly.specs.Answers.KnownImpls.{header_at, kinds_of_impl}
use Rattle.candidate_rounds.specs.Evaluators.Interface.{fixed, judge_of}
use Rattle.candidate_rounds.specs.Evaluators.Known.{Evaluator, listing, probes, state, table_of}
use Rattle.candidate_rounds.specs.Table.Running.{ComesFrom, PutsOffByGoals, with_table}
use Rattle.rounds_judge.specs.Equations.Opening.{are_open}
use Rattle.overlaps.specs.Apart.{aside, opened}
use Rattle.overlaps.specs.Goals.{WasRefused}
use Rattle.overlaps.specs.PartTraits.{IsOfInstances}
use Rattle.overlaps.specs.declared.opening.Opened.{Opened}
use Rattle.overlaps.specs.declared.opening.Pair.{Pair}
use Rattle.overlaps.specs.declared.overlap.WhereClause.{WhereClause}

-- Of an evaluator all is as it was but the table, which comes by steps from the one that was there, and such faults as goals put off.
pub record StaysBesideSteps (old new : Evaluator) : Type 0 where
  pub grows : Grows old.context new.context
  pub fixed_same : with_table (fixed new) [] ≡ with_table (fixed old) []
  pub state_same : state new ≡ state old
  pub probes_same : probes new ≡ probes old
  pub faults : PutsOffByGoals old.context.delayed_bugs new.context.delayed_bugs
  pub table : ComesFrom old (table_of old) (table_of new)

-- The same, but that what is known may be otherwise.
pub record StaysBesideKnown (old new : Evaluator) : Type 0 where
  pub grows : Grows old.context new.context
  pub fixed_same : with_table (fixed new) [] ≡ with_table (fixed old) []
  pub probes_same : probes new ≡ probes old
  pub faults : PutsOffByGoals old.context.delayed_bugs new.context.delayed_bugs
  pub table : ComesFrom old (table_of old) (table_of new)

-- the goal of a predicate without an environment
abbrev pub goal_alone : List Tree → TraitPredicate → TraitGoal
goal_alone ts p = record {
  env = none;
  reference = record { trait = p.trait_ref.def_id.0; arguments = args_forest ts p.trait_ref.args };
  polarity = p.polarity;
}

-- What the clause says of a trait was refused at the state, asked without an environment; and so are all its instances, as far as auto traits go.
pub record ClauseWasRefused (J : Judge) (c : Context) (S : State) (clause : Tree) : Type 0 where
  pub goal : TraitGoal
  pub says : trait_said clause.head ≡ Some (record { 0 = goal.reference.trait }, goal.polarity)
  pub arguments : goal.reference.arguments ≡ arguments_of clause
  pub no_environment : goal.env ≡ none
  pub refused : WasRefused J c S goal
  pub of_instances : IsOfInstances c (record { 0 = goal.reference.trait }) goal.reference.arguments

-- The same of a clause into which the values of the state are put, by the table that is left, as a context has it that comes after the first.
pub record RefusesHere (old new : Evaluator) (clause : Tree) : Type 0 where
  pub context : Context
  pub earlier : Grows old.context context
  pub refused : ClauseWasRefused (judge_of (fixed new)) context (state old) (resolved_tree (state old) clause)

-- The same of what a predicate says.
pub record RefusesPredicate (old new : Evaluator) (p : TraitPredicate) : Type 0 where
  pub context : Context
  pub earlier : Grows old.context context
  pub refused : WasRefused (judge_of (fixed new)) context (state old) (goal_alone old.context.trees p)

-- And of all its instances, as far as auto traits go.
pub record RefusesInstances (old new : Evaluator) (p : TraitPredicate) : Type 0 where
  pub refuses : RefusesPredicate old new p
  pub of_instances : IsOfInstances refuses.context p.trait_ref.def_id (args_forest old.context.trees p.trait_ref.args)

-- The same of the clause of that number, in which these stand for the parameters.
pub record RefusesOne (old new : Evaluator) (locals : Forest) (clauses : List Clause) (n : ℕ) : Type 0 where
  pub clause : Clause
  pub is : slice_get clauses n ≡ Some clause
  pub refuses : RefusesHere old new (substituted_tree locals (clause_tree old.context.trees clause))

-- one of two
pub data Side : Type 0 where
  of_first : Side
  of_second : Side

-- what is on that side, of two
abbrev pub on_side : {A : Type 0} → Side → A → A → A
on_side of_first x y = x
on_side of_second x y = y

-- the opened impl on that side
abbrev pub opened_on : Side → Pair → Opened
opened_on s p = on_side s p.first p.second

-- Variables and clauses of both are of the context, and each parameter of a clause has a variable.
abbrev pub IsOpen : List Tree → Opened → Type 0
IsOpen ts o = IsArgs ts o.locals × IsArgs ts o.header × ClausesAreOwned ts (args_forest ts o.locals) o.wheres.items

abbrev pub AreOpen : List Tree → Pair → Type 0
AreOpen ts p = IsOpen ts p.first × IsOpen ts p.second

-- That where clause was refused, of the one of them whose number it has.
pub record RefusesOfPair (old new : Evaluator) (p : Pair) (w : WhereClause) : Type 0 where
  pub side : Side
  pub of : w.of ≡ (opened_on side p).of
  pub refuses : RefusesOne old new (args_forest old.context.trees (opened_on side p).locals) (opened_on side p).wheres.items w.number

-- What an evaluator's judge says of the equation of their headers, without an environment.
abbrev pub headers_equated : Evaluator → Pair → Option State
headers_equated r p =
    let ts = r.context.trees in accepted (judge_of (fixed r)) (state r) none (args_forest ts p.first.header) (args_forest ts p.second.header)

-- Their equation takes each alias for what it may be: aliases are open where the evaluator stands, so that those which aren't listed may be any
-- type; or no alias stands in either header.
pub data AreDecided (r : Evaluator) (p : Pair) : Type 0 where
  aliases_are_open : are_open (listing r) (state r) ≡ true → AreDecided r p
  without_aliases : holds is_alias (args_forest r.context.trees p.first.header) ≡ false → holds is_alias (args_forest r.context.trees p.second.header) ≡ false → AreDecided r p

-- It was refused, and decides.
pub record HeadersAreRefused (r : Evaluator) (p : Pair) : Type 0 where
  pub decided : AreDecided r p
  pub refused : headers_equated r p ≡ None

-- It was accepted, and then that clause was refused. What the equation left pending was set aside: that an alias and the variable in its place
-- are one isn't asked.
pub record EqualAndRefused (old new : Evaluator) (p : Pair) (w : WhereClause) : Type 0 where
  pub after : State
  pub equal : headers_equated old p ≡ Some after
  pub between : Evaluator
  pub grows : Grows old.context between.context
  pub is_aside : state between ≡ aside after
  pub refused : RefusesOfPair between new p w

-- what stands for the parameters of an impl, and of that on a side of two

abbrev pub locals_of : State → Impl → Forest
locals_of S i = fresh_variables S (kinds_of_impl i)

abbrev pub locals_on : Side → State → Impl → Impl → Forest
locals_on s S i j = on_side s (locals_of S i) (locals_of (opened S i) j)

-- a declared clause with what stands for the parameters, and with all values of a state
abbrev pub clause_at : Context → State → Forest → Clause → Tree
clause_at c S locals x = resolved_tree S (substituted_tree locals (clause_tree c.trees x))

-- the state that an accepted equation of the two headers leaves
abbrev pub MakesHeadersEqual : Judge → Context → State → Impl → Impl → State → Type 0
MakesHeadersEqual J c S i j T =
    accepted J (opened (opened S i) j) none (header_at c S i).arguments (header_at c (opened S i) j).arguments ≡ Some T

-- At that state of an evaluator the headers of the two impls were made equal, and then that where clause was refused, of the one whose number
-- it has, at what their equation left, with nothing pending.
pub record ClauseIsRefused (old : Evaluator) (S : State) (new : Evaluator) (a b : ImplId) (w : WhereClause) (i j : Impl) : Type 0 where
  pub after : State
  pub equal : MakesHeadersEqual (judge_of (fixed old)) old.context S i j after
  pub side : Side
  pub of : w.of ≡ on_side side a b
  pub clause : Clause
  pub is : slice_get (on_side side i j).wheres w.number ≡ Some clause
  pub context : Context
  pub earlier : Grows old.context context
  pub refused : ClauseWasRefused (judge_of (fixed new)) context (aside after) (clause_at old.context (aside after) (locals_on side S i j) clause)
