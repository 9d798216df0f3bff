-- What a sure answer of a projection rests on: the projection is rigid, or the response is that of one rule of goals that a projection is a term,
-- whose side condition holds, whose equations were accepted, and whose nested goals have derivations.
use Rattle.std.specs.Prelude.{◌≡◌, ℕ, Some}
use Rattle.ir_trees.specs.declared.ir.heads.Head.TheVariants as H
use Rattle.ir_trees.specs.declared.ir.kinds.AliasKind.TheVariants as AK
use Rattle.ir_trees.specs.Declarations.Context.{Context, Grows}
use Rattle.ir_trees.specs.Hierarchy.Supers.{after_first}
use Rattle.ir_trees.specs.Syntax.Trees.{Tree, join}
use Rattle.ir_trees.specs.Unification.Substitutions.{alone}
use Rattle.candidate_eval.specs.declared.eval.certainty.Certainty.TheVariants.{Yes}
use Rattle.candidate_eval.specs.Derivations.Characterization.{bound_kinds}
use Rattle.candidate_eval.specs.Dynamic.ObjectRequirements.{first_tree}
use Rattle.candidate_eval.specs.Interface.Evaluators.{accepted}
use Rattle.candidate_eval.specs.Judges.Soundness.{universes}
use Rattle.candidate_eval.specs.Judges.States.{Goal, Judge, State, resolved}
use Rattle.candidate_eval.specs.Outcomes.Responses.{Candidate, Response}
use Rattle.candidate_assembly.specs.Answers.AssembledCalls.{IsLeftAlike}
use Rattle.candidate_assembly.specs.Answers.SureAnswers.{AnswersAfter, AnswersGranted, IsProvedBy, IsProvedWith, by_object, by_rule as proved_by_rule}
use Rattle.candidate_assembly.specs.Goals.Kinds.{self_type}
use Rattle.candidate_assembly.specs.Rules.ObjectBounds.{nested_goals}
use Rattle.candidate_rounds.specs.Evaluators.Interface.{fixed, judge_of}
use Rattle.candidate_rounds.specs.Evaluators.Known.{Evaluator, listing}
use Rattle.candidate_rounds.specs.Table.Goals.{Via}
use Rattle.candidate_rounds.specs.Table.Normalizing.{term_goal, with_term}
use Rattle.candidate_rounds.specs.Table.Running.{with_table}
use Rattle.derivations.specs.Derivations.{Derivation}
use Rattle.derivations.specs.DerivedTables.{ByDeclared, TableIsClean}
use Rattle.projection_goals.specs.Normalizing.{NormalizesGoal, normalizes_bounds, normalizes_rules}
use Rattle.rounds_judge.specs.Aliases.Listed.{Listing}
use Rattle.rounds_judge.specs.Obligations.Granted.{IsFreshFor, facts_in}
use Rattle.rounds_judge.specs.Table.GoalTable.{GoalTable}
use Rattle.rounds_judge.specs.Table.Keys.{Key, every, start_of}

-- A goal has a derivation at a state: with placeholders of one fresh universe for what its binder binds, and with all values put in.
pub record GoalIsDerived (d : Context) (l : Listing) (S : State) (g : Goal) : Type 0 where
  pub universe : ℕ
  pub is_fresh : IsFreshFor (universes S) (bound_kinds g.clause.children) universe (join g.env (after_first g.clause.children))
  pub derivation : Derivation d l (universes S) (resolved S g.env) g.clause.head (resolved S (facts_in universe g.clause))

-- Each goal that a judge grants at a state has a derivation there.
abbrev pub GrantedIsDerived : Context → Listing → Judge → Type 0
GrantedIsDerived d l J = (S : State) (g : Goal) → J.granted S g → GoalIsDerived d l S g

-- the projection as a type
abbrev pub as_type : NormalizesGoal → Tree
as_type g = record { head = H.Alias AK.Projection (record { 0 = g.item }); children = g.arguments }

-- the state at which the rule, or an object's own clause, asks for its response
abbrev pub where_asked : {J : Judge} {c : Context} {S : State} {g : NormalizesGoal} {x : Candidate} → IsProvedBy normalizes_rules normalizes_bounds J c S g (AnswersGranted J) x → State
where_asked (proved_by_rule of h) = h.last
where_asked (by_object o) = nested_goals o.last o.goals

-- The term was made equal to the projection itself, at a state alike the one at which the goal was asked, or alike the one that normalising the
-- projection's self type leaves there; the response is that of the state that this leaves, which comes after, and all that is pending there is
-- granted.
pub record IsRigid (J : Judge) (c : Context) (S : State) (g : NormalizesGoal) (r : Response) : Type 0 where
  pub at : State
  pub alike : IsLeftAlike J S g.env (self_type normalizes_rules c g) at
  pub last : State
  pub equated : accepted J at g.env (alone (first_tree g.term)) (alone (as_type g)) ≡ Some last
  pub responded : J.responded last Yes ≡ Some r
  pub granted : AnswersAfter J S every last r

-- The response is that of one rule, or of an object's own clause, whose side condition holds and whose equations were accepted; the state at which
-- this asks comes after the one at which the goal was asked, and all that is pending there, its nested goals among it, is granted.
pub record IsByRule (J : Judge) (c : Context) (S : State) (g : NormalizesGoal) (r : Response) : Type 0 where
  pub proved : IsProvedWith (AnswersGranted J) normalizes_rules normalizes_bounds J c S g r
  pub granted : AnswersAfter J S every (where_asked proved.proved_by) r

-- a sure response is one of these
pub data IsSureNormal (J : Judge) (c : Context) (S : State) (g : NormalizesGoal) (r : Response) : Type 0 where
  is_rigid : IsRigid J c S g r → IsSureNormal J c S g r
  by_rule : IsByRule J c S g r → IsSureNormal J c S g r

-- So is a sure answer to the projection of a key, whose goal is asked where nothing is pending and no variable has a value; and what is granted
-- has derivations from what is declared, if the table is clean.
pub record NormalIsDerived (r : Evaluator) (T : GoalTable Via) (k : Key) (item : ℕ) (x : Response) : Type 0 where
  pub context : Context
  pub grows : Grows r.context context
  pub rests : IsSureNormal (judge_of (with_table (fixed r) T)) context (start_of r.mode (with_term k)) (term_goal item k) x
  pub derived : ByDeclared context (λ d. TableIsClean (listing r) T → GrantedIsDerived d (listing r) (judge_of (with_table (fixed r) T)))

abbrev pub SureIsDerived : Evaluator → GoalTable Via → Key → ℕ → Response → Type 0
SureIsDerived r T k item x = x.certainty ≡ Yes → NormalIsDerived r T k item x
