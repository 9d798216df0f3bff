-- What it says that where clauses were asked, and that none of them is refused: each stays, for a reason.
use Rattle.std.specs.Prelude.{◌≡◌, ◌||◌, ℕ, zero, suc, true, false, None, Some, List, length, slice_get}
use Rattle.ir_trees.specs.declared.decl.contents.ImplId.{ImplId}
use Rattle.ir_trees.specs.declared.ir.kinds.Clause.{Clause}
use Rattle.ir_trees.specs.Declarations.Context.{Context, Grows}
use Rattle.ir_trees.specs.Declarations.Contents.{Impl}
use Rattle.ir_trees.specs.Syntax.Trees.{Forest, none, Tree, holds, is_alias}
use Rattle.ir_trees.specs.Syntax.Words.{args_forest}
use Rattle.candidate_eval.specs.declared.eval.mode.TypingMode.TheVariants.{Coherence}
use Rattle.candidate_eval.specs.Derivations.ImplRules.{TraitGoal}
use Rattle.candidate_eval.specs.Dynamic.ObjectRequirements.{arguments_of, trait_said}
use Rattle.candidate_eval.specs.Judges.States.{Env, Judge, State, resolved}
use Rattle.candidate_assembly.specs.Answers.Preference.{Proved}
use Rattle.candidate_assembly.specs.Answers.TraitAnswers.{Answered, IsTraitAnswer}
use Rattle.candidate_rounds.specs.Calls.Standing.{stands_at}
use Rattle.candidate_rounds.specs.Evaluators.Interface.{fixed, judge_of}
use Rattle.candidate_rounds.specs.Evaluators.Known.{Evaluator, listing, state, table_of}
use Rattle.candidate_rounds.specs.Table.Goals.{Via}
use Rattle.candidate_rounds.specs.Table.Running.{computing, with_table}
use Rattle.rounds_judge.specs.Equations.Opening.{are_open}
use Rattle.rounds_judge.specs.Table.GoalTable.{GoalTable}
use Rattle.rounds_judge.specs.Table.Keys.{key_at}
use Rattle.candidate_rounds.specs.Table.Efforts.{Runs}
use Rattle.overlaps.specs.Apart.{OfDeclared, aside, opened}
use Rattle.overlaps.specs.Goals.{WasRefused}
use Rattle.overlaps.specs.Instance.{first_header, second_header}
use Rattle.overlaps.specs.Ordered.{in_order}
use Rattle.overlaps.specs.PartTraits.{HaveVariable, MayRestOnPart}
use Rattle.overlaps.specs.Refused.{MakesHeadersEqual, clause_at, headers_equated, locals_of}
use Rattle.overlaps.specs.Stopping.{IsLater}
use Rattle.overlaps.specs.declared.opening.Opened.{Opened}
use Rattle.overlaps.specs.declared.opening.Pair.{Pair}
use Rattle.overlaps.specs.declared.overlap.Overlap.{Overlap}
use Rattle.overlaps.specs.declared.overlap.Overlap.TheVariants as O
use Rattle.overlaps.specs.declared.overlap.WhereClause.{WhereClause}
use Rattle.candidate_rounds.specs.declared.rounds.effort.Effort.{Effort}

-- A refusal of the goal at the state would decide nothing: goals aren't asked for in coherence, or else an alias stands in its arguments;
-- a variable with a value does; or the goal doesn't stand there.
pub data DecidesNothing (S : State) (g : TraitGoal) : Type 0 where
  has_alias : (S.mode ≡ Coherence → holds is_alias g.reference.arguments ≡ true) → DecidesNothing S g
  has_values : (resolved S g.reference.arguments ≡ g.reference.arguments → ⊥) → DecidesNothing S g
  stands_not : (stands_at S g ≡ true → ⊥) → DecidesNothing S g

-- The goal comes to an answer, which is no refusal.
pub record WasAnswered (J : Judge) (c : Context) (S : State) (g : TraitGoal) : Type 0 where
  pub proved : Proved
  pub left : State
  pub comes : IsTraitAnswer J c S g left (Answered proved)

-- Once the goal was run it has an answer; or it is refused, and has instances that may have another answer: a variable stands in it, and it may
-- rest on an impl of an auto trait, as a context has it that comes after.
pub data IsNotRefused (J : Judge) (c : Context) (S : State) (g : TraitGoal) : Type 0 where
  was_answered : WasAnswered J c S g → IsNotRefused J c S g
  has_instances : WasRefused J c S g → HaveVariable g.reference.arguments → (later : Context) → Grows c later → MayRestOnPart later (record { 0 = g.reference.trait })
      → IsNotRefused J c S g

-- From the first table the goal was run at the state by that effort, which left the second one; and by this it isn't refused.
pub record WasRun (old : Evaluator) (S : State) (effort : Effort) (g : TraitGoal) (T U : GoalTable Via) : Type 0 where
  pub before : Evaluator
  pub later : IsLater old before
  pub stands : state before ≡ S
  pub ran : Runs (computing before) (key_at S g) effort T U
  pub context : Context
  pub grows : Grows before.context context
  pub not_refused : IsNotRefused (judge_of (with_table (fixed old) U)) context S g

-- The same, whatever it comes to.
pub record Ran (old : Evaluator) (S : State) (effort : Effort) (g : TraitGoal) (T U : GoalTable Via) : Type 0 where
  pub before : Evaluator
  pub later : IsLater old before
  pub stands : state before ≡ S
  pub ran : Runs (computing before) (key_at S g) effort T U

-- A goal that stands at the state was run; for one that doesn't the table stays.
pub data WasTried (old : Evaluator) (S : State) (effort : Effort) (g : TraitGoal) (T U : GoalTable Via) : Type 0 where
  ran_there : Ran old S effort g T U → WasTried old S effort g T U
  stands_nowhere : (stands_at S g ≡ true → ⊥) → U ≡ T → WasTried old S effort g T U

-- Why the goal of a clause doesn't rule out what is equal at the state: in coherence it would decide nothing, and the table stays, or it was run;
-- in another mode it decides nothing, and was run where it stands.
pub data GoalStays (old : Evaluator) (S : State) (effort : Effort) (g : TraitGoal) (T U : GoalTable Via) : Type 0 where
  decides_nothing : S.mode ≡ Coherence → DecidesNothing S g → U ≡ T → GoalStays old S effort g T U
  was_run : WasRun old S effort g T U → GoalStays old S effort g T U
  was_tried : (S.mode ≡ Coherence → ⊥) → WasTried old S effort g T U → GoalStays old S effort g T U

-- The goal is what the clause says of a trait, asked under that environment; and without one.

pub record AsksUnder (env : Env) (clause : Tree) (g : TraitGoal) : Type 0 where
  pub says : trait_said clause.head ≡ Some (record { 0 = g.reference.trait }, g.polarity)
  pub arguments : g.reference.arguments ≡ arguments_of clause
  pub under : g.env ≡ env

abbrev pub AsksFor : Tree → TraitGoal → Type 0
AsksFor = AsksUnder none

-- Why the clause, with all values put in, doesn't: it says nothing of a trait, or its goal doesn't.
pub data ClauseStays (old : Evaluator) (S : State) (effort : Effort) (clause : Tree) (T U : GoalTable Via) : Type 0 where
  says_nothing : trait_said clause.head ≡ None → U ≡ T → ClauseStays old S effort clause T U
  asks : (g : TraitGoal) → AsksFor clause g → GoalStays old S effort g T U → ClauseStays old S effort clause T U

-- the same of a declared clause, with these for its parameters and all values of the state put in
abbrev pub StaysHere : Evaluator → State → Effort → Forest → Clause → GoalTable Via → GoalTable Via → Type 0
StaysHere old S effort locals x T U = ClauseStays old S effort (clause_at old.context S locals x) T U

-- So many declared clauses were asked, one after the other, with these for their parameters, and each stays. The first table was there before
-- them, and the other one after them.
pub data SoManyStay (old : Evaluator) (S : State) (effort : Effort) (locals : Forest) (xs : List Clause) (T : GoalTable Via) : ℕ → GoalTable Via → Type 0 where
  none_asked : SoManyStay old S effort locals xs T zero T
  one_asked : {n : ℕ} {U V : GoalTable Via} (x : Clause) → SoManyStay old S effort locals xs T n U → slice_get xs n ≡ Some x
      → StaysHere old S effort locals x U V → SoManyStay old S effort locals xs T (suc n) V

-- All of them.
abbrev pub AllStay : Evaluator → State → Effort → Forest → List Clause → GoalTable Via → GoalTable Via → Type 0
AllStay old S effort locals xs T U = SoManyStay old S effort locals xs T (length xs) U

-- Those of an open impl; and of both, those of the first before those of the second.

abbrev pub ImplStays : Evaluator → State → Effort → Opened → GoalTable Via → GoalTable Via → Type 0
ImplStays old S effort o T U = AllStay old S effort (args_forest old.context.trees o.locals) o.wheres.items T U

pub record BothStay (old : Evaluator) (S : State) (effort : Effort) (p : Pair) (T U : GoalTable Via) : Type 0 where
  pub between : GoalTable Via
  pub first : ImplStays old S effort p.first T between
  pub second : ImplStays old S effort p.second between U

-- Of open impls that may overlap, told the table that is left: their headers were made equal, and all clauses of both were asked where that
-- leaves, with nothing pending. Or their equation would decide nothing, since an alias stands in one of them and aliases aren't open; then no
-- clause is asked.
pub data PairWasAsked (old : Evaluator) (effort : Effort) (p : Pair) (U : GoalTable Via) : Type 0 where
  pair_asked : (after : State) → headers_equated old p ≡ Some after → BothStay old (aside after) effort p (table_of old) U → PairWasAsked old effort p U
  pair_undecided : are_open (listing old) (state old) ≡ false
      → holds is_alias (args_forest old.context.trees p.first.header) || holds is_alias (args_forest old.context.trees p.second.header) ≡ true → U ≡ table_of old → PairWasAsked old effort p U

-- The clauses of two declared impls, opened at the first state, were asked at the second one; each stays.
pub record BothImplsStay (old : Evaluator) (S after : State) (effort : Effort) (i j : Impl) (T U : GoalTable Via) : Type 0 where
  pub between : GoalTable Via
  pub first : AllStay old after effort (locals_of S i) i.wheres T between
  pub second : AllStay old after effort (locals_of (opened S i) j) j.wheres between U

-- The same of declared impls as of open ones, where the evaluator is at that state.
pub data WereAsked (old : Evaluator) (S : State) (effort : Effort) (U : GoalTable Via) (i j : Impl) : Type 0 where
  impls_asked : (after : State) → MakesHeadersEqual (judge_of (fixed old)) old.context S i j after → BothImplsStay old S (aside after) effort i j (table_of old) U → WereAsked old S effort U i j
  impls_undecided : are_open (listing old) (opened (opened S i) j) ≡ false → holds is_alias (first_header old.context S i j) || holds is_alias (second_header old.context S i j) ≡ true
      → U ≡ table_of old → WereAsked old S effort U i j

-- Of two impls, with nothing pending: that of the lower number is the first one, whichever is given first.
abbrev pub ClausesWereAsked : Evaluator → Effort → GoalTable Via → ImplId → ImplId → Type 0
ClausesWereAsked old effort U a b = let p = in_order a b in OfDeclared old.context p.0 p.1 (WereAsked old (aside (state old)) effort U)

-- what is said where two impls may overlap
abbrev pub WhereMay : Type 0 → Overlap → Type 0
WhereMay P (O.May x) = P
WhereMay P _ = Unit {0}

-- So many clauses were asked, and each stays, whatever table is left.
abbrev pub FirstStay : Evaluator → State → Effort → Forest → List Clause → GoalTable Via → ℕ → Type 0
FirstStay old S effort locals xs T n = (U : GoalTable Via) × SoManyStay old S effort locals xs T n U

-- Of open impls: each clause that comes before that one was asked and stays. That are those of its impl with a lower number, and of the first
-- impl all, if it is one of the second.
pub data StayBefore (old : Evaluator) (S : State) (effort : Effort) (p : Pair) (T : GoalTable Via) (w : WhereClause) : Type 0 where
  before_of_first : w.of ≡ p.first.of → FirstStay old S effort (args_forest old.context.trees p.first.locals) p.first.wheres.items T w.number → StayBefore old S effort p T w
  before_of_second : (U : GoalTable Via) → w.of ≡ p.second.of → ImplStays old S effort p.first T U
      → FirstStay old S effort (args_forest old.context.trees p.second.locals) p.second.wheres.items U w.number → StayBefore old S effort p T w

-- The headers of open impls were made equal, and each clause before that one was asked where that leaves, with nothing pending.
pub record PairWasAskedBefore (old : Evaluator) (effort : Effort) (p : Pair) (w : WhereClause) : Type 0 where
  pub after : State
  pub equal : headers_equated old p ≡ Some after
  pub stay : StayBefore old (aside after) effort p (table_of old) w

-- The clauses of two declared impls with these numbers, opened at the first state, were asked at the second one, as far as that clause; each
-- stays.
pub data ImplsStayBefore (old : Evaluator) (S after : State) (effort : Effort) (a b : ImplId) (w : WhereClause) (i j : Impl) : Type 0 where
  declared_first : w.of ≡ a → FirstStay old after effort (locals_of S i) i.wheres (table_of old) w.number → ImplsStayBefore old S after effort a b w i j
  declared_second : (U : GoalTable Via) → w.of ≡ b → AllStay old after effort (locals_of S i) i.wheres (table_of old) U
      → FirstStay old after effort (locals_of (opened S i) j) j.wheres U w.number → ImplsStayBefore old S after effort a b w i j

-- The same of declared impls as of open ones, where the evaluator is at that state.
pub record WereAskedBefore (old : Evaluator) (S : State) (effort : Effort) (a b : ImplId) (w : WhereClause) (i j : Impl) : Type 0 where
  pub after : State
  pub equal : MakesHeadersEqual (judge_of (fixed old)) old.context S i j after
  pub stay : ImplsStayBefore old S (aside after) effort a b w i j

-- Of two impls, with nothing pending: that of the lower number is the first one, whichever is given first.
abbrev pub ClausesBeforeWereAsked : Evaluator → Effort → ImplId → ImplId → WhereClause → Type 0
ClausesBeforeWereAsked old effort a b w = let p = in_order a b in OfDeclared old.context p.0 p.1 (WereAskedBefore old (aside (state old)) effort p.0 p.1 w)

-- what is said of a clause that keeps two impls apart
abbrev pub OfClause : (WhereClause → Type 0) → Overlap → Type 0
OfClause P (O.DisjointClause w) = P w
OfClause P _ = Unit {0}
