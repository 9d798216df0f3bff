-- Derivations as data: steps, each of which says that a goal holds by a rule.
use Rattle.std.specs.Prelude.{◌≡◌, ◌<◌, ◌+◌, ℕ, Bool, true, false, Result, Option, Some, None, List, [], ◌∷◌, ◌++◌, map, length, get_or, set, take, nat_lt, slice_get, if◌then◌else◌}
use Rattle.std.specs.List.{Contains, count_by, filter_map, fold}
use Rattle.ir_trees.specs.declared.ir.stop.Stop.{Stop}
use Rattle.ir_trees.specs.Declarations.Context.{Context, Grows}
use Rattle.ir_trees.specs.Syntax.Trees.{Tree}
use Rattle.ir_trees.specs.Validity.WellFormed.{IsWellFormedTable}
use Rattle.candidate_eval.specs.declared.eval.certainty.Certainty.TheVariants.{Yes}
use Rattle.candidate_eval.specs.declared.eval.response.Candidate.{Candidate as OfNumbers}
use Rattle.candidate_eval.specs.declared.eval.response.CanonicalResponse.{CanonicalResponse}
use Rattle.candidate_eval.specs.declared.eval.source.CandidateSource.{CandidateSource}
use Rattle.candidate_eval.specs.Outcomes.ResponseTrees.{IsCopy, IsResponse, candidates_of, response_of}
use Rattle.candidate_eval.specs.Outcomes.Responses.{Candidate}
use Rattle.candidate_eval.specs.Derivations.ImplRules.{TraitGoal}
use Rattle.candidate_eval.specs.Judges.States.{State}
use Rattle.candidate_assembly.specs.declared.assembly.opaques.AssembleCandidatesFrom.TheVariants.{All}
use Rattle.candidate_assembly.specs.Answers.AssembledCalls.{Assembles, IsAssembledAt}
use Rattle.candidate_assembly.specs.Answers.Listing.{Lists}
use Rattle.candidate_assembly.specs.Goals.TraitRules.{trait_bounds, trait_rules}
use Rattle.rounds_judge.specs.Aliases.Listed.{Listing}
use Rattle.rounds_judge.specs.Table.GoalTable.{Entry, GoalTable, verdict_in}
use Rattle.rounds_judge.specs.Table.Keys.{Key, key_at, start_of}
use Rattle.rounds_judge.specs.Table.Verdicts as J
use Rattle.derivations.specs.DerivedTables.{EachIsDerived}
use Rattle.candidate_rounds.specs.declared.rounds.derivation.DerivationStep.{DerivationStep}
use Rattle.candidate_rounds.specs.declared.rounds.goals.GoalKey.{GoalKey}
use Rattle.candidate_rounds.specs.Evaluators.Interface.{fixed, judge_of}
use Rattle.candidate_rounds.specs.Evaluators.Known.{Evaluator, probes, state, table_of}
use Rattle.candidate_rounds.specs.Evaluators.Stopping.{accounts}
use Rattle.candidate_rounds.specs.Table.Entries.{GoalEntry}
use Rattle.candidate_rounds.specs.Table.Goals.{Each, Goals, IsTraitGoal, Via, key_seen, table_seen}
use Rattle.candidate_rounds.specs.Table.Running.{with_table}

-- no goal
abbrev pub no_goals : Goals
no_goals = record { table = []; asked = []; asks = false }

-- These are the candidates for the key's goal at its start, for an evaluator's judge that reads the table. The context is one to which the
-- evaluator's grew, and nothing is wrong with what it declares.
pub record IsListed (r : Evaluator) (T : GoalTable Via) (k : Key) (xs : List Candidate) : Type 0 where
  pub context : Context
  pub grows : Grows r.context context
  pub well_formed : IsWellFormedTable context
  pub left : State
  pub list : IsAssembledAt trait_rules trait_bounds context (judge_of (with_table (fixed r) T)) (start_of r.mode k) k.goal All left (Lists xs)

-- They are the candidates for a goal at what an evaluator knows, by its table; the numbers are of a later context.
abbrev pub AreListedFor : Evaluator → Evaluator → TraitGoal → List OfNumbers → Type 0
AreListedFor old new g xs = IsListed old (table_of old) (key_at (state old) g) (candidates_of new.context.trees xs)

-- a call answers the list of a goal at what an evaluator knows
abbrev pub AssemblesHere : {A : Type 0} → Evaluator → Evaluator → TraitGoal → (A → List OfNumbers) → Result A Stop → Type 0
AssemblesHere old new g = Assembles fixed judge_of state probes (λ (r : Evaluator). r.context) accounts trait_rules trait_bounds old new g All

-- The numbers of a step are of the context.
pub record IsStep (ts : List Tree) (s : DerivationStep) : Type 0 where
  pub goal : IsTraitGoal ts s.key.goal
  pub response : IsResponse ts s.response

-- The table in which a goal is a Yes, and that in which the goals of steps are: each as its step says.

abbrev pub yes_entry : List Tree → GoalKey → CanonicalResponse → Entry Via
yes_entry ts k r = record { key = key_seen ts k; verdict = Some (J.Yes (response_of ts r) None) }

abbrev pub step_entry : List Tree → DerivationStep → Entry Via
step_entry ts s = yes_entry ts s.key s.response

abbrev pub entries_of : List Tree → List DerivationStep → GoalTable Via
entries_of ts ss = map (step_entry ts) ss

-- Steps are of the context, and what each says is derived by what is declared: the goal under the values that its response gives, and each
-- allowed instance of it.
pub record StepsHold (c : Context) (l : Listing) (ss : List DerivationStep) : Type 0 where
  pub are : Each (IsStep c.trees) ss
  pub derived : EachIsDerived c l (entries_of c.trees ss)

-- the same of one more: that a goal holds as a response says
abbrev pub HoldsBeside : Context → Listing → List DerivationStep → GoalKey → CanonicalResponse → Type 0
HoldsBeside c l ss k r = EachIsDerived c l (entries_of c.trees ss ++ yes_entry c.trees k r ∷ [])

-- of each sure candidate of the goal
abbrev pub SureHoldBeside : Context → Listing → List DerivationStep → GoalKey → List OfNumbers → Type 0
SureHoldBeside c l ss k xs = (x : OfNumbers) → Contains xs x → x.result.certainty ≡ Yes → HoldsBeside c l ss k x.result

-- The candidate is by that source, is sure and has that response.
pub record IsSureBy (way : CandidateSource) (r : CanonicalResponse) (x : OfNumbers) : Type 0 where
  pub source : x.source ≡ way
  pub sure : x.result.certainty ≡ Yes
  pub response : IsCopy x.result r

-- one of the candidates is
pub record IsSureOfOne (xs : List OfNumbers) (way : CandidateSource) (r : CanonicalResponse) : Type 0 where
  pub candidate : OfNumbers
  pub listed : Contains xs candidate
  pub is : IsSureBy way r candidate

-- Whose derivation steps are.

-- The key has the numbers of the other one.
pub record IsKeyCopy (k m : GoalKey) : Type 0 where
  pub goal : m.goal ≡ k.goal
  pub variables : m.variables.items ≡ k.variables.items

-- The step is for the goal of that key, and says that it holds as that response does.
pub record IsStepFor (k : GoalKey) (r : CanonicalResponse) (s : DerivationStep) : Type 0 where
  pub key : IsKeyCopy k s.key
  pub response : IsCopy r s.response

-- A place of a table has that goal, and for it a Yes with that response.
pub record IsYesAt (ts : List Tree) (T : GoalTable Via) (place : ℕ) (k : Key) (r : CanonicalResponse) : Type 0 where
  pub way : Option Via
  pub entry : slice_get T place ≡ Some (record { key = k; verdict = Some (J.Yes (response_of ts r) way) })

-- The last step has the goal of that place of the table, and says that it holds as its Yes does.
pub record EndsAtPlace (ts : List Tree) (es : List GoalEntry) (place : ℕ) (ss : List DerivationStep) : Type 0 where
  pub before : List DerivationStep
  pub step : DerivationStep
  pub last : ss ≡ before ++ step ∷ []
  pub yes : IsYesAt ts (table_seen ts es) place (key_seen ts step.key) step.response

-- The steps are the derivation of the goal of that key: the last one has the key, by its trees, and the response of the Yes that the table
-- has for the key.
pub record IsOfGoal (ts : List Tree) (T : GoalTable Via) (k : Key) (ss : List DerivationStep) : Type 0 where
  pub before : List DerivationStep
  pub step : DerivationStep
  pub last : ss ≡ before ++ step ∷ []
  pub key : key_seen ts step.key ≡ k
  pub way : Option Via
  pub yes : verdict_in T k ≡ Some (J.Yes (response_of ts step.response) way)

-- The same of a goal at what an evaluator knows, by its table; the numbers of the steps are of a later context.
abbrev pub IsDerivationOf : Evaluator → Evaluator → TraitGoal → List DerivationStep → Type 0
IsDerivationOf old new g ss = IsOfGoal new.context.trees (table_of old) (key_at (state old) g) ss

-- The steps up to and with the first one that is for that goal and says that it holds so.
pub record IsUpTo (ss : List DerivationStep) (k : GoalKey) (r : CanonicalResponse) (us : List DerivationStep) : Type 0 where
  pub place : ℕ
  pub is : us ≡ take (place + 1) ss
  pub step : DerivationStep
  pub there : slice_get ss place ≡ Some step
  pub is_for : IsStepFor k r step
  pub first : (n : ℕ) (s : DerivationStep) → n < place → slice_get ss n ≡ Some s → IsStepFor k r s → ⊥

-- None of the steps is.
abbrev pub NoneIsFor : List DerivationStep → GoalKey → CanonicalResponse → Type 0
NoneIsFor ss k r = (n : ℕ) (s : DerivationStep) → slice_get ss n ≡ Some s → IsStepFor k r s → ⊥

-- Which steps are needed.

-- whether there is a mark at that place
abbrev pub is_marked : List Bool → ℕ → Bool
is_marked ms n = get_or ms n false

-- The marks, and one at that place, if it is below the bound; and one at each of these that is.

abbrev pub with_mark : List Bool → ℕ → ℕ → List Bool
with_mark ms n bound = if nat_lt n bound then set ms n true else ms

abbrev pub with_marks : List Bool → List ℕ → ℕ → List Bool
with_marks ms places bound = fold (λ xs n. with_mark xs n bound) ms places

-- There is a mark for each step or none: the last one has a mark, and so have the steps before one with a mark that it names.
pub record AreMarks (ss : List DerivationStep) (ms : List Bool) : Type 0 where
  pub many : length ms ≡ length ss
  pub last : (n : ℕ) → n + 1 ≡ length ss → is_marked ms n ≡ true
  pub named : (n m : ℕ) (s : DerivationStep) → slice_get ss n ≡ Some s → is_marked ms n ≡ true → Contains s.nested.items m → m < n → is_marked ms m ≡ true

-- how many of the first so many places have a mark
abbrev pub marked_before : List Bool → ℕ → ℕ
marked_before ms n = count_by (λ (m : Bool). m) (take n ms)

-- What a step of that place names, where only steps with a mark are left: those before it, in order, each by the place that it has then.
abbrev pub names_left : List Bool → ℕ → List ℕ → List ℕ
names_left ms n names = filter_map (λ m. if nat_lt m n then Some (marked_before ms m) else None) names

-- The step says what another one does, by the same rule, and names these places.
pub record IsMoved (s : DerivationStep) (places : List ℕ) (t : DerivationStep) : Type 0 where
  pub is_for : IsStepFor s.key s.response t
  pub source : t.source ≡ s.source
  pub names : t.nested.items ≡ places

-- The step of a place with a mark is there, where only steps with a mark are left.
pub record IsLeftOf (ms : List Bool) (us : List DerivationStep) (n : ℕ) (s : DerivationStep) : Type 0 where
  pub step : DerivationStep
  pub there : slice_get us (marked_before ms n) ≡ Some step
  pub moved : IsMoved s (names_left ms n s.nested.items) step

-- Of steps those with a mark are left, in order; each names the same steps as before, at the places that they have now.
pub record AreLeftOf (ss : List DerivationStep) (ms : List Bool) (us : List DerivationStep) : Type 0 where
  pub many : length us ≡ marked_before ms (length ss)
  pub left : (n : ℕ) (s : DerivationStep) → slice_get ss n ≡ Some s → is_marked ms n ≡ true → IsLeftOf ms us n s

-- Of steps the last is left, and whatever it rests on.
pub record AreNeeded (ss us : List DerivationStep) : Type 0 where
  pub marks : List Bool
  pub are_marks : AreMarks ss marks
  pub left : AreLeftOf ss marks us
