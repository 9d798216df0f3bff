-- Answers to rules in their order, of which refusals are left out.
use Rattle.std.specs.Prelude.{◌≡◌, ℕ, false, Result, Err, IfOk, IfErr, List, [], ◌∷◌, ◌++◌}
use Rattle.ir_trees.specs.declared.ir.stop.Stop.{Stop}
use Rattle.ir_trees.specs.declared.ir.stop.Stop.TheVariants.{Memory}
use Rattle.ir_trees.specs.Declarations.Context.{Context}
use Rattle.ir_trees.specs.Syntax.Trees.{Tree}
use Rattle.candidate_eval.specs.declared.eval.refusal.NoSolutionOrStop.{NoSolutionOrStop}
use Rattle.candidate_eval.specs.declared.eval.refusal.NoSolutionOrStop.TheVariants as N
use Rattle.candidate_eval.specs.declared.eval.response.Candidate.{Candidate as OfNumbers}
use Rattle.candidate_eval.specs.Interface.Accounts.{Account}
use Rattle.candidate_eval.specs.Interface.Evaluators.{KeepsBut}
use Rattle.candidate_eval.specs.Interface.Knowing.{is_evaluator_stop}
use Rattle.candidate_eval.specs.Outcomes.ResponseTrees.{AreCandidates, candidates_of}
use Rattle.candidate_eval.specs.Derivations.Judging.{Judged, Gives, Refused, Stopped, judged}
use Rattle.candidate_eval.specs.Outcomes.Responses.{Candidate}
use Rattle.candidate_eval.specs.Derivations.Rules.{Rule}
use Rattle.candidate_eval.specs.Judges.States.{State, Judge}
use Rattle.candidate_assembly.specs.Answers.Telling.{StopsOfItself, Told}

-- The candidates in their order; or the stop of the first rule that stops.
pub data Listed : Type 0 where
  Lists : List Candidate → Listed
  Stops : Stop → Listed

-- what comes after a list, unless that stops
abbrev pub after_list : Listed → (List Candidate → Listed) → Listed
after_list (Lists cs) k = k cs
after_list (Stops s) k = Stops s

abbrev pub together : Listed → Listed → Listed
together a b = after_list a (λ cs. after_list b (λ ds. Lists (cs ++ ds)))

abbrev pub listed : Judged → Listed
listed (Gives c) = Lists (c ∷ [])
listed Refused = Lists []
listed (Stopped s) = Stops s

-- all judged at one state, since each is tried in a probe
abbrev pub answers : Judge → State → List Rule → Listed
answers J S [] = Lists []
answers J S (r ∷ rs) = together (listed (judged J S r)) (answers J S rs)

-- Rules, and the state at which they are judged.
pub record RulesAt : Type 0 where
  pub state : State
  pub rules : List Rule

abbrev pub answers_at : Judge → RulesAt → Listed
answers_at J r = answers J r.state r.rules

abbrev pub all_answers : Judge → List RulesAt → Listed
all_answers J [] = Lists []
all_answers J (r ∷ rs) = together (answers_at J r) (all_answers J rs)

-- A list that goes on from another as R says, unless that stops.
pub data GoesOn (R : List Candidate → Listed → Type 0) : Listed → Listed → Type 0 where
  stops : {s : Stop} → GoesOn R (Stops s) (Stops s)
  lists : {xs : List Candidate} {l : Listed} → R xs l → GoesOn R (Lists xs) l

-- A call that answers candidates tells a list of which R holds: these, whose numbers are of the context; or a stop that the definitions
-- say. Of the evaluator's own stops and of those of making they say nothing.
pub record ToldList {A : Type 0} (items : A → List OfNumbers) (ts : List Tree) (R : Listed → Type 0) (answer : Result A Stop) : Type 0 where
  pub ok : IfOk answer (λ a. R (Lists (candidates_of ts (items a))))
  pub fits : IfOk answer (λ a. AreCandidates ts (items a))
  pub stopped : IfErr answer (λ s. is_evaluator_stop s ≡ false → R (Stops s))

-- Besides, it keeps what calls keep, but for faults that are put off so; it leaves a state alike the one that is named, and accounts for its
-- stops.
pub record ConsidersAllBut {E X A : Type 0} (PutsOff : List (List ℕ) → List (List ℕ) → Type 0) (fixed : E → X) (judge : X → Judge) (state : E → State) (probes : E → List State) (context : E → Context) (stops : Account E)
    (old new : E) (left : State) (items : A → List OfNumbers) (R : Listed → Type 0) (answer : Result A Stop) : Type 0 where
  pub kept : KeepsBut PutsOff fixed probes context old new
  pub alike : (judge (fixed old)).alike left (state new)
  pub told : ToldList items (context new).trees R answer
  pub cause : IfErr answer (StopsOfItself fixed context state stops old new)

-- The same, where no fault is put off.
abbrev pub ConsidersAll : {E X A : Type 0} → (E → X) → (X → Judge) → (E → State) → (E → List State) → (E → Context) → Account E
    → E → E → State → (A → List OfNumbers) → (Listed → Type 0) → Result A Stop → Type 0
ConsidersAll = ConsidersAllBut (λ old new. new ≡ old)

-- Lists that go on.

-- what comes after candidates that are there
abbrev pub after_these : List Tree → List OfNumbers → Listed → Listed
after_these ts cs l = together (Lists (candidates_of ts cs)) l

-- Why an answer isn't added: it is the stop, or the list can't grow.
abbrev pub IsNotAdded : Result OfNumbers NoSolutionOrStop → Stop → Type 0
IsNotAdded (Err (N.Stop t)) s = s ≡ t
IsNotAdded answer s = s ≡ Memory

-- An answer is added to candidates that are there: a candidate comes after them, a refusal leaves them, and a stop is handed on.
pub record Adds {A : Type 0} (answer : Result OfNumbers NoSolutionOrStop) (old new : List OfNumbers) (result : Result A Stop) : Type 0 where
  pub told : (ts : List Tree) (next : Judged) → AreCandidates ts old → Told ts answer next → ToldList (λ _. new) ts (λ l. l ≡ after_these ts old (listed next)) result
  pub cause : IfErr result (IsNotAdded answer)
