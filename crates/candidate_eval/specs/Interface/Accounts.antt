-- Why an evaluator stopped: its own account, and what calls over it say of their stops. All that they name lies between the evaluator that a
-- call is given, the first, and the one that it leaves, the last.
use Rattle.std.specs.Prelude.{◌≡◌, ℕ, List, length}
use Rattle.ir_trees.specs.declared.ir.stop.Stop.{Stop}
use Rattle.ir_trees.specs.declared.ir.stop.Stop.TheVariants.{Memory}
use Rattle.ir_trees.specs.Declarations.Context.{Context, Grows}
use Rattle.ir_trees.specs.Instantiation.Folding.{IsSubstStop}
use Rattle.ir_trees.specs.Syntax.Trees.{Kind, Forest, Tree}
use Rattle.candidate_eval.specs.declared.eval.context.ProbeKind.{ProbeKind}
use Rattle.candidate_eval.specs.declared.eval.refusal.NoSolutionOrStop.{NoSolutionOrStop}
use Rattle.candidate_eval.specs.declared.eval.refusal.NoSolutionOrStop.TheVariants as N
use Rattle.candidate_eval.specs.Outcomes.Certainties.{Certainty}
use Rattle.candidate_eval.specs.Interface.Unmade.{IsUnmade}
use Rattle.candidate_eval.specs.Judges.States.{Env, State, Pending}

-- What an evaluator was asked.
pub data Question : Type 0 where
  -- the trees with all values put in
  resolve : Forest → Question
  -- the normal form of a type or constant
  normalize : Env → Tree → Question
  -- variables, or placeholders, for parameters of these kinds
  make_variables : List Kind → Question
  make_placeholders : List Kind → Question
  -- to make two rows equal
  equate : Env → Forest → Forest → Question
  -- that goals become pending
  add_goals : List Pending → Question
  -- to evaluate what is pending, and for a response then
  evaluate : Question
  respond : Certainty → Question
  begin_probe : ProbeKind → Question
  -- the opaque types behind a type
  find_opaques : Tree → Question
  -- that a fault is put off
  delay : List ℕ → Question

-- An evaluator's account: why it stopped, which is left so, when it was asked the question at the state.
abbrev pub Account : Type 0 → Type 1
Account E = E → State → Question → Stop → Type 0

-- A refusal wants no account.
abbrev pub by_stop : (Stop → Type 0) → NoSolutionOrStop → Type 0
by_stop P N.NoSolution = Unit {0}
by_stop P (N.Stop s) = P s

-- The same by an equation: what is said of each stop that the error is, and what is said if it is a refusal.

abbrev pub if_stopped : (Stop → Type 0) → NoSolutionOrStop → Type 0
if_stopped P e = (s : Stop) → e ≡ N.Stop s → P s

abbrev pub if_refused : Type 0 → NoSolutionOrStop → Type 0
if_refused P e = e ≡ N.NoSolution → P

module _ {E F : Type 0} (fixed : E → F) (context : E → Context) where
  -- What stays fixed of an evaluator stays, and its context grows.
  pub record Reaches (first last : E) : Type 0 where
    pub same : fixed last ≡ fixed first
    pub grows : Grows (context first) (context last)

  module _ (state : E → State) (stops : Account E) where
    -- Between the first and the last the evaluator was asked something and stopped, and accounts for it.
    pub record IsAccounted (first last : E) (s : Stop) : Type 0 where
      pub asked : E
      pub left : E
      pub question : Question
      pub before : Reaches first asked
      pub during : Reaches asked left
      pub after : Reaches left last
      pub accounts : stops left (state asked) question s

    -- Why a call over an evaluator stopped: a growth was refused, the evaluator stopped, or trees such as these weren't made, with the numbers
    -- that the last has.
    pub data StopsBy (first last : E) (made : Forest → Type 0) : Stop → Type 0 where
      no_memory : StopsBy first last made Memory
      accounted : {s : Stop} → IsAccounted first last s → StopsBy first last made s
      unmade : {s : Stop} (ts : Forest) → made ts → IsSubstStop (length (context last).trees) ts s → StopsBy first last made s

    -- The same, where it was something of the trees of a context between the first and the last that wasn't made.
    pub data StopsSomehow (first last : E) : Stop → Type 0 where
      making : {s : Stop} → IsUnmade (context first) (context last) s → StopsSomehow first last s
      asking : {s : Stop} → IsAccounted first last s → StopsSomehow first last s
