-- Closures over an evaluator: a closure is known by a relation of the evaluator that it is called with, its answer and what it leaves.
use Rattle.std.specs.Prelude.{◌≡◌, Bool, true, false, Option, Some, None, Result, Ok, Err, IfOk, IfErr, List, ◌∷◌}
use Rattle.std.specs.Fn.{Once, FnOnceReturnsAtMut, FnOnceTakesAtMut}
use Rattle.std.specs.Borrow.{MutBor}
use Rattle.ir_trees.specs.declared.ir.stop.Stop.{Stop}
use Rattle.ir_trees.specs.Declarations.Context.{Context, Grows}
use Rattle.ir_trees.specs.Syntax.Trees.{Tree}
use Rattle.candidate_eval.specs.declared.eval.refusal.NoSolutionOrStop.{NoSolutionOrStop}
use Rattle.candidate_eval.specs.declared.eval.refusal.NoSolutionOrStop.TheVariants as N
use Rattle.candidate_eval.specs.declared.eval.response.Candidate.{Candidate as OfNumbers}
use Rattle.candidate_eval.specs.declared.eval.response.CanonicalResponse.{CanonicalResponse}
use Rattle.candidate_eval.specs.declared.eval.source.CandidateSource.{CandidateSource}
use Rattle.candidate_eval.specs.Interface.Accounts.{Account, StopsSomehow, by_stop}
use Rattle.candidate_eval.specs.Interface.Evaluators.{Keeps, KeepsBut, NoFault}
use Rattle.candidate_eval.specs.Derivations.Judging.{Place, Reached, At, Over, Refused}
use Rattle.candidate_eval.specs.Interface.Knowing.{is_evaluator_stop}
use Rattle.candidate_eval.specs.Outcomes.ResponseTrees.{IsResponse, response_of}
use Rattle.candidate_eval.specs.Outcomes.Responses.{Response}
use Rattle.candidate_eval.specs.Judges.States.{State}
use Rattle.candidate_assembly.specs.Answers.Telling.{StopsOfItself}
use Rattle.candidate_assembly.specs.Rules.AliasFaults.{PutsOffAny}

-- An evaluator with these open probes that keeps else what the first one has.
pub record KeepsIn {E X : Type 0} (fixed : E → X) (probes : E → List State) (context : E → Context) (first : E) (open_probes : List State) (x : E) : Type 0 where
  pub fixed_same : fixed x ≡ fixed first
  pub probes_are : probes x ≡ open_probes
  pub grows : Grows (context first) (context x)

module _ {E X F R : Type 0} (fixed : E → X) (state : E → State) (probes : E → List State) (context : E → Context) (stops : Account E)
    (g : Once F (MutBor E × Unit {0}) (Result R NoSolutionOrStop × (MutBor E × Unit {0}))) (f : F) where
  -- It may be called at each evaluator that keeps what the first one has, and keeps it then, whatever faults it puts off.
  pub record IsCallable (first : E) : Type 0 where
    pub may : (x : E) → Keeps fixed probes context first x → FnOnceTakesAtMut g f x
    pub keeps : (x : E) (r : Result R NoSolutionOrStop) (y : E) → Keeps fixed probes context first x → FnOnceReturnsAtMut g f x r y → KeepsBut PutsOffAny fixed probes context x y

  -- What comes of steps and of the closure then: a stop, which is accounted for; a refusal, where a step is refused; or what the closure
  -- answers at the state that the steps come to, and what it leaves. Only the closure may put faults off.
  pub data After (first : E) (reached : Reached) : Result R NoSolutionOrStop → E → Type 0 where
    stopped : (s : Stop) (y : E) → is_evaluator_stop s ≡ true → StopsSomehow fixed context state stops first y s → NoFault (context first) (context y) → After first reached (Err (N.Stop s)) y
    refused : (y : E) → reached ≡ Over Refused → NoFault (context first) (context y) → After first reached (Err N.NoSolution) y
    called : (x : E) (p : Place) {r : Result R NoSolutionOrStop} {y : E} → reached ≡ At p → state x ≡ p.state → Keeps fixed probes context first x
        → FnOnceReturnsAtMut g f x r y → After first reached r y

-- A response gets a source; an error stays as it is.
pub record IsSourced (source : CandidateSource) (r : Result CanonicalResponse NoSolutionOrStop) (answer : Result OfNumbers NoSolutionOrStop) : Type 0 where
  pub ok : IfOk answer (λ x. (r ≡ Ok x.result) × (x.source ≡ source))
  pub err : IfErr answer (λ e. r ≡ Err e)

-- What comes of a rule that is tried in a probe, and the evaluator that is left: a refusal where it doesn't apply; a stop where no probe begins;
-- else, with the source, what R says of where the probe has begun. No faults are put off but those that R's last evaluator has.
pub data InProbe {E X : Type 0} (fixed : E → X) (state : E → State) (probes : E → List State) (context : E → Context) (stops : Account E)
    (applies : Bool) (R : E → Result CanonicalResponse NoSolutionOrStop → E → Type 0) (source : CandidateSource) (first : E) : Result OfNumbers NoSolutionOrStop → E → Type 0 where
  not_tried : (last : E) → applies ≡ false → NoFault (context first) (context last) → InProbe fixed state probes context stops applies R source first (Err N.NoSolution) last
  not_begun : (s : Stop) (last : E) → is_evaluator_stop s ≡ true → StopsSomehow fixed context state stops first last s → NoFault (context first) (context last)
      → InProbe fixed state probes context stops applies R source first (Err (N.Stop s)) last
  tried : {r : Result CanonicalResponse NoSolutionOrStop} {answer : Result OfNumbers NoSolutionOrStop} (began y last : E) → applies ≡ true → KeepsIn fixed probes context first (state first ∷ probes first) began
      → state began ≡ state first → NoFault (context first) (context began) → R began r y → IsSourced source r answer → NoFault (context y) (context last)
      → InProbe fixed state probes context stops applies R source first answer last

-- An answer with a response, and what is said of it. Its only stops are those of the evaluator and of making.
pub record Responds (ts : List Tree) (answer : Result CanonicalResponse NoSolutionOrStop) (o : Option Response) : Type 0 where
  pub ok : IfOk answer (λ r. o ≡ Some (response_of ts r))
  pub fits : IfOk answer (λ r. IsResponse ts r)
  pub refused : IfErr answer (λ e. e ≡ N.NoSolution → o ≡ None)
  pub stopped : IfErr answer (by_stop (λ s. is_evaluator_stop s ≡ true))

-- A closure that is given a value besides: called with it at an evaluator, it answers and leaves another.
pub record ReturnsWith {E F A R : Type 0} (g : Once F (MutBor E × (A × Unit {0})) (R × (MutBor E × Unit {0}))) (f : F) (x : E) (a : A) (r : R) (y : E) : Type 0 where
  pub shown : MutBor E
  pub shows : shown.now ≡ x
  pub left : MutBor E
  pub met : g.post f (shown, (a, tt)) (r, (left, tt))
  pub leaves : left.now ≡ y

module _ {E X F A : Type 0} (fixed : E → X) (state : E → State) (probes : E → List State) (context : E → Context) (stops : Account E)
    (g : Once F (MutBor E × (A × Unit {0})) (Result CanonicalResponse NoSolutionOrStop × (MutBor E × Unit {0}))) (f : F) where
  -- It may be called with each value at each evaluator with these open probes that else keeps what the first one has; it keeps it then,
  -- whatever faults it puts off, and accounts for its stops.
  pub record IsCallableWith (first : E) (open_probes : List State) : Type 0 where
    pub may : (x : E) (a : A) → KeepsIn fixed probes context first open_probes x → (p : MutBor E) → p.now ≡ x → g.pre f (p, (a, tt))
    pub keeps : (x : E) (a : A) (r : Result CanonicalResponse NoSolutionOrStop) (y : E) → KeepsIn fixed probes context first open_probes x → ReturnsWith g f x a r y
        → KeepsBut PutsOffAny fixed probes context x y
    pub cause : (x : E) (a : A) (r : Result CanonicalResponse NoSolutionOrStop) (y : E) → KeepsIn fixed probes context first open_probes x → ReturnsWith g f x a r y
        → IfErr r (by_stop (StopsOfItself fixed context state stops x y))

  -- What comes of steps and of the closure then, which is given that value: as it is of one that is given none.
  pub data AfterWith (first : E) (a : A) (reached : Reached) : Result CanonicalResponse NoSolutionOrStop → E → Type 0 where
    stopped : (s : Stop) (y : E) → is_evaluator_stop s ≡ true → StopsSomehow fixed context state stops first y s → NoFault (context first) (context y)
        → AfterWith first a reached (Err (N.Stop s)) y
    refused : (y : E) → reached ≡ Over Refused → NoFault (context first) (context y) → AfterWith first a reached (Err N.NoSolution) y
    called : (x : E) (p : Place) {r : Result CanonicalResponse NoSolutionOrStop} {y : E} → reached ≡ At p → state x ≡ p.state → Keeps fixed probes context first x
        → ReturnsWith g f x a r y → AfterWith first a reached r y

  -- Given that value, it answers at each state what k says.
  pub record TellsWith (first : E) (open_probes : List State) (a : A) (k : State → Option Response) : Type 0 where
    pub at : (x : E) (r : Result CanonicalResponse NoSolutionOrStop) (y : E) → KeepsIn fixed probes context first open_probes x → ReturnsWith g f x a r y
        → Responds (context y).trees r (k (state x))

module _ {E X F : Type 0} (fixed : E → X) (state : E → State) (probes : E → List State) (context : E → Context) (stops : Account E)
    (g : Once F (MutBor E × Unit {0}) (Result CanonicalResponse NoSolutionOrStop × (MutBor E × Unit {0}))) (f : F) where
  -- The same of a closure that is given no value.
  pub record IsCallableIn (first : E) (open_probes : List State) : Type 0 where
    pub may : (x : E) → KeepsIn fixed probes context first open_probes x → FnOnceTakesAtMut g f x
    pub keeps : (x : E) (r : Result CanonicalResponse NoSolutionOrStop) (y : E) → KeepsIn fixed probes context first open_probes x → FnOnceReturnsAtMut g f x r y
        → KeepsBut PutsOffAny fixed probes context x y
    pub cause : (x : E) (r : Result CanonicalResponse NoSolutionOrStop) (y : E) → KeepsIn fixed probes context first open_probes x → FnOnceReturnsAtMut g f x r y
        → IfErr r (by_stop (StopsOfItself fixed context state stops x y))

  pub record TellsIn (first : E) (open_probes : List State) (k : State → Option Response) : Type 0 where
    pub at : (x : E) (r : Result CanonicalResponse NoSolutionOrStop) (y : E) → KeepsIn fixed probes context first open_probes x → FnOnceReturnsAtMut g f x r y
        → Responds (context y).trees r (k (state x))
