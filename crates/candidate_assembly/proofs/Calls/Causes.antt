-- Why calls stopped, from one call to the next.
use Rattle.std.proofs.Common.{◌≡◌, ℕ, List, Result, Ok, Err, IfOk, IfErr, ap, ◌∙◌}
use Rattle.ir_trees.specs.declared.ir.stop.Stop.{Stop}
use Rattle.ir_trees.specs.Declarations.Context.{Context}
use Rattle.candidate_eval.specs.declared.eval.refusal.NoSolutionOrStop.{NoSolutionOrStop}
use Rattle.candidate_eval.specs.declared.eval.refusal.NoSolutionOrStop.TheVariants as N
use Rattle.candidate_eval.specs.Interface.Accounts.{Account, Question, Reaches, StopsSomehow, by_stop}
use Rattle.candidate_eval.specs.Interface.Accounts.StopsSomehow.{asking, making}
use Rattle.candidate_eval.specs.Interface.Evaluators.{Keeps, KeepsBut}
use Rattle.candidate_eval.specs.Judges.States.{State}
use Rattle.candidate_eval.proofs.Interface.Accounts.{accounted-here, by-stop, memory-somehow, reaches, somehow-later, somehow-until, somehow-within}
use Rattle.candidate_assembly.specs.Answers.Telling.{StopsOfItself}
use Rattle.ir_trees.specs.declared.ir.stop.Stop.TheVariants.{Memory}
use Rattle.candidate_eval.specs.Interface.Unmade.{IsUnmade}

module _ {E X : Type 0} {fixed : E → X} {context : E → Context} {state : E → State} {stops : Account E} where
  pub made-here : {a l : E} {s : Stop} → IsUnmade (context a) (context l) s → StopsOfItself fixed context state stops a l s
  made-here u = λ own. making u

  pub memory-here : {a l : E} {s : Stop} → s ≡ Memory → StopsOfItself fixed context state stops a l s
  memory-here e = λ own. memory-somehow e

  pub asked-here : {P : List (List ℕ) → List (List ℕ) → Type 0} {probes : E → List State} {a b : E} {s : Stop} (q : Question) → KeepsBut P fixed probes context a b → stops b (state a) q s
      → StopsOfItself fixed context state stops a b s
  asked-here q k x = λ own. asking (accounted-here q (reaches k) x)

  pub asked-somehow : {probes : E → List State} {a b : E} {s : Stop} (q : Question) → Keeps fixed probes context a b → stops b (state a) q s → StopsSomehow fixed context state stops a b s
  asked-somehow q k x = asking (accounted-here q (reaches k) x)

  pub somehow-here : {a l : E} {s : Stop} → StopsSomehow fixed context state stops a l s → StopsOfItself fixed context state stops a l s
  somehow-here x = λ own. x

  -- The same stop, where the call begins earlier; where it ends later; and both.

  pub later : {a b l : E} {s : Stop} → Reaches fixed context a b → StopsOfItself fixed context state stops b l s → StopsOfItself fixed context state stops a l s
  later r f = λ own. somehow-later r (f own)

  pub until : {a l m : E} {s : Stop} → StopsOfItself fixed context state stops a l s → Reaches fixed context l m → StopsOfItself fixed context state stops a m s
  until f r = λ own. somehow-until (f own) r

  pub within : {a b l m : E} {s : Stop} → Reaches fixed context a b → StopsOfItself fixed context state stops b l s → Reaches fixed context l m → StopsOfItself fixed context state stops a m s
  within r f t = λ own. somehow-within r (f own) t

-- what is said of the stop that a call answers
pub caused : {A : Type 0} {P Q : Stop → Type 0} (r : Result A NoSolutionOrStop) → ((s : Stop) → P s → Q s) → IfErr r (by_stop P) → IfErr r (by_stop Q)
caused (Ok x) f h = tt
caused (Err e) f h = by-stop e f h

-- the stop that a call answers by a `?`
pub answered-stop : {A : Type 0} (r : Result A NoSolutionOrStop) (s : Stop) → (y : NoSolutionOrStop) × (r ≡ Err y) × (y ≡ N.Stop s) → r ≡ Err (N.Stop s)
answered-stop r s p = p.1 ∙ ap Err p.2

-- What holds of an answer, by what held of it.

pub so-ok : {A E : Type 0} (r : Result A E) {P Q : A → Type 0} → ((a : A) → P a → Q a) → IfOk r P → IfOk r Q
so-ok (Ok a) f h = f a h
so-ok (Err e) f h = tt

pub so-err : {A E : Type 0} (r : Result A E) {P Q : E → Type 0} → ((e : E) → P e → Q e) → IfErr r P → IfErr r Q
so-err (Ok a) f h = tt
so-err (Err e) f h = f e h

-- the error that a call answers by a `?`
pub answered-error : {A : Type 0} (r : Result A NoSolutionOrStop) (e : NoSolutionOrStop) → (y : NoSolutionOrStop) × (r ≡ Err y) × (y ≡ e) → r ≡ Err e
answered-error r e p = p.1 ∙ ap Err p.2
