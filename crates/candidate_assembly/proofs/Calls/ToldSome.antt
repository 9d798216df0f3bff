-- What is told by a relation of what is judged.
use Rattle.std.proofs.Common.{◌≡◌, false, true, List, ◌∷◌, Result, Ok, Err, IfErr, sym, subst}
use Rattle.ir_trees.specs.declared.ir.stop.Stop.{Stop}
use Rattle.ir_trees.specs.Declarations.Context.{Context, Grows}
use Rattle.ir_trees.specs.Syntax.Trees.{Tree}
use Rattle.candidate_eval.specs.declared.eval.refusal.NoSolutionOrStop.{NoSolutionOrStop}
use Rattle.candidate_eval.specs.declared.eval.refusal.NoSolutionOrStop.TheVariants as N
use Rattle.candidate_eval.specs.declared.eval.response.Candidate.{Candidate}
use Rattle.candidate_eval.specs.Interface.Accounts.{Account, Question, by_stop}
use Rattle.candidate_eval.specs.Judges.Alike.{JudgesAlike}
use Rattle.candidate_eval.specs.Interface.Evaluators.{IsEvaluatorStop, Keeps, NoFault}
use Rattle.candidate_eval.specs.Derivations.Judging.{Gives, Judged, Refused, Stopped}
use Rattle.candidate_eval.specs.Interface.Knowing.{is_evaluator_stop}
use Rattle.candidate_eval.specs.Judges.States.{Judge, State}
use Rattle.candidate_eval.proofs.Interface.Probing.{alike-probe, keeps-probe}
use Rattle.candidate_eval.proofs.Outcomes.Responding.{response-fits, response-kept}
use Rattle.candidate_assembly.specs.Answers.Telling.{ConsidersSome, StopsOfItself, Told, ToldSome}
use Rattle.candidate_assembly.proofs.Calls.Causes.{asked-here}
use Rattle.candidate_assembly.proofs.Calls.Considering.{not-both}
use Rattle.candidate_assembly.proofs.Calls.Keeping.{itself-within}
use Rattle.candidate_assembly.proofs.Calls.Stepping.{evaluator-own}

module _ (ts : List Tree) (R : Judged → Type 0) where
  pub some-told : (a : Result Candidate NoSolutionOrStop) (j : Judged) → R j → Told ts a j → ToldSome ts R a
  some-told (Ok c) j h t = record { ok = subst R t.ok h; fits = t.fits; refused = tt; stopped = tt }
  some-told (Err N.NoSolution) j h t = record { ok = tt; fits = tt; refused = λ n. subst R (t.refused n) h; stopped = tt }
  some-told (Err (N.Stop s)) j h t = record { ok = tt; fits = tt; refused = λ n. absurd cc; stopped = λ other. subst R (t.stopped other) h }

  -- an error
  pub some-error : (a : Result Candidate NoSolutionOrStop) (x : NoSolutionOrStop) → a ≡ Err x → (x ≡ N.NoSolution → R Refused) → by_stop (λ s. is_evaluator_stop s ≡ false → R (Stopped s)) x → ToldSome ts R a
  some-error a x is refused stopped = subst (λ (y : Result Candidate NoSolutionOrStop). ToldSome ts R y) (sym is) (record { ok = tt; fits = tt; refused = refused; stopped = stopped })

  -- a stop of a call's own
  pub some-own : (a : Result Candidate NoSolutionOrStop) (s : Stop) → a ≡ Err (N.Stop s) → is_evaluator_stop s ≡ true → ToldSome ts R a
  some-own a s is own = some-error a (N.Stop s) is (λ n. absurd cc) (λ other. absurd (not-both (is_evaluator_stop s) own other))

-- What is told stays so where the context has grown, by a relation that holds of no less.
pub some-kept : (old new : Context) (R Q : Judged → Type 0) (a : Result Candidate NoSolutionOrStop) → Grows old new → ((j : Judged) → R j → Q j) → ToldSome old.trees R a → ToldSome new.trees Q a
some-kept old new R Q (Ok c) g f t = record {
  ok = subst (λ x. Q (Gives (record { source = c.source; result = x }))) (sym (response-kept old new c.result g t.fits)) (f _ t.ok);
  fits = response-fits old new c.result g t.fits;
  refused = tt;
  stopped = tt;
}
some-kept old new R Q (Err N.NoSolution) g f t = record { ok = tt; fits = tt; refused = λ n. f Refused (t.refused n); stopped = tt }
some-kept old new R Q (Err (N.Stop s)) g f t = record { ok = tt; fits = tt; refused = λ n. absurd cc; stopped = λ other. f (Stopped s) (t.stopped other) }

module _ {E X : Type 0} {fixed : E → X} {judge : X → Judge} {state : E → State} {probes : E → List State} {context : E → Context} {stops : Account E} where
  -- The probe wasn't begun.
  pub some-not-begun : ((x : E) (S : State) (q : Question) (s : Stop) → stops x S q s → IsEvaluatorStop s) → ((f : X) → JudgesAlike (judge f)) → (old new : E) (q : Question) (R : Judged → Type 0) (r : Result Candidate NoSolutionOrStop) (s : Stop)
      → r ≡ Err (N.Stop s) → fixed new ≡ fixed old → Grows (context old) (context new) → NoFault (context old) (context new) → (state new ≡ state old) × (probes new ≡ probes old) → stops new (state old) q s
      → ConsidersSome fixed judge state probes context stops old new R r
  some-not-begun own law old new q R r s is f g n rests why =
      let kept : Keeps fixed probes context old new = record { fixed_same = f; probes_same = rests.1; grows = g; faults = n } in
      record {
        kept = kept;
        alike = subst (λ (x : State). (judge (fixed old)).alike (state old) x) (sym rests.0) ((law (fixed old)).alike_same (state old));
        told = some-own (context new).trees R r s is (evaluator-own s (own new (state old) q s why));
        cause = subst (λ (x : Result Candidate NoSolutionOrStop). IfErr x (by_stop (StopsOfItself fixed context state stops old new))) (sym is) (asked-here q kept why);
      }

  -- What is told in a probe is told at the state at which it began.
  pub some-in-probe : (old began ran new : E) (Q R : Judged → Type 0) (x : Result Candidate NoSolutionOrStop)
      → fixed began ≡ fixed old → probes began ≡ state old ∷ probes old → Grows (context old) (context began) → NoFault (context old) (context began)
      → Keeps fixed probes context began ran → fixed new ≡ fixed ran → Grows (context ran) (context new) → NoFault (context ran) (context new)
      → ((T : State) (others : List State) → probes ran ≡ T ∷ others → probes new ≡ others)
      → ((T : State) (others : List State) → probes ran ≡ T ∷ others → (judge (fixed ran)).alike T (state new))
      → ((j : Judged) → Q j → R j) → ToldSome (context ran).trees Q x → IfErr x (by_stop (StopsOfItself fixed context state stops began ran))
      → ConsidersSome fixed judge state probes context stops old new R x
  some-in-probe old began ran new Q R x f p g n k ends grows m left closed holds told cause = record {
    kept = keeps-probe fixed probes context old began ran new (state old) f g n p k ends grows m left;
    alike = alike-probe fixed probes judge state old began ran new f p k.fixed_same k.probes_same closed;
    told = some-kept (context ran) (context new) Q R x grows holds told;
    cause = itself-within fixed context state stops x (record { same = f; grows = g }) cause (record { same = ends; grows = grows });
  }
