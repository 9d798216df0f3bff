-- What a call that considers a rule says, exit by exit.
use Rattle.std.proofs.Common.{◌≡◌, Bool, true, false, List, Result, Err, IfErr, refl, sym, subst, ap, ◌∙◌}
use Rattle.ir_trees.specs.declared.ir.stop.Stop.{Stop}
use Rattle.ir_trees.specs.Declarations.Context.{Context, Grows}
use Rattle.ir_trees.specs.Syntax.Trees.{Tree}
use Rattle.candidate_eval.specs.declared.eval.refusal.NoSolutionOrStop.{NoSolutionOrStop}
use Rattle.candidate_eval.specs.declared.eval.refusal.NoSolutionOrStop.TheVariants as N
use Rattle.candidate_eval.specs.declared.eval.response.Candidate.{Candidate}
use Rattle.candidate_eval.specs.Interface.Accounts.{Account, Question, by_stop}
use Rattle.candidate_eval.specs.Judges.Alike.{JudgesAlike}
use Rattle.candidate_eval.specs.Interface.Evaluators.{IsEvaluatorStop, Keeps, NoFault}
use Rattle.candidate_eval.specs.Derivations.Judging.{Judged, Refused, judged}
use Rattle.candidate_eval.specs.Interface.Knowing.{is_evaluator_stop}
use Rattle.candidate_eval.specs.Derivations.Rules.{Rule}
use Rattle.candidate_eval.specs.Judges.States.{State, Judge}
use Rattle.ir_trees.proofs.Growth.Kept.{grows-refl}
use Rattle.candidate_eval.proofs.Interface.Accounts.{reaches}
use Rattle.candidate_eval.proofs.Interface.Probing.{keeps-trans}
use Rattle.candidate_assembly.specs.Answers.Telling.{Considers, StopsOfItself, Told}
use Rattle.candidate_assembly.proofs.Calls.Stepping.{evaluator-own, memory-own, unmade-own}
use Rattle.candidate_assembly.proofs.Calls.Causes.{asked-here, caused, later, made-here, memory-here}
use Rattle.ir_trees.specs.declared.ir.stop.Stop.TheVariants.{Memory}
use Rattle.candidate_eval.specs.Interface.Unmade.{IsUnmade}

pub not-both : (b : Bool) → b ≡ true → b ≡ false → ⊥
not-both true p q = absurd cc
not-both false p q = absurd cc

-- A stop of a call's own says nothing of what is judged.
pub told-own : (ts : List Tree) (r : Result Candidate NoSolutionOrStop) (s : Stop) (j : Judged) → r ≡ Err (N.Stop s) → is_evaluator_stop s ≡ true → Told ts r j
told-own ts r s j is own = subst (λ (x : Result Candidate NoSolutionOrStop). Told ts x j) (sym is) (record { ok = tt; fits = tt; refused = λ n. absurd cc; stopped = λ other. absurd (not-both (is_evaluator_stop s) own other) })

-- a refusal that is judged
pub told-refused : (ts : List Tree) (r : Result Candidate NoSolutionOrStop) (j : Judged) → r ≡ Err N.NoSolution → j ≡ Refused → Told ts r j
told-refused ts r j is same = subst (λ (x : Result Candidate NoSolutionOrStop). Told ts x j) (sym is) (record { ok = tt; fits = tt; refused = λ n. same; stopped = tt })

module _ {E X : Type 0} {fixed : E → X} {judge : X → Judge} {state : E → State} {probes : E → List State} {context : E → Context} {stops : Account E} where
  -- The probe wasn't begun.
  pub not-begun : ((x : E) (S : State) (q : Question) (s : Stop) → stops x S q s → IsEvaluatorStop s) → ((f : X) → JudgesAlike (judge f)) → (old new : E) (q : Question) (rule : Rule) (r : Result Candidate NoSolutionOrStop) (s : Stop)
      → r ≡ Err (N.Stop s) → fixed new ≡ fixed old → Grows (context old) (context new) → NoFault (context old) (context new) → (state new ≡ state old) × (probes new ≡ probes old) → stops new (state old) q s
      → Considers fixed judge state probes context stops old new rule r
  not-begun own law old new q rule r s is f g n rests why =
      let kept : Keeps fixed probes context old new = record { fixed_same = f; probes_same = rests.1; grows = g; faults = n } in
      record {
        kept = kept;
        alike = subst (λ (x : State). (judge (fixed old)).alike (state old) x) (sym rests.0) ((law (fixed old)).alike_same (state old));
        told = told-own (context new).trees r s _ is (evaluator-own s (own new (state old) q s why));
        cause = subst (λ (x : Result Candidate NoSolutionOrStop). IfErr x (by_stop (StopsOfItself fixed context state stops old new))) (sym is) (asked-here q kept why);
      }

  -- A stop before the probe, after which the state is the same.
  pub not-made : ((f : X) → JudgesAlike (judge f)) → (old new : E) (rule : Rule) (r : Result Candidate NoSolutionOrStop) (s : Stop)
      → r ≡ Err (N.Stop s) → is_evaluator_stop s ≡ true → Keeps fixed probes context old new → state new ≡ state old → StopsOfItself fixed context state stops old new s
      → Considers fixed judge state probes context stops old new rule r
  not-made law old new rule r s is own kept rests why = record {
    kept = kept;
    alike = subst (λ (x : State). (judge (fixed old)).alike (state old) x) (sym rests) ((law (fixed old)).alike_same (state old));
    told = told-own (context new).trees r s _ is own;
    cause = subst (λ (x : Result Candidate NoSolutionOrStop). IfErr x (by_stop (StopsOfItself fixed context state stops old new))) (sym is) why;
  }

  -- An error of what was asked before: a refusal, which is that of the rule, or that it wasn't made.
  pub not-given : ((f : X) → JudgesAlike (judge f)) → (old new : E) (rule : Rule) (r : Result Candidate NoSolutionOrStop) (e : NoSolutionOrStop)
      → r ≡ Err e → Keeps fixed probes context old new → state new ≡ state old → (e ≡ N.NoSolution → judged (judge (fixed old)) (state old) rule ≡ Refused) → ((s : Stop) → e ≡ N.Stop s → IsUnmade (context old) (context new) s)
      → Considers fixed judge state probes context stops old new rule r
  not-given law old new rule r N.NoSolution is kept rests refused makes = record {
    kept = kept;
    alike = subst (λ (x : State). (judge (fixed old)).alike (state old) x) (sym rests) ((law (fixed old)).alike_same (state old));
    told = told-refused (context new).trees r _ is (refused refl);
    cause = subst (λ (x : Result Candidate NoSolutionOrStop). IfErr x (by_stop (StopsOfItself fixed context state stops old new))) (sym is) tt;
  }
  not-given law old new rule r (N.Stop s) is kept rests refused makes =
      let m = makes s refl in
      not-made law old new rule r s is (unmade-own s m) kept rests (made-here m)

  -- A rule that is considered after calls that leave the state as it was.
  pub considers-after : (old mid new : E) (rule s : Rule) (r : Result Candidate NoSolutionOrStop) → Keeps fixed probes context old mid → state mid ≡ state old → s ≡ rule
      → Considers fixed judge state probes context stops mid new s r → Considers fixed judge state probes context stops old new rule r
  considers-after old mid new rule s r kept rests same c =
      let judged-same : judged (judge (fixed mid)) (state mid) s ≡ judged (judge (fixed old)) (state old) rule
      = ap (λ z. judged (judge z) (state mid) s) kept.fixed_same ∙ (ap (λ z. judged (judge (fixed old)) z s) rests ∙ ap (judged (judge (fixed old)) (state old)) same) in
      record {
        kept = keeps-trans fixed probes context old mid new kept c.kept;
        alike = subst (λ (x : State). (judge (fixed old)).alike x (state new)) rests (subst (λ (x : X). (judge x).alike (state mid) (state new)) kept.fixed_same c.alike);
        told = subst (λ j. Told (context new).trees r j) judged-same c.told;
        cause = caused r (λ s. later (reaches kept)) c.cause;
      }

  -- the same rule in other words
  pub considers-same : (old new : E) (rule s : Rule) (r : Result Candidate NoSolutionOrStop) → s ≡ rule → Considers fixed judge state probes context stops old new s r → Considers fixed judge state probes context stops old new rule r
  considers-same old new rule s r same c = subst (λ (x : Rule). Considers fixed judge state probes context stops old new x r) same c

  -- a list that didn't grow, where nothing was done
  pub not-made-here : ((f : X) → JudgesAlike (judge f)) → (old : E) (rule : Rule) (r : Result Candidate NoSolutionOrStop) (s : Stop) → r ≡ Err (N.Stop s) → s ≡ Memory
      → Considers fixed judge state probes context stops old old rule r
  not-made-here law old rule r s is m =
      not-made law old old rule r s is (memory-own s m) (record { fixed_same = refl; probes_same = refl; grows = grows-refl (context old); faults = refl }) refl (memory-here m)
