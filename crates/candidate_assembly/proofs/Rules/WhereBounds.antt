-- What comes of a clause of the environment that is matched: what is pending is evaluated, and the clause characterised.
use Rattle.std.proofs.Common.{◌≡◌, false, refl, sym, ap, subst, ◌∙◌, [], ◌∷◌, Option, Some, None, Result, Err, List}
use Rattle.ir_trees.specs.declared.ir.stop.Stop.{Stop}
use Rattle.ir_trees.specs.Syntax.Trees.{Forest, Tree}
use Rattle.candidate_eval.specs.declared.eval.certainty.Certainty.{Certainty}
use Rattle.candidate_eval.specs.declared.eval.certainty.Certainty.TheVariants.{Yes}
use Rattle.candidate_eval.specs.declared.eval.refusal.NoSolutionOrStop.{NoSolutionOrStop}
use Rattle.candidate_eval.specs.declared.eval.refusal.NoSolutionOrStop.TheVariants as N
use Rattle.candidate_eval.specs.declared.eval.response.Candidate.{Candidate}
use Rattle.candidate_eval.specs.declared.eval.source.CandidateSource.TheVariants.{ParamEnv}
use Rattle.candidate_eval.specs.declared.eval.source.ParamEnvSource.{ParamEnvSource}
use Rattle.candidate_eval.specs.declared.eval.source.ParamEnvSource.TheVariants.{Global, NonGlobal}
use Rattle.candidate_eval.specs.Interface.Accounts.{by_stop}
use Rattle.candidate_eval.specs.Derivations.Characterization.{Walk, Goes, Finds, Refuses, Stops, characterization}
use Rattle.candidate_eval.specs.Derivations.Judging.{Judged, Place, At, Refused, Stopped, asked, at_state, by_finding, comes_to, concluded, continued, go_on, reached, start}
use Rattle.candidate_eval.specs.Interface.Knowing.{is_evaluator_stop}
use Rattle.candidate_eval.specs.Derivations.Rules.{Ending, characterise, settle}
use Rattle.candidate_eval.specs.Judges.States.{Env, State, Judge, next}
use Rattle.candidate_assembly.specs.Answers.Telling.{Told, standing}
use Rattle.candidate_assembly.specs.Answers.Sources.{answer_of}

abbrev settled-to : Judge → Env → Place → Ending → Option (Certainty × State) → Judged
settled-to J e p end o = continued J end (go_on (reached Refused (next o (λ q. Some (at_state p q.1)))) (λ q. At q)) (λ q. concluded J e end q.state)

-- what stands for a rule's variables says nothing of what is pending and of the ending
pub settled-same : (J : Judge) (e : Env) (S : State) (ls : Forest) (end : Ending) → comes_to J e (standing S ls) (settle ∷ []) end ≡ comes_to J e (start S) (settle ∷ []) end
settled-same J e S ls end = of (J.settled S)
  where
    of : (o : Option (Certainty × State)) → settled-to J e (standing S ls) end o ≡ settled-to J e (start S) end o
    of None = refl
    of (Some q) = refl

pub settled-comes : (J : Judge) (e : Env) (S T : State) (c : Certainty) (end : Ending) → J.settled S ≡ Some (c, T) → comes_to J e (start S) (settle ∷ []) end ≡ concluded J e end T
settled-comes J e S T c end is = ap (settled-to J e (start S) end) is

-- What characterisation answers is what is asked for.
pub asks-found : (J : Judge) (w : Walk) (x : ParamEnvSource × Certainty) (T : State) → answer_of w ≡ Some (x, T) → by_finding J w ≡ asked J T (ParamEnv x.0) x.1
asks-found J (Goes S) x T e =
    let same : ((Global, Yes), S) ≡ (x, T) = cc in
    ap (λ (y : (ParamEnvSource × Certainty) × State). asked J y.1 (ParamEnv y.0.0) y.0.1) same
asks-found J (Finds S c) x T e =
    let same : ((NonGlobal, c), S) ≡ (x, T) = cc in
    ap (λ (y : (ParamEnvSource × Certainty) × State). asked J y.1 (ParamEnv y.0.0) y.0.1) same
asks-found J Refuses x T e = absurd cc
asks-found J (Stops s) x T e = absurd cc

-- An error of characterisation is what is judged: a refusal, or a stop that the walk says.
pub told-uncharacterised : (ts : List Tree) (J : Judge) (w : Walk) (r : Result Candidate NoSolutionOrStop) (e : NoSolutionOrStop) → r ≡ Err e → (e ≡ N.NoSolution → w ≡ Refuses)
    → ((s : Stop) → e ≡ N.Stop s → is_evaluator_stop s ≡ false → w ≡ Stops s) → Told ts r (by_finding J w)
told-uncharacterised ts J w r e is refuses stops =
    subst (λ (x : Result Candidate NoSolutionOrStop). Told ts x (by_finding J w)) (sym is) (record { ok = tt; fits = tt; refused = λ n. ap (by_finding J) (refuses n); stopped = of e stops })
  where
    of : (e : NoSolutionOrStop) → ((s : Stop) → e ≡ N.Stop s → is_evaluator_stop s ≡ false → w ≡ Stops s) → by_stop (λ s. is_evaluator_stop s ≡ false → by_finding J w ≡ Stopped s) e
    of N.NoSolution h = tt
    of (N.Stop s) h = λ other. ap (by_finding J) (h s refl other)

-- What was settled, and then characterised by the judge's own words for the environment and the clause.
pub characterised-comes : {F : Type 0} (judge : F → Judge) (f h : F) (S T : State) (c : Certainty) (e d : Env) (t u : Tree) → (judge f).settled S ≡ Some (c, T) → h ≡ f → d ≡ e → u ≡ t
    → by_finding (judge h) (characterization (judge h) d T u) ≡ comes_to (judge f) e (start S) (settle ∷ []) (characterise t)
characterised-comes judge f h S T c e d t u is p q r =
    ap (λ z. by_finding (judge z) (characterization (judge z) d T u)) p
    ∙ (ap (λ z. by_finding (judge f) (characterization (judge f) z T u)) q ∙ (ap (λ z. by_finding (judge f) (characterization (judge f) e T z)) r ∙ sym (settled-comes (judge f) e S T c (characterise t) is)))

-- What is pending is evaluated, and a clause characterised, alike by other words for their parts.
pub characterised-same : {F : Type 0} (judge : F → Judge) (f h : F) (S : State) (e d : Env) (t u : Tree) → h ≡ f → d ≡ e → u ≡ t
    → comes_to (judge h) d (start S) (settle ∷ []) (characterise u) ≡ comes_to (judge f) e (start S) (settle ∷ []) (characterise t)
characterised-same judge f h S e d t u p q r =
    ap (λ z. comes_to (judge z) d (start S) (settle ∷ []) (characterise u)) p
    ∙ (ap (λ z. comes_to (judge f) z (start S) (settle ∷ []) (characterise u)) q ∙ ap (λ z. comes_to (judge f) e (start S) (settle ∷ []) (characterise z)) r)
