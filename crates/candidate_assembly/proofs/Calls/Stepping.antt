-- What calls say of the steps of a rule, and of what is told of them.
use Rattle.std.proofs.Common.{◌≡◌, false, true, subst, sym, refl, ap, ◌∙◌, List, [], ◌∷◌, ◌++◌, Option, Some, None, Result, Ok, Err}
use Rattle.ir_trees.specs.declared.ir.heads.VariableSort.TheVariants.{General, Constant}
use Rattle.ir_trees.specs.declared.ir.kinds.VarKind.{VarKind}
use Rattle.ir_trees.specs.declared.ir.kinds.VarKind.TheVariants as V
use Rattle.ir_trees.specs.declared.ir.stop.Stop.{Stop}
use Rattle.ir_trees.specs.declared.ir.stop.Stop.TheVariants as Z
use Rattle.ir_trees.specs.Declarations.Context.{Context, Grows}
use Rattle.ir_trees.specs.Syntax.Trees.{TypeKind, ConstantKind, RegionKind, Forest, Tree}
use Rattle.ir_trees.specs.Declarations.Worlds.{kinds_of}
use Rattle.candidate_eval.specs.declared.eval.refusal.NoSolutionOrStop.{NoSolutionOrStop}
use Rattle.candidate_eval.specs.declared.eval.refusal.NoSolutionOrStop.TheVariants as N
use Rattle.candidate_eval.specs.declared.eval.response.Candidate.{Candidate}
use Rattle.candidate_eval.specs.declared.eval.response.CanonicalResponse.{CanonicalResponse}
use Rattle.candidate_eval.specs.declared.eval.source.CandidateSource.{CandidateSource}
use Rattle.candidate_eval.specs.declared.eval.variable.VariableKind.TheVariants.{Term, Region}
use Rattle.candidate_eval.specs.Interface.Accounts.{Account, Question, StopsSomehow, by_stop}
use Rattle.candidate_eval.specs.Interface.Accounts.StopsSomehow.{making, asking}
use Rattle.candidate_eval.specs.Interface.Evaluators.{IsEvaluatorStop, IsMakingStop, accepted, kinds_listed, with_left}
use Rattle.candidate_eval.specs.Derivations.Judging.{Place, Judged, Gives, Refused, Stopped, At, Over, put_in, at_state, with_goals, reached, step, run, go_on, continued, concluded, comes_to, answered}
use Rattle.candidate_eval.specs.Interface.Knowing.{is_evaluator_stop}
use Rattle.candidate_eval.specs.Outcomes.Responses.{Response}
use Rattle.candidate_eval.specs.Derivations.Rules.{Step, Ending, equate}
use Rattle.candidate_eval.specs.Judges.States.{Env, State, Pending, Judge, next, fresh_variables, with_fresh}
use Rattle.candidate_eval.proofs.Outcomes.Responding.{response-fits, response-kept}
use Rattle.candidate_eval.proofs.Derivations.RuleRuns.{run_append}
use Rattle.candidate_assembly.specs.Answers.Closures.{Responds}
use Rattle.candidate_assembly.specs.Answers.Telling.{Told, ToldAs}
use Rattle.candidate_eval.specs.Interface.Unmade.{IsUnmade}
use Rattle.candidate_eval.proofs.Interface.Unmade.{unmade-making}

-- Equations: of what the sides stand for they are the step.

reached-if : (p : Place) (T : State) (o : Option (List Pending × State)) → next o (λ q. Some (with_left q)) ≡ Some T
    → reached Refused (next o (λ q. Some (with_goals p q))) ≡ At (at_state p T)
reached-if p T None e = absurd cc
reached-if p T (Some q) e = let f : with_left q ≡ T = cc in ap (λ U. At (at_state p U)) f

refused-if : (p : Place) (o : Option (List Pending × State)) → next o (λ q. Some (with_left q)) ≡ None
    → reached Refused (next o (λ q. Some (with_goals p q))) ≡ Over Refused
refused-if p None e = refl
refused-if p (Some q) e = absurd cc

pub equation-reaches : (J : Judge) (e : Env) (p : Place) (a b x y : Forest) (T : State) → put_in p a ≡ x → put_in p b ≡ y
    → accepted J p.state e x y ≡ Some T → step J e p (equate a b) ≡ At (at_state p T)
equation-reaches J e p a b x y T l r h =
    ap (λ z. reached Refused (next (J.equated p.state e z (put_in p b)) (λ q. Some (with_goals p q)))) l
    ∙ ap (λ z. reached Refused (next (J.equated p.state e x z) (λ q. Some (with_goals p q)))) r
    ∙ reached-if p T (J.equated p.state e x y) h

pub equation-refuses : (J : Judge) (e : Env) (p : Place) (a b x y : Forest) → put_in p a ≡ x → put_in p b ≡ y
    → accepted J p.state e x y ≡ None → step J e p (equate a b) ≡ Over Refused
equation-refuses J e p a b x y l r h =
    ap (λ z. reached Refused (next (J.equated p.state e z (put_in p b)) (λ q. Some (with_goals p q)))) l
    ∙ ap (λ z. reached Refused (next (J.equated p.state e x z) (λ q. Some (with_goals p q)))) r
    ∙ refused-if p (J.equated p.state e x y) h

-- Runs of steps.

-- a step that reaches a place, and steps that reach another: the ending speaks of the last
pub comes-so-far : (J : Judge) (e : Env) (p q r : Place) (s : Step) (ss : List Step) (end : Ending) → step J e p s ≡ At q → run J e q ss ≡ At r
    → comes_to J e p (s ∷ ss) end ≡ concluded J e end r.state
comes-so-far J e p q r s ss end h k =
    ap (λ z. continued J end (go_on z (λ x. run J e x ss)) (λ x. concluded J e end x.state)) h
    ∙ ap (λ z. continued J end z (λ x. concluded J e end x.state)) k

-- a step that is refused: so is the rule
pub comes-refused : (J : Judge) (e : Env) (p : Place) (s : Step) (ss : List Step) (end : Ending) → step J e p s ≡ Over Refused → comes_to J e p (s ∷ ss) end ≡ Refused
comes-refused J e p s ss end h = ap (λ z. continued J end (go_on z (λ x. run J e x ss)) (λ x. concluded J e end x.state)) h

pub run-first : (J : Judge) (e : Env) (p q : Place) (s : Step) (ss : List Step) → step J e p s ≡ At q → run J e p (s ∷ ss) ≡ run J e q ss
run-first J e p q s ss h = ap (λ z. go_on z (λ x. run J e x ss)) h

pub run-refused : (J : Judge) (e : Env) (p : Place) (s : Step) (ss : List Step) → step J e p s ≡ Over Refused → run J e p (s ∷ ss) ≡ Over Refused
run-refused J e p s ss h = ap (λ z. go_on z (λ x. run J e x ss)) h

pub run-both : (J : Judge) (e : Env) (p q r : Place) (xs ys : List Step) → run J e p xs ≡ At q → run J e q ys ≡ At r → run J e p (xs ++ ys) ≡ At r
run-both J e p q r xs ys k l = run_append J e p xs ys ∙ (ap (λ z. go_on z (λ x. run J e x ys)) k ∙ l)

-- one step, and then two rows of steps
pub run-three : (J : Judge) (e : Env) (p q r t : Place) (s : Step) (xs ys : List Step) → step J e p s ≡ At q → run J e q xs ≡ At r → run J e r ys ≡ At t
    → run J e p (s ∷ (xs ++ ys)) ≡ At t
run-three J e p q r t s xs ys h k l = run-first J e p q s (xs ++ ys) h ∙ run-both J e q r t xs ys k l

-- What stands for parameters is of their kinds.
pub fresh-kinds : (S : State) (ks : List VarKind) → kinds_of (fresh_variables S (kinds_listed ks)) ≡ kinds_listed ks
fresh-kinds S [] = refl
fresh-kinds S (V.Ty ∷ ks) = ap (λ xs. TypeKind ∷ xs) (fresh-kinds (with_fresh S (Term General)) ks)
fresh-kinds S (V.Const ∷ ks) = ap (λ xs. ConstantKind ∷ xs) (fresh-kinds (with_fresh S (Term Constant)) ks)
fresh-kinds S (V.Region ∷ ks) = ap (λ xs. RegionKind ∷ xs) (fresh-kinds (with_fresh S Region) ks)

-- Stops that no judge says.

pub making-own : (s : Stop) → IsMakingStop s → is_evaluator_stop s ≡ true
making-own Z.Memory h = refl
making-own Z.NodesFull h = refl
making-own Z.EvaluatorLimit h = absurd h
making-own Z.WalkDepth h = absurd h
making-own Z.AliasDepth h = absurd h
making-own Z.ConstDepth h = absurd h
making-own Z.Unnameable h = absurd h

pub unmade-own : {b c : Context} (s : Stop) → IsUnmade b c s → is_evaluator_stop s ≡ true
unmade-own s u = making-own s (unmade-making u)

pub memory-own : (s : Stop) → s ≡ Z.Memory → is_evaluator_stop s ≡ true
memory-own s e = ap is_evaluator_stop e

pub evaluator-own : (s : Stop) → IsEvaluatorStop s → is_evaluator_stop s ≡ true
evaluator-own Z.Memory h = refl
evaluator-own Z.NodesFull h = refl
evaluator-own Z.EvaluatorLimit h = refl
evaluator-own Z.WalkDepth h = absurd h
evaluator-own Z.AliasDepth h = absurd h
evaluator-own Z.ConstDepth h = absurd h
evaluator-own Z.Unnameable h = absurd h

pub somehow-own : {E F : Type 0} {fixed : E → F} {context : E → Context} {state : E → State} {stops : Account E} {first last : E} (itself : (x : E) (S : State) (q : Question) (s : Stop) → stops x S q s → IsEvaluatorStop s)
    → (s : Stop) → StopsSomehow fixed context state stops first last s → is_evaluator_stop s ≡ true
somehow-own itself s (making u) = unmade-own s u
somehow-own itself s (asking x) = evaluator-own s (itself _ _ _ s x.accounts)

-- What is told of answers.

-- a refusal that is answered, or a stop that no judge says, and what is judged
pub told-error : (ts : List Tree) (r : Result Candidate NoSolutionOrStop) (e : NoSolutionOrStop) (j : Judged) → r ≡ Err e → (e ≡ N.NoSolution → j ≡ Refused)
    → by_stop (λ s. is_evaluator_stop s ≡ true) e → Told ts r j
told-error ts r e j is h own = subst (λ (x : Result Candidate NoSolutionOrStop). Told ts x j) (sym is) (record { ok = tt; fits = tt; refused = h; stopped = of e own })
  where
    of : (e : NoSolutionOrStop) → by_stop (λ s. is_evaluator_stop s ≡ true) e → by_stop (λ s. is_evaluator_stop s ≡ false → j ≡ Stopped s) e
    of N.NoSolution o = tt
    of (N.Stop s) o = λ no. absurd cc

pub told-as-error : (ts : List Tree) (source : CandidateSource) (r : Result CanonicalResponse NoSolutionOrStop) (e : NoSolutionOrStop) (j : Judged) → r ≡ Err e → (e ≡ N.NoSolution → j ≡ Refused)
    → by_stop (λ s. is_evaluator_stop s ≡ true) e → ToldAs ts source r j
told-as-error ts source r e j is h own = subst (λ (x : Result CanonicalResponse NoSolutionOrStop). ToldAs ts source x j) (sym is) (record { ok = tt; fits = tt; refused = h; stopped = of e own })
  where
    of : (e : NoSolutionOrStop) → by_stop (λ s. is_evaluator_stop s ≡ true) e → by_stop (λ s. is_evaluator_stop s ≡ false → j ≡ Stopped s) e
    of N.NoSolution o = tt
    of (N.Stop s) o = λ no. absurd cc

-- what is told stays so where the context has grown
pub told-kept : (old new : Context) (r : Result Candidate NoSolutionOrStop) (j : Judged) → Grows old new → Told old.trees r j → Told new.trees r j
told-kept old new (Ok c) j g told = record {
  ok = told.ok ∙ ap (λ x. Gives (record { source = c.source; result = x })) (sym (response-kept old new c.result g told.fits));
  fits = response-fits old new c.result g told.fits;
  refused = tt;
  stopped = tt;
}
told-kept old new (Err e) j g told = record { ok = tt; fits = tt; refused = told.refused; stopped = told.stopped }

-- an answer by what k says, and the candidate of its source
pub responds-told : (ts : List Tree) (s : CandidateSource) (r : Result CanonicalResponse NoSolutionOrStop) (o : Option Response) → Responds ts r o → ToldAs ts s r (answered s o)
responds-told ts s (Ok v) o h = record { ok = ap (answered s) h.ok; fits = h.fits; refused = tt; stopped = tt }
responds-told ts s (Err e) o h = record { ok = tt; fits = tt; refused = λ n. ap (answered s) (h.refused n); stopped = of e h.stopped }
  where
    of : (e : NoSolutionOrStop) → by_stop (λ z. is_evaluator_stop z ≡ true) e → by_stop (λ z. is_evaluator_stop z ≡ false → answered s o ≡ Stopped z) e
    of N.NoSolution x = tt
    of (N.Stop z) x = λ no. absurd cc
