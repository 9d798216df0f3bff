-- What is answered where a clause is matched and a closure is called then.
use Rattle.std.proofs.Common.{◌≡◌, true, false, ◌&&◌, refl, sym, ap, subst, ◌∙◌, Result, Err, IfOk, IfErr, List, ◌∷◌, ◌++◌, Option, Some, None}
use Rattle.std.specs.Prelude.{if◌then◌else◌}
use Rattle.std.specs.Fn.{Once, FnOnceReturnsAtMut}
use Rattle.std.specs.Borrow.{MutBor}
use Rattle.ir_trees.specs.declared.ir.heads.Head.{Head}
use Rattle.ir_trees.specs.declared.ir.stop.Stop.{Stop}
use Rattle.ir_trees.specs.declared.ir.unify.RightSide.TheVariants as R
use Rattle.ir_trees.specs.Declarations.Context.{Context, Grows}
use Rattle.ir_trees.specs.Syntax.Trees.{Forest, Tree}
use Rattle.ir_trees.specs.Unification.Unify.{may_unify}
use Rattle.ir_trees.proofs.Growth.Kept.{grows-refl}
use Rattle.candidate_eval.specs.declared.eval.certainty.Certainty.{Certainty}
use Rattle.candidate_eval.specs.declared.eval.refusal.NoSolutionOrStop.{NoSolutionOrStop}
use Rattle.candidate_eval.specs.declared.eval.refusal.NoSolutionOrStop.TheVariants as N
use Rattle.candidate_eval.specs.declared.eval.response.Candidate.{Candidate}
use Rattle.candidate_eval.specs.declared.eval.response.CanonicalResponse.{CanonicalResponse}
use Rattle.candidate_eval.specs.declared.eval.source.CandidateSource.{CandidateSource}
use Rattle.candidate_eval.specs.Interface.Accounts.{Account, Question, StopsSomehow, by_stop}
use Rattle.candidate_eval.specs.Judges.Alike.{JudgesAlike}
use Rattle.candidate_eval.specs.Outcomes.Certainties.{AMBIGUOUS}
use Rattle.candidate_eval.specs.Interface.Evaluators.{IsEvaluatorStop, Keeps, NoFault}
use Rattle.candidate_eval.specs.Derivations.Judging.{Reached, Ambiguous, At, Over, Refused, answered, comes_to, continued, judged, run, start}
use Rattle.candidate_eval.specs.Interface.Knowing.{is_evaluator_stop}
use Rattle.candidate_eval.specs.Outcomes.ResponseTrees.{IsResponse, response_of}
use Rattle.candidate_eval.specs.Outcomes.Responses.{Response}
use Rattle.candidate_eval.specs.Derivations.Rules.{Ending, Rule, Step, ask}
use Rattle.candidate_eval.specs.Judges.States.{Env, State, Judge}
use Rattle.candidate_eval.proofs.Interface.Accounts.{reaches}
use Rattle.candidate_eval.proofs.Derivations.RuleRuns.{comes_append}
use Rattle.candidate_assembly.specs.Answers.Closures.{After, AfterWith, IsCallable, IsCallableIn, Responds, TellsIn}
use Rattle.candidate_assembly.specs.Answers.Closures.After.{stopped, refused, called}
use Rattle.candidate_assembly.specs.Answers.Closures.AfterWith.{refused as refused_with, stopped as stopped_with}
use Rattle.candidate_assembly.specs.Goals.Kinds.{KindRules, clause_judged, compared_arguments, match_rule, passes, steps_judged}
use Rattle.candidate_assembly.specs.Answers.Telling.{Considers, StopsOfItself, Told, ToldAs, standing}
use Rattle.candidate_assembly.proofs.Calls.Causes.{caused, later}
use Rattle.candidate_assembly.proofs.Calls.Considering.{not-both}
use Rattle.candidate_assembly.proofs.Calls.Keeping.{keeps-in, keeps-open}
use Rattle.candidate_assembly.proofs.Calls.Stepping.{responds-told, somehow-own}

-- An error before the closure is called.
pub error-after : {E F X R : Type 0} (fixed : E → X) (state : E → State) (probes : E → List State) (context : E → Context) (stops : Account E) (g : Once F (MutBor E × Unit {0}) (Result R NoSolutionOrStop × (MutBor E × Unit {0}))) (f : F)
    (first : E) (reached : Reached) (y : E) (r : Result R NoSolutionOrStop) (why : NoSolutionOrStop) → ((x : E) (S : State) (q : Question) (s : Stop) → stops x S q s → IsEvaluatorStop s) → r ≡ Err why
    → (why ≡ N.NoSolution → reached ≡ Over Refused) → by_stop (StopsSomehow fixed context state stops first y) why → NoFault (context first) (context y) → After fixed state probes context stops g f first reached r y
error-after {R = R} fixed state probes context stops g f first reached y r why itself is refuses cause none =
    subst (λ (x : Result R NoSolutionOrStop). After fixed state probes context stops g f first reached x y) (sym is) (of why refuses cause)
  where
    of : (e : NoSolutionOrStop) → (e ≡ N.NoSolution → reached ≡ Over Refused) → by_stop (StopsSomehow fixed context state stops first y) e → After fixed state probes context stops g f first reached (Err e) y
    of N.NoSolution k w = refused y (k refl) none
    of (N.Stop s) k w = stopped s y (somehow-own itself s w) w none

-- The same of a closure that is given a value.
pub error-after-with : {E F X A : Type 0} (fixed : E → X) (state : E → State) (probes : E → List State) (context : E → Context) (stops : Account E)
    (g : Once F (MutBor E × (A × Unit {0})) (Result CanonicalResponse NoSolutionOrStop × (MutBor E × Unit {0}))) (f : F) (first : E) (a : A) (reached : Reached) (y : E) (r : Result CanonicalResponse NoSolutionOrStop) (why : NoSolutionOrStop)
    → ((x : E) (S : State) (q : Question) (s : Stop) → stops x S q s → IsEvaluatorStop s) → r ≡ Err why → (why ≡ N.NoSolution → reached ≡ Over Refused) → by_stop (StopsSomehow fixed context state stops first y) why
    → NoFault (context first) (context y) → AfterWith fixed state probes context stops g f first a reached r y
error-after-with fixed state probes context stops g f first a reached y r why itself is refuses cause none =
    subst (λ (x : Result CanonicalResponse NoSolutionOrStop). AfterWith fixed state probes context stops g f first a reached x y) (sym is) (of why refuses cause)
  where
    of : (e : NoSolutionOrStop) → (e ≡ N.NoSolution → reached ≡ Over Refused) → by_stop (StopsSomehow fixed context state stops first y) e → AfterWith fixed state probes context stops g f first a reached (Err e) y
    of N.NoSolution k w = refused_with y (k refl) none
    of (N.Stop s) k w = stopped_with s y (somehow-own itself s w) w none

-- What is answered stops only where it is accounted for, if the closure does.
pub after-accounted : {E F X R : Type 0} {fixed : E → X} {state : E → State} {probes : E → List State} {context : E → Context} {stops : Account E} {g : Once F (MutBor E × Unit {0}) (Result R NoSolutionOrStop × (MutBor E × Unit {0}))} {f : F} (first : E)
    (reached : Reached) (r : Result R NoSolutionOrStop) (y : E)
    → ((x : E) (r : Result R NoSolutionOrStop) (y : E) → Keeps fixed probes context first x → FnOnceReturnsAtMut g f x r y → IfErr r (by_stop (StopsOfItself fixed context state stops x y)))
    → After fixed state probes context stops g f first reached r y → IfErr r (by_stop (StopsOfItself fixed context state stops first y))
after-accounted first reached r y cause (stopped s z own w n) = λ o. w
after-accounted first reached r y cause (refused z is n) = tt
after-accounted first reached r y cause (called x p is at keeps met) = caused r (λ s. later (reaches keeps)) (cause x r y keeps met)

module _ {E F X : Type 0} {fixed : E → X} {state : E → State} {probes : E → List State} {context : E → Context} {stops : Account E} {g : Once F (MutBor E × Unit {0}) (Result CanonicalResponse NoSolutionOrStop × (MutBor E × Unit {0}))} {f : F} where
  -- A closure that may be called in a probe may be called once the probe has begun.
  pub callable-in : (old began : E) → fixed began ≡ fixed old → probes began ≡ state old ∷ probes old → Grows (context old) (context began)
      → IsCallableIn fixed state probes context stops g f old (state old ∷ probes old) → IsCallable fixed state probes context stops g f began
  callable-in old began same opens grows h = record {
    may = λ x k. h.may x (keeps-in same opens grows (keeps-open k));
    keeps = λ x r y k is. h.keeps x r y (keeps-in same opens grows (keeps-open k)) is;
  }

  -- What is answered, by the cases: the closure's answer is what k says at the state.
  after-told : (J : Judge) (first : E) (reached : Reached) (source : CandidateSource) (k : State → Option Response) (r : Result CanonicalResponse NoSolutionOrStop) (y : E)
      → ((x : E) (r : Result CanonicalResponse NoSolutionOrStop) (y : E) → Keeps fixed probes context first x → FnOnceReturnsAtMut g f x r y → Responds (context y).trees r (k (state x)))
      → After fixed state probes context stops g f first reached r y → ToldAs (context y).trees source r (continued J (ask source AMBIGUOUS) reached (λ q. answered source (k q.state)))
  after-told J first reached source k r y tells (stopped s z own w n) = record { ok = tt; fits = tt; refused = λ n. absurd cc; stopped = λ other. absurd (not-both (is_evaluator_stop s) own other) }
  after-told J first reached source k r y tells (refused z is n) = record {
    ok = tt;
    fits = tt;
    refused = λ m. ap (λ t. continued J (ask source AMBIGUOUS) t (λ q. answered source (k q.state))) is;
    stopped = tt;
  }
  after-told J first reached source k r y tells (called x p is at keeps met) =
      subst (λ j. ToldAs (context y).trees source r j)
      (sym (ap (λ t. continued J (ask source AMBIGUOUS) t (λ q. answered source (k q.state))) is ∙ ap (λ T. answered source (k T)) (sym at)))
      (responds-told (context y).trees source r (k (state x)) (tells x r y keeps met))

  -- The same in a probe, at the state at which it began.

  pub after-told-in : (old began : E) → fixed began ≡ fixed old → probes began ≡ state old ∷ probes old → Grows (context old) (context began)
      → (J : Judge) (reached : Reached) (source : CandidateSource) (k : State → Option Response) (r : Result CanonicalResponse NoSolutionOrStop) (y : E)
      → TellsIn fixed state probes context stops g f old (state old ∷ probes old) k → After fixed state probes context stops g f began reached r y
      → ToldAs (context y).trees source r (continued J (ask source AMBIGUOUS) reached (λ q. answered source (k q.state)))
  after-told-in old began same opens grows J reached source k r y tells a =
      after-told J began reached source k r y (λ x r y keeps met. tells.at x r y (keeps-in same opens grows (keeps-open keeps)) met) a

  pub after-caused-in : (old began : E) → fixed began ≡ fixed old → probes began ≡ state old ∷ probes old → Grows (context old) (context began)
      → (reached : Reached) (r : Result CanonicalResponse NoSolutionOrStop) (y : E) → IsCallableIn fixed state probes context stops g f old (state old ∷ probes old)
      → After fixed state probes context stops g f began reached r y → IfErr r (by_stop (StopsOfItself fixed context state stops old y))
  after-caused-in old began same opens grows reached r y callable a =
      caused r (λ s. later (record { same = same; grows = grows })) (after-accounted began reached r y (λ x r y keeps met. callable.cause x r y (keeps-in same opens grows (keeps-open keeps)) met) a)

-- Clauses that fit.

-- a clause passes quick rejection still where the context has grown
pub passes-kept : {G : Type 0} (K : KindRules G) (old new : Context) (g d : G) (t u : Tree) → d ≡ g → u ≡ t → ((h : Head) → K.fits new g h ≡ K.fits old g h) → passes K old g t ≡ true → passes K new d u ≡ true
passes-kept K old new g d t u same is fits e =
    ap (λ x. passes K new x u) same ∙ (ap (passes K new g) is ∙ (ap (λ b. b && may_unify R.Plain (K.compared g) (compared_arguments t)) (fits t.head) ∙ e))

-- What is judged of a clause that fits is the same by other words for its parts.
pub clause-moved : {G F : Type 0} (K : KindRules G) (judge : F → Judge) (f h : F) (c : Context) (S T : State) (g d : G) (s : CandidateSource) (t u : Tree) (k : State → Option Response)
    → h ≡ f → T ≡ S → d ≡ g → u ≡ t → passes K c g t ≡ true
    → continued (judge h) (ask s AMBIGUOUS) (run (judge h) (K.env_of d) (start T) (K.match_steps d u)) (λ q. answered s (k q.state)) ≡ clause_judged K (judge f) c S g s t k
clause-moved K judge f h c S T g d s t u k p q r is fits =
    ap (λ z. steps_judged (judge z) (K.env_of d) T s (K.match_steps d u) k) p
    ∙ (ap (λ z. steps_judged (judge f) (K.env_of d) z s (K.match_steps d u) k) q
    ∙ (ap (λ z. steps_judged (judge f) (K.env_of z) S s (K.match_steps z u) k) r
    ∙ (ap (λ z. steps_judged (judge f) (K.env_of g) S s (K.match_steps g z) k) is
    ∙ ap (λ b. if b then steps_judged (judge f) (K.env_of g) S s (K.match_steps g t) k else Refused) (sym fits))))

-- What a match comes to is the same by other words for its parts.
pub match-moved : {G F : Type 0} (K : KindRules G) (judge : F → Judge) (f h : F) (S T : State) (g d : G) (t u : Tree) → h ≡ f → T ≡ S → d ≡ g → u ≡ t
    → run (judge h) (K.env_of d) (start T) (K.match_steps d u) ≡ run (judge f) (K.env_of g) (start S) (K.match_steps g t)
match-moved K judge f h S T g d t u p q r is =
    ap (λ z. run (judge z) (K.env_of d) (start T) (K.match_steps d u)) p
    ∙ (ap (λ z. run (judge f) (K.env_of d) (start z) (K.match_steps d u)) q
    ∙ (ap (λ z. run (judge f) (K.env_of z) (start S) (K.match_steps z u)) r ∙ ap (λ z. run (judge f) (K.env_of g) (start S) (K.match_steps g z)) is))

-- One that doesn't pass quick rejection is refused.
pub clause-refused : {G : Type 0} (K : KindRules G) (J : Judge) (c : Context) (S : State) (g : G) (s : CandidateSource) (t : Tree) (k : State → Option Response) → passes K c g t ≡ false → clause_judged K J c S g s t k ≡ Refused
clause-refused K J c S g s t k e = ap (λ b. if b then steps_judged J (K.env_of g) S s (K.match_steps g t) k else Refused) e

-- What is told of steps that come after the match, at each place at which the closure is called, is told of the whole.
pub after-ruled : {E F X : Type 0} {fixed : E → X} {state : E → State} {probes : E → List State} {context : E → Context} {stops : Account E} {g : Once F (MutBor E × Unit {0}) (Result Candidate NoSolutionOrStop × (MutBor E × Unit {0}))} {f : F} (J : Judge)
    (e : Env) (S : State) (steps more : List Step) (end : Ending) (first : E) (r : Result Candidate NoSolutionOrStop) (y : E)
    → ((x : E) (r : Result Candidate NoSolutionOrStop) (y : E) (ls : Forest) → Keeps fixed probes context first x → FnOnceReturnsAtMut g f x r y → Told (context y).trees r (comes_to J e (standing (state x) ls) more end))
    → After fixed state probes context stops g f first (run J e (start S) steps) r y → Told (context y).trees r (comes_to J e (start S) (steps ++ more) end)
after-ruled J e S steps more end first r y tells (stopped s z own w n) = record { ok = tt; fits = tt; refused = λ n. absurd cc; stopped = λ other. absurd (not-both (is_evaluator_stop s) own other) }
after-ruled J e S steps more end first r y tells (refused z is n) = record {
  ok = tt;
  fits = tt;
  refused = λ n. comes_append J e (start S) steps more end ∙ ap (λ z. continued J end z (λ q. comes_to J e q more end)) is;
  stopped = tt;
}
after-ruled {state = state} {context = context} J e S steps more end first r y tells (called x p is at keeps met) =
    let same : comes_to J e (standing (state x) p.locals) more end ≡ comes_to J e p more end = ap (λ T. comes_to J e (standing T p.locals) more end) at in
    subst (λ j. Told (context y).trees r j)
    (same ∙ sym (comes_append J e (start S) steps more end ∙ ap (λ z. continued J end z (λ q. comes_to J e q more end)) is)) (tells x r y p.locals keeps met)

-- The rule of a clause is the same by other words for its parts.
pub rule-moved : {G : Type 0} (K : KindRules G) (old new : Context) (g d : G) (t u : Tree) (more : List Step) (end last : Ending) → d ≡ g → u ≡ t → ((h : Head) → K.fits new g h ≡ K.fits old g h) → last ≡ end
    → match_rule K new d u more last ≡ match_rule K old g t more end
rule-moved K old new g d t u more end last same is fits ends =
    ap (λ x. match_rule K new x u more last) same
    ∙ (ap (λ x. match_rule K new g x more last) is
    ∙ (ap (λ x. match_rule K new g t more x) ends
    ∙ ap (λ b. let r : Rule = record { env = K.env_of g; applies = b; steps = K.match_steps g t ++ more; ending = end } in r) (ap (λ b. b && may_unify R.Plain (K.compared g) (compared_arguments t)) (fits t.head))))

-- A rule that applies comes to what its steps and its ending do.
pub rule-comes : {G : Type 0} (K : KindRules G) (J : Judge) (c : Context) (S : State) (g : G) (t : Tree) (more : List Step) (end : Ending) → passes K c g t ≡ true
    → comes_to J (K.env_of g) (start S) (K.match_steps g t ++ more) end ≡ judged J S (match_rule K c g t more end)
rule-comes K J c S g t more end fits = ap (λ b. if b then comes_to J (K.env_of g) (start S) (K.match_steps g t ++ more) end else Refused) (sym fits)

-- That of a clause that doesn't pass quick rejection is refused.
pub rule-refused : {G : Type 0} (K : KindRules G) (J : Judge) (c : Context) (S : State) (g : G) (t : Tree) (more : List Step) (end : Ending) → passes K c g t ≡ false → judged J S (match_rule K c g t more end) ≡ Refused
rule-refused K J c S g t more end e = ap (λ b. if b then comes_to J (K.env_of g) (start S) (K.match_steps g t ++ more) end else Refused) e

-- A rule that is refused before anything is done.
pub rejected-at-once : {E X : Type 0} {fixed : E → X} {judge : X → Judge} {state : E → State} {probes : E → List State} {context : E → Context} {stops : Account E} → ((f : X) → JudgesAlike (judge f)) → (old : E) (rule : Rule)
    → judged (judge (fixed old)) (state old) rule ≡ Refused → Considers fixed judge state probes context stops old old rule (Err N.NoSolution)
rejected-at-once {fixed = fixed} {judge = judge} {state = state} {context = context} law old rule e = record {
  kept = record { fixed_same = refl; probes_same = refl; grows = grows-refl (context old); faults = refl };
  alike = (law (fixed old)).alike_same (state old);
  told = record { ok = tt; fits = tt; refused = λ n. e; stopped = tt };
  cause = tt;
}

-- A stop that no judge says, in the place of a response; and an evaluator's own answer.

pub responds-stop : (ts : List Tree) (r : Result CanonicalResponse NoSolutionOrStop) (s : Stop) (o : Option Response) → r ≡ Err (N.Stop s) → is_evaluator_stop s ≡ true → Responds ts r o
responds-stop ts r s o is own = subst (λ (x : Result CanonicalResponse NoSolutionOrStop). Responds ts x o) (sym is) (record { ok = tt; fits = tt; refused = λ n. absurd cc; stopped = own })

pub responds-so : (ts : List Tree) (r : Result CanonicalResponse NoSolutionOrStop) (o : Option Response) → IfOk r (λ x. IsResponse ts x) → IfOk r (λ x. o ≡ Some (response_of ts x)) → IfErr r (λ e. e ≡ N.NoSolution → o ≡ None)
    → IfErr r (by_stop (λ s. is_evaluator_stop s ≡ true)) → Responds ts r o
responds-so ts r o fits ok refuses own = record { ok = ok; fits = fits; refused = refuses; stopped = own }

-- A clause that is matched and followed by steps that come to what a closure answers is judged as the rule with these steps.
pub closure-as-steps : {G : Type 0} (K : KindRules G) (J : Judge) (c : Context) (S : State) (g : G) (s : CandidateSource) (t : Tree) (k : State → Option Response) (more : List Step) (sure : Certainty)
    → ((ls : Forest) (T : State) → comes_to J (K.env_of g) (standing T ls) more (ask s sure) ≡ answered s (k T)) → clause_judged K J c S g s t k ≡ judged J S (match_rule K c g t more (ask s sure))
closure-as-steps K J c S g s t k more sure same =
    ap (λ z. if passes K c g t then z else Refused) (at (run J (K.env_of g) (start S) (K.match_steps g t)) ∙ sym (comes_append J (K.env_of g) (start S) (K.match_steps g t) more (ask s sure)))
  where
    at : (r : Reached) → continued J (ask s AMBIGUOUS) r (λ q. answered s (k q.state)) ≡ continued J (ask s sure) r (λ q. comes_to J (K.env_of g) q more (ask s sure))
    at (At p) = sym (same p.locals p.state)
    at (Ambiguous T) = refl
    at (Over j) = refl
