-- What is told of a clause that an object's own bounds give.
use Rattle.std.proofs.Common.{◌≡◌, ℕ, Bool, true, false, List, [], ◌∷◌, ◌++◌, map, Result, Ok, Err, refl, sym, ap, subst, ◌∙◌}
use Rattle.std.proofs.lemmas.List.{append-nil}
use Rattle.std.specs.Prelude.{IfErr}
use Rattle.std.specs.Fn.{Once, FnOnceReturnsAtMut}
use Rattle.std.specs.Borrow.{MutBor}
use Rattle.ir_trees.specs.declared.ir.kinds.Clause.{Clause}
use Rattle.ir_trees.specs.declared.ir.kinds.Goal.{Goal as OfNumbers}
use Rattle.ir_trees.specs.declared.ir.kinds.GoalSource.TheVariants.{ImplWhereBound}
use Rattle.ir_trees.specs.declared.ir.kinds.ParamEnv.{ParamEnv}
use Rattle.ir_trees.specs.declared.ir.kinds.TraitId.{TraitId}
use Rattle.ir_trees.specs.declared.ir.kinds.Ty.{Ty}
use Rattle.ir_trees.specs.declared.ir.stop.Stop.{Stop}
use Rattle.ir_trees.specs.Declarations.Context.{Context, Grows}
use Rattle.ir_trees.specs.Syntax.Trees.{Forest, Tree}
use Rattle.ir_trees.specs.Validity.WellFormed.{IsWellFormedTable}
use Rattle.ir_trees.specs.Syntax.Words.{ty_tree}
use Rattle.ir_trees.specs.Declarations.Worlds.{Reference}
use Rattle.ir_trees.proofs.Growth.Kept.{grows-refl}
use Rattle.candidate_eval.specs.declared.eval.certainty.Certainty.TheVariants.{Yes}
use Rattle.candidate_eval.specs.declared.eval.refusal.NoSolutionOrStop.{NoSolutionOrStop}
use Rattle.candidate_eval.specs.declared.eval.refusal.NoSolutionOrStop.TheVariants as N
use Rattle.candidate_eval.specs.declared.eval.response.Candidate.{Candidate}
use Rattle.candidate_eval.specs.declared.eval.source.CandidateSource.{CandidateSource}
use Rattle.candidate_eval.specs.Interface.Accounts.{Account, Question, by_stop}
use Rattle.candidate_eval.specs.Judges.Alike.{JudgesAlike}
use Rattle.candidate_eval.specs.Outcomes.Certainties.{AMBIGUOUS}
use Rattle.candidate_eval.specs.Interface.Evaluators.{IsEvaluatorStop, Keeps, goal_of, pending_of, with_goals_of, NoFault}
use Rattle.candidate_eval.specs.Derivations.Judging.{At, Gives, Judged, Place, Refused, Stopped, asked}
use Rattle.candidate_eval.specs.Interface.Knowing.{is_evaluator_stop}
use Rattle.candidate_eval.specs.Dynamic.ObjectRequirements.{first_tree}
use Rattle.candidate_eval.specs.Judges.States.{Env, Goal, Judge, Pending, State, with_pending}
use Rattle.candidate_eval.proofs.Interface.Probing.{alike-probe, keeps-probe}
use Rattle.candidate_eval.proofs.Outcomes.Responding.{response-fits, response-kept}
use Rattle.candidate_assembly.specs.Answers.Closures.{After}
use Rattle.candidate_assembly.specs.Answers.Closures.After.{stopped, refused, called}
use Rattle.candidate_assembly.specs.Laws.Given.{TraitIsGiven}
use Rattle.candidate_assembly.specs.Goals.Kinds.{KindRules, SaysTheSame, passes, self_type}
use Rattle.candidate_assembly.specs.Rules.ObjectBounds.{AreAskedIf, AreUnknownIf, ObjectJudged, OwnClause, object_bounds, has_own_clauses, match_at, nested_goals, none_asked, reference_by, rejected, required, trait_by, unknown, unmatched}
use Rattle.candidate_assembly.specs.Rules.ObjectRule.{IsJudgedByRule}
use Rattle.candidate_assembly.specs.Calls.ObjectCalls.{IsAskedOfObject}
use Rattle.candidate_assembly.specs.Calls.ObjectCalls.IsAskedOfObject.{known, vague}
use Rattle.candidate_assembly.proofs.Objects.ObjectLaws.{asked_if_back, unknown_back}
use Rattle.candidate_assembly.specs.Answers.Telling.{StopsOfItself, Told}
use Rattle.candidate_assembly.proofs.Calls.Causes.{asked-here}
use Rattle.candidate_assembly.proofs.Calls.Considering.{not-both}
use Rattle.candidate_assembly.proofs.Calls.Keeping.{itself-within}
use Rattle.candidate_assembly.proofs.Calls.Stepping.{evaluator-own}
use Rattle.candidate_assembly.proofs.Objects.ObjectRuling.{judged-by-rule}
use Rattle.candidate_assembly.specs.Answers.ObjectAnswers.{ConsidersObject, TellsObject, ToldOf}

-- Answers.

-- what is told of one that is judged so
pub told-judged : (ts : List Tree) (R : Judged → Type 0) (r : Result Candidate NoSolutionOrStop) (j : Judged) → R j → Told ts r j → ToldOf ts R r
told-judged ts R (Ok c) j h t = record { ok = subst R t.ok h; fits = t.fits; refused = tt; stopped = tt }
told-judged ts R (Err e) j h t = record { ok = tt; fits = tt; refused = λ n. subst R (t.refused n) h; stopped = of e t.stopped }
  where
    of : (e : NoSolutionOrStop) → by_stop (λ s. is_evaluator_stop s ≡ false → j ≡ Stopped s) e → by_stop (λ s. is_evaluator_stop s ≡ false → R (Stopped s)) e
    of N.NoSolution x = tt
    of (N.Stop s) x = λ o. subst R (x o) h

-- a stop that no judge says
pub told-of-own : (ts : List Tree) (R : Judged → Type 0) (r : Result Candidate NoSolutionOrStop) (s : Stop) → r ≡ Err (N.Stop s) → is_evaluator_stop s ≡ true → ToldOf ts R r
told-of-own ts R r s is own = subst (ToldOf ts R) (sym is) (record { ok = tt; fits = tt; refused = λ n. absurd cc; stopped = λ other. absurd (not-both (is_evaluator_stop s) own other) })

-- what is told of more
pub told-more : (ts : List Tree) {R Q : Judged → Type 0} (r : Result Candidate NoSolutionOrStop) → ((j : Judged) → R j → Q j) → ToldOf ts R r → ToldOf ts Q r
told-more ts (Ok c) f t = record { ok = f _ t.ok; fits = t.fits; refused = tt; stopped = tt }
told-more ts {R} {Q} (Err e) f t = record { ok = tt; fits = tt; refused = λ n. f Refused (t.refused n); stopped = of e t.stopped }
  where
    of : (e : NoSolutionOrStop) → by_stop (λ s. is_evaluator_stop s ≡ false → R (Stopped s)) e → by_stop (λ s. is_evaluator_stop s ≡ false → Q (Stopped s)) e
    of N.NoSolution x = tt
    of (N.Stop s) x = λ o. f (Stopped s) (x o)

-- and what is told where the context has grown
pub told-of-kept : (old new : Context) (R : Judged → Type 0) (r : Result Candidate NoSolutionOrStop) → Grows old new → ToldOf old.trees R r → ToldOf new.trees R r
told-of-kept old new R (Ok c) g t = record {
  ok = subst R (ap (λ x. Gives (record { source = c.source; result = x })) (sym (response-kept old new c.result g t.fits))) t.ok;
  fits = response-fits old new c.result g t.fits;
  refused = tt;
  stopped = tt;
}
told-of-kept old new R (Err e) g t = record { ok = tt; fits = tt; refused = t.refused; stopped = t.stopped }

-- Goals that become pending.

nested-each : (ts : List Tree) (xs : List (OfNumbers Clause)) → map (pending_of ts ImplWhereBound) xs ≡ map (λ (x : Goal). let p : Pending = record { source = ImplWhereBound; goal = x } in p) (map (goal_of ts) xs)
nested-each ts [] = refl
nested-each ts (x ∷ xs) = ap (λ (ps : List Pending). pending_of ts ImplWhereBound x ∷ ps) (nested-each ts xs)

pub nested-as : (ts : List Tree) (S : State) (xs : List (OfNumbers Clause)) → with_goals_of ts S ImplWhereBound xs ≡ nested_goals S (map (goal_of ts) xs)
nested-as ts S xs = ap (λ (ps : List Pending). with_pending S (S.pending ++ ps)) (nested-each ts xs)

-- What is required was asked for: the answer tells what the first judge says.
module _ {F : Type 0} (asks : Bool) (judge : F → Judge) (e : Env) (c : Context) (S : State) (n : ℕ) (reference : Tree) (bounds : Forest) (source : CandidateSource) where
  pub told-known : (f h : F) (ts us : List Tree) (T U : State) (xs : List (OfNumbers Clause)) (r : Result Candidate NoSolutionOrStop) → h ≡ f → AreAskedIf asks (judge f) e c S n reference bounds (map (goal_of us) xs) T
      → U ≡ with_goals_of us T ImplWhereBound xs → Told ts r (asked (judge h) U source Yes) → ToldOf ts (IsAskedOfObject asks (judge f) e c S n reference bounds source) r
  told-known f h ts us T U xs r same a is told =
      told-judged ts (IsAskedOfObject asks (judge f) e c S n reference bounds source) r (asked (judge f) (nested_goals T (map (goal_of us) xs)) source Yes) (known T (map (goal_of us) xs) a)
      (subst (Told ts r) (ap (λ z. asked (judge z) U source Yes) same ∙ ap (λ z. asked (judge f) z source Yes) (is ∙ nested-as us T xs)) told)

  pub told-vague : (f h : F) (ts : List Tree) (T : State) (r : Result Candidate NoSolutionOrStop) → h ≡ f → AreUnknownIf asks (judge f) e c S n reference bounds T
      → Told ts r (asked (judge h) T source AMBIGUOUS) → ToldOf ts (IsAskedOfObject asks (judge f) e c S n reference bounds source) r
  told-vague f h ts T r same a told =
      told-judged ts (IsAskedOfObject asks (judge f) e c S n reference bounds source) r (asked (judge f) T source AMBIGUOUS) (vague T a) (subst (Told ts r) (ap (λ z. asked (judge z) T source AMBIGUOUS) same) told)

  -- nothing is asked of the object
  pub told-unasked : (f h : F) (ts : List Tree) (r : Result Candidate NoSolutionOrStop) → h ≡ f → asks ≡ false → Told ts r (asked (judge h) S source Yes) → ToldOf ts (IsAskedOfObject asks (judge f) e c S n reference bounds source) r
  told-unasked f h ts r same off told =
      told-judged ts (IsAskedOfObject asks (judge f) e c S n reference bounds source) r (asked (judge f) (nested_goals S []) source Yes) (known S [] (none_asked off))
      (subst (Told ts r) (ap (λ z. asked (judge z) S source Yes) same ∙ ap (λ (ps : List Pending). asked (judge f) (with_pending S ps) source Yes) (sym (append-nil S.pending))) told)

-- What is required of the object later, by other words for its parts, where the context has grown.
pub asked-before : {F : Type 0} (asks : Bool) (judge : F → Judge) (f h : F) (old now : Context) (d e : Env) (S : State) (m n : ℕ) (t u : Tree) (xs bs : Forest) (source : CandidateSource) (j : Judged)
    → IsWellFormedTable old → Grows old now → h ≡ f → d ≡ e → m ≡ n → t ≡ u → xs ≡ bs → TraitIsGiven old n
    → IsAskedOfObject asks (judge h) d now S m t xs source j → IsAskedOfObject asks (judge f) e old S n u bs source j
asked-before asks judge f h old now d e S m n t u xs bs source j w g same env number reference bounds given a =
    back (subst (λ z. IsAskedOfObject asks (judge f) e now S n u z source j) bounds
    (subst (λ z. IsAskedOfObject asks (judge f) e now S n z xs source j) reference
    (subst (λ z. IsAskedOfObject asks (judge f) e now S z t xs source j) number
    (subst (λ z. IsAskedOfObject asks (judge f) z now S m t xs source j) env
    (subst (λ z. IsAskedOfObject asks (judge z) d now S m t xs source j) same a)))))
  where
    back : {i : Judged} → IsAskedOfObject asks (judge f) e now S n u bs source i → IsAskedOfObject asks (judge f) e old S n u bs source i
    back (known T goals k) = known T goals (asked_if_back old now w g asks (judge f) e S n u bs goals T given k)
    back (vague T k) = vague T (k.0, unknown_back old now w g (judge f) e S n u bs T given k.1)

-- A clause that passes quick rejection, after its match: the whole is judged so.
module _ {G : Type 0} (K : KindRules G) (J : Judge) (law : JudgesAlike J) (c : Context) (g : G) (o : OwnClause) where
  judged-so : (S T : State) (p : Place) → passes K c g o.clause ≡ true → match_at K J c S g S o ≡ At p → T ≡ p.state → (j : Judged)
      → IsAskedOfObject K.asks_of_objects J (K.env_of g) c T (trait_by c o.clause.head) (reference_by c o.clause) (object_bounds K c g) o.source j → ObjectJudged K J c S g o j
  judged-so S T p fits is at j a =
      of (subst (λ z. IsAskedOfObject K.asks_of_objects J (K.env_of g) c z (trait_by c o.clause.head) (reference_by c o.clause) (object_bounds K c g) o.source j) at a)
    where
      of : {i : Judged} → IsAskedOfObject K.asks_of_objects J (K.env_of g) c p.state (trait_by c o.clause.head) (reference_by c o.clause) (object_bounds K c g) o.source i → ObjectJudged K J c S g o i
      of (known U goals k) = required S U p goals (law.alike_same S) fits is k
      of (vague U k) = unknown S U p (law.alike_same S) fits is k

  module _ {E F X : Type 0} {fixed : E → X} {state : E → State} {probes : E → List State} {context : E → Context} {stops : Account E} {h : Once F (MutBor E × Unit {0}) (Result Candidate NoSolutionOrStop × (MutBor E × Unit {0}))} {f : F} where
    pub told-after : (first : E) (r : Result Candidate NoSolutionOrStop) (y : E) → passes K c g o.clause ≡ true
        → ((x : E) (r : Result Candidate NoSolutionOrStop) (y : E) → Keeps fixed probes context first x → FnOnceReturnsAtMut h f x r y
        → ToldOf (context y).trees (IsAskedOfObject K.asks_of_objects J (K.env_of g) c (state x) (trait_by c o.clause.head) (reference_by c o.clause) (object_bounds K c g) o.source) r)
        → After fixed state probes context stops h f first (match_at K J c (state first) g (state first) o) r y → ToldOf (context y).trees (ObjectJudged K J c (state first) g o) r
    told-after first r y fits tells (stopped s z own w n) = record { ok = tt; fits = tt; refused = λ n. absurd cc; stopped = λ other. absurd (not-both (is_evaluator_stop s) own other) }
    told-after first r y fits tells (refused z is n) = record { ok = tt; fits = tt; refused = λ n. unmatched (state first) (law.alike_same (state first)) fits is; stopped = tt }
    told-after first r y fits tells (called x p is at keeps met) =
        told-more (context y).trees r (λ j a. judged-so (state first) (state x) p fits is at j a) (tells x r y keeps met)

-- What is told of a clause is told of its rule.
ruled : {G : Type 0} (K : KindRules G) (J : Judge) → JudgesAlike J → (c : Context) (S : State) (g : G) (o : OwnClause) (ts : List Tree) (r : Result Candidate NoSolutionOrStop)
    → ToldOf ts (ObjectJudged K J c S g o) r → ToldOf ts (IsJudgedByRule K J c S g o) r
ruled K J law c S g o ts r t = told-more ts r (λ j a. judged-by-rule K J law c S g o j a) t

-- A clause in a probe: what is told of it is told at the state at which the probe began, by what was there then.
module _ {E G X : Type 0} (fixed : E → X) (judge : X → Judge) (state : E → State) (probes : E → List State) (context : E → Context) (stops : Account E) (K : KindRules G) where
  pub object-in-probe : ((f : X) → JudgesAlike (judge f)) → (old began ran new : E) (g d : G) (o q : OwnClause) (x : Result Candidate NoSolutionOrStop)
      → fixed began ≡ fixed old → state began ≡ state old → probes began ≡ state old ∷ probes old → Grows (context old) (context began) → NoFault (context old) (context began)
      → fixed new ≡ fixed ran → Grows (context ran) (context new) → NoFault (context ran) (context new)
      → ((T : State) (others : List State) → probes ran ≡ T ∷ others → probes new ≡ others)
      → ((T : State) (others : List State) → probes ran ≡ T ∷ others → (judge (fixed ran)).alike T (state new))
      → d ≡ g → q ≡ o → ((j : Judged) → ObjectJudged K (judge (fixed old)) (context began) (state old) g o j → ObjectJudged K (judge (fixed old)) (context old) (state old) g o j)
      → TellsObject fixed judge state probes context stops K began ran d q x → ConsidersObject fixed judge state probes context stops K old new g o x
  object-in-probe law old began ran new g d o q x f same p grow n ends grows m left closed seen is back t =
      let told = told-of-kept (context ran) (context new) (ObjectJudged K (judge (fixed old)) (context old) (state old) g o) x grows
      (told-more (context ran).trees x
      (λ j a. back j
      (subst (λ z. ObjectJudged K (judge (fixed old)) (context began) (state old) g z j) is
      (subst (λ z. ObjectJudged K (judge (fixed old)) (context began) (state old) z q j) seen
      (subst (λ z. ObjectJudged K (judge (fixed old)) (context began) z d q j) same
      (subst (λ z. ObjectJudged K (judge z) (context began) (state began) d q j) f a)))))
      t.told) in
      record {
        kept = keeps-probe fixed probes context old began ran new (state old) f grow n p t.kept ends grows m left;
        alike = alike-probe fixed probes judge state old began ran new f p t.kept.fixed_same t.kept.probes_same closed;
        told = told;
        as_rule = ruled K (judge (fixed old)) (law (fixed old)) (context old) (state old) g o (context new).trees x told;
        cause = itself-within fixed context state stops x (record { same = f; grows = grow }) t.cause (record { same = ends; grows = grows });
      }

  -- the probe wasn't begun
  pub object-not-begun : ((x : E) (S : State) (q : Question) (s : Stop) → stops x S q s → IsEvaluatorStop s) → ((f : X) → JudgesAlike (judge f)) → (old new : E) (q : Question) (g : G) (o : OwnClause) (r : Result Candidate NoSolutionOrStop) (s : Stop)
      → r ≡ Err (N.Stop s) → fixed new ≡ fixed old → Grows (context old) (context new) → NoFault (context old) (context new) → (state new ≡ state old) × (probes new ≡ probes old) → stops new (state old) q s
      → ConsidersObject fixed judge state probes context stops K old new g o r
  object-not-begun own law old new q g o r s is f grow n rests why =
      let kept : Keeps fixed probes context old new = record { fixed_same = f; probes_same = rests.1; grows = grow; faults = n } in
      record {
        kept = kept;
        alike = subst (λ (x : State). (judge (fixed old)).alike (state old) x) (sym rests.0) ((law (fixed old)).alike_same (state old));
        told = told-of-own (context new).trees _ r s is (evaluator-own s (own new (state old) q s why));
        as_rule = told-of-own (context new).trees _ r s is (evaluator-own s (own new (state old) q s why));
        cause = subst (λ (x : Result Candidate NoSolutionOrStop). IfErr x (by_stop (StopsOfItself fixed context state stops old new))) (sym is) (asked-here q kept why);
      }

  -- the clause doesn't pass quick rejection
  pub object-rejected : ((f : X) → JudgesAlike (judge f)) → (old : E) (g : G) (o : OwnClause) → passes K (context old) g o.clause ≡ false → ConsidersObject fixed judge state probes context stops K old old g o (Err N.NoSolution)
  object-rejected law old g o out = record {
    kept = record { fixed_same = refl; probes_same = refl; grows = grows-refl (context old); faults = refl };
    alike = (law (fixed old)).alike_same (state old);
    told = record { ok = tt; fits = tt; refused = λ n. rejected out; stopped = tt };
    as_rule = record { ok = tt; fits = tt; refused = λ n. judged-by-rule K (judge (fixed old)) (law (fixed old)) (context old) (state old) g o Refused (rejected out); stopped = tt };
    cause = tt;
  }

-- a goal that says the same is about the same type
pub self-kept : {G P : Type 0} (K : KindRules G) {see : List Tree → ParamEnv → P → G} {old new : Context} {env : ParamEnv} {p : P} → SaysTheSame K see old new env p
    → self_type K new (see new.trees env p) ≡ self_type K old (see old.trees env p)
self-kept K {old = old} {new = new} says = ap (self_type K new) says.seen ∙ ap (λ (r : Reference). first_tree r.arguments) says.reference

-- whether the type's bounds say something, as it was read
pub has-as-read : {G P : Type 0} (K : KindRules G) (see : List Tree → ParamEnv → P → G) (old b d e : Context) (env : ParamEnv) (p : P) (i : TraitId) (ty : Ty) → b ≡ old → d ≡ old → e ≡ old → i.0 ≡ (K.reference_of b (see b.trees env p)).trait
    → ty_tree d.trees ty ≡ self_type K d (see d.trees env p) → has_own_clauses e i.0 (ty_tree e.trees ty) ≡ has_own_clauses old (K.reference_of old (see old.trees env p)).trait (self_type K old (see old.trees env p))
has-as-read K see old b d e env p i ty is-b is-d is-e of is =
    ap (λ (x : Context). has_own_clauses x i.0 (ty_tree x.trees ty)) is-e
    ∙ (ap (λ n. has_own_clauses old n (ty_tree old.trees ty)) (subst (λ (x : Context). i.0 ≡ (K.reference_of x (see x.trees env p)).trait) is-b of)
    ∙ ap (has_own_clauses old (K.reference_of old (see old.trees env p)).trait) (subst (λ (x : Context). ty_tree x.trees ty ≡ self_type K x (see x.trees env p)) is-d is))
