-- What an evaluator knows of impls is what its judge knows.
use Rattle.std.proofs.Common.{◌≡◌, ℕ, inl, inr, true, List, [], ◌∷◌, Result, Err, refl, sym, ◌∙◌, ap, subst}
use Rattle.std.specs.Fn.{Mut}
use Rattle.std.specs.Borrow.{MutBor}
use Rattle.ir_trees.specs.declared.ir.kinds.ParamEnv.{ParamEnv}
use Rattle.ir_trees.specs.declared.ir.kinds.TraitRef.{TraitRef}
use Rattle.ir_trees.specs.declared.ir.kinds.Ty.{Ty}
use Rattle.ir_trees.specs.declared.ir.stop.Stop.{Stop}
use Rattle.ir_trees.specs.declared.ir.stop.Stop.TheVariants.{Memory, NodesFull, EvaluatorLimit}
use Rattle.ir_trees.specs.Declarations.Context.{Context, world}
use Rattle.ir_trees.specs.Declarations.References.{reference_of}
use Rattle.ir_trees.specs.Syntax.Trees.{Forest, Tree}
use Rattle.ir_trees.specs.Syntax.Words.{IsParamEnv, ty_tree, env_forest}
use Rattle.ir_trees.specs.Declarations.Worlds.{World}
use Rattle.ir_trees.proofs.Growth.Kept.{grows-refl}
use Rattle.candidate_eval.specs.declared.coherence.NormalizeErr.{NormalizeErr}
use Rattle.candidate_eval.specs.declared.coherence.NormalizeErr.TheVariants as N
use Rattle.candidate_eval.specs.Knowability.Answers.{KnownResult, IsKnowledge, knowledge_of}
use Rattle.candidate_eval.specs.Knowability.Calls.{IsKnown, knowledge_about, depth_limit}
use Rattle.candidate_eval.specs.Interface.Evaluators.{Keeps, IsEvaluatorStop}
use Rattle.candidate_eval.specs.Derivations.Judging.{seen_of, judge_view, judge_knows}
use Rattle.candidate_eval.specs.Interface.Knowing.{NormalizesAsJudged, SeesStates, StopsKnowing, is_evaluator_stop}
use Rattle.candidate_eval.specs.Interface.Knowing.StopsKnowing.{no_memory, too_deep, unnameable, accounted}
use Rattle.candidate_eval.specs.Interface.Accounts.{Account, IsAccounted, Question}
use Rattle.candidate_eval.proofs.Interface.Accounts.{accounted-here, accounted-later, reaches}
use Rattle.candidate_eval.specs.Knowability.Normalizer.{Answers, Call, Description, IsFunction, IsLeftByCalls, IsStopCause, IsTold, LastIs, Lead, Normalizes, shown}
use Rattle.candidate_eval.specs.Knowability.Orphan.{Sight, View, view, unless_general, Checked, Knowability, knowability}
use Rattle.candidate_eval.specs.Judges.States.{State, Judge, Limits}
use Rattle.candidate_eval.proofs.Dynamic.Objects.{env-kept}
use Rattle.candidate_eval.proofs.Interface.Probing.{keeps-trans}
use Rattle.candidate_eval.proofs.Knowability.Simulation.{knowledge_seen}

pub own-stops : (s : Stop) → IsEvaluatorStop s → is_evaluator_stop s ≡ true
own-stops Memory h = refl
own-stops NodesFull h = refl
own-stops EvaluatorLimit h = refl
own-stops _ h = absurd h

module _ {C F X : Type 0} (context : C → Context) (g : Mut F (MutBor C × (Ty × Unit {0})) (Result Ty (NormalizeErr (Unit {0})) × (MutBor C × Unit {0})))
    (fixed : C → X) (probes : C → List State) (state : C → State) (judge : X → Judge) (stops : Account C) (env : ParamEnv) (Holds : F → Type 0)
    (says : (f : F) (c : C) (t : Ty) (r : Result Ty (NormalizeErr (Unit {0}))) (f' : F) (c' : C) → Holds f → Normalizes context g f c t r f' c'
    → (f' ≡ f) × NormalizesAsJudged context fixed probes state judge stops c c' env t r) where
  -- calls keep what one keeps
  pub lead-judged : (ks : List (Call F C (Unit {0}))) (f : F) (c : C) (f' : F) (c' : C) → Holds f → Lead context g f c ks f' c' → Holds f' × Keeps fixed probes context c c'
  lead-judged [] f c f' c' h l = (
    subst Holds (sym l.0) h,
    subst (λ (x : C). Keeps fixed probes context c x) (sym l.1) (record { fixed_same = refl; probes_same = refl; grows = grows-refl (context c); faults = refl }),
  )
  lead-judged (k ∷ ks) f c f' c' h l =
      let here = subst Holds (sym l.0) h in
      let s = says k.by k.before k.type k.answer k.next k.after here l.2.call in
      let rest = lead-judged ks k.next k.after f' c' (subst Holds (sym s.0) here) l.3 in
      (rest.0, subst (λ (x : C). Keeps fixed probes context x c') l.1 (keeps-trans fixed probes context k.before k.after c' s.1.kept rest.1))

  -- the evaluator accounts for a stop of the last of them
  last-stop : (ks : List (Call F C (Unit {0}))) (f : F) (c : C) (f' : F) (c' : C) → Holds f → Lead context g f c ks f' c' → (s : Stop) → LastIs (Answers s) ks → IsAccounted fixed context state stops c c' s
  last-stop [] f c f' c' h l s e = absurd e
  last-stop (k ∷ []) f c f' c' h l s e =
      let n = says k.by k.before k.type k.answer k.next k.after (subst Holds (sym l.0) h) l.2.call in
      subst (λ (x : C). IsAccounted fixed context state stops x c' s) l.1
      (subst (λ (x : C). IsAccounted fixed context state stops k.before x s) (sym l.3.1) (accounted-here _ (reaches n.1.kept) (n.1.stopped s e)))
  last-stop (k ∷ j ∷ ks) f c f' c' h l s e =
      let here = subst Holds (sym l.0) h in
      let n = says k.by k.before k.type k.answer k.next k.after here l.2.call in
      subst (λ (x : C). IsAccounted fixed context state stops x c' s) l.1 (accounted-later (reaches n.1.kept) (last-stop (j ∷ ks) k.next k.after f' c' (subst Holds (sym n.0) here) l.3 s e))

  abbrev Stops : C → C → Stop → Type 0
  Stops = StopsKnowing fixed context state stops

  stop-of : (ks : List (Call F C (Unit {0}))) (f : F) (c : C) (f' : F) (c' : C) (levels : ℕ) → Holds f → Lead context g f c ks f' c' → (s : Stop) → IsStopCause context g levels ks s → Stops c c' s
  stop-of ks f c f' c' n h l s (inl e) = subst (Stops c c') (sym e) no_memory
  stop-of ks f c f' c' n h l s (inr (inl e)) = subst (Stops c c') (sym e.0) too_deep
  stop-of ks f c f' c' n h l s (inr (inr (inl e))) = subst (Stops c c') (sym e.0) unnameable
  stop-of ks f c f' c' n h l s (inr (inr (inr e))) = accounted (last-stop ks f c f' c' h l s e)

  pub left-stop : {levels : ℕ} {f : F} {c : C} {f' : F} {c' : C} {why : Stop → Type 0} → Holds f → IsLeftByCalls context g levels f c f' c' why → (s : Stop) → why s → Stops c c' s
  left-stop {levels} {f} {c} {f'} {c'} h l s e = stop-of l.calls f c f' c' levels h l.lead s (l.cause s e)

  module _ {V : Type 0} (shows : C → V) (resolve : V → Tree → Tree) (law : SeesStates shows resolve fixed state) (f0 : F) (c0 : C)
      (given : IsParamEnv (context c0).trees env) (held : Holds f0) where
    abbrev told_by : Judge
    told_by = judge (fixed c0)

    abbrev clauses : Forest
    clauses = env_forest (context c0).trees env

    abbrev normal_by : View (F × V) (Unit {0})
    normal_by s t =
        let n = seen_of (law.state_of s.1) (told_by.normalized (law.state_of s.1) clauses t) in
        record { seen = n.seen; after = (s.0, law.seen_at (fixed c0) n.after) }

    -- its normal forms, as those of a normaliser
    abbrev pub judged : Description F C V (Unit {0})
    judged = record { untold = is_evaluator_stop; refused = refl; stands = λ s. (s.0, shows s.1); normal = normal_by }

    state-is : (c : C) → law.state_of (shows c) ≡ state c
    state-is c = ap law.state_of (law.sees c) ∙ law.shows (fixed c) (state c)

    at-call : (f : F) (c : C) (t : Ty) (r : Result Ty (NormalizeErr (Unit {0}))) (f' : F) (c' : C) → Keeps fixed probes context c0 c → f' ≡ f → Keeps fixed probes context c c'
        → seen_of (state c) ((judge (fixed c)).normalized (state c) (env_forest (context c).trees env) (ty_tree (context c).trees t)) ≡ record { seen = shown (context c').trees r; after = state c' }
        → normal_by (f, shows c) (ty_tree (context c).trees t) ≡ record { seen = shown (context c').trees r; after = (f', shows c') }
    at-call f c t r f' c' k e l a =
        let u = ty_tree (context c).trees t in
        let there = fixed c0 in
        let seen : seen_of (law.state_of (shows c)) (told_by.normalized (law.state_of (shows c)) clauses u) ≡ record { seen = shown (context c').trees r; after = state c' } =
        ap (λ (S : State). seen_of S (told_by.normalized S clauses u)) (state-is c)
        ∙ (ap (λ (x : X). seen_of (state c) ((judge x).normalized (state c) clauses u)) (sym k.fixed_same)
        ∙ (ap (λ (x : Forest). seen_of (state c) ((judge (fixed c)).normalized (state c) x u)) (sym (env-kept (context c0) (context c) env k.grows given).1)
        ∙ a)) in
        let after : (f, law.seen_at there (state c')) ≡ (f', shows c') =
        ap (λ (y : F). (y, law.seen_at there (state c'))) (sym e)
        ∙ ap (λ (v : V). (f', v)) (ap (λ (x : X). law.seen_at x (state c')) (sym (l.fixed_same ∙ k.fixed_same)) ∙ sym (law.sees c')) in
        ap (λ (n : Sight State (Unit {0})). let x : Sight (F × V) (Unit {0}) = record { seen = n.seen; after = (f, law.seen_at there n.after) } in x) seen
        ∙ ap (λ (z : F × V). let x : Sight (F × V) (Unit {0}) = record { seen = shown (context c').trees r; after = z } in x) after

    pub judged-function : IsFunction context g shows resolve judged f0 c0
    judged-function = record {
      at = λ f c t r f' c' q grown i small n told.
          let l = lead-judged q.calls f0 c0 f c held q.lead in
          let s = says f c t r f' c' l.0 n in
          at-call f c t r f' c' l.1 s.0 s.1.kept (s.1.answer told);
      values = λ f c t q grown. refl;
    }

    -- the judge sees what is seen
    judge-sees : (s : F × V) (t : Tree) → judge_view told_by clauses (law.state_of s.1) t
        ≡ record { seen = (view (λ x u. resolve x.1 u) normal_by s t).seen; after = law.state_of (view (λ x u. resolve x.1 u) normal_by s t).after.1 }
    judge-sees s t =
        let S = law.state_of s.1 in
        let look : Tree → Sight State (Unit {0}) = λ u. seen_of S (told_by.normalized S clauses u) in
        ap (λ (u : Tree). let x : Sight State (Unit {0}) = record { seen = unless_general u (look u).seen; after = (look u).after } in x) (sym (law.resolves s.1 t))
        ∙ ap (λ (T : State). let x : Sight State (Unit {0}) = record { seen = unless_general (resolve s.1 t) (look (resolve s.1 t)).seen; after = T } in x)
        (sym (law.shows (fixed c0) (look (resolve s.1 t)).after))

    pub judged-knows : (told_by.world ≡ world (context c0)) × (told_by.local_crate ≡ (context c0).local.0) → told_by.limits ≡ (context c0).limits
        → (r : TraitRef) (result : KnownResult (Unit {0})) (c' : C)
        → IsKnowledge judged.stands result c' (knowledge_about context shows resolve judged (f0, c0) r)
        → judge_knows told_by clauses (state c0) (reference_of (context c0).trees r) ≡ record { answer = knowledge_of result; after = state c' }
    judged-knows d limits r result c' said =
        let R = reference_of (context c0).trees r in
        let known : Checked (F × V) (Knowability (Unit {0})) = knowledge_about context shows resolve judged (f0, c0) r in
        let kept : (x : State) → x ≡ state c' → known.answer ≡ knowledge_of result → (let k : Checked State (Knowability (Unit {0})) = record { answer = known.answer; after = x } in k) ≡ record { answer = knowledge_of result; after = state c' } =
        λ x e a. ap (λ (y : Knowability (Unit {0})). let k : Checked State (Knowability (Unit {0})) = record { answer = y; after = x } in k) a
        ∙ ap (λ (y : State). let k : Checked State (Knowability (Unit {0})) = record { answer = knowledge_of result; after = y } in k) e in
        ap (λ (w : World). knowability w told_by.local_crate (judge_view told_by clauses) told_by.limits.orphan_walk (state c0) R) d.0
        ∙ (ap (λ (n : ℕ). knowability (world (context c0)) n (judge_view told_by clauses) told_by.limits.orphan_walk (state c0) R) d.1
        ∙ (ap (λ (l : Limits). knowability (world (context c0)) (context c0).local.0 (judge_view told_by clauses) l.orphan_walk (state c0) R) limits
        ∙ (ap (λ (S : State). knowability (world (context c0)) (context c0).local.0 (judge_view told_by clauses) (depth_limit (context c0)) S R) (sym (state-is c0))
        ∙ (knowledge_seen (λ (s : F × V). law.state_of s.1) (view (λ x u. resolve x.1 u) normal_by) (judge_view told_by clauses) judge-sees
        (world (context c0)) (context c0).local.0 (depth_limit (context c0)) (f0, shows c0) R
        ∙ kept (law.state_of known.after.1) (ap (λ (z : F × V). law.state_of z.1) said.leaves ∙ state-is c') said.answer))))

-- so a call that knows, by such a normaliser, says what the judge does
pub knows-as-judged : {C F V X : Type 0} {context : C → Context} {g : Mut F (MutBor C × (Ty × Unit {0})) (Result Ty (NormalizeErr (Unit {0})) × (MutBor C × Unit {0}))}
    {shows : C → V} {resolve : V → Tree → Tree} {f : F} {c : C} {r : TraitRef} {result : KnownResult (Unit {0})} {f' : F} {c' : C}
    → IsKnown context shows resolve g (depth_limit (context c)) f c r result f' c'
    → (fixed : C → X) (probes : C → List State) (state : C → State) (judge : X → Judge) (stops : Account C) (env : ParamEnv) (Holds : F → Type 0)
    → ((f : F) (c : C) (t : Ty) (r : Result Ty (NormalizeErr (Unit {0}))) (f' : F) (c' : C) → Holds f → Normalizes context g f c t r f' c'
    → (f' ≡ f) × NormalizesAsJudged context fixed probes state judge stops c c' env t r)
    → SeesStates shows resolve fixed state → IsParamEnv (context c).trees env → Holds f
    → ((judge (fixed c)).world ≡ world (context c)) × ((judge (fixed c)).local_crate ≡ (context c).local.0) → (judge (fixed c)).limits ≡ (context c).limits
    → IsTold is_evaluator_stop result
    → judge_knows (judge (fixed c)) (env_forest (context c).trees env) (state c) (reference_of (context c).trees r) ≡ record { answer = knowledge_of result; after = state c' }
knows-as-judged {context = context} {g = g} {shows = shows} {resolve = resolve} {f = f} {c = c} {r = r} {result = result} {c' = c'} said fixed probes state judge stops env Holds says law given held d limits told =
    judged-knows context g fixed probes state judge stops env Holds says shows resolve law f c given held d limits r result c'
    (said.at (judged context g fixed probes state judge stops env Holds says shows resolve law f c given held)
    (judged-function context g fixed probes state judge stops env Holds says shows resolve law f c given held) told)

-- where the evaluator stopped
pub stopped-as-judged : {C X : Type 0} (context : C → Context) (fixed : C → X) (probes : C → List State) (state : C → State) (judge : X → Judge) (stops : Account C) (old new : C) (env : ParamEnv) (t : Ty)
    (s : Stop) → Keeps fixed probes context old new → IsEvaluatorStop s
    → stops new (state old) (Question.normalize (env_forest (context old).trees env) (ty_tree (context old).trees t)) s
    → NormalizesAsJudged context fixed probes state judge stops old new env t (Err (N.Stop s))
stopped-as-judged context fixed probes state judge stops old new env t s k h a = record {
  kept = k;
  sort = tt;
  stopped = λ z e. let i : s ≡ z = cc in subst (λ (x : Stop). stops new (state old) (Question.normalize (env_forest (context old).trees env) (ty_tree (context old).trees t)) x) i a;
  answer = λ told. absurd (told s (own-stops s h) refl);
}
