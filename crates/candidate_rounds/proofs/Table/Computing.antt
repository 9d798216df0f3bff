-- A goal is computed where nothing else is known, and then all that was known is known again.
use Rattle.std.proofs.Common.{◌≡◌, ◌⊎◌, ℕ, inr, List, [], Option, Result, Ok, Err, IfOk, IfErr, refl, sym, ◌∙◌, ap, subst}
use Rattle.ir_trees.specs.Declarations.Context.{Context, Grows}
use Rattle.ir_trees.specs.Syntax.Nodes.{Extends}
use Rattle.ir_trees.specs.Syntax.Trees.{Tree}
use Rattle.ir_trees.specs.Validity.WellFormed.{IsWellFormedTable}
use Rattle.ir_trees.proofs.Growth.Kept.{grows-refl}
use Rattle.candidate_eval.specs.declared.eval.refusal.NoSolutionOrStop.{NoSolutionOrStop}
use Rattle.candidate_eval.specs.declared.eval.refusal.NoSolutionOrStop.TheVariants as N
use Rattle.candidate_eval.specs.declared.eval.response.CanonicalResponse.{CanonicalResponse}
use Rattle.candidate_eval.specs.Interface.Evaluators.{KeepsBut}
use Rattle.candidate_eval.specs.Derivations.ImplRules.{TraitGoal}
use Rattle.candidate_eval.specs.Interface.Noting.{IsNotingStop}
use Rattle.candidate_eval.specs.Outcomes.ResponseTrees.{response_of}
use Rattle.candidate_eval.specs.Outcomes.Responses.{Response}
use Rattle.candidate_eval.specs.Judges.States.{Judge, State}
use Rattle.candidate_assembly.specs.Answers.SureAnswers.{IsProved}
use Rattle.candidate_assembly.specs.Rules.AliasBounds.{ChainEnd}
use Rattle.candidate_assembly.specs.Rules.AliasFaults.{PutsOffOnce, none, once}
use Rattle.candidate_assembly.specs.Answers.Backing.{AnswerIsBacked, IsBacked}
use Rattle.candidate_assembly.specs.Answers.TraitAnswers.{Computes, IsTraitAnswer, TraitAnswer, Answered, Refused, Stopped}
use Rattle.candidate_rounds.specs.Table.Goals.{Via}
use Rattle.candidate_rounds.specs.Evaluators.Inferences.{Inference}
use Rattle.candidate_rounds.specs.Evaluators.Interface.{Fixed, fixed, judge_of}
use Rattle.candidate_rounds.specs.Evaluators.Known.{Evaluator, IsEvaluator, probes, state, state_of, table_of}
use Rattle.candidate_rounds.specs.Table.Running.{IsAnswer, IsComputingStop, PutsOffByGoals, StaysBesideTable, none_off, one_off, answered_as, computing, said_by, told, with_table}
use Rattle.candidate_rounds.specs.Calls.Starting.{started}
use Rattle.candidate_rounds.specs.Evaluators.Stopping.{accounts}
use Rattle.candidate_rounds.proofs.Evaluators.Between.{of-parts, parts}
use Rattle.candidate_rounds.proofs.Snapshots.Knowing.{probes-grow, state-stays}
use Rattle.candidate_rounds.proofs.Snapshots.Probing.{holds-grown}
use Rattle.candidate_rounds.proofs.Snapshots.ResolvedValues.{resolved-grown}
use Rattle.candidate_rounds.proofs.Table.Starting.{greatest-below, started-at, started-consistent, started-resolved}
use Rattle.rounds_judge.specs.Table.Keys.{Key, newest_of, start_of}

-- the evaluator of which that is known, and no probe is open
abbrev pub suspend_state : Evaluator → Inference → Evaluator
suspend_state r s = record r { inference = s; marks = [] }

-- the evaluator of which that is known again which was of the first
abbrev pub restore_state : Evaluator → Evaluator → Evaluator
restore_state r n = record n { mode = r.mode; inference = r.inference; marks = r.marks }

pub out-holds : (r : Evaluator) (k : Key) (s : Inference) → IsEvaluator r.context r.inference r.marks r.normal r.opaques r.goals → s ≡ started (newest_of k) k.variables
    → IsEvaluator r.context s [] r.normal r.opaques r.goals
out-holds r k s h e =
    let ts = r.context.trees in
    let u = newest_of k in
    subst (λ x. IsEvaluator r.context x [] r.normal r.opaques r.goals) (sym e) (of-parts (record {
      consistent = started-consistent ts u k.variables (greatest-below k);
      resolved = started-resolved ts u k.variables;
      given = (parts h).given;
      tabled = (parts h).tabled;
      derived = (parts h).derived;
    }))

pub out-state : (r : Evaluator) (k : Key) (s : Inference) → s ≡ started (newest_of k) k.variables → state (suspend_state r s) ≡ start_of r.mode k
out-state r k s e = ap (λ x. state_of r.context.trees r.mode x) e ∙ started-at r.context.trees r.mode (newest_of k) k.variables

pub back-holds : (r n : Evaluator) → IsEvaluator r.context r.inference r.marks r.normal r.opaques r.goals → Grows r.context n.context → IsEvaluator n.context n.inference n.marks n.normal n.opaques n.goals
    → IsEvaluator n.context r.inference r.marks n.normal n.opaques n.goals
back-holds r n h g i =
    let p = parts h in
    of-parts (record {
      consistent = holds-grown r.context.trees n.context.trees r.inference r.marks g.kept p.consistent;
      resolved = resolved-grown r.context.trees n.context.trees r.inference r.marks g.kept p.consistent.known p.resolved;
      given = (parts i).given;
      tabled = (parts i).tabled;
      derived = (parts i).derived;
    })

-- What one goal puts off.

by-goal : {F : ChainEnd → Type 0} {xs ys : List (List ℕ)} → PutsOffOnce F xs ys → PutsOffByGoals xs ys
by-goal {xs = xs} (none e) = subst (PutsOffByGoals xs) (sym e) none_off
by-goal {xs = xs} (once so e) = subst (PutsOffByGoals xs) (sym e) (one_off none_off)

pub one-at-most : {F : ChainEnd → Type 0} {xs ys : List (List ℕ)} → PutsOffOnce F xs ys → PutsOffOnce (λ end. Unit {0}) xs ys
one-at-most (none e) = none e
one-at-most (once so e) = once tt e

pub back-stays : (r n : Evaluator) (s : Inference) → IsEvaluator r.context r.inference r.marks r.normal r.opaques r.goals → {F : ChainEnd → Type 0}
    → KeepsBut (PutsOffOnce F) fixed probes (λ x. x.context) (suspend_state r s) n → StaysBesideTable r (restore_state r n)
back-stays r n s h k =
    let known = (parts h).consistent.known in
    record {
      grows = k.grows;
      fixed_same = ap (λ (f : Fixed). record (with_table f []) { mode = r.mode }) k.fixed_same;
      state_same = state-stays r.context.trees n.context.trees r.mode r.inference k.grows.kept known;
      probes_same = probes-grow r.context.trees n.context.trees r.mode r.inference r.marks k.grows.kept known;
      faults = by-goal k.faults;
    }

pub back-table : {P : List (List ℕ) → List (List ℕ) → Type 0} (r n : Evaluator) (s : Inference) → KeepsBut P fixed probes (λ x. x.context) (suspend_state r s) n → table_of (restore_state r n) ≡ table_of r
back-table r n s k = ap (λ (f : Fixed). f.table) k.fixed_same

-- What is promised of a call's answer, by its trees.
backed-is : (J : Judge) (c : Context) (S : State) (g : TraitGoal) (ts : List Tree) (a : Result (CanonicalResponse × Option Via) NoSolutionOrStop) → AnswerIsBacked J c S g ts a
    → IfOk (answered_as a) (λ x. IsBacked J c S g (said_by (told ts x)))
backed-is J c S g ts (Ok p) h = record {
  proved = λ q e y.
      let s : response_of ts p.0 ≡ q.0 = cc in
      subst (λ x. IsProved J c S g x) s (h.proved (ap (λ (x : Response). x.certainty) s ∙ y));
  refused = λ e p. absurd cc;
  impls = λ e p. absurd cc;
}
backed-is J c S g ts (Err N.NoSolution) h = record { proved = λ q e y. absurd cc; refused = λ e. h.refused refl; impls = λ e. h.impls refl }
backed-is J c S g ts (Err (N.Stop x)) h = tt

-- What a goal comes to there.

module _ (r n : Evaluator) (s : Inference) (k : Key) (g : TraitGoal) (e : s ≡ started (newest_of k) k.variables) (q : g ≡ k.goal) where
  at-start : (a : TraitAnswer) → IsTraitAnswer (judge_of (fixed (suspend_state r s))) r.context (state (suspend_state r s)) g (state n) a → IsTraitAnswer (judge_of (with_table (fixed r) (table_of r))) r.context (start_of r.mode k) k.goal (state n) a
  at-start a h =
      let p = out-state r k s e in
      subst (λ (x : State × TraitGoal). IsTraitAnswer (judge_of (with_table (fixed r) (table_of r))) r.context x.0 x.1 (state n) a) (λ i. (p i, q i)) h

  backed-at-start : (a : TraitAnswer) → IsBacked (judge_of (fixed (suspend_state r s))) r.context (state (suspend_state r s)) g a → IsBacked (judge_of (with_table (fixed r) (table_of r))) r.context (start_of r.mode k) k.goal a
  backed-at-start a h =
      let p = out-state r k s e in
      subst (λ (x : State × TraitGoal). IsBacked (judge_of (with_table (fixed r) (table_of r))) r.context x.0 x.1 a) (λ i. (p i, q i)) h

  pub answer-is : IsWellFormedTable r.context → (a : Result (CanonicalResponse × Option Via) NoSolutionOrStop) → Computes fixed judge_of state probes (λ x. x.context) accounts (suspend_state r s) n g a
      → AnswerIsBacked (judge_of (fixed (suspend_state r s))) r.context (state (suspend_state r s)) g n.context.trees a → IfOk (answered_as a) (λ x. computing r (table_of r) k (told n.context.trees x))
  answer-is well (Ok p) h b =
      let a = Answered (response_of n.context.trees p.0, p.1) in
      let back = backed-is (judge_of (fixed (suspend_state r s))) r.context (state (suspend_state r s)) g n.context.trees (Ok p) b in
      record { context = r.context; grows = grows-refl r.context; well_formed = well; left = state n; comes = at-start a h.ok; backed = backed-at-start a back }
  answer-is well (Err N.NoSolution) h b =
      let back = backed-is (judge_of (fixed (suspend_state r s))) r.context (state (suspend_state r s)) g n.context.trees (Err N.NoSolution) b in
      record { context = r.context; grows = grows-refl r.context; well_formed = well; left = state n; comes = at-start Refused (h.refused refl); backed = backed-at-start Refused back }
  answer-is well (Err (N.Stop x)) h b = tt

  pub answer-fits : (a : Result (CanonicalResponse × Option Via) NoSolutionOrStop) → Computes fixed judge_of state probes (λ x. x.context) accounts (suspend_state r s) n g a → IfOk (answered_as a) (λ x. IsAnswer n.context.trees x)
  answer-fits (Ok p) h = h.fits
  answer-fits (Err N.NoSolution) h = tt
  answer-fits (Err (N.Stop x)) h = tt

  pub answer-stopped : (ts : List Tree) (a : Result (CanonicalResponse × Option Via) NoSolutionOrStop) → Extends n.context.trees ts → Computes fixed judge_of state probes (λ x. x.context) accounts (suspend_state r s) n g a
      → IfErr (answered_as a) (λ x. IsNotingStop ts x ⊎ IsComputingStop ts r (table_of r) k x)
  answer-stopped ts (Ok p) among h = tt
  answer-stopped ts (Err N.NoSolution) among h = tt
  answer-stopped ts (Err (N.Stop x)) among h = inr (record {
    first = suspend_state r s;
    grows = grows-refl r.context;
    fixed_same = refl;
    begins = out-state r k s e;
    last = n;
    among = among;
    comes = λ o. at-start (Stopped x) (h.stopped o);
    own = h.cause;
  })
