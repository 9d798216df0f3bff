-- Tables that come from others by steps: of rounds, of runs, of what these leave where they stop, and of a later evaluator.
use Rattle.std.proofs.Common.{◌≡◌, ◌⊎◌, inl, inr, true, false, Bool, ℕ, List, [], ◌∷◌, ◌++◌, map, if◌then◌else◌, Result, Ok, Err, OnOk, IfErr, Option, Some, None, refl, sym, ap, subst, ◌∙◌}
use Rattle.ir_trees.specs.declared.ir.kinds.AliasTy.{AliasTy}
use Rattle.ir_trees.specs.declared.ir.kinds.ParamEnv.{ParamEnv}
use Rattle.ir_trees.specs.declared.ir.stop.Stop.{Stop}
use Rattle.ir_trees.specs.Declarations.Context.{Grows}
use Rattle.ir_trees.specs.Syntax.Trees.{Tree}
use Rattle.candidate_eval.specs.declared.eval.response.CanonicalResponse.{CanonicalResponse}
use Rattle.candidate_eval.specs.Derivations.ImplRules.{TraitGoal}
use Rattle.candidate_rounds.specs.declared.rounds.effort.Effort.{Effort}
use Rattle.candidate_rounds.specs.declared.rounds.effort.Effort.TheVariants.{AsNeeded, Rounds}
use Rattle.candidate_rounds.specs.Evaluators.Interface.{fixed}
use Rattle.candidate_rounds.specs.Evaluators.Known.{Evaluator, state, table_of}
use Rattle.candidate_rounds.specs.Table.Efforts.{IsLeftBy, Runs}
use Rattle.candidate_rounds.specs.Table.Goals.{Via}
use Rattle.candidate_rounds.specs.Table.Normalized.{IsLeftAfter, IsNormalized, answered, normalized, not_keyed, not_run, refused, stopped}
use Rattle.candidate_rounds.specs.Table.Running.{AreDone, ComesFrom, IsLeftStopped, IsLeftUnsettled, after_rounds, after_steps, as_it_is, computing, none_done, not_begun, not_entered, one_done, one_step, with_table}
use Rattle.candidate_rounds.proofs.Table.Running.{round-later}
use Rattle.rounds_judge.specs.Table.GoalTable.{AreNew, GoalTable, entered_in, is_entered, unanswered, verdict_in}
use Rattle.rounds_judge.specs.Table.Keys.{Key, key_at, same_key}
use Rattle.rounds_judge.specs.Table.Rounds as R
use Rattle.rounds_judge.specs.Table.Rounds.{AnyEntry, PureFolder, Steps, Writes}
use Rattle.rounds_judge.specs.Table.Verdicts.{Answer, Verdict, verdict_of}
use Rattle.rounds_judge.proofs.Table.RoundLaws.{round_is_step}

pub comes-then : {r : Evaluator} {T U V : GoalTable Via} → ComesFrom r T U → ComesFrom r U V → ComesFrom r T V
comes-then g as_it_is = g
comes-then g (one_step h w) = one_step (comes-then g h) w

pub comes-same : {r : Evaluator} {T U : GoalTable Via} → U ≡ T → ComesFrom r T U
comes-same {r} {T} e = subst (ComesFrom r T) (sym e) as_it_is

-- What comes by a later evaluator comes by the one before, for which the same is declared and given.
pub comes-before : {r s : Evaluator} → Grows r.context s.context → with_table (fixed s) [] ≡ with_table (fixed r) [] → {T U : GoalTable Via} → ComesFrom s T U → ComesFrom r T U
comes-before g f as_it_is = as_it_is
comes-before g f (one_step h w) = one_step (comes-before g f h) (round-later g f w)

-- Goals are entered.

all-stay : {A : PureFolder Via} (T es : GoalTable Via) → Writes AnyEntry A T es es
all-stay T [] = R.nothing
all-stay T (e ∷ es) = R.stays e tt (all-stay T es)

comes-asked : {r : Evaluator} (T : GoalTable Via) (ks : List Key) → AreNew T ks → ComesFrom r T (T ++ map unanswered ks)
comes-asked T ks new = one_step as_it_is (record { written = T; writes = all-stay T T; asked = ks; are_new = new; is = refl })

comes-entered : {r : Evaluator} (T : GoalTable Via) (k : Key) → ComesFrom r T (entered_in T k)
comes-entered {r} T k = at (is_entered T k) refl
  where
    at : (b : Bool) → is_entered T k ≡ b → ComesFrom r T (if b then T else T ++ unanswered k ∷ [])
    at true e = as_it_is
    at false e = comes-asked T (k ∷ []) (e, tt)

-- Rounds and steps are done.

comes-rounds : {r : Evaluator} {k : Key} {n : ℕ} {T U : GoalTable Via} → R.Rounds (computing r) k n T U → ComesFrom r T U
comes-rounds (R.used_up f) = as_it_is
comes-rounds (R.enough n f) = as_it_is
comes-rounds (R.still f w) = as_it_is
comes-rounds (R.round f w c d) = comes-then (one_step as_it_is (round_is_step w)) (comes-rounds d)

comes-done : {r : Evaluator} {k : Key} {n : ℕ} {T U : GoalTable Via} → AreDone (computing r) k n T U → ComesFrom r T U
comes-done none_done = as_it_is
comes-done (one_done f w c d) = comes-then (one_step as_it_is (round_is_step w)) (comes-done d)

comes-steps : {r : Evaluator} {k : Key} {n : ℕ} {T U : GoalTable Via} → Steps (computing r) k n T U → ComesFrom r T U
comes-steps R.no_step = as_it_is
comes-steps (R.one_more d f w) = one_step (comes-steps d) w

-- A goal was run, or that stopped.

pub comes-ran : {r : Evaluator} (k : Key) {T U : GoalTable Via} (effort : Effort) → Runs (computing r) k effort T U → ComesFrom r T U
comes-ran k {T} (Rounds n) h = comes-then (comes-entered T k) (comes-rounds h)
comes-ran k {T} AsNeeded h = comes-then (comes-entered T k) (comes-steps h.done.steps)

left-rounds : {ts : List Tree} {r : Evaluator} {g : TraitGoal} {n : ℕ} {T U : GoalTable Via} {s : Stop} → IsLeftStopped ts r g n T U s → ComesFrom r T U
left-rounds (not_entered k same) = comes-same same
left-rounds {r = r} {g = g} {T = T} (after_rounds k d) = comes-then (comes-entered T (key_at (state r) g)) (comes-done d.done)

left-steps : {ts : List Tree} {r : Evaluator} {g : TraitGoal} {T U : GoalTable Via} {s : Stop} → IsLeftUnsettled ts r g T U s → ComesFrom r T U
left-steps (not_begun k same) = comes-same same
left-steps {r = r} {g = g} {T = T} (after_steps k d) = comes-then (comes-entered T (key_at (state r) g)) (comes-steps d.steps)

pub comes-left : (ts : List Tree) {r : Evaluator} (g : TraitGoal) {T U : GoalTable Via} (s : Stop) (effort : Effort) → IsLeftBy ts r g effort T U s → ComesFrom r T U
comes-left ts g s (Rounds n) h = left-rounds h
comes-left ts g s AsNeeded h = left-steps h

-- whatever came of it
pub comes-run : {A : Type 0} (ts : List Tree) {r : Evaluator} (g : TraitGoal) {T U : GoalTable Via} (effort : Effort) (q : Result A Stop) → OnOk q (Runs (computing r) (key_at (state r) g) effort T U)
    → IfErr q (λ s. IsLeftBy ts r g effort T U s) → ComesFrom r T U
comes-run ts {r} g effort (Ok x) h k = comes-ran (key_at (state r) g) effort h
comes-run ts g effort (Err s) h k = comes-left ts g s effort k

-- A projection was normalised, or that stopped.

comes-after : {r : Evaluator} {T U : GoalTable Via} {o : Result (Option CanonicalResponse) Stop} → IsLeftAfter T U o → ComesFrom r T U
comes-after (stopped same) = comes-same same
comes-after {r} {T} (answered ks new is) = subst (ComesFrom r T) (sym is) (comes-asked T ks new)

pub comes-normalized : {ts : List Tree} {r : Evaluator} {e : ParamEnv} {a : AliasTy} {U : GoalTable Via} {o : Result (Option CanonicalResponse) Stop} (effort : Effort)
    → IsNormalized ts r e a effort U o → ComesFrom r (table_of r) U
comes-normalized effort (not_run h) = comes-left _ _ _ effort h
comes-normalized effort (not_keyed ran h) = comes-ran _ effort ran
comes-normalized effort (refused ran h) = comes-ran _ effort ran
comes-normalized effort (normalized T v way ran there proved at left) = comes-then (comes-ran _ effort ran) (comes-after left)

-- What is written for a key was written at the start, or a goal of that key came to it by a table between.

pub record WasComputed (r : Evaluator) (T : GoalTable Via) (k : Key) (v : Verdict Via) : Type 0 where
  pub key : Key
  pub same : same_key key k ≡ true
  pub between : GoalTable Via
  pub comes : ComesFrom r T between
  pub answer : Answer Via
  pub computed : computing r between key answer
  pub is : verdict_of answer ≡ v

-- goals that were entered have nothing yet
none-there : (ks : List Key) (k : Key) (v : Verdict Via) → verdict_in (map unanswered ks) k ≡ Some v → ⊥
none-there [] k v h = absurd cc
none-there (m ∷ ks) k v h = at (same_key m k) h (none-there ks k v)
  where
    at : (b : Bool) → (if b then None else verdict_in (map unanswered ks) k) ≡ Some v → (verdict_in (map unanswered ks) k ≡ Some v → ⊥) → ⊥
    at true e rest = absurd cc
    at false e rest = rest e

module _ {r : Evaluator} {T U : GoalTable Via} (from : ComesFrom r T U) (ks : List Key) (k : Key) (v : Verdict Via) where
  in-writing : {es fs : GoalTable Via} → Writes AnyEntry (computing r) U es fs → verdict_in (fs ++ map unanswered ks) k ≡ Some v → (verdict_in es k ≡ Some v) ⊎ WasComputed r T k v
  in-writing R.nothing h = absurd (none-there ks k v h)
  in-writing (R.stays e {es = es} {fs = fs} p w) h = at (same_key e.key k) h (in-writing w)
    where
      at : (b : Bool) → (if b then e.verdict else verdict_in (fs ++ map unanswered ks) k) ≡ Some v
          → (verdict_in (fs ++ map unanswered ks) k ≡ Some v → (verdict_in es k ≡ Some v) ⊎ WasComputed r T k v)
          → ((if b then e.verdict else verdict_in es k) ≡ Some v) ⊎ WasComputed r T k v
      at true g rest = inl g
      at false g rest = rest g
  in-writing (R.computed e a {es = es} {fs = fs} unsure made w) h = at (same_key e.key k) refl h (in-writing w)
    where
      at : (b : Bool) → same_key e.key k ≡ b → (if b then Some (verdict_of a) else verdict_in (fs ++ map unanswered ks) k) ≡ Some v
          → (verdict_in (fs ++ map unanswered ks) k ≡ Some v → (verdict_in es k ≡ Some v) ⊎ WasComputed r T k v)
          → ((if b then e.verdict else verdict_in es k) ≡ Some v) ⊎ WasComputed r T k v
      at true s g rest = let q : verdict_of a ≡ v = cc in inr (record { key = e.key; same = s; between = U; comes = from; answer = a; computed = made; is = q })
      at false s g rest = rest g

pub each-computed : {r : Evaluator} {T U : GoalTable Via} (k : Key) (v : Verdict Via) → ComesFrom r T U → verdict_in U k ≡ Some v → (verdict_in T k ≡ Some v) ⊎ WasComputed r T k v
each-computed k v as_it_is h = inl h
each-computed {r} {T} k v (one_step {U = U} c w) h = at (in-writing c w.asked k v w.writes (sym (ap (λ (X : GoalTable Via). verdict_in X k) w.is) ∙ h)) (each-computed k v c)
  where
    at : (verdict_in U k ≡ Some v) ⊎ WasComputed r T k v → (verdict_in U k ≡ Some v → (verdict_in T k ≡ Some v) ⊎ WasComputed r T k v) → (verdict_in T k ≡ Some v) ⊎ WasComputed r T k v
    at (inl g) before = before g
    at (inr x) before = inr x
