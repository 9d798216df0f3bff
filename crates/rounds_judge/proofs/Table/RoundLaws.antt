-- What rounds and steps keep of a table of goals: no goal is lost, and what is final stays. After a round each goal that was there has a
-- verdict.
use Rattle.std.proofs.Common.{◌≡◌, ℕ, zero, suc, Bool, true, false, ◌||◌, [], ◌∷◌, ◌++◌, Option, Some, None, refl, ap, sym, ◌∙◌, subst, map, if◌then◌else◌}
use Rattle.candidate_eval.specs.Judges.States.{is_some}
use Rattle.rounds_judge.specs.Table.GoalTable.{GoalTable, verdict_in, is_entered, unanswered}
use Rattle.rounds_judge.specs.Table.Keys.{Key, same_key}
use Rattle.rounds_judge.specs.Table.Rounds.{AnyEntry, IsFinalEntry, IsRound, IsStep, IsStill, IsWriting, PureFolder, Rounds, Stays, Steps, Writes, computed, enough, no_step, nothing, one_more, round, stays, still, used_up}
use Rattle.rounds_judge.specs.Table.Verdicts.{Verdict, verdict_of, is_final}

final_is_some : {W : Type 0} (o : Option (Verdict W)) → is_final o ≡ true → is_some o ≡ true
final_is_some (Some v) e = refl
final_is_some None e = cc

-- goals that come last change no look-up of those before

module _ {W : Type 0} where
  pub looked_before : (T U : GoalTable W) (k : Key) → is_entered T k ≡ true → verdict_in (T ++ U) k ≡ verdict_in T k
  looked_before [] U k e = cc
  looked_before (x ∷ T) U k e = at (same_key x.key k) (λ e. looked_before T U k e) e
    where
      at : (b : Bool) → (is_entered T k ≡ true → verdict_in (T ++ U) k ≡ verdict_in T k) → b || is_entered T k ≡ true
          → (if b then x.verdict else verdict_in (T ++ U) k) ≡ (if b then x.verdict else verdict_in T k)
      at true ih e = refl
      at false ih e = ih e

  pub entered_before : (T U : GoalTable W) (k : Key) → is_entered T k ≡ true → is_entered (T ++ U) k ≡ true
  entered_before [] U k e = cc
  entered_before (x ∷ T) U k e = at (same_key x.key k) (λ e. entered_before T U k e) e
    where
      at : (b : Bool) → (is_entered T k ≡ true → is_entered (T ++ U) k ≡ true) → b || is_entered T k ≡ true → b || is_entered (T ++ U) k ≡ true
      at true ih e = refl
      at false ih e = ih e

  -- a goal with a verdict is there
  pub is_there : (T : GoalTable W) (k : Key) → is_some (verdict_in T k) ≡ true → is_entered T k ≡ true
  is_there [] k e = cc
  is_there (x ∷ T) k e = at (same_key x.key k) (λ e. is_there T k e) e
    where
      at : (b : Bool) → (is_some (verdict_in T k) ≡ true → is_entered T k ≡ true) → is_some (if b then x.verdict else verdict_in T k) ≡ true → b || is_entered T k ≡ true
      at true ih e = refl
      at false ih e = ih e

  module _ {P : Stays W} (A : PureFolder W) (T : GoalTable W) (k : Key) where
    written_keys : {es fs : GoalTable W} → Writes P A T es fs → is_entered fs k ≡ is_entered es k
    written_keys nothing = refl
    written_keys (stays e f w) = ap (λ b. same_key e.key k || b) (written_keys w)
    written_keys (computed e a f h w) = ap (λ b. same_key e.key k || b) (written_keys w)

    written_final : {es fs : GoalTable W} → Writes P A T es fs → is_final (verdict_in es k) ≡ true → verdict_in fs k ≡ verdict_in es k
    written_final nothing f = refl
    written_final (stays e {es = es} {fs = fs} g w) f = at (same_key e.key k) (λ f. written_final w f) f
      where
        at : (b : Bool) → (is_final (verdict_in es k) ≡ true → verdict_in fs k ≡ verdict_in es k) → is_final (if b then e.verdict else verdict_in es k) ≡ true
            → (if b then e.verdict else verdict_in fs k) ≡ (if b then e.verdict else verdict_in es k)
        at true ih f = refl
        at false ih f = ih f
    written_final (computed e a {es = es} {fs = fs} g h w) f = at (same_key e.key k) (λ f. written_final w f) f
      where
        at : (b : Bool) → (is_final (verdict_in es k) ≡ true → verdict_in fs k ≡ verdict_in es k) → is_final (if b then e.verdict else verdict_in es k) ≡ true
            → (if b then Some (verdict_of a) else verdict_in fs k) ≡ (if b then e.verdict else verdict_in es k)
        at true ih f = absurd (let clash : false ≡ true = sym g ∙ f in cc)
        at false ih f = ih f

    -- a verdict may become another one, and isn't lost
    written_some : {es fs : GoalTable W} → Writes P A T es fs → is_some (verdict_in es k) ≡ true → is_some (verdict_in fs k) ≡ true
    written_some nothing f = f
    written_some (stays e {es = es} {fs = fs} g w) f = at (same_key e.key k) (λ f. written_some w f) f
      where
        at : (b : Bool) → (is_some (verdict_in es k) ≡ true → is_some (verdict_in fs k) ≡ true) → is_some (if b then e.verdict else verdict_in es k) ≡ true
            → is_some (if b then e.verdict else verdict_in fs k) ≡ true
        at true ih f = f
        at false ih f = ih f
    written_some (computed e a {es = es} {fs = fs} g h w) f = at (same_key e.key k) (λ f. written_some w f) f
      where
        at : (b : Bool) → (is_some (verdict_in es k) ≡ true → is_some (verdict_in fs k) ≡ true) → is_some (if b then e.verdict else verdict_in es k) ≡ true
            → is_some (if b then Some (verdict_of a) else verdict_in fs k) ≡ true
        at true ih f = refl
        at false ih f = ih f

  module _ (A : PureFolder W) (T : GoalTable W) (k : Key) where
    written_answered : {es fs : GoalTable W} → Writes IsFinalEntry A T es fs → is_entered es k ≡ true → is_some (verdict_in fs k) ≡ true
    written_answered nothing f = cc
    written_answered (stays e {es = es} {fs = fs} g w) f = at (same_key e.key k) (λ f. written_answered w f) f
      where
        at : (b : Bool) → (is_entered es k ≡ true → is_some (verdict_in fs k) ≡ true) → b || is_entered es k ≡ true → is_some (if b then e.verdict else verdict_in fs k) ≡ true
        at true ih f = final_is_some e.verdict g
        at false ih f = ih f
    written_answered (computed e a {es = es} {fs = fs} g h w) f = at (same_key e.key k) (λ f. written_answered w f) f
      where
        at : (b : Bool) → (is_entered es k ≡ true → is_some (verdict_in fs k) ≡ true) → b || is_entered es k ≡ true → is_some (if b then Some (verdict_of a) else verdict_in fs k) ≡ true
        at true ih f = refl
        at false ih f = ih f

  module _ {P : Stays W} (A : PureFolder W) (T U : GoalTable W) (r : IsWriting P A T U) (k : Key) where
    -- No goal is lost.
    pub round_keeps : is_entered T k ≡ true → is_entered U k ≡ true
    round_keeps e = subst (λ U. is_entered U k ≡ true) (sym r.is) (entered_before r.written (map unanswered r.asked) k (written_keys A T k r.writes ∙ e))

    in_round : is_entered T k ≡ true → verdict_in U k ≡ verdict_in r.written k
    in_round e = ap (λ U. verdict_in U k) r.is ∙ looked_before r.written (map unanswered r.asked) k (written_keys A T k r.writes ∙ e)

    -- What is final stays.
    pub final_stays : is_final (verdict_in T k) ≡ true → verdict_in U k ≡ verdict_in T k
    final_stays f = in_round (is_there T k (final_is_some (verdict_in T k) f)) ∙ written_final A T k r.writes f

    -- A verdict isn't lost.
    pub verdict_stays : is_some (verdict_in T k) ≡ true → is_some (verdict_in U k) ≡ true
    verdict_stays f = subst (λ o. is_some o ≡ true) (sym (in_round (is_there T k f))) (written_some A T k r.writes f)

  module _ (A : PureFolder W) (T U : GoalTable W) (r : IsRound A T U) (k : Key) where
    -- Each goal that was there has a verdict.
    pub round_answers : is_entered T k ≡ true → is_some (verdict_in U k) ≡ true
    round_answers e = subst (λ o. is_some o ≡ true) (sym (in_round A T U r k e)) (written_answered A T k r.writes e)

  -- A run of one round or more leaves a verdict on its goal.
  pub rounds_keep_verdict : (A : PureFolder W) (k : Key) {n : ℕ} {T U : GoalTable W} → Rounds A k n T U → is_some (verdict_in T k) ≡ true → is_some (verdict_in U k) ≡ true
  rounds_keep_verdict A k (used_up f) e = e
  rounds_keep_verdict A k (enough n f) e = e
  rounds_keep_verdict A k (still f r) e = e
  rounds_keep_verdict A k (round {T = T} {U = U} f r new more) e = rounds_keep_verdict A k more (round_answers A T U r k (is_there T k e))

  pub run_answers : (A : PureFolder W) (k : Key) (n : ℕ) {T U V : GoalTable W} → is_entered T k ≡ true → IsRound A T U → Rounds A k n U V → is_some (verdict_in V k) ≡ true
  run_answers A k n {T = T} {U = U} e r more = rounds_keep_verdict A k more (round_answers A T U r k e)

  -- A round that leaves the table as it was stands for any number of rounds.
  pub still_repeats : (A : PureFolder W) (k : Key) (n : ℕ) {T : GoalTable W} → is_final (verdict_in T k) ≡ false → IsStill A T → Rounds A k n T T
  still_repeats A k zero f r = used_up f
  still_repeats A k (suc n) f r = still f r

  -- A round is a step.

  writes_some : {A : PureFolder W} {T es fs : GoalTable W} → Writes IsFinalEntry A T es fs → Writes AnyEntry A T es fs
  writes_some nothing = nothing
  writes_some (stays e f w) = stays e tt (writes_some w)
  writes_some (computed e a f h w) = computed e a f h (writes_some w)

  pub round_is_step : {A : PureFolder W} {T U : GoalTable W} → IsRound A T U → IsStep A T U
  round_is_step r = record { written = r.written; writes = writes_some r.writes; asked = r.asked; are_new = r.are_new; is = r.is }

  -- Steps keep what each of them keeps.

  pub steps_keep : (A : PureFolder W) (k : Key) {n : ℕ} {T U : GoalTable W} → Steps A k n T U → (j : Key) → is_entered T j ≡ true → is_entered U j ≡ true
  steps_keep A k no_step j e = e
  steps_keep A k (one_more {U = U} {V = V} d f s) j e = round_keeps A U V s j (steps_keep A k d j e)

  pub final_stays_so : (A : PureFolder W) (k : Key) {n : ℕ} {T U : GoalTable W} → Steps A k n T U → (j : Key) → is_final (verdict_in T j) ≡ true → verdict_in U j ≡ verdict_in T j
  final_stays_so A k no_step j f = refl
  final_stays_so A k (one_more {U = U} {V = V} d g s) j f =
      let before = final_stays_so A k d j f in
      final_stays A U V s j (ap is_final before ∙ f) ∙ before
