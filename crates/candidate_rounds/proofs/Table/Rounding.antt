-- One round written, and rounds one after another.
use Rattle.std.proofs.Common.{◌≡◌, ◌⊎◌, inl, inr, IfErr, IfOk, ◌≤◌, ◌<◌, ◌+◌, ◌-◌, ℕ, zero, suc, Bool, true, false, ◌&&◌, ◌||◌, ◌==◌, List, [], ◌∷◌, ◌++◌, length, map, take, slice_get, Option, Some, None, Result, Ok, Err, OnOk, OnErr, refl, sym, ◌∙◌, ap, subst, arith, if◌then◌else◌, rules}
use Rattle.std.specs.Cmp.Lexicographic.{pointwise}
use Rattle.std.proofs.lemmas.List.{length-append, map-append}
use Rattle.ir_trees.specs.contracts.ir.kinds.PredicatePolarityPartialEq.TheImpl as polarity
use Rattle.ir_trees.specs.declared.ir.kinds.AliasTy.{AliasTy}
use Rattle.ir_trees.specs.declared.ir.kinds.PredicatePolarity.{PredicatePolarity}
use Rattle.ir_trees.specs.declared.ir.stop.Stop.{Stop}
use Rattle.ir_trees.specs.declared.ir.stop.Stop.TheVariants as K
use Rattle.ir_trees.specs.Declarations.Context.{Context}
use Rattle.ir_trees.specs.Hierarchy.Elaboration.{same_forest}
use Rattle.ir_trees.specs.Syntax.Trees.{Tree}
use Rattle.ir_context.proofs.Hierarchy.Elaboration.{forest_itself}
use Rattle.candidate_eval.specs.contracts.eval.variable.CanonicalVarPartialEq.TheImpl as variable
use Rattle.candidate_eval.specs.declared.eval.variable.CanonicalVar.{CanonicalVar}
use Rattle.candidate_eval.specs.Derivations.ImplRules.{TraitGoal}
use Rattle.candidate_rounds.specs.Table.Entries.{GoalEntry, all_written_into, new_entry}
use Rattle.candidate_rounds.specs.declared.rounds.goals.GoalKey.{GoalKey}
use Rattle.candidate_rounds.specs.declared.rounds.writing.Written.{Written}
use Rattle.candidate_rounds.specs.Table.Goals.{Goals, IsEntryOf, IsKeyOf, IsTabled, IsVerdict, Via, entry_seen, key_seen, keys_seen, table_seen, verdict_seen}
use Rattle.candidate_rounds.specs.Evaluators.Inferences.{Inference}
use Rattle.ir_trees.proofs.Growth.Kept.{grows-refl}
use Rattle.candidate_rounds.specs.Evaluators.Interface.{Fixed}
use Rattle.candidate_rounds.specs.Evaluators.Known.{Each, Evaluator, GoesOn, IsEvaluator, state, table_of, NormalForms, listing_by}
use Rattle.candidate_rounds.proofs.Evaluators.Interface.{keeps-going}
use Rattle.candidate_rounds.specs.Table.Running.{AreDone, AreWritten, IsDoneBelow, IsEnteringStop, IsPlaceOf, PutsOffByGoals, StaysBesideTable, entering_full, entering_key, computing, none_done, none_off, one_done, verdict_at, with_table}
use Rattle.candidate_rounds.specs.Evaluators.Stopping.{key_memory, of_key_then}
use Rattle.candidate_rounds.proofs.Evaluators.Between.{of-parts, parts}
use Rattle.candidate_rounds.proofs.Table.Running.{round-before, take-all, seen-length, stays-refl, stays-trans}
use Rattle.candidate_rounds.proofs.Table.Tabled.{of-table-parts, table-parts}
use Rattle.rounds_judge.specs.Table.GoalTable.{AreNew, Entry, GoalTable, entered_in, is_entered, most_goals, unanswered, verdict_in, with_verdict}
use Rattle.rounds_judge.specs.Table.Keys.{Key, key_at, same_goal, same_key}
use Rattle.rounds_judge.specs.Table.Rounds as R
use Rattle.rounds_judge.specs.Table.Rounds.{PureFolder, Changes, IsAtRest, IsFinalEntry, IsRound, IsStep, IsStill, IsWriting, Rounds, Settles, Stays, Steps, StepsWithin, Writes, most_steps}
use Rattle.rounds_judge.specs.Table.Verdicts.{is_final}
use Rattle.derivations.specs.DerivedTables.{TableIsDerived}

module _ (P : Stays Via) (ts : List Tree) (A : PureFolder Via) (T : GoalTable Via) where
  -- What is written is what a round or a step makes of the entries.
  pub writes-put : (es : List GoalEntry) (ws : List (Option Written)) → AreWritten P ts A T (table_seen ts es) ws → Writes P A T (table_seen ts es) (table_seen ts (all_written_into es ws))
  writes-put [] [] h = R.nothing
  writes-put [] (w ∷ ws) h = absurd h
  writes-put (e ∷ es) [] h = absurd h
  writes-put (e ∷ es) (None ∷ ws) h = R.stays (entry_seen ts e) h.0 (writes-put es ws h.1)
  writes-put (e ∷ es) (Some w ∷ ws) h =
      let g = h.0.1 in
      subst (λ v. Writes P A T (table_seen ts (e ∷ es)) (with_verdict (entry_seen ts e) v ∷ table_seen ts (all_written_into es ws))) (sym g.says)
      (R.computed (entry_seen ts e) g.answer h.0.0 g.computed (writes-put es ws h.1))

  pub entries-put : (es : List GoalEntry) (ws : List (Option Written)) → Each (IsEntryOf ts) es → AreWritten P ts A T (table_seen ts es) ws → Each (IsEntryOf ts) (all_written_into es ws)
  entries-put [] ws p h = tt
  entries-put (e ∷ es) [] p h = absurd h
  entries-put (e ∷ es) (None ∷ ws) p h = (p.0, entries-put es ws p.1 h.1)
  entries-put (e ∷ es) (Some w ∷ ws) p h = (record { key = p.0.key; verdict = h.0.1.sort; readable = h.0.1.readable }, entries-put es ws p.1 h.1)

module _ (ts : List Tree) (A : PureFolder Via) (T : GoalTable Via) where
  -- In a round a place that isn't final has something written.
  pub record IsWrittenThere (es more : List GoalEntry) (ws : List (Option Written)) (p : ℕ) : Type 0 where
    pub written : Written
    pub there : slice_get ws p ≡ Some (Some written)
    pub sort : IsVerdict ts (Some written.verdict)
    pub verdict : verdict_at (table_seen ts (all_written_into es ws ++ more)) p ≡ Some (verdict_seen ts written.verdict)

  pub written-there : (es more : List GoalEntry) (ws : List (Option Written)) (p : ℕ) → AreWritten IsFinalEntry ts A T (table_seen ts es) ws → p < length es → is_final (verdict_at (table_seen ts es) p) ≡ false → IsWrittenThere es more ws p
  written-there [] more ws p h l f = absurd (omega (arith, l))
  written-there (e ∷ es) more [] p h l f = absurd h
  written-there (e ∷ es) more (None ∷ ws) zero h l f = absurd (let clash : true ≡ false = sym h.0 ∙ f in cc)
  written-there (e ∷ es) more (Some w ∷ ws) zero h l f = record { written = w; there = refl; sort = h.0.1.sort; verdict = refl }
  written-there (e ∷ es) more (w ∷ ws) (suc p) h l f =
      let r = written-there es more ws p h.1 (omega (arith, l)) f in
      record { written = r.written; there = r.there; sort = r.sort; verdict = r.verdict }

pub length-put : (es : List GoalEntry) (ws : List (Option Written)) → length (all_written_into es ws) ≡ length es
length-put [] ws = refl
length-put (e ∷ es) [] = refl
length-put (e ∷ es) (w ∷ ws) = ap suc (length-put es ws)

pub each-join : {A : Type 0} (P : A → Type 0) (xs ys : List A) → Each P xs → Each P ys → Each P (xs ++ ys)
each-join P [] ys h k = k
each-join P (x ∷ xs) ys h k = (h.0, each-join P xs ys h.1 k)

pub entries-new : (ts : List Tree) (ks : List GoalKey) → Each (IsKeyOf ts) ks → Each (IsEntryOf ts) (map new_entry ks)
entries-new ts [] h = tt
entries-new ts (k ∷ ks) h = (record { key = h.0; verdict = tt; readable = refl }, entries-new ts ks h.1)

pub seen-new : (ts : List Tree) (ks : List GoalKey) → table_seen ts (map new_entry ks) ≡ map unanswered (keys_seen ts ks)
seen-new ts [] = refl
seen-new ts (k ∷ ks) = ap (λ es. unanswered (key_seen ts k) ∷ es) (seen-new ts ks)

pub length-new : (ks : List GoalKey) → length (map new_entry ks) ≡ length ks
length-new [] = refl
length-new (k ∷ ks) = ap suc (length-new ks)

-- The table that a round or a step leaves.

module _ (P : Stays Via) (ts : List Tree) (A : PureFolder Via) (T : GoalTable Via) (g : Goals) (ws : List (Option Written)) (same : table_seen ts g.table ≡ T) (h : AreWritten P ts A T T ws) where
  by-numbers : AreWritten P ts A T (table_seen ts g.table) ws
  by-numbers = subst (λ es. AreWritten P ts A T es ws) (sym same) h

  tabled-written : IsTabled ts g → IsTabled ts (record g { table = all_written_into g.table ws ++ map new_entry g.asked; asked = [] })
  tabled-written t =
      let p = table-parts t in
      let one = length-append (all_written_into g.table ws) (map new_entry g.asked) in
      let two = length-put g.table ws in
      let three = length-new g.asked in
      let room = p.room in
      of-table-parts (record {
        entries = each-join (IsEntryOf ts) (all_written_into g.table ws) (map new_entry g.asked) (entries-put P ts A T g.table ws p.entries by-numbers) (entries-new ts g.asked p.keys);
        keys = tt;
        are_new = tt;
        room = omega (arith, one, two, three, room);
      })

  -- of an evaluator of which these are the trees
  pub evaluator-written : (c : Context) → ts ≡ c.trees → (s : Inference) (ks : List ℕ) (ns : NormalForms) (os : List AliasTy) → IsEvaluator c s ks ns os g
      → TableIsDerived c (listing_by ts ns) (table_seen ts (all_written_into g.table ws ++ map new_entry g.asked))
      → IsEvaluator c s ks ns os (record g { table = all_written_into g.table ws ++ map new_entry g.asked; asked = [] })
  evaluator-written c q s ks ns os e d =
      let h : Goals = record g { table = all_written_into g.table ws ++ map new_entry g.asked; asked = [] } in
      of-parts (record {
        consistent = (parts e).consistent;
        resolved = (parts e).resolved;
        given = (parts e).given;
        tabled = subst (λ us. IsTabled us h) q (tabled-written (subst (λ us. IsTabled us g) (sym q) (parts e).tabled));
        derived = subst (λ us. TableIsDerived c (listing_by us ns) (table_seen us h.table)) q d;
      })

  pub round-written : IsTabled ts g → IsWriting P A T (table_seen ts (all_written_into g.table ws ++ map new_entry g.asked))
  round-written t = record {
    written = table_seen ts (all_written_into g.table ws);
    writes = subst (λ es. Writes P A T es (table_seen ts (all_written_into g.table ws))) same (writes-put P ts A T g.table ws by-numbers);
    asked = keys_seen ts g.asked;
    are_new = subst (λ es. AreNew es (keys_seen ts g.asked)) same (table-parts t).are_new;
    is = map-append (entry_seen ts) (all_written_into g.table ws) (map new_entry g.asked) ∙ ap (λ es. table_seen ts (all_written_into g.table ws) ++ es) (seen-new ts g.asked);
  }

module _ (ts : List Tree) (A : PureFolder Via) (T : GoalTable Via) (g : Goals) (ws : List (Option Written)) (same : table_seen ts g.table ≡ T) (h : AreWritten IsFinalEntry ts A T T ws) where
  pub place-written : (p : ℕ) → p < length g.table → is_final (verdict_at T p) ≡ false → IsWrittenThere ts A T g.table (map new_entry g.asked) ws p
  place-written p l f = written-there ts A T g.table (map new_entry g.asked) ws p (by-numbers IsFinalEntry ts A T g ws same h) l (ap (λ es. is_final (verdict_at es p)) same ∙ f)

-- A key is the same as itself.

both : (a b : Bool) → a ≡ true → b ≡ true → a && b ≡ true
both a b e f = ap (λ x. x && b) e ∙ f

number-itself : (n : ℕ) → (n == n) ≡ true
number-itself n = search rules

polarity-itself : (p : PredicatePolarity) → polarity.eq-value.it p p ≡ true
polarity-itself p = search rules

variable-itself : (v : CanonicalVar) → variable.eq-value.it v v ≡ true
variable-itself v = search rules

variables-itself : (vs : List CanonicalVar) → pointwise variable.eq-value.it vs vs ≡ true
variables-itself [] = refl
variables-itself (v ∷ vs) = both (variable.eq-value.it v v) (pointwise variable.eq-value.it vs vs) (variable-itself v) (variables-itself vs)

pub key-itself : (k : Key) → same_key k k ≡ true
key-itself k =
    let g = k.goal in
    both (same_goal g g) (pointwise variable.eq-value.it k.variables k.variables)
    (both (g.reference.trait == g.reference.trait) _ (number-itself g.reference.trait)
    (both (polarity.eq-value.it g.polarity g.polarity) _ (polarity-itself g.polarity)
    (both (same_forest g.env g.env) _ (forest_itself g.env) (forest_itself g.reference.arguments))))
    (variables-itself k.variables)

-- The place of a goal.

pub place-below : (T : GoalTable Via) (k : Key) (p : ℕ) → IsPlaceOf T k p → p < length T
place-below [] k p h = absurd h
place-below (e ∷ T) k zero h = omega arith
place-below (e ∷ T) k (suc p) h = let l = place-below T k p h.1 in omega (arith, l)

pub place-verdict : (T : GoalTable Via) (k : Key) (p : ℕ) → IsPlaceOf T k p → verdict_in T k ≡ verdict_at T p
place-verdict [] k p h = absurd h
place-verdict (e ∷ T) k zero h = ap (λ b. if b then e.verdict else verdict_in T k) h
place-verdict (e ∷ T) k (suc p) h = ap (λ b. if b then e.verdict else verdict_in T k) h.0 ∙ place-verdict T k p h.1

place-entered : (T : GoalTable Via) (k : Key) (p : ℕ) → IsPlaceOf T k p → is_entered T k ≡ true
place-entered [] k p h = absurd h
place-entered (e ∷ T) k zero h = ap (λ b. b || is_entered T k) h
place-entered (e ∷ T) k (suc p) h = ap (λ b. b || is_entered T k) h.0 ∙ place-entered T k p h.1

pub entered-already : (T : GoalTable Via) (k : Key) (p : ℕ) → IsPlaceOf T k p → T ≡ entered_in T k
entered-already T k p h = sym (ap (λ b. if b then T else T ++ unanswered k ∷ []) (place-entered T k p h))

pub entered-now : (T : GoalTable Via) (k : Key) → is_entered T k ≡ false → T ++ unanswered k ∷ [] ≡ entered_in T k
entered-now T k e = sym (ap (λ b. if b then T else T ++ unanswered k ∷ []) e)

neither : (a b : Bool) → a || b ≡ false → (a ≡ false) × (b ≡ false)
neither true b e = absurd cc
neither false b e = (refl, e)

pub place-new : (T : GoalTable Via) (k : Key) → is_entered T k ≡ false → IsPlaceOf (T ++ unanswered k ∷ []) k (length T)
place-new [] k e = key-itself k
place-new (x ∷ T) k e = let n = neither (same_key x.key k) (is_entered T k) e in (n.0, place-new T k n.1)

place-before : (T U : GoalTable Via) (k : Key) (p : ℕ) → IsPlaceOf T k p → IsPlaceOf (T ++ U) k p
place-before [] U k p h = absurd h
place-before (e ∷ T) U k zero h = h
place-before (e ∷ T) U k (suc p) h = (h.0, place-before T U k p h.1)

place-kept : {P : Stays Via} {A : PureFolder Via} {T es fs : GoalTable Via} (k : Key) (p : ℕ) → Writes P A T es fs → IsPlaceOf es k p → IsPlaceOf fs k p
place-kept k p R.nothing h = h
place-kept k zero (R.stays e f w) h = h
place-kept k (suc p) (R.stays e f w) h = (h.0, place-kept k p w h.1)
place-kept k zero (R.computed e a f c w) h = h
place-kept k (suc p) (R.computed e a f c w) h = (h.0, place-kept k p w h.1)

pub place-in-round : {P : Stays Via} {A : PureFolder Via} {T U : GoalTable Via} (k : Key) (p : ℕ) → IsWriting P A T U → IsPlaceOf T k p → IsPlaceOf U k p
place-in-round k p r h = subst (λ es. IsPlaceOf es k p) (sym r.is) (place-before r.written (map unanswered r.asked) k p (place-kept k p r.writes h))

-- A goal is looked for, one place after another.

pub not-yet : (T : GoalTable Via) (k : Key) (i : ℕ) (e : Entry Via) → slice_get T i ≡ Some e → is_entered (take i T) k ≡ false → same_key e.key k ≡ false → is_entered (take (suc i) T) k ≡ false
not-yet [] k i e g h f = cc
not-yet (x ∷ T) k zero e g h f = let q : x ≡ e = cc in ap (λ (y : Entry Via). same_key y.key k || false) q ∙ ap (λ b. b || false) f
not-yet (x ∷ T) k (suc i) e g h f =
    let n = neither (same_key x.key k) (is_entered (take i T) k) h in
    ap (λ b. b || is_entered (take (suc i) T) k) n.0 ∙ not-yet T k i e g n.1 f

pub found-there : (T : GoalTable Via) (k : Key) (i : ℕ) (e : Entry Via) → slice_get T i ≡ Some e → is_entered (take i T) k ≡ false → same_key e.key k ≡ true → IsPlaceOf T k i
found-there [] k i e g h f = absurd cc
found-there (x ∷ T) k zero e g h f = let q : x ≡ e = cc in ap (λ (y : Entry Via). same_key y.key k) q ∙ f
found-there (x ∷ T) k (suc i) e g h f = let n = neither (same_key x.key k) (is_entered (take i T) k) h in (n.0, found-there T k i e g n.1 f)

pub not-there : (T : GoalTable Via) (k : Key) (i : ℕ) → length T ≤ i → is_entered (take i T) k ≡ false → is_entered T k ≡ false
not-there T k i l h = ap (λ es. is_entered es k) (sym (take-all T i l)) ∙ h

-- Rounds one after another.

pub one-more-done : {A : PureFolder Via} {k : Key} {n : ℕ} {T U V : GoalTable Via} → AreDone A k n T U → is_final (verdict_in U k) ≡ false → IsRound A U V → Changes U V
    → AreDone A k (suc n) T V
one-more-done none_done f r new = one_done f r new none_done
one-more-done (one_done g s old d) f r new = one_done g s old (one-more-done d f r new)

pub done-then : (A : PureFolder Via) (k : Key) (n m t : ℕ) {T U V : GoalTable Via} → AreDone A k n T U → Rounds A k m U V → t ≡ n + m → Rounds A k t T V
done-then A k n m t {T} {U} {V} none_done r e = subst (λ j. Rounds A k j T V) (let q : m ≡ t = omega (arith, e) in q) r
done-then A k n m t {T} {U} {V} (one_done {n = i} f s new d) r e =
    let q : suc (i + m) ≡ t = omega (arith, e) in
    subst (λ j. Rounds A k j T V) q (R.round f s new (done-then A k i m (i + m) d r refl))

-- no round is left
none-left : (A : PureFolder Via) (k : Key) (U : GoalTable Via) (b : Bool) → is_final (verdict_in U k) ≡ b → Rounds A k 0 U U
none-left A k U true e = R.enough 0 e
none-left A k U false e = R.used_up e

-- after the last of them
pub last-done : (A : PureFolder Via) (k : Key) (n t : ℕ) (T U V : GoalTable Via) → AreDone A k n T U → is_final (verdict_in U k) ≡ false → IsRound A U V → Changes U V → t ≡ n + 1
    → Rounds A k t T V
last-done A k n t T U V d f r new e = done-then A k n 1 t d (R.round f r new (none-left A k V (is_final (verdict_in V k)) refl)) e

-- once the goal is final
pub final-done : (A : PureFolder Via) (k : Key) (n t : ℕ) (T U : GoalTable Via) → AreDone A k n T U → is_final (verdict_in U k) ≡ true → n ≤ t → Rounds A k t T U
final-done A k n t T U d f l = rest (t - n) (omega (arith, l))
  where
    rest : (m : ℕ) → t ≡ n + m → Rounds A k t T U
    rest m e = done-then A k n m t d (R.enough m f) e

-- once one leaves the table as it was
pub still-done : (A : PureFolder Via) (k : Key) (n t : ℕ) (T U : GoalTable Via) → AreDone A k n T U → is_final (verdict_in U k) ≡ false → IsStill A U → n < t → Rounds A k t T U
still-done A k n t T U d f r l = done-then A k n (suc (t - suc n)) t d (R.still f r) (omega (arith, l))

writes-many : {P : Stays Via} {A : PureFolder Via} {T es fs : GoalTable Via} → Writes P A T es fs → length fs ≡ length es
writes-many R.nothing = refl
writes-many (R.stays e f w) = ap suc (writes-many w)
writes-many (R.computed e a f c w) = ap suc (writes-many w)

pub round-longer : {P : Stays Via} {A : PureFolder Via} {T U : GoalTable Via} → IsWriting P A T U → length T ≤ length U
round-longer r =
    let one = writes-many r.writes in
    let two = length-append r.written (map unanswered r.asked) in
    let three = ap length r.is in
    omega (arith, one, two, three)

-- Some rounds were done, fewer than that number, and the goal of the place isn't final.
pub record RoundsOn (old now : Evaluator) (place next : ℕ) : Type 0 where
  pub stays : StaysBesideTable old now
  pub below : place < length now.goals.table
  pub still : is_final (verdict_at (table_of now) place) ≡ false
  pub count : ℕ
  pub is : next ≡ suc count
  pub done : (k : Key) → IsPlaceOf (table_of old) k place → AreDone (computing old) k count (table_of old) (table_of now) × IsPlaceOf (table_of now) k place

pub no-rounds : (r : Evaluator) (place : ℕ) → place < length r.goals.table → is_final (verdict_at (table_of r) place) ≡ false → RoundsOn r r place 1
no-rounds r place l f = record { stays = stays-refl r; below = l; still = f; count = 0; is = refl; done = λ k p. (none_done, p) }

module _ {r s t : Evaluator} (place next : ℕ) (on : RoundsOn r s place next) (x : StaysBesideTable s t) (w : IsRound (computing s) (table_of s) (table_of t)) where
  round-now : IsRound (computing r) (table_of s) (table_of t)
  round-now = round-before on.stays w

  open-at : (k : Key) → IsPlaceOf (table_of s) k place → is_final (verdict_in (table_of s) k) ≡ false
  open-at k p = ap is_final (place-verdict (table_of s) k place p) ∙ on.still

  pub longer : place < length t.goals.table
  longer =
      let many = round-longer w in
      let one = seen-length s in
      let two = seen-length t in
      let was = on.below in
      omega (arith, many, one, two, was)

  pub one-more-on : Changes (table_of s) (table_of t) → is_final (verdict_at (table_of t) place) ≡ false → RoundsOn r t place (suc next)
  one-more-on new f = record {
    stays = stays-trans on.stays x;
    below = longer;
    still = f;
    count = suc on.count;
    is = ap suc on.is;
    done = λ k p. let d = on.done k p in (one-more-done d.0 (open-at k d.1) round-now new, place-in-round k place round-now d.1);
  }

  -- it became final
  pub ran-final : (rounds : ℕ) → next < rounds → Changes (table_of s) (table_of t) → is_final (verdict_at (table_of t) place) ≡ true → (k : Key) → IsPlaceOf (table_of r) k place
      → Rounds (computing r) k rounds (table_of r) (table_of t)
  ran-final rounds l new f k p =
      let d = on.done k p in
      let q = place-in-round k place round-now d.1 in
      let e = on.is in
      final-done (computing r) k (suc on.count) rounds (table_of r) (table_of t) (one-more-done d.0 (open-at k d.1) round-now new) (ap is_final (place-verdict (table_of t) k place q) ∙ f) (omega (arith, l, e))

  -- it left the table as it was
  pub ran-still : (rounds : ℕ) → next ≤ rounds → table_of t ≡ table_of s → (k : Key) → IsPlaceOf (table_of r) k place → Rounds (computing r) k rounds (table_of r) (table_of t)
  ran-still rounds l same k p =
      let d = on.done k p in
      let e = on.is in
      subst (Rounds (computing r) k rounds (table_of r)) (sym same)
      (still-done (computing r) k on.count rounds (table_of r) (table_of s) d.0 (open-at k d.1) (subst (IsRound (computing r) (table_of s)) same round-now) (omega (arith, l, e)))

  -- that was the last one
  ran-changing : (rounds : ℕ) → rounds ≡ next → Changes (table_of s) (table_of t) → (k : Key) → IsPlaceOf (table_of r) k place → Rounds (computing r) k rounds (table_of r) (table_of t)
  ran-changing rounds n new k p =
      let d = on.done k p in
      let e = on.is in
      last-done (computing r) k on.count rounds (table_of r) (table_of s) (table_of t) d.0 (open-at k d.1) round-now new (omega (arith, n, e))

  -- whether it left the table as it was or not
  pub ran-all : (rounds : ℕ) (is_still : Bool) → rounds ≡ next → (is_still ≡ true → table_of t ≡ table_of s) → (is_still ≡ false → Changes (table_of s) (table_of t)) → (k : Key)
      → IsPlaceOf (table_of r) k place → Rounds (computing r) k rounds (table_of r) (table_of t)
  ran-all rounds true n same new k p = ran-still rounds (omega (arith, n)) (same refl) k p
  ran-all rounds false n same new k p = ran-changing rounds n (new refl) k p

-- a goal that isn't final after rounds was none before them
was-unsure : {A : PureFolder Via} {k : Key} {n : ℕ} {T U : GoalTable Via} → AreDone A k n T U → is_final (verdict_in U k) ≡ false → is_final (verdict_in T k) ≡ false
was-unsure none_done f = f
was-unsure (one_done g r new d) f = g

-- it stopped in a round, which is left undone
pub stopped-on : {r s : Evaluator} (t : Evaluator) (place next rounds : ℕ) → RoundsOn r s place next → table_of t ≡ table_of s → next ≤ rounds → (k : Key) → IsPlaceOf (table_of r) k place
    → IsDoneBelow (computing r) k rounds (table_of r) (table_of t)
stopped-on {r} {s} t place next rounds on same l k p =
    let e = on.is in
    let d = on.done k p in
    let unsure = ap is_final (place-verdict (table_of s) k place d.1) ∙ on.still in
    record {
      count = on.count;
      fewer = omega (arith, l, e);
      done = subst (λ U. AreDone (computing r) k on.count (table_of r) U) (sym same) d.0;
      as_final = ap (λ U. is_final (verdict_in U k)) same ∙ (unsure ∙ sym (was-unsure d.0 unsure));
    }

-- nothing was done
pub none-needed : (r : Evaluator) (place rounds : ℕ) → is_final (verdict_at (table_of r) place) ≡ true → (k : Key) → IsPlaceOf (table_of r) k place → Rounds (computing r) k rounds (table_of r) (table_of r)
none-needed r place rounds f k p = R.enough rounds (ap is_final (place-verdict (table_of r) k place p) ∙ f)

pub stopped-at-once : (r s : Evaluator) (place rounds : ℕ) → table_of s ≡ table_of r → 0 < rounds → (k : Key) → IsPlaceOf (table_of r) k place → IsDoneBelow (computing r) k rounds (table_of r) (table_of s)
stopped-at-once r s place rounds same l k p = record {
  count = 0;
  fewer = l;
  done = subst (λ U. AreDone (computing r) k 0 (table_of r) U) (sym same) none_done;
  as_final = ap (λ U. is_final (verdict_in U k)) same;
}

-- What only makes nodes leaves all beside the table, and the table.
pub goes-stays : (r s : Evaluator) → IsEvaluator r.context r.inference r.marks r.normal r.opaques r.goals → GoesOn r s → state s ≡ state r → StaysBesideTable r s × (table_of s ≡ table_of r)
goes-stays r s h g e =
    let k = keeps-going r s g h in
    (record { grows = g.0; fixed_same = ap (λ f. with_table f []) k.fixed_same; state_same = e; probes_same = k.probes_same; faults = subst (PutsOffByGoals r.context.delayed_bugs) (sym g.5) none_off }, ap (λ (f : Fixed). f.table) k.fixed_same)

-- where the goals alone are others
pub goals-stay : (r s : Evaluator) (g : Goals) → s ≡ record r { goals = g } → StaysBesideTable r s
goals-stay r s g e = subst (StaysBesideTable r) (sym e) (record { grows = grows-refl r.context; fixed_same = refl; state_same = refl; probes_same = refl; faults = none_off })

-- A goal was entered, or wasn't.

module _ (r s : Evaluator) (k : GoalKey) (K : Key) (same : table_of s ≡ table_of r) (is : key_seen s.context.trees k ≡ K) where
  pub entered-table : (t : Evaluator) → is_entered (table_of s) (key_seen s.context.trees k) ≡ false → t ≡ record s { goals = record s.goals { table = s.goals.table ++ new_entry k ∷ [] } } → table_of t ≡ entered_in (table_of r) K
  entered-table t missing e =
      ap table_of e
      ∙ (map-append (entry_seen s.context.trees) s.goals.table (new_entry k ∷ [])
      ∙ (entered-now (table_of s) (key_seen s.context.trees k) missing
      ∙ (λ i. entered_in (same i) (is i))))

  pub entered-place : (t : Evaluator) (n : ℕ) → is_entered (table_of s) (key_seen s.context.trees k) ≡ false → t ≡ record s { goals = record s.goals { table = s.goals.table ++ new_entry k ∷ [] } } → n ≡ length s.goals.table → IsPlaceOf (table_of t) K n
  entered-place t n missing e l =
      let made = ap table_of e ∙ map-append (entry_seen s.context.trees) s.goals.table (new_entry k ∷ []) in
      let at = seen-length s ∙ sym l in
      subst (λ T. IsPlaceOf T K n) (sym made)
      (subst (λ m. IsPlaceOf (table_of s ++ unanswered (key_seen s.context.trees k) ∷ []) K m) at
      (subst (λ j. IsPlaceOf (table_of s ++ unanswered (key_seen s.context.trees k) ∷ []) j (length (table_of s))) is (place-new (table_of s) (key_seen s.context.trees k) missing)))

  pub there-already : (n : ℕ) → IsPlaceOf (table_of s) (key_seen s.context.trees k) n → (table_of s ≡ entered_in (table_of r) K) × IsPlaceOf (table_of s) K n
  there-already n p =
      let q = subst (λ j. IsPlaceOf (table_of s) j n) is p in
      (entered-already (table_of s) K n q ∙ ap (λ T. entered_in T K) same, q)

-- By the result of a call.

pub err-table : {X E : Type 0} {P : Type 0} (q : Result X E) → P → OnErr q P
err-table (Ok x) p = tt
err-table (Err x) p = p

pub ok-table : {X E : Type 0} {P Q : Type 0} (q : Result X E) → (P → Q) → OnOk q P → OnOk q Q
ok-table (Ok x) f p = f p
ok-table (Err x) f p = tt

pub then-err : {X E : Type 0} {P Q : Type 0} (q : Result X E) → (P → Q) → OnErr q P → OnErr q Q
then-err (Ok x) f p = tt
then-err (Err x) f p = f p

pub ok-place : {E : Type 0} {P : Type 0} {m : ℕ} {R : ℕ → Type 0} (q : Result ℕ E) → ((n : ℕ) → P → n ≡ m → R n) → OnOk q P → IfOk q (λ n. n ≡ m) → IfOk q R
ok-place (Ok x) f p e = f x p e
ok-place (Err x) f p e = tt

pub entered-stays : {X E : Type 0} (s t : Evaluator) (g : Goals) (q : Result X E) → OnOk q (t ≡ record s { goals = g }) → OnErr q (t ≡ s) → StaysBesideTable s t
entered-stays s t g (Ok x) p e = goals-stay s t g p
entered-stays s t g (Err x) p e = goals-stay s t s.goals e

pub entered-cause : {X : Type 0} (ts : List Tree) (g : TraitGoal) (r s t : Evaluator) (q : Result X Stop) → is_entered (table_of s) (key_at (state r) g) ≡ false → OnErr q (t ≡ s)
    → IfErr q (λ x. (x ≡ K.Memory) ⊎ ((x ≡ K.EvaluatorLimit) × (most_goals ≤ length s.goals.table))) → IfErr q (λ x. IsEnteringStop ts r g (table_of t) x)
entered-cause ts g r s t (Ok x) n e c = tt
entered-cause ts g r s t (Err x) n e (inl m) = subst (IsEnteringStop ts r g (table_of t)) (sym m) (entering_key (of_key_then key_memory))
entered-cause ts g r s t (Err x) n e (inr l) =
    let many = seen-length s in
    let full = l.1 in
    let most : most_goals ≤ length (table_of s) = omega (arith, many, full) in
    subst (λ T. IsEnteringStop ts r g T x) (sym (ap table_of e)) (subst (IsEnteringStop ts r g (table_of s)) (sym l.0) (entering_full n most))

pub on-ok : {X E : Type 0} {P : Type 0} (q : Result X E) → P → OnOk q P
on-ok (Ok x) p = p
on-ok (Err x) p = tt

pub if-err : {X E : Type 0} {P Q : E → Type 0} (q : Result X E) → ((e : E) → P e → Q e) → IfErr q P → IfErr q Q
if-err (Ok x) f p = tt
if-err (Err x) f p = f x p

pub ok-ok : {X E : Type 0} {P : Type 0} {Q Z : X → Type 0} (q : Result X E) → ((x : X) → P → Q x → Z x) → OnOk q P → IfOk q Q → IfOk q Z
ok-ok (Ok x) f p h = f x p h
ok-ok (Err x) f p h = tt

pub stop-after : {X E : Type 0} {P : Type 0} {Q Z : E → Type 0} (q : Result X E) → ((e : E) → P → Q e → Z e) → OnErr q P → IfErr q Q → IfErr q Z
stop-after (Ok x) f p h = tt
stop-after (Err x) f p h = f x p h

-- a goal that isn't there has no verdict
pub no-verdict : (T : GoalTable Via) (k : Key) → is_entered T k ≡ false → verdict_in T k ≡ None
no-verdict [] k e = refl
no-verdict (x ∷ T) k e =
    let n = neither (same_key x.key k) (is_entered T k) e in
    ap (λ b. if b then x.verdict else verdict_in T k) n.0 ∙ no-verdict T k n.1

-- Rounds of one evaluator are those of one before it, from which all stayed but the table.

pub rounds-before : (r s : Evaluator) → StaysBesideTable r s → (k : Key) (n : ℕ) (T U : GoalTable Via) → Rounds (computing s) k n T U → Rounds (computing r) k n T U
rounds-before r s x k n T U (R.used_up f) = R.used_up f
rounds-before r s x k n T U (R.enough m f) = R.enough m f
rounds-before r s x k n T U (R.still f w) = R.still f (round-before x w)
rounds-before r s x k n T U (R.round {n = m} {U = V} f w new more) = R.round f (round-before x w) new (rounds-before r s x k m V U more)

done-before : (r s : Evaluator) → StaysBesideTable r s → (k : Key) (n : ℕ) (T U : GoalTable Via) → AreDone (computing s) k n T U → AreDone (computing r) k n T U
done-before r s x k n T U none_done = none_done
done-before r s x k n T U (one_done {n = m} {U = V} f w new more) = one_done f (round-before x w) new (done-before r s x k m V U more)

pub below-before : (r s : Evaluator) → StaysBesideTable r s → (k : Key) (n : ℕ) (T U : GoalTable Via) → IsDoneBelow (computing s) k n T U → IsDoneBelow (computing r) k n T U
below-before r s x k n T U h = record { count = h.count; fewer = h.fewer; done = done-before r s x k h.count T U h.done; as_final = h.as_final }

pub place-in-rounds : (A : PureFolder Via) (k : Key) (n p : ℕ) (T U : GoalTable Via) → Rounds A k n T U → IsPlaceOf T k p → IsPlaceOf U k p
place-in-rounds A k n p T U (R.used_up f) h = h
place-in-rounds A k n p T U (R.enough m f) h = h
place-in-rounds A k n p T U (R.still f w) h = h
place-in-rounds A k n p T U (R.round {n = m} {U = V} f w new more) h = place-in-rounds A k m p V U more (place-in-round k p w h)

-- Goals are asked for from then on, or not.
pub record IsAsking (r s : Evaluator) : Type 0 where
  pub stays : StaysBesideTable r s
  pub table : table_of s ≡ table_of r
  pub none : s.goals.asked ≡ []

pub is-asking : (r s : Evaluator) {b : Bool} → s ≡ record r { goals = record { table = r.goals.table; asked = []; asks = b } } → IsAsking r s
is-asking r s {b} e = record { stays = goals-stay r s (record { table = r.goals.table; asked = []; asks = b }) e; table = ap table_of e; none = ap (λ (x : Evaluator). x.goals.asked) e }
