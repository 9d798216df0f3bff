-- Rounds over the table: what stays, and what a round leads to.
use Rattle.std.proofs.Common.{◌≡◌, ◌⊎◌, inl, inr, ◌≤◌, ◌<◌, ℕ, zero, suc, Bool, false, List, [], ◌∷◌, ◌++◌, length, map, take, slice_get, slice_index_or, Option, Some, None, Result, Ok, Err, OnOk, OnErr, refl, sym, ◌∙◌, ap, subst, arith}
use Rattle.std.specs.Option.{option_map}
use Rattle.std.proofs.lemmas.List.{length-append, map-append}
use Rattle.ir_trees.specs.declared.ir.stop.Stop.{Stop}
use Rattle.ir_trees.specs.Declarations.Context.{Context, Grows}
use Rattle.ir_trees.specs.Syntax.Nodes.{Extends}
use Rattle.ir_trees.specs.Syntax.Trees.{Tree}
use Rattle.ir_trees.proofs.Growth.Kept.{grows-refl, grows-trans}
use Rattle.candidate_eval.specs.declared.eval.mode.TypingMode.{TypingMode}
use Rattle.candidate_eval.specs.Derivations.ImplRules.{TraitGoal}
use Rattle.candidate_eval.specs.Interface.Noting.{IsNotingStop}
use Rattle.candidate_eval.specs.Judges.States.{State}
use Rattle.candidate_assembly.specs.Answers.Backing.{IsBacked}
use Rattle.candidate_assembly.specs.Answers.TraitAnswers.{IsTraitAnswer, Stopped}
use Rattle.candidate_rounds.specs.Table.Entries.{GoalEntry, new_entry}
use Rattle.candidate_rounds.specs.declared.rounds.goals.GoalKey.{GoalKey}
use Rattle.candidate_rounds.specs.declared.rounds.writing.Written.{Written}
use Rattle.candidate_rounds.specs.Table.Goals.{Goals, IsEntryOf, IsKeyOf, IsTabled, TableParts, Via, entry_seen, key_seen, table_seen, verdict_seen}
use Rattle.candidate_rounds.specs.Evaluators.Interface.{Fixed, fixed, judge_of}
use Rattle.ir_trees.specs.declared.ir.kinds.AliasTy.{AliasTy}
use Rattle.candidate_rounds.specs.Evaluators.Inferences.{Inference}
use Rattle.candidate_rounds.specs.Evaluators.Known.{Evaluator, IsEvaluator, listing, state, table_of, NormalForms, listing_by}
use Rattle.candidate_rounds.proofs.Evaluators.Between.{of-parts, parts}
use Rattle.candidate_rounds.specs.Table.Running
use Rattle.candidate_rounds.specs.Evaluators.Stopping.{IsGoalKeyStop}
use Rattle.candidate_rounds.specs.Table.Running.{AreWritten, IsComputingStop, IsEnteringStop, IsRoundStop, IsWrittenAt, IsWrittenFor, PutsOffByGoals, StaysBesideTable, computing, none_off, one_off, said_by, verdict_at, with_table}
use Rattle.candidate_rounds.proofs.Snapshots.Knowing.{each-append, each-get}
use Rattle.candidate_rounds.proofs.Table.Tabled.{of-table-parts, table-parts, verdict-sees, verdict-stays}
use Rattle.rounds_judge.specs.Table.GoalTable.{Entry, GoalTable, is_entered, may_be_read, most_goals}
use Rattle.rounds_judge.specs.Table.Keys.{Key, key_at, start_of}
use Rattle.rounds_judge.specs.Table.Rounds as R
use Rattle.rounds_judge.specs.Table.Rounds.{IsWriting, PureFolder, Stays, Writes}
use Rattle.derivations.specs.DerivedTables.{TableIsDerived}
use Rattle.derivations.proofs.Declared.{one_unanswered}

-- What goals put off, and then others.
by-goals-trans : {xs ys zs : List (List ℕ)} → PutsOffByGoals xs ys → PutsOffByGoals ys zs → PutsOffByGoals xs zs
by-goals-trans g none_off = g
by-goals-trans g (one_off h) = one_off (by-goals-trans g h)

-- All stays but the table.

pub stays-refl : (r : Evaluator) → StaysBesideTable r r
stays-refl r = record { grows = grows-refl r.context; fixed_same = refl; state_same = refl; probes_same = refl; faults = none_off }

pub stays-trans : {r s t : Evaluator} → StaysBesideTable r s → StaysBesideTable s t → StaysBesideTable r t
stays-trans {r} {s} {t} g h = record {
  grows = grows-trans r.context s.context t.context g.grows h.grows;
  fixed_same = h.fixed_same ∙ g.fixed_same;
  state_same = h.state_same ∙ g.state_same;
  probes_same = h.probes_same ∙ g.probes_same;
  faults = by-goals-trans g.faults h.faults;
}

with-same : {r s : Evaluator} → StaysBesideTable r s → (T : GoalTable Via) → with_table (fixed s) T ≡ with_table (fixed r) T
with-same h T = ap (λ f. with_table f T) h.fixed_same

mode-same : {r s : Evaluator} → StaysBesideTable r s → s.mode ≡ r.mode
mode-same h = ap (λ (S : State). S.mode) h.state_same

-- What a goal comes to for one evaluator it comes to for one before it, for which the same is declared and given; and so what is made of goals.

module _ {r s : Evaluator} (more : Grows r.context s.context) (same : with_table (fixed s) [] ≡ with_table (fixed r) []) where
  computed-later : (T : GoalTable Via) (k : Key) (a : Option _) → computing s T k a → computing r T k a
  computed-later T k a h =
      let f : with_table (fixed s) T ≡ with_table (fixed r) T = ap (λ x. with_table x T) same in
      let m : s.mode ≡ r.mode = ap (λ (x : Fixed). x.mode) same in
      record {
        context = h.context;
        grows = grows-trans r.context s.context h.context more h.grows;
        well_formed = h.well_formed;
        left = h.left;
        comes = subst (λ (q : Fixed × TypingMode). IsTraitAnswer (judge_of q.0) h.context (start_of q.1 k) k.goal h.left (said_by a)) (λ i. (f i, m i)) h.comes;
        backed = subst (λ (q : Fixed × TypingMode). IsBacked (judge_of q.0) h.context (start_of q.1 k) k.goal (said_by a)) (λ i. (f i, m i)) h.backed;
      }

  writes-later : {P : Stays Via} (T : GoalTable Via) {es fs : GoalTable Via} → Writes P (computing s) T es fs → Writes P (computing r) T es fs
  writes-later T R.nothing = R.nothing
  writes-later T (R.stays e f w) = R.stays e f (writes-later T w)
  writes-later T (R.computed e a f c w) = R.computed e a f (computed-later T e.key a c) (writes-later T w)

  pub round-later : {P : Stays Via} {T U : GoalTable Via} → IsWriting P (computing s) T U → IsWriting P (computing r) T U
  round-later {T = T} h = record { written = h.written; writes = writes-later T h.writes; asked = h.asked; are_new = h.are_new; is = h.is }

-- The same where all stayed but the table.

pub computed-before : {r s : Evaluator} → StaysBesideTable r s → (T : GoalTable Via) (k : Key) (a : Option _) → computing s T k a → computing r T k a
computed-before x = computed-later x.grows x.fixed_same

computing-stop-before : {r s : Evaluator} → StaysBesideTable r s → (ts : List Tree) (T : GoalTable Via) (k : Key) (e : Stop) → IsComputingStop ts s T k e → IsComputingStop ts r T k e
computing-stop-before {r} {s} x ts T k e h =
    let f = with-same x T in
    let m = mode-same x in
    record {
      first = h.first;
      grows = grows-trans r.context s.context h.first.context x.grows h.grows;
      fixed_same = h.fixed_same ∙ f;
      begins = h.begins ∙ ap (λ (n : TypingMode). start_of n k) m;
      last = h.last;
      among = h.among;
      comes = λ o. subst (λ (q : Fixed × TypingMode). IsTraitAnswer (judge_of q.0) h.first.context (start_of q.1 k) k.goal (state h.last) (Stopped e)) (λ i. (f i, m i)) (h.comes o);
      own = h.own;
    }

pub round-stop-before : {r s : Evaluator} → StaysBesideTable r s → (ts : List Tree) (T : GoalTable Via) (e : Stop) → IsRoundStop ts s T e → IsRoundStop ts r T e
round-stop-before x ts T e (Running.round_looking h) = Running.round_looking h
round-stop-before x ts T e (Running.round_computing p d g h) = Running.round_computing p d g (computing-stop-before x ts T d.key e h)

pub entering-before : {r s : Evaluator} → StaysBesideTable r s → (ts : List Tree) (g h : TraitGoal) (T : GoalTable Via) (e : Stop) → h ≡ g → IsEnteringStop ts s h T e → IsEnteringStop ts r g T e
entering-before x ts g h T e q (Running.entering_key k) = Running.entering_key (subst (λ (p : State × TraitGoal). IsGoalKeyStop ts p.0 p.1 e) (λ i. (x.state_same i, q i)) k)
entering-before x ts g h T _ q (Running.entering_full n l) = Running.entering_full (subst (λ (p : State × TraitGoal). is_entered T (key_at p.0 p.1) ≡ false) (λ i. (x.state_same i, q i)) n) l

pub round-before : {P : Stays Via} {r s : Evaluator} → StaysBesideTable r s → {T U : GoalTable Via} → IsWriting P (computing s) T U → IsWriting P (computing r) T U
round-before x h = round-later x.grows x.fixed_same h

-- What a round has for places, so far.

written-for : {r s : Evaluator} → StaysBesideTable r s → (ts : List Tree) (T : GoalTable Via) (k : Key) (w : Written) → IsWrittenFor ts (computing s) T k w → IsWrittenFor ts (computing r) T k w
written-for x ts T k w h = record { answer = h.answer; computed = computed-before x T k h.answer h.computed; says = h.says; sort = h.sort; readable = h.readable }

pub written-at-before : (P : Stays Via) {r s : Evaluator} → StaysBesideTable r s → (ts : List Tree) (T : GoalTable Via) (e : Entry Via) (w : Option Written) → IsWrittenAt P ts (computing s) T e w
    → IsWrittenAt P ts (computing r) T e w
written-at-before P x ts T e None h = h
written-at-before P x ts T e (Some w) h = (h.0, written-for x ts T e.key w h.1)

written-grown : (P : Stays Via) (ts us : List Tree) → Extends ts us → (A : PureFolder Via) (T : GoalTable Via) (e : Entry Via) (w : Option Written) → IsWrittenAt P ts A T e w → IsWrittenAt P us A T e w
written-grown P ts us x A T e None h = h
written-grown P ts us x A T e (Some w) h =
    let g = h.1 in
    let v : Some (verdict_seen us w.verdict) ≡ Some (verdict_seen ts w.verdict) = verdict-sees ts us x (Some w.verdict) g.sort in
    let q : verdict_seen us w.verdict ≡ verdict_seen ts w.verdict = cc in
    (h.0, record { answer = g.answer; computed = g.computed; says = q ∙ g.says; sort = verdict-stays ts us x (Some w.verdict) g.sort; readable = g.readable ∙ sym (ap (λ o. may_be_read e.key o) v) })

all-written-grown : (P : Stays Via) (ts us : List Tree) → Extends ts us → (A : PureFolder Via) (T es : GoalTable Via) (ws : List (Option Written)) → AreWritten P ts A T es ws → AreWritten P us A T es ws
all-written-grown P ts us x A T [] [] h = tt
all-written-grown P ts us x A T (e ∷ es) (w ∷ ws) h = (written-grown P ts us x A T e w h.0, all-written-grown P ts us x A T es ws h.1)
all-written-grown P ts us x A T [] (w ∷ ws) h = h
all-written-grown P ts us x A T (e ∷ es) [] h = h

written-more : (P : Stays Via) (ts : List Tree) (A : PureFolder Via) (T es : GoalTable Via) (ws : List (Option Written)) (i : ℕ) (e : Entry Via) (w : Option Written) → slice_get es i ≡ Some e
    → AreWritten P ts A T (take i es) ws → IsWrittenAt P ts A T e w → AreWritten P ts A T (take (suc i) es) (ws ++ w ∷ [])
written-more P ts A T [] ws i e w g h k = absurd cc
written-more P ts A T (d ∷ es) [] zero e w g h k = let q : d ≡ e = cc in (subst (λ x. IsWrittenAt P ts A T x w) (sym q) k, tt)
written-more P ts A T (d ∷ es) (v ∷ ws) zero e w g h k = absurd h
written-more P ts A T (d ∷ es) [] (suc i) e w g h k = absurd h
written-more P ts A T (d ∷ es) (v ∷ ws) (suc i) e w g h k = (h.0, written-more P ts A T es ws i e w g h.1 k)

pub record WrittenSoFar (P : Stays Via) (old now : Evaluator) (i : ℕ) (ws : List (Option Written)) : Type 0 where
  pub stays : StaysBesideTable old now
  pub table : table_of now ≡ table_of old
  pub written : AreWritten P now.context.trees (computing old) (table_of old) (take i (table_of old)) ws

pub none-written : (P : Stays Via) (r : Evaluator) → WrittenSoFar P r r 0 []
none-written P r = record { stays = stays-refl r; table = refl; written = tt }

-- the entry of a place of the table, as it is seen

seen-at : (ts : List Tree) (es : List GoalEntry) (i : ℕ) → i < length es → (e : GoalEntry) × (slice_get es i ≡ Some e) × (slice_get (table_seen ts es) i ≡ Some (entry_seen ts e))
seen-at ts [] i l = absurd (omega (arith, l))
seen-at ts (e ∷ es) zero l = (e, refl, refl)
seen-at ts (e ∷ es) (suc i) l = seen-at ts es i (omega (arith, l))

pub one-more-written : (P : Stays Via) {r s t : Evaluator} (i : ℕ) (ws : List (Option Written)) (w : Option Written) → WrittenSoFar P r s i ws → i < length s.goals.table
    → StaysBesideTable s t → table_of t ≡ table_of s
    → ((e : Entry Via) → slice_get (table_of s) i ≡ Some e → IsWrittenAt P t.context.trees (computing s) (table_of s) e w)
    → WrittenSoFar P r t (suc i) (ws ++ w ∷ [])
one-more-written P {r} {s} {t} i ws w h l x same at =
    let p = seen-at s.context.trees s.goals.table i l in
    let e = entry_seen s.context.trees p.0 in
    let ts = t.context.trees in
    let now = written-at-before P h.stays ts (table_of s) e w (at e p.2) in
    record {
      stays = stays-trans h.stays x;
      table = same ∙ h.table;
      written =
          written-more P ts (computing r) (table_of r) (table_of r) ws i e w (ap (λ T. slice_get T i) (sym h.table) ∙ p.2)
          (all-written-grown P s.context.trees ts x.grows.kept (computing r) (table_of r) (take i (table_of r)) ws h.written)
          (subst (λ T. IsWrittenAt P ts (computing r) T e w) h.table now);
    }

pub take-all : {A : Type 0} (xs : List A) (n : ℕ) → length xs ≤ n → take n xs ≡ xs
take-all [] zero l = refl
take-all [] (suc n) l = refl
take-all (x ∷ xs) zero l = absurd (omega (arith, l))
take-all (x ∷ xs) (suc n) l = ap (λ ys. x ∷ ys) (take-all xs n (omega (arith, l)))

pub length-map : {A B : Type 0} (f : A → B) (xs : List A) → length (map f xs) ≡ length xs
length-map f [] = refl
length-map f (x ∷ xs) = ap suc (length-map f xs)

pub seen-length : (r : Evaluator) → length (table_of r) ≡ length r.goals.table
seen-length r = length-map (entry_seen r.context.trees) r.goals.table

pub same-length : (r s : Evaluator) → table_of s ≡ table_of r → length s.goals.table ≡ length r.goals.table
same-length r s e = sym (length-map (entry_seen s.context.trees) s.goals.table) ∙ (ap length e ∙ length-map (entry_seen r.context.trees) r.goals.table)

pub all-are-written : (P : Stays Via) {r s : Evaluator} (i : ℕ) (ws : List (Option Written)) → WrittenSoFar P r s i ws → length r.goals.table ≤ i → AreWritten P s.context.trees (computing r) (table_of r) (table_of r) ws
all-are-written P {r} {s} i ws h l =
    let many = length-map (entry_seen r.context.trees) r.goals.table in
    subst (λ es. AreWritten P s.context.trees (computing r) (table_of r) es ws) (take-all (table_of r) i (omega (arith, l, many))) h.written

pub written-length : (P : Stays Via) (ts : List Tree) (A : PureFolder Via) (T es : GoalTable Via) (ws : List (Option Written)) → AreWritten P ts A T es ws → length ws ≡ length es
written-length P ts A T [] [] h = refl
written-length P ts A T [] (w ∷ ws) h = absurd h
written-length P ts A T (e ∷ es) [] h = absurd h
written-length P ts A T (e ∷ es) (w ∷ ws) h = ap suc (written-length P ts A T es ws h.1)

-- What is written at a place, by its entry.
pub verdict-there : (ts : List Tree) (es : List GoalEntry) (i : ℕ) (d : GoalEntry) → i < length es → verdict_at (table_seen ts es) i ≡ option_map (verdict_seen ts) (slice_index_or es i d).1.verdict
verdict-there ts [] i d l = absurd (omega (arith, l))
verdict-there ts (e ∷ es) zero d l = refl
verdict-there ts (e ∷ es) (suc i) d l = verdict-there ts es i d (omega (arith, l))

-- Nothing is asked for.

tabled-unasked : (ts : List Tree) (g : Goals) (b : Bool) → IsTabled ts g → IsTabled ts (record { table = g.table; asked = []; asks = b })
tabled-unasked ts g b h =
    let p = table-parts h in
    let room = p.room in
    of-table-parts (record { entries = p.entries; keys = tt; are_new = tt; room = omega (arith, room) })

pub evaluator-unasked : (c : Context) (s : Inference) (ks : List ℕ) (ns : NormalForms) (os : List AliasTy) (g : Goals) (b : Bool) → IsEvaluator c s ks ns os g → IsEvaluator c s ks ns os (record { table = g.table; asked = []; asks = b })
evaluator-unasked c s ks ns os g b h = of-parts (record {
  consistent = (parts h).consistent;
  resolved = (parts h).resolved;
  given = (parts h).given;
  tabled = tabled-unasked c.trees g b (parts h).tabled;
  derived = (parts h).derived;
})

-- The entry of a place.

pub get-there : {A : Type 0} (xs : List A) (i : ℕ) (x : A) → i < length xs → x ≡ slice_index_or xs i x → slice_get xs i ≡ Some x
get-there [] i x l e = absurd (omega (arith, l))
get-there (y ∷ xs) zero x l e = ap Some (sym e)
get-there (y ∷ xs) (suc i) x l e = get-there xs i x (omega (arith, l)) e

pub get-index : {A : Type 0} (xs : List A) (i : ℕ) (d : A) → i < length xs → slice_get xs i ≡ Some (slice_index_or xs i d)
get-index [] i d l = absurd (omega (arith, l))
get-index (y ∷ xs) zero d l = refl
get-index (y ∷ xs) (suc i) d l = get-index xs i d (omega (arith, l))

pub get-map : {A B : Type 0} (f : A → B) (xs : List A) (i : ℕ) (x : A) → slice_get xs i ≡ Some x → slice_get (map f xs) i ≡ Some (f x)
get-map f [] i x e = absurd cc
get-map f (y ∷ xs) zero x e = let q : y ≡ x = cc in ap (λ z. Some (f z)) q
get-map f (y ∷ xs) (suc i) x e = get-map f xs i x e

pub seen-get : (r : Evaluator) (i : ℕ) (e : GoalEntry) → slice_get r.goals.table i ≡ Some e → slice_get (table_of r) i ≡ Some (entry_seen r.context.trees e)
seen-get r i e g = get-map (entry_seen r.context.trees) r.goals.table i e g

pub entry-at : (r : Evaluator) (i : ℕ) (e : GoalEntry) → IsEvaluator r.context r.inference r.marks r.normal r.opaques r.goals → slice_get r.goals.table i ≡ Some e → IsEntryOf r.context.trees e
entry-at r i e h g = each-get (IsEntryOf r.context.trees) r.goals.table i e (table-parts (parts h).tabled).entries g

pub verdict-get : (ts : List Tree) (es : List GoalEntry) (i : ℕ) (e : GoalEntry) → slice_get es i ≡ Some e → verdict_at (table_seen ts es) i ≡ option_map (verdict_seen ts) e.1.verdict
verdict-get ts [] i e g = absurd cc
verdict-get ts (d ∷ es) zero e g = let q : d ≡ e = cc in ap (λ (x : GoalEntry). option_map (verdict_seen ts) x.1.verdict) q
verdict-get ts (d ∷ es) (suc i) e g = verdict-get ts es i e g

-- the same entry is seen with its key
pub key-get : (r : Evaluator) (i : ℕ) (e : GoalEntry) (d : Entry Via) → slice_get r.goals.table i ≡ Some e → slice_get (table_of r) i ≡ Some d → d ≡ entry_seen r.context.trees e
key-get r i e d g h = let q : Some d ≡ Some (entry_seen r.context.trees e) = sym h ∙ seen-get r i e g in cc

-- One more goal is entered, with what is known of it.
pub evaluator-entered : (c : Context) (s : Inference) (ks : List ℕ) (ns : NormalForms) (os : List AliasTy) (g : Goals) (e : GoalEntry) → g.asked ≡ [] → length g.table < most_goals → IsEntryOf c.trees e
    → TableIsDerived c (listing_by c.trees ns) (table_seen c.trees g.table ++ entry_seen c.trees e ∷ []) → IsEvaluator c s ks ns os g → IsEvaluator c s ks ns os (record g { table = g.table ++ e ∷ [] })
evaluator-entered c s ks ns os g e none l i d h =
    let ts = c.trees in
    let p = table-parts (parts h).tabled in
    let many = length-append g.table (e ∷ []) in
    let t : TableParts ts (record g { table = g.table ++ e ∷ []; asked = [] }) = record {
      entries = each-append (IsEntryOf ts) g.table e p.entries i;
      keys = tt;
      are_new = tt;
      room = omega (arith, l, many);
    } in
    of-parts (record {
      consistent = (parts h).consistent;
      resolved = (parts h).resolved;
      given = (parts h).given;
      tabled = subst (λ a. IsTabled ts (record g { table = g.table ++ e ∷ []; asked = a })) (sym none) (of-table-parts t);
      derived = subst (TableIsDerived c (listing_by ts ns)) (sym (map-append (entry_seen ts) g.table (e ∷ []))) d;
    })

pub entered-either : {E : Type 0} (q : Result (Unit {0}) E) (c : Context) (s : Inference) (ks : List ℕ) (ns : NormalForms) (os : List AliasTy) (g h : Goals) (e : GoalEntry)
    → g.asked ≡ [] → length g.table < most_goals → IsEntryOf c.trees e → TableIsDerived c (listing_by c.trees ns) (table_seen c.trees g.table ++ entry_seen c.trees e ∷ [])
    → OnOk q (h ≡ record g { table = g.table ++ e ∷ [] }) → OnErr q (h ≡ g) → IsEvaluator c s ks ns os g → IsEvaluator c s ks ns os h
entered-either (Ok x) c s ks ns os g h e none l i d p q z = subst (IsEvaluator c s ks ns os) (sym p) (evaluator-entered c s ks ns os g e none l i d z)
entered-either (Err x) c s ks ns os g h e none l i d p q z = subst (IsEvaluator c s ks ns os) (sym q) z

-- a goal of which nothing is known is of the table, and what is derived stays
pub new-entry-is : (ts : List Tree) (k : GoalKey) → IsKeyOf ts k → IsEntryOf ts (new_entry k)
new-entry-is ts k i = record { key = i; verdict = tt; readable = refl }

pub new-entry-derived : (r : Evaluator) (k : GoalKey) → IsEvaluator r.context r.inference r.marks r.normal r.opaques r.goals → TableIsDerived r.context (listing r) (table_of r ++ entry_seen r.context.trees (new_entry k) ∷ [])
new-entry-derived r k h = one_unanswered r.context (listing r) (table_of r) (key_seen r.context.trees k) (parts h).derived

-- Why a goal of a place wasn't computed.
pub place-stopped : (r : Evaluator) (ts : List Tree) (i : ℕ) (s : Stop) → i < length r.goals.table
    → ((e : Entry Via) → slice_get (table_of r) i ≡ Some e → IsNotingStop ts s ⊎ IsComputingStop ts r (table_of r) e.key s) → IsRoundStop ts r (table_of r) s
place-stopped r ts i s l h =
    let p = seen-at r.context.trees r.goals.table i l in
    at (entry_seen r.context.trees p.0) p.2 (h (entry_seen r.context.trees p.0) p.2)
  where
    at : (e : Entry Via) → slice_get (table_of r) i ≡ Some e → IsNotingStop ts s ⊎ IsComputingStop ts r (table_of r) e.key s → IsRoundStop ts r (table_of r) s
    at e g (inl m) = Running.round_looking m
    at e g (inr c) = Running.round_computing i e g c

pub verdict-slot : (T : GoalTable Via) (i : ℕ) (e : Entry Via) → slice_get T i ≡ Some e → verdict_at T i ≡ e.verdict
verdict-slot [] i e g = absurd cc
verdict-slot (d ∷ T) zero e g = let q : d ≡ e = cc in ap (λ (x : Entry Via). x.verdict) q
verdict-slot (d ∷ T) (suc i) e g = verdict-slot T i e g
