-- What a round has is put into the table, one place after another, and goals are entered after it.
use Rattle.std.proofs.Common.{◌≡◌, ◌<◌, ◌≤◌, ◌+◌, ◌==◌, true, ℕ, zero, suc, List, [], ◌∷◌, ◌++◌, length, take, drop, slice_get, slice_index_or, Option, Some, unwrap_or, refl, sym, ◌∙◌, ap, subst, arith, rules}
use Rattle.std.specs.Map.{values_of}
use Rattle.indexmap.specs.IndexMap.{set_value_at}
use Rattle.ir_trees.specs.Syntax.Trees.{Tree}
use Rattle.candidate_rounds.specs.declared.rounds.goals.GoalKey.{GoalKey}
use Rattle.candidate_rounds.specs.declared.rounds.goals.Slot.{Slot}
use Rattle.candidate_rounds.specs.declared.rounds.writing.Written.{Written}
use Rattle.candidate_rounds.specs.Table.Goals.{entry_seen, table_seen}
use Rattle.candidate_rounds.specs.Table.Entries.{GoalEntry, all_written_into, write_verdict}
use Rattle.candidate_rounds.proofs.Table.Running.{take-all}

pub nothing-left : {A : Type 0} (xs : List A) → length xs ≡ 0 → xs ≡ []
nothing-left [] e = refl
nothing-left (x ∷ xs) e = absurd (omega (arith, e))

is-zero : (n : ℕ) → (n == 0) ≡ true → n ≡ 0
is-zero n e = search rules

pub no-length : {A : Type 0} (xs : List A) → (length xs == 0) ≡ true → xs ≡ []
no-length xs e = nothing-left xs (is-zero (length xs) e)

-- What is put into so many places, with what is left for the others.
abbrev pub put_so_far : List GoalEntry → ℕ → List (Option Written) → List GoalEntry
put_so_far es i ws = take i es ++ all_written_into (drop i es) ws

pub none-put : (es : List GoalEntry) (ws : List (Option Written)) → put_so_far es 0 ws ≡ all_written_into es ws
none-put es ws = refl

pub one-put : (es : List GoalEntry) (i : ℕ) (w : Option Written) (ws : List (Option Written)) (old new : Slot) → slice_get (values_of es) i ≡ Some old → ((k : GoalKey) → (k, new) ≡ write_verdict (k, old) w)
    → put_so_far (set_value_at es i new) (i + 1) ws ≡ put_so_far es i (w ∷ ws)
one-put [] i w ws old new l q = absurd cc
one-put (e ∷ es) zero w ws old new l q = ap (λ y. y ∷ all_written_into es ws) (q e.0 ∙ ap (λ o. write_verdict (e.0, unwrap_or o old) w) (sym l))
one-put (e ∷ es) (suc i) w ws old new l q =
    let n : suc i + 1 ≡ suc (i + 1) = omega arith in
    ap (λ j. put_so_far (e ∷ set_value_at es i new) j ws) n ∙ ap (λ ys. e ∷ ys) (one-put es i w ws old new l q)

all-none : (es : List GoalEntry) → all_written_into es [] ≡ es
all-none [] = refl
all-none (e ∷ es) = refl

pub all-put : (es : List GoalEntry) (i : ℕ) → put_so_far es i [] ≡ es
all-put [] zero = refl
all-put [] (suc i) = refl
all-put (e ∷ es) zero = refl
all-put (e ∷ es) (suc i) = ap (λ ys. e ∷ ys) (all-put es i)

-- What is written already changes no table.

written-same : (ts : List Tree) (es : List GoalEntry) (ws : List (Option Written)) (i : ℕ) (slot : Slot) (v : Option Written) → i < length es → length ws ≡ length es → slice_get (values_of es) i ≡ Some slot
    → ((k : GoalKey) → entry_seen ts (write_verdict (k, slot) (slice_index_or ws i v)) ≡ entry_seen ts (k, slot))
    → table_seen ts (all_written_into (take i es) ws) ≡ table_seen ts (take i es)
    → table_seen ts (all_written_into (take (suc i) es) ws) ≡ table_seen ts (take (suc i) es)
written-same ts [] ws i slot v l m g k h = absurd (omega (arith, l))
written-same ts (e ∷ es) [] i slot v l m g k h = absurd (omega (arith, m))
written-same ts (e ∷ es) (w ∷ ws) zero slot v l m g k h =
    let q : slot ≡ e.1 = ap (λ (o : Option Slot). unwrap_or o slot) (sym g) in
    ap (λ x. x ∷ []) (subst (λ s. entry_seen ts (write_verdict (e.0, s) w) ≡ entry_seen ts (e.0, s)) q (k e.0))
written-same ts (e ∷ es) (w ∷ ws) (suc i) slot v l m g k h =
    let one : entry_seen ts (write_verdict e w) ≡ entry_seen ts e = cc in
    let rest : table_seen ts (all_written_into (take i es) ws) ≡ table_seen ts (take i es) = cc in
    ap (λ x. x ∷ table_seen ts (all_written_into (take (suc i) es) ws)) one ∙ ap (λ xs. entry_seen ts e ∷ xs) (written-same ts es ws i slot v (omega (arith, l)) (omega (arith, m)) g k rest)

-- Nothing changes the entries before that place.
abbrev pub AreTheSame : List GoalEntry → List (Option Written) → ℕ → Type 0
AreTheSame es ws i = (ts : List Tree) → table_seen ts (all_written_into (take i es) ws) ≡ table_seen ts (take i es)

pub none-changed : (es : List GoalEntry) (ws : List (Option Written)) → AreTheSame es ws 0
none-changed es ws ts = refl

pub one-unchanged : (es : List GoalEntry) (ws : List (Option Written)) (i : ℕ) (slot : Slot) (v : Option Written) → i < length es → length ws ≡ length es → slice_get (values_of es) i ≡ Some slot
    → ((ts : List Tree) (k : GoalKey) → entry_seen ts (write_verdict (k, slot) (slice_index_or ws i v)) ≡ entry_seen ts (k, slot))
    → AreTheSame es ws i → AreTheSame es ws (suc i)
one-unchanged es ws i slot v l m g k h ts = written-same ts es ws i slot v l m g (k ts) (h ts)

pub all-unchanged : (es : List GoalEntry) (ws : List (Option Written)) (i : ℕ) → length es ≤ i → AreTheSame es ws i → (ts : List Tree) → table_seen ts (all_written_into es ws) ≡ table_seen ts es
all-unchanged es ws i l h ts = subst (λ xs. table_seen ts (all_written_into xs ws) ≡ table_seen ts xs) (take-all es i l) (h ts)

-- past the end nothing is put
pub past-end : (es : List GoalEntry) (i : ℕ) (w : Option Written) (ws : List (Option Written)) → length es ≤ i → put_so_far es i (w ∷ ws) ≡ put_so_far es i ws
past-end [] zero w ws l = refl
past-end [] (suc i) w ws l = refl
past-end (e ∷ es) zero w ws l = absurd (omega (arith, l))
past-end (e ∷ es) (suc i) w ws l = ap (λ ys. e ∷ ys) (past-end es i w ws (omega (arith, l)))

-- what is written into the table, with what was asked for after it
pub written-before : (n : ℕ) (es : List GoalEntry) (ws : List (Option Written)) → n ≤ length es → length ws ≡ n → all_written_into es ws ≡ all_written_into (take n es) ws ++ drop n es
written-before zero [] ws l e = refl
written-before zero (x ∷ es) [] l e = refl
written-before zero (x ∷ es) (w ∷ ws) l e = absurd (omega (arith, e))
written-before (suc n) [] ws l e = absurd (omega (arith, l))
written-before (suc n) (x ∷ es) [] l e = absurd (omega (arith, e))
written-before (suc n) (x ∷ es) (w ∷ ws) l e = ap (λ ys. write_verdict x w ∷ ys) (written-before n es ws (omega (arith, l)) (omega (arith, e)))
