-- Whether what a round writes makes another table, where equal trees have one number.
use Rattle.std.proofs.Common.{◌≡◌, ◌<◌, ◌≤◌, ℕ, zero, suc, List, [], ◌∷◌, ◌++◌, length, map, slice_get, slice_index_or, Option, Some, None, unwrap_or, refl, sym, ap, subst, arith}
use Rattle.std.proofs.lemmas.List.{length-append}
use Rattle.std.specs.Map.{values_of}
use Rattle.ir_trees.specs.Syntax.Table.{AreDistinct}
use Rattle.ir_trees.specs.Syntax.Trees.{Tree}
use Rattle.candidate_eval.specs.declared.eval.response.CanonicalResponse.{CanonicalResponse}
use Rattle.candidate_eval.specs.Outcomes.ResponseTrees.{IsCopy, response_of}
use Rattle.candidate_rounds.specs.declared.rounds.goals.GoalKey.{GoalKey}
use Rattle.candidate_rounds.specs.declared.rounds.goals.Slot.{Slot}
use Rattle.candidate_rounds.specs.declared.rounds.goals.Verdict.TheVariants as V
use Rattle.candidate_rounds.specs.declared.rounds.writing.Written.{Written}
use Rattle.candidate_rounds.specs.Calls.Writing.{AreVerdicts, ChangeTable, MakesOther, SayOther}
use Rattle.candidate_rounds.specs.Table.Entries.{GoalEntry, all_written_into, asked_in, new_entry, write_verdict}
use Rattle.candidate_rounds.specs.Table.Goals.{Each, IsEntryOf, Via, entry_seen, table_seen}
use Rattle.candidate_rounds.specs.Table.Running.{AreWritten}
use Rattle.candidate_rounds.proofs.Table.Rounding.{length-new, length-put}
use Rattle.candidate_rounds.proofs.Table.Sources.{copy-from}
use Rattle.rounds_judge.specs.Table.GoalTable.{GoalTable}
use Rattle.rounds_judge.specs.Table.Rounds.{PureFolder, Stays}

-- Two verdicts of a kind say the same only if they are by the same way and have the same response.

pub yes-other-way : (r s : CanonicalResponse) (v w : Option Via) → (v ≡ w → ⊥) → SayOther (V.Yes r v) (V.Yes s w)
yes-other-way r s v w n ts one i j e = n (let q : v ≡ w = cc in q)

pub yes-other : (r s : CanonicalResponse) (v w : Option Via) → (IsCopy r s → ⊥) → SayOther (V.Yes r v) (V.Yes s w)
yes-other r s v w n ts one i j e = n (copy-from ts one r s i j (let q : response_of ts r ≡ response_of ts s = cc in q))

pub maybe-other-way : (r s : CanonicalResponse) (v w : Option Via) → (v ≡ w → ⊥) → SayOther (V.Maybe r v) (V.Maybe s w)
maybe-other-way r s v w n ts one i j e = n (let q : v ≡ w = cc in q)

pub maybe-other : (r s : CanonicalResponse) (v w : Option Via) → (IsCopy r s → ⊥) → SayOther (V.Maybe r v) (V.Maybe s w)
maybe-other r s v w n ts one i j e = n (copy-from ts one r s i j (let q : response_of ts r ≡ response_of ts s = cc in q))

-- What is written at a place makes another table, if it makes another entry there.
differ : (ts : List Tree) → AreDistinct ts → (es : List GoalEntry) (more : List GoalEntry) (ws : List (Option Written)) (i : ℕ) (slot : Slot) (v : Option Written) → i < length es → length ws ≡ length es
    → slice_get (values_of es) i ≡ Some slot → ((k : GoalKey) → MakesOther (k, slot) (slice_index_or ws i v)) → AreVerdicts ts es ws → table_seen ts (all_written_into es ws ++ more) ≡ table_seen ts es → ⊥
differ ts one [] more ws i slot v l m g k are e = absurd (omega (arith, l))
differ ts one (x ∷ es) more [] i slot v l m g k are e = absurd (omega (arith, m))
differ ts one (x ∷ es) more (w ∷ ws) zero slot v l m g k are e =
    let q : slot ≡ x.1 = ap (λ (o : Option Slot). unwrap_or o slot) (sym g) in
    let same : entry_seen ts (write_verdict x w) ≡ entry_seen ts x = cc in
    subst (λ s. MakesOther (x.0, s) w) q (k x.0) ts one are.0 are.1 same
differ ts one (x ∷ es) more (w ∷ ws) (suc i) slot v l m g k are e =
    let rest : table_seen ts (all_written_into es ws ++ more) ≡ table_seen ts es = cc in
    differ ts one es more ws i slot v (omega (arith, l)) (omega (arith, m)) g k are.2 rest

pub changed-at : (es : List GoalEntry) (ws : List (Option Written)) (i : ℕ) (slot : Slot) (v : Option Written) → i < length es → length ws ≡ length es → slice_get (values_of es) i ≡ Some slot
    → ((k : GoalKey) → MakesOther (k, slot) (slice_index_or ws i v)) → ChangeTable es [] ws
changed-at es ws i slot v l m g k ts one are e = differ ts one es [] ws i slot v l m g k are e

-- So does a goal that was asked for.
pub asked-changes : (es : List GoalEntry) (ks : List GoalKey) (ws : List (Option Written)) → (length ks ≡ 0 → ⊥) → ChangeTable es ks ws
asked-changes es ks ws n ts one are e =
    let seen = ap length e in
    let many = seen-many (all_written_into es ws ++ map new_entry ks) in
    let was = seen-many es in
    let both = length-append (all_written_into es ws) (map new_entry ks) in
    let put = length-put es ws in
    let new = length-new ks in
    n (omega (arith, seen, many, was, both, put, new))
  where
    seen-many : (xs : List GoalEntry) → length (table_seen ts xs) ≡ length xs
    seen-many [] = refl
    seen-many (x ∷ xs) = ap suc (seen-many xs)

pub some-asked : (n : ℕ) (es : List GoalEntry) → n ≤ length es → (length es ≡ n → ⊥) → length (asked_in n es) ≡ 0 → ⊥
some-asked zero [] l d z = d refl
some-asked zero (e ∷ es) l d z = absurd (omega (arith, z))
some-asked (suc n) [] l d z = absurd (omega (arith, l))
some-asked (suc n) (e ∷ es) l d z = some-asked n es (omega (arith, l)) (λ q. d (ap suc q)) z

-- What a round has for a table is of its trees.
pub are-verdicts : (P : Stays Via) (ts : List Tree) (A : PureFolder Via) (T : GoalTable Via) (es : List GoalEntry) (ws : List (Option Written)) → Each (IsEntryOf ts) es → AreWritten P ts A T (table_seen ts es) ws → AreVerdicts ts es ws
are-verdicts P ts A T [] ws p h = tt
are-verdicts P ts A T (e ∷ es) [] p h = tt
are-verdicts P ts A T (e ∷ es) (None ∷ ws) p h = (p.0.verdict, tt, are-verdicts P ts A T es ws p.1 h.1)
are-verdicts P ts A T (e ∷ es) (Some w ∷ ws) p h = (p.0.verdict, h.0.1.sort, are-verdicts P ts A T es ws p.1 h.1)
