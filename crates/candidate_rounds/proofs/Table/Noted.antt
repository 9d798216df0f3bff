-- What is noted beside a verdict, and what of a table is sure.
use Rattle.std.proofs.Common.{◌≡◌, ◌⊎◌, inl, inr, ℕ, zero, suc, Bool, true, false, List, [], ◌∷◌, map, Option, Some, None, refl, sym, ◌∙◌, ap, subst, if◌then◌else◌}
use Rattle.ir_trees.specs.Syntax.Trees.{Tree}
use Rattle.candidate_rounds.specs.Evaluators.Interface.{Fixed}
use Rattle.candidate_rounds.specs.Evaluators.Known.{Evaluator, GoesOn, IsEvaluator, notes_of, sure_of, table_of}
use Rattle.candidate_rounds.specs.Table.Entries.{GoalEntry, leaks_at}
use Rattle.candidate_rounds.specs.Table.Goals.{Via, entry_seen, table_seen, unless_noted, without_noted}
use Rattle.candidate_rounds.specs.Table.Running.{IsPlaceOf}
use Rattle.candidate_rounds.proofs.Evaluators.Interface.{keeps-going}
use Rattle.candidate_rounds.proofs.Table.Rounding.{no-verdict}
use Rattle.rounds_judge.specs.Table.GoalTable.{Entry, GoalTable, is_entered, verdict_in}
use Rattle.rounds_judge.specs.Table.Keys.{Key, same_key}
use Rattle.rounds_judge.specs.Table.Verdicts.{Verdict}

abbrev notes : List GoalEntry → List Bool
notes es = map (λ (e : GoalEntry). e.1.leaks) es

-- What is sure stays as what is fixed does.

pub sure-fixed : {f g : Fixed} → f ≡ g → without_noted f.notes f.table ≡ without_noted g.notes g.table
sure-fixed e = ap (λ (x : Fixed). without_noted x.notes x.table) e

pub goes-sure : (r s : Evaluator) → IsEvaluator r.context r.inference r.marks r.normal r.opaques r.goals → GoesOn r s → sure_of s ≡ sure_of r
goes-sure r s h g = sure-fixed (keeps-going r s g h).fixed_same

-- What is written for a key that has a place is sure where nothing is noted there.
pub sure-at : (ts : List Tree) (es : List GoalEntry) (k : Key) (n : ℕ) → IsPlaceOf (table_seen ts es) k n → verdict_in (without_noted (notes es) (table_seen ts es)) k ≡ unless_noted (leaks_at es n) (verdict_in (table_seen ts es) k)
sure-at ts [] k n h = absurd h
sure-at ts (e ∷ es) k zero h =
    let v = (entry_seen ts e).verdict in
    ap (λ b. if b then unless_noted e.1.leaks v else verdict_in (without_noted (notes es) (table_seen ts es)) k) h
    ∙ ap (unless_noted e.1.leaks) (sym (ap (λ b. if b then v else verdict_in (table_seen ts es) k) h))
sure-at ts (e ∷ es) k (suc n) h =
    let v = (entry_seen ts e).verdict in
    ap (λ b. if b then unless_noted e.1.leaks v else verdict_in (without_noted (notes es) (table_seen ts es)) k) h.0
    ∙ (sure-at ts es k n h.1 ∙ ap (unless_noted (leaks_at es n)) (sym (ap (λ b. if b then v else verdict_in (table_seen ts es) k) h.0)))

-- What is sure for a key is what is written for it, or nothing.
pub sure-either : (bs : List Bool) (T : GoalTable Via) (k : Key) → (verdict_in (without_noted bs T) k ≡ None) ⊎ (verdict_in (without_noted bs T) k ≡ verdict_in T k)
sure-either [] T k = inr refl
sure-either (b ∷ bs) [] k = inl refl
sure-either (b ∷ bs) (e ∷ es) k = at (same_key e.key k) b (sure-either bs es k)
  where
    at : (same noted : Bool) → (verdict_in (without_noted bs es) k ≡ None) ⊎ (verdict_in (without_noted bs es) k ≡ verdict_in es k)
        → ((if same then unless_noted noted e.verdict else verdict_in (without_noted bs es) k) ≡ None)
        ⊎ ((if same then unless_noted noted e.verdict else verdict_in (without_noted bs es) k) ≡ (if same then e.verdict else verdict_in es k))
    at true true h = inl refl
    at true false h = inr refl
    at false noted h = h

-- what is so of what is written for a key is so of what is sure, where it is so of nothing
pub sure-keeps : (P : Option (Verdict Via) → Type 0) → P None → (r : Evaluator) (k : Key) → P (verdict_in (table_of r) k) → P (verdict_in (sure_of r) k)
sure-keeps P none r k h = at (sure-either (notes_of r) (table_of r) k)
  where
    at : (verdict_in (sure_of r) k ≡ None) ⊎ (verdict_in (sure_of r) k ≡ verdict_in (table_of r) k) → P (verdict_in (sure_of r) k)
    at (inl e) = subst P (sym e) none
    at (inr e) = subst P (sym e) h

-- The sure part of a table is a part of it: what is sure is written there.
pub sure-is-part : (r : Evaluator) (k : Key) (v : Verdict Via) → verdict_in (sure_of r) k ≡ Some v → verdict_in (table_of r) k ≡ Some v
sure-is-part r k v e = at (sure-either (notes_of r) (table_of r) k)
  where
    at : (verdict_in (sure_of r) k ≡ None) ⊎ (verdict_in (sure_of r) k ≡ verdict_in (table_of r) k) → verdict_in (table_of r) k ≡ Some v
    at (inl none) = let clash : None ≡ Some v = sym none ∙ e in absurd cc
    at (inr same) = sym same ∙ e

-- where the table doesn't have the key
pub sure-missing : (bs : List Bool) (T : GoalTable Via) (k : Key) → is_entered T k ≡ false → verdict_in (without_noted bs T) k ≡ verdict_in T k
sure-missing bs T k h = at (sure-either bs T k)
  where
    at : (verdict_in (without_noted bs T) k ≡ None) ⊎ (verdict_in (without_noted bs T) k ≡ verdict_in T k) → verdict_in (without_noted bs T) k ≡ verdict_in T k
    at (inl none) = none ∙ sym (no-verdict T k h)
    at (inr same) = same
