-- Steps one after another, until no more is needed.
use Rattle.std.proofs.Common.{◌≡◌, ◌⊎◌, inl, inr, ◌≤◌, ◌<◌, ℕ, zero, suc, Bool, true, false, List, [], ◌∷◌, ◌++◌, length, map, Option, Some, None, refl, sym, ◌∙◌, ap, subst, arith}
use Rattle.ir_trees.specs.Syntax.Trees.{Tree}
use Rattle.candidate_eval.specs.Judges.States.{is_some}
use Rattle.candidate_rounds.specs.declared.rounds.writing.Written.{Written}
use Rattle.candidate_rounds.specs.Evaluators.Known.{Evaluator, table_of}
use Rattle.candidate_rounds.specs.Table.Goals.{Via}
use Rattle.candidate_rounds.specs.Table.Running.{IsPlaceOf, IsWrittenAt, StaysBesideTable, computing, verdict_at}
use Rattle.candidate_rounds.proofs.Table.Rounding.{place-in-round, place-verdict, round-longer}
use Rattle.candidate_rounds.proofs.Table.Running.{round-before, seen-length, stays-trans}
use Rattle.rounds_judge.specs.Table.GoalTable.{Entry, GoalTable, unanswered, verdict_in}
use Rattle.rounds_judge.specs.Table.Keys.{Key}
use Rattle.rounds_judge.specs.Table.Rounds as R
use Rattle.rounds_judge.specs.Table.Rounds.{AnyEntry, IsAtRest, IsFinalEntry, IsRound, IsStep, IsStill, IsWriting, PureFolder, Settles, Stays, Steps, StepsWithin, Writes, most_steps, no_step, one_more}
use Rattle.rounds_judge.specs.Table.Verdicts.{Verdict, is_final}
use Rattle.rounds_judge.proofs.Table.RoundLaws.{round_is_step}

-- What a round has for a place a step may have.
pub may-stay : (ts : List Tree) (A : PureFolder Via) (T : GoalTable Via) (e : Entry Via) (w : Option Written) → IsWrittenAt IsFinalEntry ts A T e w → IsWrittenAt AnyEntry ts A T e w
may-stay ts A T e None h = tt
may-stay ts A T e (Some w) h = h

-- A verdict isn't lost.

some-before : (T U : GoalTable Via) (p : ℕ) → is_some (verdict_at T p) ≡ true → is_some (verdict_at (T ++ U) p) ≡ true
some-before [] U p h = absurd cc
some-before (e ∷ T) U zero h = h
some-before (e ∷ T) U (suc p) h = some-before T U p h

some-kept : {P : Stays Via} {A : PureFolder Via} {T es fs : GoalTable Via} (p : ℕ) → Writes P A T es fs → is_some (verdict_at es p) ≡ true → is_some (verdict_at fs p) ≡ true
some-kept p R.nothing h = h
some-kept zero (R.stays e f w) h = h
some-kept (suc p) (R.stays e f w) h = some-kept p w h
some-kept zero (R.computed e a f c w) h = refl
some-kept (suc p) (R.computed e a f c w) h = some-kept p w h

pub some-then : {P : Stays Via} {A : PureFolder Via} {T U : GoalTable Via} (p : ℕ) → IsWriting P A T U → is_some (verdict_at T p) ≡ true → is_some (verdict_at U p) ≡ true
some-then p r h = subst (λ es. is_some (verdict_at es p) ≡ true) (sym r.is) (some-before r.written (map unanswered r.asked) p (some-kept p r.writes h))

pub has-one : (o : Option (Verdict Via)) (v : Verdict Via) → o ≡ Some v → is_some o ≡ true
has-one o v e = ap is_some e

pub final-has-one : (o : Option (Verdict Via)) → is_final o ≡ true → is_some o ≡ true
final-has-one (Some v) e = refl
final-has-one None e = absurd cc

-- A place that was there is there.
pub place-after : {P : Stays Via} {A : PureFolder Via} (r t : Evaluator) (place : ℕ) → IsWriting P A (table_of r) (table_of t) → place < length r.goals.table → place < length t.goals.table
place-after r t place w l =
    let many = round-longer w in
    let one = seen-length r in
    let two = seen-length t in
    omega (arith, many, one, two, l)

-- What is at rest for one evaluator is so for one before it, from which all stayed but the table.
pub rest-before : {r s : Evaluator} → StaysBesideTable r s → (k : Key) (T : GoalTable Via) → IsAtRest (computing s) k T → IsAtRest (computing r) k T
rest-before x k T (inl f) = inl f
rest-before x k T (inr w) = inr (round-before x w)

-- So many steps were done. The goal of the place isn't final, and something is written for it.
pub record StepsOn (old now : Evaluator) (place count : ℕ) : Type 0 where
  pub stays : StaysBesideTable old now
  pub below : place < length now.goals.table
  pub unsure : is_final (verdict_at (table_of now) place) ≡ false
  pub some : is_some (verdict_at (table_of now) place) ≡ true
  pub done : (k : Key) → IsPlaceOf (table_of old) k place → Steps (computing old) k count (table_of old) (table_of now) × IsPlaceOf (table_of now) k place

module _ {r s t : Evaluator} (place count : ℕ) (on : StepsOn r s place count) (x : StaysBesideTable s t) (w : IsStep (computing s) (table_of s) (table_of t)) where
  step-now : IsStep (computing r) (table_of s) (table_of t)
  step-now = round-before on.stays w

  unsure-at : (k : Key) → IsPlaceOf (table_of s) k place → is_final (verdict_in (table_of s) k) ≡ false
  unsure-at k p = ap is_final (place-verdict (table_of s) k place p) ∙ on.unsure

  pub still-below : place < length t.goals.table
  still-below = place-after s t place w on.below

  pub still-some : is_some (verdict_at (table_of t) place) ≡ true
  still-some = some-then place w on.some

  done-now : (k : Key) → IsPlaceOf (table_of r) k place → Steps (computing r) k (suc count) (table_of r) (table_of t) × IsPlaceOf (table_of t) k place
  done-now k p = let d = on.done k p in (one_more d.0 (unsure-at k d.1) step-now, place-in-round k place step-now d.1)

  pub one-more-step : is_final (verdict_at (table_of t) place) ≡ false → StepsOn r t place (suc count)
  one-more-step f = record { stays = stays-trans on.stays x; below = still-below; unsure = f; some = still-some; done = done-now }

  -- that was the last one
  pub last-step : count < most_steps → ((k : Key) → IsPlaceOf (table_of t) k place → IsAtRest (computing s) k (table_of t)) → (k : Key) → IsPlaceOf (table_of r) k place
      → Settles (computing r) k most_steps (table_of r) (table_of t)
  last-step l rest k p =
      let d = done-now k p in
      record { done = record { count = suc count; within = omega (arith, l); steps = d.0 }; ends = λ _. rest-before on.stays k (table_of t) (rest k d.1) }

  -- its table is left, and the answer isn't had
  pub within-last : count < most_steps → (k : Key) → IsPlaceOf (table_of r) k place → StepsWithin (computing r) k most_steps (table_of r) (table_of t)
  within-last l k p = record { count = suc count; within = omega (arith, l); steps = (done-now k p).0 }

-- a step stopped, and left the table as it was
pub within-steps : {r s : Evaluator} (t : Evaluator) (place count : ℕ) → StepsOn r s place count → table_of t ≡ table_of s → count ≤ most_steps → (k : Key) → IsPlaceOf (table_of r) k place
    → StepsWithin (computing r) k most_steps (table_of r) (table_of t)
within-steps {r} t place count on same l k p = record { count = count; within = l; steps = subst (Steps (computing r) k count (table_of r)) (sym same) (on.done k p).0 }

-- no step is left
pub used-up : {r s : Evaluator} (place count : ℕ) → StepsOn r s place count → count ≡ most_steps → (k : Key) → IsPlaceOf (table_of r) k place → Settles (computing r) k most_steps (table_of r) (table_of s)
used-up place count on e k p = record {
  done = record { count = count; within = omega (arith, e); steps = (on.done k p).0 };
  ends = λ l. absurd (omega (arith, l, e));
}

-- none was needed
pub none-yet : {most : ℕ} (r s : Evaluator) → table_of s ≡ table_of r → (k : Key) → StepsWithin (computing r) k most (table_of r) (table_of s)
none-yet r s same k = record { count = 0; within = omega arith; steps = subst (Steps (computing r) k 0 (table_of r)) (sym same) no_step }

pub rest-already : (r : Evaluator) (place : ℕ) → is_final (verdict_at (table_of r) place) ≡ true → (k : Key) → IsPlaceOf (table_of r) k place → IsAtRest (computing r) k (table_of r)
rest-already r place f k p = inl (ap is_final (place-verdict (table_of r) k place p) ∙ f)

pub settled-already : {most : ℕ} (r : Evaluator) (place : ℕ) → is_final (verdict_at (table_of r) place) ≡ true → (k : Key) → IsPlaceOf (table_of r) k place → Settles (computing r) k most (table_of r) (table_of r)
settled-already r place f k p = record { done = none-yet r r refl k; ends = λ l. rest-already r place f k p }

-- one was done, and no more may be
pub one-settles : (r t : Evaluator) (place : ℕ) → is_final (verdict_at (table_of r) place) ≡ false → IsStep (computing r) (table_of r) (table_of t) → (k : Key) → IsPlaceOf (table_of r) k place
    → Settles (computing r) k 1 (table_of r) (table_of t)
one-settles r t place f w k p = record {
  done = record { count = 1; within = omega arith; steps = one_more no_step (ap is_final (place-verdict (table_of r) k place p) ∙ f) w };
  ends = λ l. absurd (omega (arith, l));
}

-- a round that leaves the table as it was leaves it still
pub still-there : {A : PureFolder Via} {T U : GoalTable Via} → U ≡ T → IsRound A T U → IsStill A U
still-there {A} {U = U} same w = subst (λ X. IsRound A X U) (sym same) w

-- The first step is a round of all goals.

module _ (r t : Evaluator) (place : ℕ) (f : is_final (verdict_at (table_of r) place) ≡ false) (w : IsRound (computing r) (table_of r) (table_of t)) where
  first-done : (k : Key) → IsPlaceOf (table_of r) k place → Steps (computing r) k 1 (table_of r) (table_of t) × IsPlaceOf (table_of t) k place
  first-done k p = (one_more no_step (ap is_final (place-verdict (table_of r) k place p) ∙ f) (round_is_step w), place-in-round k place w p)

  first-settles : ((k : Key) → IsPlaceOf (table_of t) k place → IsAtRest (computing r) k (table_of t)) → (k : Key) → IsPlaceOf (table_of r) k place → Settles (computing r) k most_steps (table_of r) (table_of t)
  first-settles rest k p = let d = first-done k p in record { done = record { count = 1; within = omega arith; steps = d.0 }; ends = λ l. rest k d.1 }

  -- it left the table as it was
  pub first-still : table_of t ≡ table_of r → (k : Key) → IsPlaceOf (table_of r) k place → Settles (computing r) k most_steps (table_of r) (table_of t)
  first-still same = first-settles (λ k p. inr (still-there same w))

  -- the goal became final
  pub first-final : is_final (verdict_at (table_of t) place) ≡ true → (k : Key) → IsPlaceOf (table_of r) k place → Settles (computing r) k most_steps (table_of r) (table_of t)
  first-final g = first-settles (λ k p. inl (ap is_final (place-verdict (table_of t) k place p) ∙ g))

  pub first-on : StaysBesideTable r t → place < length r.goals.table → is_final (verdict_at (table_of t) place) ≡ false → is_some (verdict_at (table_of t) place) ≡ true → StepsOn r t place 1
  first-on x l g some = record { stays = x; below = place-after r t place w l; unsure = g; some = some; done = first-done }

-- Steps of one evaluator are those of one before it, from which all stayed but the table.

steps-before : (r s : Evaluator) → StaysBesideTable r s → (k : Key) (n : ℕ) (T U : GoalTable Via) → Steps (computing s) k n T U → Steps (computing r) k n T U
steps-before r s x k n T U no_step = no_step
steps-before r s x k n T U (one_more {n = m} {U = V} d f w) = one_more (steps-before r s x k m T V d) f (round-before x w)

pub within-before : (r s : Evaluator) → StaysBesideTable r s → (k : Key) (n : ℕ) (T U : GoalTable Via) → StepsWithin (computing s) k n T U → StepsWithin (computing r) k n T U
within-before r s x k n T U h = record { count = h.count; within = h.within; steps = steps-before r s x k h.count T U h.steps }

pub settles-before : (r s : Evaluator) → StaysBesideTable r s → (k : Key) (n : ℕ) (T U : GoalTable Via) → Settles (computing s) k n T U → Settles (computing r) k n T U
settles-before r s x k n T U h = record { done = record { count = h.done.count; within = h.done.within; steps = steps-before r s x k h.done.count T U h.done.steps }; ends = λ l. rest-before x k U (h.ends l) }

place-in-steps : (A : PureFolder Via) (k : Key) (n p : ℕ) (T U : GoalTable Via) → Steps A k n T U → IsPlaceOf T k p → IsPlaceOf U k p
place-in-steps A k n p T U no_step h = h
place-in-steps A k n p T U (one_more {n = m} {U = V} d f w) h = place-in-round k p w (place-in-steps A k m p T V d h)

pub place-in-settled : (A : PureFolder Via) (k : Key) (n p : ℕ) (T U : GoalTable Via) → Settles A k n T U → IsPlaceOf T k p → IsPlaceOf U k p
place-in-settled A k n p T U h q = place-in-steps A k h.done.count p T U h.done.steps q
