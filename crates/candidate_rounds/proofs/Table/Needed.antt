-- What is needed of the steps that were found: those up to a goal's, which of them that one rests on, and what is left of them.
use Rattle.std.proofs.Common.{◌≡◌, ◌<◌, ◌≤◌, ◌⊎◌, inl, inr, ◌+◌, ◌-◌, ℕ, zero, suc, Bool, true, false, ◌&&◌, nat_eq, nat_lt, Some, None, List, [], ◌∷◌, ◌++◌, length, set, take, slice_get, if◌then◌else◌, refl, sym, ◌∙◌, ap, subst, arith}
use Rattle.std.specs.List.{Contains, filter_map}
use Rattle.std.specs.Cmp.{unsigned_Decides}
use Rattle.std.specs.Cmp.Lexicographic.{pointwise}
use Rattle.std.proofs.lemmas.Bool.{ltb-false, ltb-true, lt-ltb}
use Rattle.std.proofs.lemmas.List.{length-append, length-set}
use Rattle.std.proofs.lemmas.List.Sums.{count_by_more_no, count_by_more_yes}
use Rattle.std.proofs.lemmas.Option.{slice_get_past, slice_get_within}
use Rattle.ir_trees.specs.Syntax.Trees.{Tree}
use Rattle.candidate_eval.specs.contracts.eval.variable.CanonicalVarPartialEq.TheImpl as variable
use Rattle.candidate_eval.specs.declared.eval.response.CanonicalResponse.{CanonicalResponse}
use Rattle.candidate_eval.specs.Outcomes.ResponseTrees.{response_of}
use Rattle.rounds_judge.specs.Table.GoalTable.{Entry, GoalTable, verdict_in}
use Rattle.rounds_judge.specs.Table.Keys.{Key}
use Rattle.rounds_judge.specs.Table.Verdicts as J
use Rattle.rounds_judge.proofs.Table.TableKeys.{key_is, variables_are}
use Rattle.candidate_rounds.specs.declared.rounds.derivation.DerivationStep.{DerivationStep}
use Rattle.candidate_rounds.specs.declared.rounds.goals.GoalKey.{GoalKey}
use Rattle.candidate_rounds.specs.Table.Entries.{GoalEntry}
use Rattle.candidate_rounds.specs.Table.Goals.{Each, Via, goal_seen, key_seen, table_seen}
use Rattle.candidate_rounds.specs.Table.KeyNumbers.{same_numbers}
use Rattle.candidate_rounds.specs.Table.Running.{IsPlaceOf}
use Rattle.candidate_rounds.specs.Table.Steps.{AreMarks, AreNeeded, EndsAtPlace, IsKeyCopy, IsLeftOf, IsMoved, IsOfGoal, IsStep, IsStepFor, IsUpTo, IsYesAt, is_marked, marked_before, names_left, with_mark, with_marks}
use Rattle.candidate_rounds.proofs.Table.Finding.{both, copy-sees, get-same, variables-themselves}
use Rattle.candidate_rounds.proofs.Table.Running.{get-there, take-all}
use Rattle.candidate_rounds.proofs.Table.Steps.{each-take, kept-push, take-more}

-- Keys with the same numbers.

both-of : (a b : Bool) → (a && b) ≡ true → (a ≡ true) × (b ≡ true)
both-of true b e = (refl, e)
both-of false b e = absurd cc

module _ (k m : GoalKey) where
  pub copy-of-numbers : same_numbers m k ≡ true → IsKeyCopy k m
  copy-of-numbers e =
      let p = both-of (nat_eq m.goal.predicate.0 k.goal.predicate.0) _ e in
      let q = both-of (nat_eq m.goal.param_env.0 k.goal.param_env.0) _ p.1 in
      let predicate = (unsigned_Decides m.goal.predicate.0 k.goal.predicate.0).0 p.0 in
      let env = (unsigned_Decides m.goal.param_env.0 k.goal.param_env.0).0 q.0 in
      record { goal = λ i. record { param_env = record { 0 = env i }; predicate = record { 0 = predicate i } }; variables = variables_are m.variables.items k.variables.items q.1 }

  pub numbers-of-copy : IsKeyCopy k m → same_numbers m k ≡ true
  numbers-of-copy h =
      both (nat_eq m.goal.predicate.0 k.goal.predicate.0) _ ((unsigned_Decides m.goal.predicate.0 k.goal.predicate.0).1 (λ i. (h.goal i).predicate.0))
      (both (nat_eq m.goal.param_env.0 k.goal.param_env.0) _ ((unsigned_Decides m.goal.param_env.0 k.goal.param_env.0).1 (λ i. (h.goal i).param_env.0))
      (subst (λ vs. pointwise variable.eq-value.it m.variables.items vs ≡ true) h.variables (variables-themselves m.variables.items)))

pub copy-is-seen : (ts : List Tree) (k m : GoalKey) → IsKeyCopy k m → key_seen ts m ≡ key_seen ts k
copy-is-seen ts k m h = λ i. record { goal = goal_seen ts (h.goal i); variables = h.variables i }

-- a copy of what is for a goal is for it
pub for-of-copy : (k : GoalKey) (r : CanonicalResponse) (s t : DerivationStep) → IsStepFor k r s → IsStepFor s.key s.response t → IsStepFor k r t
for-of-copy k r s t h i = record {
  key = record { goal = i.key.goal ∙ h.key.goal; variables = i.key.variables ∙ h.key.variables };
  response = record {
    vars = i.response.vars ∙ h.response.vars;
    values = i.response.values ∙ h.response.values;
    regions = i.response.regions ∙ h.response.regions;
    certainty = i.response.certainty ∙ h.response.certainty;
  };
}

-- Up to a goal's step.

-- none of the first so many steps is for the goal
abbrev pub NoneBefore : List DerivationStep → GoalKey → CanonicalResponse → ℕ → Type 0
NoneBefore ss k r i = (n : ℕ) (s : DerivationStep) → n < i → slice_get ss n ≡ Some s → IsStepFor k r s → ⊥

pub none-before-first : (ss : List DerivationStep) (k : GoalKey) (r : CanonicalResponse) → NoneBefore ss k r 0
none-before-first ss k r n s l = absurd (omega (arith, l))

either-of : (n i : ℕ) → n < i + 1 → (n < i) ⊎ (n ≡ i)
either-of n i l = at (nat_lt n i) refl
  where
    at : (b : Bool) → nat_lt n i ≡ b → (n < i) ⊎ (n ≡ i)
    at true e = inl (ltb-true n i e)
    at false e = let g = ltb-false n i e in inr (omega (arith, g, l))

pub none-before-next : (ss : List DerivationStep) (k : GoalKey) (r : CanonicalResponse) (i : ℕ) (x : DerivationStep) → slice_get ss i ≡ Some x → (IsStepFor k r x → ⊥) → NoneBefore ss k r i → NoneBefore ss k r (i + 1)
none-before-next ss k r i x e other h n s l g f = at (either-of n i l)
  where
    at : (n < i) ⊎ (n ≡ i) → ⊥
    at (inl b) = h n s b g f
    at (inr q) = other (subst (IsStepFor k r) (get-same ss i s x (subst (λ m. slice_get ss m ≡ Some s) q g) e) f)

pub none-before-all : (ss : List DerivationStep) (k : GoalKey) (r : CanonicalResponse) (i : ℕ) → length ss ≤ i → NoneBefore ss k r i → (n : ℕ) (s : DerivationStep) → slice_get ss n ≡ Some s → IsStepFor k r s → ⊥
none-before-all ss k r i l h n s g f = let b = slice_get_within ss n s g in h n s (omega (arith, b, l)) g f

pub up-to-fits : (ts : List Tree) (ss : List DerivationStep) (k : GoalKey) (r : CanonicalResponse) (us : List DerivationStep) → IsUpTo ss k r us → Each (IsStep ts) ss → Each (IsStep ts) us
up-to-fits ts ss k r us h i = subst (Each (IsStep ts)) (sym h.is) (each-take (IsStep ts) ss (h.place + 1) i)

-- Marks.

set-there : (ms : List Bool) (n : ℕ) → n < length ms → is_marked (set ms n true) n ≡ true
set-there [] n l = absurd (omega (arith, l))
set-there (m ∷ ms) zero l = refl
set-there (m ∷ ms) (suc n) l = set-there ms n (omega (arith, l))

set-keeps : (ms : List Bool) (x n : ℕ) → is_marked ms n ≡ true → is_marked (set ms x true) n ≡ true
set-keeps [] x n e = e
set-keeps (m ∷ ms) zero zero e = refl
set-keeps (m ∷ ms) zero (suc n) e = e
set-keeps (m ∷ ms) (suc x) zero e = e
set-keeps (m ∷ ms) (suc x) (suc n) e = set-keeps ms x n e

set-others : (ms : List Bool) (x n : ℕ) → x < n → is_marked (set ms x true) n ≡ true → is_marked ms n ≡ true
set-others [] x n l e = e
set-others (m ∷ ms) zero zero l e = absurd (omega (arith, l))
set-others (m ∷ ms) zero (suc n) l e = e
set-others (m ∷ ms) (suc x) zero l e = absurd (omega (arith, l))
set-others (m ∷ ms) (suc x) (suc n) l e = set-others ms x n (omega (arith, l)) e

module _ (bound : ℕ) where
  abbrev one_mark : List Bool → ℕ → List Bool
  one_mark ms x = with_mark ms x bound

  one-many : (ms : List Bool) (x : ℕ) → length (one_mark ms x) ≡ length ms
  one-many ms x = at (nat_lt x bound)
    where
      at : (b : Bool) → length (if b then set ms x true else ms) ≡ length ms
      at true = length-set ms x true
      at false = refl

  one-keeps : (ms : List Bool) (x n : ℕ) → is_marked ms n ≡ true → is_marked (one_mark ms x) n ≡ true
  one-keeps ms x n e = at (nat_lt x bound)
    where
      at : (b : Bool) → is_marked (if b then set ms x true else ms) n ≡ true
      at true = set-keeps ms x n e
      at false = e

  one-others : (ms : List Bool) (x n : ℕ) → bound ≤ n → is_marked (one_mark ms x) n ≡ true → is_marked ms n ≡ true
  one-others ms x n l = at (nat_lt x bound) refl
    where
      at : (b : Bool) → nat_lt x bound ≡ b → is_marked (if b then set ms x true else ms) n ≡ true → is_marked ms n ≡ true
      at true q e = let g = ltb-true x bound q in set-others ms x n (omega (arith, g, l)) e
      at false q e = e

  one-there : (ms : List Bool) (x : ℕ) → x < bound → x < length ms → is_marked (one_mark ms x) x ≡ true
  one-there ms x l m = ap (λ b. is_marked (if b then set ms x true else ms) x) (lt-ltb x bound l) ∙ set-there ms x m

  pub marks-many : (ms : List Bool) (xs : List ℕ) → length (with_marks ms xs bound) ≡ length ms
  marks-many ms [] = refl
  marks-many ms (x ∷ xs) = marks-many (one_mark ms x) xs ∙ one-many ms x

  marks-keep : (ms : List Bool) (xs : List ℕ) (n : ℕ) → is_marked ms n ≡ true → is_marked (with_marks ms xs bound) n ≡ true
  marks-keep ms [] n e = e
  marks-keep ms (x ∷ xs) n e = marks-keep (one_mark ms x) xs n (one-keeps ms x n e)

  marks-others : (ms : List Bool) (xs : List ℕ) (n : ℕ) → bound ≤ n → is_marked (with_marks ms xs bound) n ≡ true → is_marked ms n ≡ true
  marks-others ms [] n l e = e
  marks-others ms (x ∷ xs) n l e = one-others ms x n l (marks-others (one_mark ms x) xs n l e)

  marks-there : (ms : List Bool) (xs : List ℕ) (i n : ℕ) → slice_get xs i ≡ Some n → n < bound → n < length ms → is_marked (with_marks ms xs bound) n ≡ true
  marks-there ms [] i n g l m = absurd cc
  marks-there ms (x ∷ xs) zero n g l m = let q : x ≡ n = cc in marks-keep (one_mark ms x) xs n (subst (λ y. is_marked (one_mark ms y) n ≡ true) (sym q) (one-there ms n l m))
  marks-there ms (x ∷ xs) (suc i) n g l m = let e = one-many ms x in marks-there (one_mark ms x) xs i n g l (omega (arith, e, m))

-- What is marked once the steps from the last on have been looked at, so many of them.
pub record MarkedDown (ss : List DerivationStep) (ms : List Bool) (back : ℕ) : Type 0 where
  pub many : length ms ≡ length ss
  pub last : (n : ℕ) → n + 1 ≡ length ss → is_marked ms n ≡ true
  pub named : (n m : ℕ) (s : DerivationStep) → length ss ≤ n + back → slice_get ss n ≡ Some s → is_marked ms n ≡ true → Contains s.nested.items m → m < n → is_marked ms m ≡ true

pub last-marked : (ss : List DerivationStep) (ms : List Bool) (n : ℕ) → length ms ≡ length ss → n ≡ length ss - 1 → MarkedDown ss (set ms n true) 0
last-marked ss ms n many e = record {
  many = length-set ms n true ∙ many;
  last = λ k l. let q : k ≡ n = omega (arith, l, e) in subst (λ m. is_marked (set ms n true) m ≡ true) (sym q) (set-there ms n (omega (arith, l, e, many)));
  named = λ k m s l g. let b = slice_get_within ss k s g in absurd (omega (arith, l, b));
}

module _ (ss : List DerivationStep) (ms : List Bool) (back place : ℕ) (below : back < length ss) (is : place ≡ length ss - 1 - back) (h : MarkedDown ss ms back) where
  from-here : (n : ℕ) → length ss ≤ n + (back + 1) → (length ss ≤ n + back) ⊎ (n ≡ place)
  from-here n l = at (nat_lt (n + back) (length ss)) refl
    where
      at : (b : Bool) → nat_lt (n + back) (length ss) ≡ b → (length ss ≤ n + back) ⊎ (n ≡ place)
      at true e = let g = ltb-true (n + back) (length ss) e in inr (omega (arith, g, l, is))
      at false e = inl (ltb-false (n + back) (length ss) e)

  pub unmarked-more : is_marked ms place ≡ false → MarkedDown ss ms (back + 1)
  unmarked-more unmarked = record {
    many = h.many;
    last = h.last;
    named = λ n m s l g e c b. at n m s g e c b (from-here n l);
  }
    where
      at : (n m : ℕ) (s : DerivationStep) → slice_get ss n ≡ Some s → is_marked ms n ≡ true → Contains s.nested.items m → m < n → (length ss ≤ n + back) ⊎ (n ≡ place) → is_marked ms m ≡ true
      at n m s g e c b (inl l) = h.named n m s l g e c b
      at n m s g e c b (inr q) = let p : true ≡ false = sym e ∙ (ap (is_marked ms) q ∙ unmarked) in absurd cc

  module _ (x : DerivationStep) (there : slice_get ss place ≡ Some x) where
    pub marked-more : MarkedDown ss (with_marks ms x.nested.items place) (back + 1)
    marked-more = record {
      many = marks-many place ms x.nested.items ∙ h.many;
      last = λ n l. marks-keep place ms x.nested.items n (h.last n l);
      named = λ n m s l g e c b. at n m s g e c b (from-here n l);
    }
      where
        at : (n m : ℕ) (s : DerivationStep) → slice_get ss n ≡ Some s → is_marked (with_marks ms x.nested.items place) n ≡ true → Contains s.nested.items m → m < n → (length ss ≤ n + back) ⊎ (n ≡ place)
            → is_marked (with_marks ms x.nested.items place) m ≡ true
        at n m s g e c b (inl l) = marks-keep place ms x.nested.items m (h.named n m s l g (marks-others place ms x.nested.items n (omega (arith, l, is, below)) e) c b)
        at n m s g e c b (inr q) =
            let same : s ≡ x = get-same ss place s x (subst (λ y. slice_get ss y ≡ Some s) q g) there in
            let d = subst (λ (y : DerivationStep). Contains y.nested.items m) same c in
            let many = h.many in
            marks-there place ms x.nested.items d.0 m (get-there x.nested.items d.0 m d.1 (sym d.2)) (omega (arith, q, b)) (omega (arith, q, b, is, below, many))

pub all-marked : (ss : List DerivationStep) (ms : List Bool) (back : ℕ) → length ss ≤ back → MarkedDown ss ms back → AreMarks ss ms
all-marked ss ms back l h = record { many = h.many; last = h.last; named = λ n m s. h.named n m s (omega (arith, l)) }

-- What is left.

get-more : {A : Type 0} (xs ys : List A) (n : ℕ) (x : A) → slice_get xs n ≡ Some x → slice_get (xs ++ ys) n ≡ Some x
get-more [] ys n x e = absurd cc
get-more (y ∷ xs) ys zero x e = e
get-more (y ∷ xs) ys (suc n) x e = get-more xs ys n x e

get-last : {A : Type 0} (xs : List A) (x : A) → slice_get (xs ++ x ∷ []) (length xs) ≡ Some x
get-last [] x = refl
get-last (y ∷ xs) x = get-last xs x

-- the last of a list
split-last : {A : Type 0} (xs : List A) (n : ℕ) (x : A) → slice_get xs n ≡ Some x → length xs ≡ n + 1 → xs ≡ take n xs ++ x ∷ []
split-last xs n x e many = sym (take-all xs (n + 1) (omega (arith, many))) ∙ take-more xs n x e

-- What is left of the first so many steps, and the places that they have then.
pub record LeftSoFar (ss : List DerivationStep) (ms : List Bool) (us : List DerivationStep) (places : List ℕ) (i : ℕ) : Type 0 where
  pub are : (ts : List Tree) → Each (IsStep ts) ss → Each (IsStep ts) us
  pub many : length us ≡ marked_before ms i
  pub left : (n : ℕ) (s : DerivationStep) → n < i → slice_get ss n ≡ Some s → is_marked ms n ≡ true → IsLeftOf ms us n s
  pub numbered : length places ≡ i
  pub placed : (m : ℕ) → m < i → slice_get places m ≡ Some (marked_before ms m)

pub none-left : (ss : List DerivationStep) (ms : List Bool) → LeftSoFar ss ms [] [] 0
none-left ss ms = record { are = λ ts h. tt; many = refl; left = λ n s l. absurd (omega (arith, l)); numbered = refl; placed = λ m l. absurd (omega (arith, l)) }

module _ (ss : List DerivationStep) (ms : List Bool) (us : List DerivationStep) (places : List ℕ) (i : ℕ) (within : i < length ms) (h : LeftSoFar ss ms us places i) where
  place-of : (m : ℕ) → slice_get places m ≡ (if nat_lt m i then Some (marked_before ms m) else None)
  place-of m = at (nat_lt m i) refl
    where
      at : (b : Bool) → nat_lt m i ≡ b → slice_get places m ≡ (if b then Some (marked_before ms m) else None)
      at true e = h.placed m (ltb-true m i e)
      at false e = let g = ltb-false m i e in let q = h.numbered in slice_get_past places m (omega (arith, g, q))

  names-are : (names : List ℕ) → filter_map (slice_get places) names ≡ names_left ms i names
  names-are names = λ j. filter_map (λ m. place-of m j) names

  placed-more : (m : ℕ) → m < i + 1 → slice_get (places ++ length us ∷ []) m ≡ Some (marked_before ms m)
  placed-more m l = at (either-of m i l)
    where
      at : (m < i) ⊎ (m ≡ i) → slice_get (places ++ length us ∷ []) m ≡ Some (marked_before ms m)
      at (inl b) = get-more places (length us ∷ []) m (marked_before ms m) (h.placed m b)
      at (inr q) = ap (slice_get (places ++ length us ∷ [])) (q ∙ sym h.numbered) ∙ (get-last places (length us) ∙ ap Some (h.many ∙ ap (marked_before ms) (sym q)))

  left-more : (t : DerivationStep) (n : ℕ) (s : DerivationStep) → IsLeftOf ms us n s → IsLeftOf ms (us ++ t ∷ []) n s
  left-more t n s l = record { step = l.step; there = get-more us (t ∷ []) (marked_before ms n) l.step l.there; moved = l.moved }

  pub one-unmarked : is_marked ms i ≡ false → LeftSoFar ss ms us (places ++ length us ∷ []) (i + 1)
  one-unmarked unmarked = record {
    are = h.are;
    many = h.many ∙ sym (count_by_more_no (λ (m : Bool). m) ms i false within unmarked);
    left = λ n s l g e. at n s g e (either-of n i l);
    numbered = length-append places (length us ∷ []) ∙ ap (λ n. n + 1) h.numbered;
    placed = placed-more;
  }
    where
      at : (n : ℕ) (s : DerivationStep) → slice_get ss n ≡ Some s → is_marked ms n ≡ true → (n < i) ⊎ (n ≡ i) → IsLeftOf ms us n s
      at n s g e (inl b) = h.left n s b g e
      at n s g e (inr q) = let p : true ≡ false = sym e ∙ (ap (is_marked ms) q ∙ unmarked) in absurd cc

  pub one-marked : (x t : DerivationStep) → slice_get ss i ≡ Some x → is_marked ms i ≡ true → ((ts : List Tree) → IsStep ts x → IsStep ts t) → IsMoved x (filter_map (slice_get places) x.nested.items) t
      → LeftSoFar ss ms (us ++ t ∷ []) (places ++ length us ∷ []) (i + 1)
  one-marked x t there has fits moved = record {
    are = kept-push ss us x t i there fits h.are;
    many = length-append us (t ∷ []) ∙ (ap (λ n. n + 1) h.many ∙ sym (count_by_more_yes (λ (m : Bool). m) ms i false within has));
    left = λ n s l g e. at n s g e (either-of n i l);
    numbered = length-append places (length us ∷ []) ∙ ap (λ n. n + 1) h.numbered;
    placed = placed-more;
  }
    where
      here : IsLeftOf ms (us ++ t ∷ []) i x
      here = record {
        step = t;
        there = ap (slice_get (us ++ t ∷ [])) (sym h.many) ∙ get-last us t;
        moved = record { is_for = moved.is_for; source = moved.source; names = moved.names ∙ names-are x.nested.items };
      }

      at : (n : ℕ) (s : DerivationStep) → slice_get ss n ≡ Some s → is_marked ms n ≡ true → (n < i) ⊎ (n ≡ i) → IsLeftOf ms (us ++ t ∷ []) n s
      at n s g e (inl b) = left-more t n s (h.left n s b g e)
      at n s g e (inr q) =
          let same : x ≡ s = get-same ss i x s there (subst (λ m. slice_get ss m ≡ Some s) q g) in
          subst (λ (p : ℕ × DerivationStep). IsLeftOf ms (us ++ t ∷ []) p.0 p.1) (λ j. (sym q j, same j)) here

pub all-left : (ss : List DerivationStep) (ms : List Bool) (us : List DerivationStep) (places : List ℕ) (i : ℕ) → i ≡ length ss → AreMarks ss ms → LeftSoFar ss ms us places i → AreNeeded ss us
all-left ss ms us places i e marks h = record {
  marks = ms;
  are_marks = marks;
  left = record {
    many = h.many ∙ ap (marked_before ms) e;
    left = λ n s g m. let b = slice_get_within ss n s g in h.left n s (omega (arith, b, e)) g m;
  };
}

-- The last step is that of the goal.

module _ (ts : List Tree) (es : List GoalEntry) (place : ℕ) (k : GoalKey) (r : CanonicalResponse) (ss vs us : List DerivationStep) (yes : IsYesAt ts (table_seen ts es) place (key_seen ts k) r) (up : IsUpTo ss k r vs)
    (need : AreNeeded vs us) where
  abbrev front : List DerivationStep
  front = take up.place ss

  cut : vs ≡ front ++ up.step ∷ []
  cut = up.is ∙ take-more ss up.place up.step up.there

  many : length vs ≡ length front + 1
  many = ap length cut ∙ length-append front (up.step ∷ [])

  there : slice_get vs (length front) ≡ Some up.step
  there = ap (λ xs. slice_get xs (length front)) cut ∙ get-last front up.step

  marked : is_marked need.marks (length front) ≡ true
  marked = need.are_marks.last (length front) (sym many)

  abbrev last_left : IsLeftOf need.marks us (length front) up.step
  last_left = need.left.left (length front) up.step there marked

  left-many : length us ≡ marked_before need.marks (length front) + 1
  left-many =
      let a = need.are_marks.many in
      let b = many in
      need.left.many ∙ (ap (marked_before need.marks) many ∙ count_by_more_yes (λ (m : Bool). m) need.marks (length front) false (omega (arith, a, b)) marked)

  pub ends-at-place : EndsAtPlace ts es place us
  ends-at-place =
      let t = last_left.step in
      let is = for-of-copy k r up.step t up.is_for last_left.moved.is_for in
      record {
        before = take (marked_before need.marks (length front)) us;
        step = t;
        last = split-last us (marked_before need.marks (length front)) t last_left.there left-many;
        yes = record {
          way = yes.way;
          entry = yes.entry ∙ (λ i. Some (record { key = sym (copy-is-seen ts k t.key is.key) i; verdict = Some (J.Yes (sym (copy-sees ts r t.response is.response) i) yes.way) }));
        };
      }

-- What a table says at a goal's place is what it says of the goal.
place-says : (T : GoalTable Via) (k : Key) (n : ℕ) (e : Entry Via) → IsPlaceOf T k n → slice_get T n ≡ Some e → (e.key ≡ k) × (verdict_in T k ≡ e.verdict)
place-says [] k n e h g = absurd h
place-says (x ∷ T) k zero e h g =
    let q : x ≡ e = cc in
    (ap (λ (y : Entry Via). y.key) (sym q) ∙ key_is x.key k h, ap (λ b. if b then x.verdict else verdict_in T k) h ∙ ap (λ (y : Entry Via). y.verdict) q)
place-says (x ∷ T) k (suc n) e h g =
    let p = place-says T k n e h.1 g in
    (p.0, ap (λ b. if b then x.verdict else verdict_in T k) h.0 ∙ p.1)

pub ends-of-goal : (ts : List Tree) (es : List GoalEntry) (T : GoalTable Via) (place : ℕ) (k : Key) (ss : List DerivationStep) → table_seen ts es ≡ T → IsPlaceOf T k place → EndsAtPlace ts es place ss → IsOfGoal ts T k ss
ends-of-goal ts es T place k ss same at h =
    let e : Entry Via = record { key = key_seen ts h.step.key; verdict = Some (J.Yes (response_of ts h.step.response) h.yes.way) } in
    let p = place-says T k place e at (ap (λ x. slice_get x place) (sym same) ∙ h.yes.entry) in
    record { before = h.before; step = h.step; last = h.last; key = p.0; way = h.yes.way; yes = p.1 }
