-- The goals of an evaluator, found, entered and asked for by their numbers.
use Rattle.std.proofs.Common.{◌≡◌, ℕ, zero, suc, ◌+◌, ◌<◌, ◌≤◌, Bool, true, false, not, cond, List, [], ◌∷◌, ◌++◌, length, map, take, drop, Option, Some, None, refl, sym, ◌∙◌, ap, subst, is_some, if◌then◌else◌, arith}
use Rattle.std.specs.Prelude.{◌||◌}
use Rattle.std.specs.List.{AllByRecursion, IsDistinct, list_any, position_or_len}
use Rattle.std.specs.Map.{keys_of, lookup}
use Rattle.std.specs.HashMap.{HashMap}
use Rattle.std.proofs.lemmas.Map.Made.{is_some-lookup}
use Rattle.std.proofs.lemmas.List.{append-nil, length-append, length-drop, length-map, length-take-le, map_push, take-append-drop}
use Rattle.indexmap.specs.IndexMap.{insert_entry}
use Rattle.indexmap.proofs.CallerLemmas.{insert_entry-new}
use Rattle.candidate_rounds.specs.declared.rounds.goals.GoalKey.{GoalKey}
use Rattle.candidate_rounds.specs.declared.rounds.goals.Slot.{Slot}
use Rattle.candidate_rounds.specs.declared.rounds.writing.Written.{Written}
use Rattle.candidate_rounds.specs.Table.Entries.{AreAsked, all_written_into, GoalEntry, IsNumberedAt, asked_in, new_entry, table_in}
use Rattle.candidate_rounds.specs.Table.Goals.{Goals, is_noted, noting}
use Rattle.candidate_rounds.specs.Table.KeyNumbers.{same_numbers}
use Rattle.candidate_rounds.proofs.Table.Writing.{written-before}

-- The first so many of a list, and those after them.

module _ {A : Type 0} where
  pub taken-all : (xs : List A) → take (length xs) xs ≡ xs
  taken-all [] = refl
  taken-all (x ∷ xs) = ap (λ ys. x ∷ ys) (taken-all xs)

  pub none-after : (xs : List A) → drop (length xs) xs ≡ []
  none-after [] = refl
  none-after (x ∷ xs) = none-after xs

  pub front-of-more : (n : ℕ) (xs ys : List A) → n ≤ length xs → take n (xs ++ ys) ≡ take n xs
  front-of-more zero xs ys l = refl
  front-of-more (suc n) [] ys l = absurd (omega (arith, l))
  front-of-more (suc n) (x ∷ xs) ys l = ap (λ zs. x ∷ zs) (front-of-more n xs ys (omega (arith, l)))

  pub rest-of-more : (n : ℕ) (xs ys : List A) → n ≤ length xs → drop n (xs ++ ys) ≡ drop n xs ++ ys
  rest-of-more zero xs ys l = refl
  rest-of-more (suc n) [] ys l = absurd (omega (arith, l))
  rest-of-more (suc n) (x ∷ xs) ys l = rest-of-more n xs ys (omega (arith, l))

module _ {K X : Type 0} where
  pub front-and-rest : (n : ℕ) (es : List (K × X)) → keys_of (take n es) ++ keys_of (drop n es) ≡ keys_of es
  front-and-rest zero es = refl
  front-and-rest (suc n) [] = refl
  front-and-rest (suc n) (e ∷ es) = ap (λ ks. e.0 ∷ ks) (front-and-rest n es)

  all-before : (P : K → Type 0) (n : ℕ) (es : List (K × X)) → AllByRecursion P (keys_of es) → AllByRecursion P (keys_of (take n es))
  all-before P zero es a = tt
  all-before P (suc n) [] a = tt
  all-before P (suc n) (e ∷ es) a = (a.0, all-before P n es a.1)

  pub distinct-front : (q : K → K → Bool) (n : ℕ) (es : List (K × X)) → IsDistinct q (keys_of es) → IsDistinct q (keys_of (take n es))
  unfolding IsDistinct
  distinct-front q zero es d = tt
  distinct-front q (suc n) [] d = tt
  distinct-front q (suc n) (e ∷ es) d = (all-before (λ y. q e.0 y ≡ false) n es d.0, distinct-front q n es d.1)

  -- none of them passes
  pub none-in-front : (t : K → Bool) (n : ℕ) (es : List (K × X)) → list_any t (keys_of es) ≡ false → list_any t (keys_of (take n es)) ≡ false
  none-in-front t zero es h = refl
  none-in-front t (suc n) [] h = refl
  none-in-front t (suc n) (e ∷ es) h = neither (t e.0) (list_any t (keys_of es)) (list_any t (keys_of (take n es))) (none-in-front t n es) h
    where
      neither : (a b c : Bool) → (b ≡ false → c ≡ false) → a || b ≡ false → a || c ≡ false
      neither true b c f h = h
      neither false b c f h = f h

-- The place of a goal that has the numbers of a key.
module _ (k : GoalKey) where
  first-or-later : (e : GoalEntry) (es : List GoalEntry) (b : Bool) → same_numbers k e.0 ≡ b
      → ((i : ℕ) → position_or_len (same_numbers k) (keys_of es) ≡ i → i < length es → IsNumberedAt k es i)
      → (j : ℕ) → cond (not b) (1 + position_or_len (same_numbers k) (keys_of es)) 0 ≡ j → j < suc (length es) → IsNumberedAt k (e ∷ es) j
  first-or-later e es true q f j p l = subst (IsNumberedAt k (e ∷ es)) p q
  first-or-later e es false q f zero p l = absurd (omega (arith, p))
  first-or-later e es false q f (suc i) p l = (q, f i (omega (arith, p)) (omega (arith, l)))

  pub numbered-at : (es : List GoalEntry) (j : ℕ) → position_or_len (same_numbers k) (keys_of es) ≡ j → j < length es → IsNumberedAt k es j
  numbered-at [] j p l = absurd (omega (arith, l))
  numbered-at (e ∷ es) j p l = first-or-later e es (same_numbers k e.0) refl (numbered-at es) j p l

  pub numbered-in-front : (n : ℕ) (es : List GoalEntry) (j : ℕ) → IsNumberedAt k es j → j < n → IsNumberedAt k (take n es) j
  numbered-in-front zero es j a l = absurd (omega (arith, l))
  numbered-in-front (suc n) [] j a l = a
  numbered-in-front (suc n) (e ∷ es) zero a l = a
  numbered-in-front (suc n) (e ∷ es) (suc j) a l = (a.0, numbered-in-front n es j a.1 (omega (arith, l)))

  pub numbered-behind : (n : ℕ) (es : List GoalEntry) (j : ℕ) → IsNumberedAt k es j → n ≤ j → list_any (same_numbers k) (keys_of (take n es)) ≡ false
  numbered-behind zero es j a l = refl
  numbered-behind (suc n) [] j a l = absurd a
  numbered-behind (suc n) (e ∷ es) zero a l = absurd (omega (arith, l))
  numbered-behind (suc n) (e ∷ es) (suc j) a l = ap (λ b. b || list_any (same_numbers k) (keys_of (take n es))) a.0 ∙ numbered-behind n es j a.1 (omega (arith, l))

-- A goal that is there neither way comes last.

-- what is seen of the entries
abbrev pub seen_of : ℕ → List GoalEntry → Bool → Goals
seen_of n es b = record { table = table_in n es; asked = asked_in n es; asks = b }

module _ (n : ℕ) (es : List GoalEntry) (b : Bool) (k : GoalKey) where
  pub noted-is : is_noted (seen_of n es b) k ≡ is_some (lookup (same_numbers k) es)
  noted-is = ap (list_any (same_numbers k)) (front-and-rest n es) ∙ sym (is_some-lookup (same_numbers k) es)

  pub noted-already : is_some (lookup (same_numbers k) es) ≡ true → seen_of n es b ≡ noting (seen_of n es b) k
  noted-already h = let g = seen_of n es b in ap (λ (y : Bool). record g { asked = if y then g.asked else g.asked ++ k ∷ [] }) (sym (noted-is ∙ h))

  module _ (l : n ≤ length es) where
    asked-more : asked_in n (es ++ new_entry k ∷ []) ≡ asked_in n es ++ k ∷ []
    asked-more = ap keys_of (rest-of-more n es (new_entry k ∷ []) l) ∙ map_push (λ (e : GoalEntry). e.0) (drop n es) (new_entry k)

    pub noted-last : is_some (lookup (same_numbers k) es) ≡ false → seen_of n (es ++ new_entry k ∷ []) b ≡ noting (seen_of n es b) k
    noted-last h =
        let g = seen_of n es b in
        (λ i. record { table = front-of-more n es (new_entry k ∷ []) l i; asked = asked-more i; asks = b })
        ∙ ap (λ (y : Bool). record g { asked = if y then g.asked else g.asked ++ k ∷ [] }) (sym (noted-is ∙ h))

    pub as-many : length es ≡ length (table_in n es) + length (asked_in n es)
    as-many = let one = length-take-le n es l in let two = length-drop n es in let three = length-map (drop n es) (λ (e : GoalEntry). e.0) in omega (arith, l, one, two, three)

    pub asked-stay : AreAsked n es → AreAsked n (es ++ new_entry k ∷ [])
    asked-stay a = record {
      enough = let more = length-append es (new_entry k ∷ []) in omega (arith, l, more);
      unknown =
          rest-of-more n es (new_entry k ∷ []) l
          ∙ (ap (λ xs. xs ++ new_entry k ∷ []) a.unknown ∙ (sym (map_push new_entry (asked_in n es) k) ∙ ap (map new_entry) (sym asked-more)));
    }

-- the entries after a goal was put in
pub put-last : {S : Type 0} (m : HashMap GoalKey Slot S) (k : GoalKey) (s : Slot) (es : List GoalEntry) → es ≡ insert_entry same_numbers m.entries k s → is_some (lookup (same_numbers k) m.entries) ≡ false
    → es ≡ m.entries ++ (k, s) ∷ []
put-last m k s es e h = e ∙ insert_entry-new same_numbers m k s (none-of (lookup (same_numbers k) m.entries) h)
  where
    none-of : {X : Type 0} (o : Option X) → is_some o ≡ false → o ≡ None
    none-of None h = refl
    none-of (Some x) h = absurd cc

-- Where nothing was asked for, a goal that is entered is the last of the table.
module _ (n : ℕ) (es : List GoalEntry) (b : Bool) (k : GoalKey) (a : AreAsked n es) where
  none-left : asked_in n es ≡ [] → drop n es ≡ []
  none-left h = a.unknown ∙ ap (map new_entry) h

  pub all-there : asked_in n es ≡ [] → table_in n es ≡ es
  all-there h = sym (append-nil (take n es)) ∙ (ap (λ xs. take n es ++ xs) (sym (none-left h)) ∙ take-append-drop n es)

  pub still-all : asked_in n es ≡ [] → list_any (same_numbers k) (keys_of (table_in n es)) ≡ false → is_some (lookup (same_numbers k) es) ≡ false
  still-all h m = is_some-lookup (same_numbers k) es ∙ (ap (λ xs. list_any (same_numbers k) (keys_of xs)) (sym (all-there h)) ∙ m)

  pub entered-last : (s : Slot) (m : ℕ) → m ≡ length (es ++ (k, s) ∷ []) → asked_in n es ≡ [] → seen_of m (es ++ (k, s) ∷ []) b ≡ record (seen_of n es b) { table = table_in n es ++ (k, s) ∷ [] }
  entered-last s m e h =
      let more = es ++ (k, s) ∷ [] in
      λ i. record {
        table = (ap (λ j. take j more) e ∙ (taken-all more ∙ ap (λ xs. xs ++ (k, s) ∷ []) (sym (all-there h)))) i;
        asked = (ap (λ j. keys_of (drop j more)) e ∙ (ap keys_of (none-after more) ∙ sym h)) i;
        asks = b;
      }

-- no goal is asked for, where there are no more than those of the table
pub all-counted : (n : ℕ) (es : List GoalEntry) → n ≡ length es → AreAsked n es
all-counted n es e = subst (λ m. AreAsked m es) (sym e) (record { enough = omega arith; unknown = none-after es ∙ sym (ap (λ xs. map new_entry (keys_of xs)) (none-after es)) })

-- What a round has is written into the table, and what was asked for is there, too.
module _ (n : ℕ) (es : List GoalEntry) (ws : List (Option Written)) (a : AreAsked n es) (e : length ws ≡ length (table_in n es)) where
  pub written-all : (m : ℕ) (us : List GoalEntry) (b : Bool) → us ≡ all_written_into es ws → m ≡ length us
      → seen_of m us b ≡ record { table = all_written_into (table_in n es) ws ++ map new_entry (asked_in n es); asked = []; asks = b }
  written-all m us b u l =
      let before = written-before n es ws a.enough (e ∙ length-take-le n es a.enough) in
      λ i. record {
        table = (ap (λ j. take j us) l ∙ (taken-all us ∙ (u ∙ (before ∙ ap (λ xs. all_written_into (take n es) ws ++ xs) a.unknown)))) i;
        asked = (ap (λ j. keys_of (drop j us)) l ∙ ap keys_of (none-after us)) i;
        asks = b;
      }
