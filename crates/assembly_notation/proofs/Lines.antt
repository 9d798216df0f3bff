-- How many elements of a list pass a test from the front on.
use Rattle.std.proofs.Common.{◌≡◌, ◌+◌, ◌<◌, ◌≤◌, ℕ, zero, suc, Bool, true, false, cond, List, [], ◌∷◌, ◌++◌, length, drop, get_or, not, true≢false, arith, refl, sym, ◌∙◌, ap}
use Rattle.std.specs.List.{prefix_len}
use Rattle.std.specs.Prelude.{◌==◌, ◌&&◌, ◌||◌, ◌^◌}
use Rattle.std.specs.Char.{is_ascii_digit}
use Rattle.std.specs.Fmt.{decimal}
use Rattle.std.specs.Str.{all_ascii_digits}
use Rattle.std.proofs.lemmas.Bool.{eqb-true}
use Rattle.std.proofs.lemmas.List.Sums.{sum_by-append}
use Rattle.std.proofs.lemmas.Fmt.{digits_decimal}
use Rattle.std.proofs.lemmas.Str.Parse.{numerals_by_value, tells_all_ascii_digits}
use Rattle.assembly_notation.specs.Lines.{is_blank, is_no_blank, is_space}
use Rattle.assembly_notation.specs.Spelling.{spaces}

-- from one that passes, one more; from one that doesn't, none
head-passes : (p : ℕ → Bool) (xs : List ℕ) (i d : ℕ) → i < length xs → p (get_or xs i d) ≡ true → prefix_len p (drop i xs) ≡ 1 + prefix_len p (drop (suc i) xs)
head-passes p [] i d l e = absurd (omega (arith, l))
head-passes p (x ∷ xs) zero d l e = ap (λ v. cond v (1 + prefix_len p xs) 0) e
head-passes p (x ∷ xs) (suc i) d l e = let m : i < length xs = omega (arith, l) in head-passes p xs i d m e

head-fails : (p : ℕ → Bool) (xs : List ℕ) (i d : ℕ) → i < length xs → p (get_or xs i d) ≡ false → prefix_len p (drop i xs) ≡ 0
head-fails p [] i d l e = absurd (omega (arith, l))
head-fails p (x ∷ xs) zero d l e = ap (λ v. cond v (1 + prefix_len p xs) 0) e
head-fails p (x ∷ xs) (suc i) d l e = let m : i < length xs = omega (arith, l) in head-fails p xs i d m e

at-end : (p : ℕ → Bool) (xs : List ℕ) (i : ℕ) → length xs ≤ i → prefix_len p (drop i xs) ≡ 0
at-end p [] zero l = refl
at-end p [] (suc i) l = refl
at-end p (x ∷ xs) zero l = absurd (omega (arith, l))
at-end p (x ∷ xs) (suc i) l = let m : length xs ≤ i = omega (arith, l) in at-end p xs i m

-- So many pass, and then those that pass behind them.

pub prefix-more : (p : ℕ → Bool) (xs : List ℕ) (i d : ℕ) → i < length xs → p (get_or xs i d) ≡ true → prefix_len p xs ≡ i + prefix_len p (drop i xs) → prefix_len p xs ≡ (i + 1) + prefix_len p (drop (i + 1) xs)
prefix-more p xs i d l e h =
    let next : suc i ≡ i + 1 = omega arith in
    let more : prefix_len p (drop i xs) ≡ 1 + prefix_len p (drop (i + 1) xs) = head-passes p xs i d l e ∙ ap (λ k. 1 + prefix_len p (drop k xs)) next in
    omega (arith, h, more)

pub prefix-ends : (p : ℕ → Bool) (xs : List ℕ) (i d : ℕ) → i < length xs → p (get_or xs i d) ≡ false → prefix_len p xs ≡ i + prefix_len p (drop i xs) → i ≡ prefix_len p xs
prefix-ends p xs i d l e h = omega (arith, h, head-fails p xs i d l e)

pub prefix-all : (p : ℕ → Bool) (xs : List ℕ) (i : ℕ) → length xs ≤ i → prefix_len p xs ≡ i + prefix_len p (drop i xs) → i ≡ prefix_len p xs
prefix-all p xs i l h = omega (arith, h, at-end p xs i l)

pub spaces-append : (xs ys : List ℕ) → spaces (xs ++ ys) ≡ spaces xs + spaces ys
spaces-append xs ys = sum_by-append (λ x. cond (is_space x) 1 0) xs ys

other-byte : (x : ℕ) (xs : List ℕ) → is_space x ≡ false → spaces (x ∷ xs) ≡ spaces xs
other-byte x xs e =
    let a : spaces (x ∷ xs) ≡ spaces (x ∷ []) + spaces xs = spaces-append (x ∷ []) xs in
    let b : spaces (x ∷ []) ≡ 0 = ap (λ v. 0 + cond v 1 0) e in
    omega (arith, a, b)

and-right : (a b : Bool) → a && b ≡ true → b ≡ true
and-right true b e = e
and-right false b e = absurd (true≢false (sym e))

neither-left : (a b : Bool) → a || b ≡ false → a ≡ false
neither-left true b e = absurd (true≢false e)
neither-left false b e = refl

no-blank-no-space : (x : ℕ) → is_blank x ≡ false → is_space x ≡ false
no-blank-no-space x e = neither-left (x == 32) (x == 9) e

-- All of a text stands before its first blank, so it has no space.
pub word-spaces : (xs : List ℕ) → prefix_len is_no_blank xs ≡ length xs → spaces xs ≡ 0
word-spaces [] e = refl
word-spaces (x ∷ xs) e = at (is_blank x) refl (word-spaces xs)
  where
    at : (b : Bool) → is_blank x ≡ b → (prefix_len is_no_blank xs ≡ length xs → spaces xs ≡ 0) → spaces (x ∷ xs) ≡ 0
    at true r f = let n : prefix_len is_no_blank (x ∷ xs) ≡ 0 = ap (λ v. cond (not v) (1 + prefix_len is_no_blank xs) 0) r in absurd (omega (arith, n, e))
    at false r f =
        let n : prefix_len is_no_blank (x ∷ xs) ≡ 1 + prefix_len is_no_blank xs = ap (λ v. cond (not v) (1 + prefix_len is_no_blank xs) 0) r in
        let m : prefix_len is_no_blank xs ≡ length xs = omega (arith, n, e) in
        other-byte x xs (no-blank-no-space x r) ∙ f m

-- Nor has a number.
digits-spaces : (ds : List ℕ) → all_ascii_digits ds ≡ true → spaces ds ≡ 0
digits-spaces [] e = refl
digits-spaces (d ∷ ds) e = at (is_space d) refl (digits-spaces ds)
  where
    at : (b : Bool) → is_space d ≡ b → (all_ascii_digits ds ≡ true → spaces ds ≡ 0) → spaces (d ∷ ds) ≡ 0
    at true r f =
        let n : all_ascii_digits (d ∷ ds) ≡ false = ap (λ k. is_ascii_digit k && all_ascii_digits ds) (eqb-true d 32 r) in
        absurd (true≢false (sym e ∙ n))
    at false r f =
        other-byte d ds r ∙ f (and-right (is_ascii_digit d) (all_ascii_digits ds) e)

pub number-spaces : (n : ℕ) → n < 2 ^ 64 → spaces (decimal n) ≡ 0
number-spaces n l = digits-spaces (decimal n) (digits_decimal (numerals_by_value _ tells_all_ascii_digits) n l)
