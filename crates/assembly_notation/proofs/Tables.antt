-- Looking a word up in a table, row by row.
use Rattle.std.proofs.Common.{◌≡◌, ℕ, ◌+◌, ◌<◌, ◌≤◌, List, ◌∷◌, true, false, length, drop, slice_index_or, sym, ap, ◌∙◌}
use Rattle.std.specs.Prelude.{Some, None, nat_eq, if◌then◌else◌}
use Rattle.std.specs.Borrow.{Bor}
use Rattle.std.specs.Cmp.Lexicographic.{pointwise}
use Rattle.std.proofs.lemmas.List.{at_drop_more, at_drop_all}
use Rattle.assembly_notation.specs.Tables.{table_value}

module _ {T : Type 0} where
  next : (rows : List (Bor (List ℕ) × T)) (word : List ℕ) (i : ℕ) (x : Bor (List ℕ) × T) → i < length rows → x ≡ slice_index_or rows i x
      → table_value (drop i rows) word ≡ table_value (x ∷ drop (i + 1) rows) word
  next rows word i x l e =
      at_drop_more (λ rs. table_value rs word) rows i x l ∙ ap (λ r. table_value (r ∷ drop (i + 1) rows) word) (sym e)

  -- the row at the place has the word
  pub table_has : (rows : List (Bor (List ℕ) × T)) (word : List ℕ) (i : ℕ) (x : Bor (List ℕ) × T) → i < length rows → x ≡ slice_index_or rows i x
      → pointwise nat_eq x.0.now word ≡ true → table_value (drop i rows) word ≡ Some x.1
  unfolding table_value
  table_has rows word i x l e h =
      next rows word i x l e ∙ ap (λ b. if b then Some x.1 else table_value (drop (i + 1) rows) word) h

  -- it has another
  pub table_goes_on : (rows : List (Bor (List ℕ) × T)) (word : List ℕ) (i : ℕ) (x : Bor (List ℕ) × T) → i < length rows → x ≡ slice_index_or rows i x
      → pointwise nat_eq x.0.now word ≡ false → table_value (drop i rows) word ≡ table_value (drop (i + 1) rows) word
  unfolding table_value
  table_goes_on rows word i x l e h =
      next rows word i x l e ∙ ap (λ b. if b then Some x.1 else table_value (drop (i + 1) rows) word) h

  -- none is left
  pub table_ends : (rows : List (Bor (List ℕ) × T)) (word : List ℕ) (i : ℕ) → length rows ≤ i → table_value (drop i rows) word ≡ None
  unfolding table_value
  table_ends rows word i l = at_drop_all (λ rs. table_value rs word) rows i l
