-- Tables of words.
use Rattle.std.specs.Borrow.{Bor}
use Rattle.std.specs.Prelude.{◌≡◌, ℕ, List, [], ◌∷◌, Option, Some, None, nat_eq, if◌then◌else◌}
use Rattle.std.specs.Cmp.Lexicographic.{pointwise}
use Rattle.assembly_notation.specs.declared.faults.Fault.{Fault}
use Rattle.assembly_notation.specs.declared.faults.Fault.TheVariants.{ShortLine, BadFlag}

-- What the word stands for: the value of the first row that has it.
unfoldable pub table_value : {T : Type 0} → List (Bor (List ℕ) × T) → List ℕ → Option T
table_value [] word = None
table_value (row ∷ rows) word = if pointwise nat_eq row.0.now word then Some row.1 else table_value rows word

-- No word was left, or the table doesn't have it.
abbrev pub IsNoFlag : {T : Type 0} → List (Bor (List ℕ) × T) → Fault → Type 0
IsNoFlag table ShortLine = Unit {0}
IsNoFlag table (BadFlag word) = table_value table word.now ≡ None
IsNoFlag table _ = ⊥
