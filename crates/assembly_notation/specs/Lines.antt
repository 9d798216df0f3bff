-- The words of a line: what stands between its blanks.
use Rattle.std.specs.Prelude.{◌==◌, ◌∷◌, ◌||◌, [], ℕ, Bool, List, drop, if◌then◌else◌, nat_eq, not, take}
use Rattle.std.specs.Cmp.Lexicographic.{pointwise}
use Rattle.std.specs.List.{prefix_len}
use Rattle.std.specs.Str.Parse.{digits_value}

-- A space, as it stands in what is printed.
abbrev pub is_space : ℕ → Bool
is_space byte = byte == 32

-- What stands between words: a space or a tab.
abbrev pub is_blank : ℕ → Bool
is_blank byte = (byte == 32) || (byte == 9)

abbrev pub is_no_blank : ℕ → Bool
is_no_blank byte = not (is_blank byte)

-- the line without the blanks that it begins with
abbrev pub after_blanks : List ℕ → List ℕ
after_blanks line = drop (prefix_len is_blank line) line

-- its first word, which ends before the next blank, and what stands behind it
abbrev pub first_word : List ℕ → List ℕ
first_word line = let rest = after_blanks line in take (prefix_len is_no_blank rest) rest

abbrev pub behind_first_word : List ℕ → List ℕ
behind_first_word line = let rest = after_blanks line in drop (prefix_len is_no_blank rest) rest

-- the number that decimal digits write
abbrev pub number_of_digits : List ℕ → ℕ
number_of_digits word = digits_value 10 word
