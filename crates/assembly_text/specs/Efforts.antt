-- How long goals are computed, as a line says it.
use Rattle.std.specs.Prelude.{ℕ, List, [], ◌∷◌, nat_eq, if◌then◌else◌}
use Rattle.std.specs.Cmp.Lexicographic.{pointwise}
use Rattle.assembly_notation.specs.Lines.{first_word, number_of_digits}
use Rattle.candidate_rounds.specs.declared.rounds.effort.Effort.{Effort}
use Rattle.candidate_rounds.specs.declared.rounds.effort.Effort.TheVariants.{AsNeeded, Rounds}

-- By a word: as long as needed by `*`, and else in as many rounds as its digits say.
abbrev pub effort_named : List ℕ → Effort
effort_named word = if pointwise nat_eq word (42 ∷ []) then AsNeeded else Rounds (number_of_digits word)

-- the same by the first word of what is left of a line
abbrev pub effort_of_line : List ℕ → Effort
effort_of_line line = effort_named (first_word line)
