use Rattle.std.proofs.Common.{◌≡◌, drop}
use Rattle.assembly_notation.specs.Tables.{table_value}
use Rattle.assembly_notation.proofs.words.listed.Given as goal

abbrev pub invariant-loop-listed : goal.invariant-loop-listed
invariant-loop-listed g l = table_value l.table l.word ≡ table_value (drop l.listed-index l.table) l.word
