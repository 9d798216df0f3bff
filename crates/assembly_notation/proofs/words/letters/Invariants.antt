use Rattle.std.proofs.Common.{◌≡◌, ◌+◌, drop}
use Rattle.std.specs.List.{prefix_len}
use Rattle.assembly_notation.specs.Lines.{is_no_blank}
use Rattle.assembly_notation.proofs.words.letters.Given as goal

abbrev pub invariant-loop-place : goal.invariant-loop-place
invariant-loop-place l = prefix_len is_no_blank l.bytes ≡ l.place + prefix_len is_no_blank (drop l.place l.bytes)
