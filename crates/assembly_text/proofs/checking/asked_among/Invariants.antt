use Rattle.std.proofs.Common.{◌≡◌, take}
use Rattle.std.specs.List.{filter}
use Rattle.assembly_text.specs.Paired.{is_asked_with}
use Rattle.assembly_text.proofs.checking.asked_among.Given as goal

-- those of the impls that were looked at
abbrev pub invariant-loop-place : goal.invariant-loop-place
invariant-loop-place l = l.asked.items ≡ filter (is_asked_with l.cx l.of l.header l.has_alias) (take l.place l.impls)
