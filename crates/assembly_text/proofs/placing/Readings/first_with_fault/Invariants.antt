-- The part that was found is none behind the last one.
use Rattle.std.proofs.Common.{◌≤◌}
use Rattle.assembly_text.proofs.placing.Readings.first_with_fault.Given as goal

abbrev pub invariant-loop : goal.invariant-loop
invariant-loop l = l.found ≤ l.last
