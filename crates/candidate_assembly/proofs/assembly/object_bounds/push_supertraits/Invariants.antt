use Rattle.std.proofs.Common.{◌≡◌, ◌++◌}
use Rattle.std.proofs.Math.ListN.{drop}
use Rattle.candidate_assembly.specs.Calls.ObjectCalls.{numbered_from}
use Rattle.candidate_assembly.proofs.assembly.object_bounds.push_supertraits.Given as goal

-- with those that are left the list is the whole
abbrev pub invariant-loop-number : goal.invariant-loop-number
invariant-loop-number l = l.clauses.items ++ numbered_from l.number (drop l.number l.fn.supers) ≡ l.fn.clauses.items ++ numbered_from 0 l.fn.supers
