use Rattle.std.proofs.Common.{◌≡◌, ◌++◌, take}
use Rattle.ir_trees.specs.Validity.Held.{held_clauses}
use Rattle.ir_trees.proofs.decl.held.add_clauses.Given as goal

-- those before are added
abbrev pub invariant-loop-clause : goal.invariant-loop-clause
invariant-loop-clause l = l.held.items ≡ l.fn.held.items ++ held_clauses l.owner (take l.clause-index l.clauses)
