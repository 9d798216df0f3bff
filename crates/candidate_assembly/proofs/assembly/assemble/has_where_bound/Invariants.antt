use Rattle.std.proofs.Common.{◌≡◌, List, drop}
use Rattle.ir_trees.specs.Syntax.Trees.{Tree}
use Rattle.candidate_eval.specs.Outcomes.ResponseTrees.{candidates_of}
use Rattle.candidate_assembly.specs.Answers.Assembled.{has_where_bound}
use Rattle.candidate_assembly.proofs.assembly.assemble.has_where_bound.Given as goal

-- none before is by a clause of the environment
abbrev pub invariant-loop-candidate : goal.invariant-loop-candidate
invariant-loop-candidate l =
    (ts : List Tree) → has_where_bound (candidates_of ts l.candidates) ≡ has_where_bound (candidates_of ts (drop l.candidate-index l.candidates))
