use Rattle.std.specs.Prelude.{length}
use Rattle.candidate_rounds.proofs.Leaking.{Reached}
use Rattle.candidate_rounds.proofs.rounds.leaking.outlived.Given as goal

abbrev pub invariant-loop-place : goal.invariant-loop-place
invariant-loop-place l = Reached l.fn.said l.left.items l.fn.region l.list.items

-- what is left to go through
abbrev pub decreases-loop-place : goal.decreases-loop-place
decreases-loop-place l = length l.left.items
