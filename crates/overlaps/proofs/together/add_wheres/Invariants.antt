use Rattle.std.proofs.Common.{◌≡◌}
use Rattle.candidate_eval.specs.Interface.Shown.{Keeps}
use Rattle.ir_trees.specs.Syntax.Words.{args_forest}
use Rattle.candidate_rounds.specs.Evaluators.Known.{state}
use Rattle.candidate_rounds.specs.Table.Normalizing.{rounds_shown}
use Rattle.overlaps.proofs.JointPairs.{AddedSoFar}
use Rattle.overlaps.proofs.together.add_wheres.Given as goal

-- the clauses before are goals, and the state stays
abbrev pub invariant-loop-number : goal.invariant-loop-number
invariant-loop-number l =
    let start = l.fn.rounds.context in
    Keeps rounds_shown l.fn.rounds l.rounds × (state l.rounds ≡ state l.fn.rounds)
    × AddedSoFar start l.rounds.context (args_forest start.trees l.fn.of.locals) l.fn.of.wheres.items l.fn.goals.items l.goals.items l.number
