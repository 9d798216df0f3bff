use Rattle.ir_trees.specs.Syntax.Words.{args_forest}
use Rattle.candidate_rounds.specs.Evaluators.Known.{state, table_of}
use Rattle.overlaps.specs.Asked.{SoManyStay}
use Rattle.overlaps.specs.Refused.{StaysBesideSteps}
use Rattle.overlaps.proofs.clauses.first_refused.Given as goal

-- all stays but the table, and each clause that was asked so far stays
abbrev pub invariant-loop-number : goal.invariant-loop-number
invariant-loop-number l =
    let r = l.fn.rounds in
    StaysBesideSteps r l.rounds × SoManyStay r (state r) l.fn.effort (args_forest r.context.trees l.fn.locals) l.fn.clauses (table_of r) l.number (table_of l.rounds)
