use Rattle.ir_trees.proofs.Growth.Made.{IsClause-listed}
use Rattle.candidate_rounds.specs.Calls.Walking.{IsGathered}
use Rattle.candidate_rounds.proofs.Resolution.Walking.{each-of-none}
use Rattle.candidate_rounds.proofs.rounds.responding.numbers_of.Goals as goal

pub note_args-requires-clause-walked : goal.note_args-requires-clause-walked
note_args-requires-clause-walked c = each-of-none (IsGathered c.new-numbers.result.items c.args.cx.now.trees) c.new-walked.result c.new-walked.ensures

pub note_clause-requires-clause-clause : goal.note_clause-requires-clause-clause
note_clause-requires-clause-clause c = IsClause-listed c.args.cx.now.trees c.args.clauses.now c.loop-i.i _ c.loop-i-test.true c.requires.clauses
