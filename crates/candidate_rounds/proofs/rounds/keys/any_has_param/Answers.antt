use Rattle.ir_trees.proofs.Growth.Made.{IsClause-listed}
use Rattle.candidate_rounds.proofs.rounds.keys.any_has_param.Goals as goal

pub has-requires : goal.has-requires
has-requires c = IsClause-listed c.args.cx.now.trees c.args.clauses.now c.loop-i.i _ c.loop-i-test.true c.requires
