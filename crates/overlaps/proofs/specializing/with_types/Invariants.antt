use Rattle.ir_trees.specs.Syntax.Words.{IsClause, clause_tree, env_forest}
use Rattle.overlaps.specs.Refused.{StaysBesideKnown}
use Rattle.overlaps.specs.Specialized.{IsTypedBy}
use Rattle.overlaps.proofs.specializing.with_types.Given as goal

-- the clause at hand has types in the place of projections
abbrev pub invariant-loop-step : goal.invariant-loop-step
invariant-loop-step l =
    let r = l.fn.rounds in
    let ts = r.context.trees in
    StaysBesideKnown r l.rounds × IsClause l.rounds.context.trees l.clause × IsTypedBy r l.rounds (env_forest ts l.fn.env) (clause_tree ts l.fn.clause) l.clause
