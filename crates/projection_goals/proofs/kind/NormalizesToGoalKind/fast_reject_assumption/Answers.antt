use Rattle.projection_goals.proofs.kind.NormalizesToGoalKind.fast_reject_assumption.Goals as goal

pub returns-clause-passes : goal.returns-clause-passes
returns-clause-passes g c = c.fast_reject.ensures.passes c.args.env

pub returns-clause-rejected : goal.returns-clause-rejected
returns-clause-rejected g c = c.fast_reject.ensures.rejected c.args.env
