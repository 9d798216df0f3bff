use Rattle.projection_goals.proofs.MayBeAsked.{goal-of-parts}
use Rattle.projection_goals.proofs.kind.NormalizesTo.may_be_asked.Goals as goal

pub returns-then-fits-clause-goal : goal.returns-then-fits-clause-goal
returns-then-fits-clause-goal c = λ e. goal-of-parts c.args.cx.now c.args.param_env c.args.self c.requires.env c.requires.args c.requires.term (c.fits.ensures.fits c.if-fits.true) (c.is_closed.ensures.closed e)
