use Rattle.std.proofs.Common.{rules}
use Rattle.candidate_rounds.proofs.Table.Starting.{key-goal}
use Rattle.candidate_rounds.proofs.rounds.running.predicate_of.Goals as goal

pub returns-clause-says : goal.returns-clause-says
returns-clause-says c = search rules

pub returns-clause-goal : goal.returns-clause-goal
returns-clause-goal c = key-goal c.args.cx.now c.args.key.now c.in-Some.predicate c.requires c.in-Some.ensures.fits.0 c.in-Some.ensures.fits.1 (returns-clause-says c)
