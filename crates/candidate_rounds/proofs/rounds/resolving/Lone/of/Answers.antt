use Rattle.candidate_rounds.proofs.Resolution.Alone.{region-is-not}
use Rattle.candidate_rounds.proofs.rounds.resolving.Lone.of.Goals as goal

pub returns-in-Region : goal.returns-in-Region
returns-in-Region c = region-is-not c.args.cx.now.trees c.args.arg c.in-Region.field-0 c.requires c.in-Region.is
