use Rattle.std.proofs.Common.{sym}
use Rattle.candidate_rounds.proofs.Resolution.Listing.{other-unlisted}
use Rattle.candidate_rounds.proofs.rounds.values.listed_arg.Goals as goal

pub returns-in-Const : goal.returns-in-Const
returns-in-Const c = record { kind = tt; tree = sym (other-unlisted c.args.cx.now.trees c.args.normal.now c.args.arg c.requires.arg c.requires.types c.in-Const.is) }
