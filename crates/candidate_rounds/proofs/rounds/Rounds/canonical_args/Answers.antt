use Rattle.candidate_rounds.proofs.Table.Noted.{goes-sure}
use Rattle.candidate_rounds.proofs.Table.Rounding.{goes-stays}
use Rattle.candidate_rounds.proofs.rounds.Rounds.canonical_args.Goals as goal

pub returns-clause-stays : goal.returns-clause-stays
returns-clause-stays c = (goes-stays c.args.self.now c.number_args.new.self c.recall_well_kept.ensures c.number_args.ensures.goes c.number_args.ensures.state).0

pub returns-clause-table : goal.returns-clause-table
returns-clause-table c = (goes-stays c.args.self.now c.number_args.new.self c.recall_well_kept.ensures c.number_args.ensures.goes c.number_args.ensures.state).1

pub returns-clause-sure : goal.returns-clause-sure
returns-clause-sure c = goes-sure c.args.self.now c.number_args.new.self c.recall_well_kept.ensures c.number_args.ensures.goes
