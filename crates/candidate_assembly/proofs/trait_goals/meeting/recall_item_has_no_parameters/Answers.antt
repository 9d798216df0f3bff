use Rattle.candidate_assembly.proofs.Rules.LangItems.{item-parameters}
use Rattle.candidate_assembly.proofs.trait_goals.meeting.recall_item_has_no_parameters.Goals as goal

pub returns : goal.returns
returns c = item-parameters c.args.cx.now c.recall_well_formed_table.ensures c.args.item c.requires
