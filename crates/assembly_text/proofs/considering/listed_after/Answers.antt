use Rattle.ir_trees.proofs.Growth.Kept.{grows-trans}
use Rattle.candidate_assembly.proofs.Calls.Keeping.{trait-goal-kept}
use Rattle.assembly_text.proofs.considering.listed_after.Goals as goal

pub list_here-requires : goal.list_here-requires
list_here-requires c = (trait-goal-kept c.args.rounds.now.context c.run.new.rounds.context c.args.env c.args.predicate c.run.ensures.grows c.requires.goal).0

pub returns : goal.returns
returns c = grows-trans _ _ _ c.run.ensures.grows c.list_here.ensures
