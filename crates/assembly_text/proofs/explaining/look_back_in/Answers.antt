use Rattle.ir_trees.proofs.Growth.Kept.{grows-trans}
use Rattle.assembly_text.proofs.explaining.look_back_in.Goals as goal

pub returns-in-Some : goal.returns-in-Some
returns-in-Some c = grows-trans _ _ _ c.environment.ensures.grows c.rounds_of_goals.ensures
