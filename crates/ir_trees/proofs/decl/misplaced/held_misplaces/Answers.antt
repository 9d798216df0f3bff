use Rattle.ir_trees.proofs.Validity.Misplacing.{given_below}
use Rattle.ir_trees.proofs.decl.misplaced.held_misplaces.Goals as goal

pub definition_misplaces-requires : goal.definition_misplaces-requires
definition_misplaces-requires c = given_below c.args.nodes.now c.args.held c.requires

pub impl_misplaces-requires : goal.impl_misplaces-requires
impl_misplaces-requires c = given_below c.args.nodes.now c.args.held c.requires
