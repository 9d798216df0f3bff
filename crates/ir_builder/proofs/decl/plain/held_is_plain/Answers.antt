use Rattle.ir_trees.proofs.Validity.Misplacing.{given_below}
use Rattle.ir_builder.proofs.decl.plain.held_is_plain.Goals as goal

pub definition_is_plain-requires : goal.definition_is_plain-requires
definition_is_plain-requires c = given_below c.args.nodes.now c.args.held c.requires

pub impl_is_plain-requires : goal.impl_is_plain-requires
impl_is_plain-requires c = given_below c.args.nodes.now c.args.held c.requires
