use Rattle.ir_trees.proofs.Kinding.Parameters.{types-iff}
use Rattle.ir_trees.proofs.decl.definition.Parameters.are_of.Goals as goal

pub returns-then-list-count : goal.returns-then-list-count
returns-then-list-count c = types-iff _ _ _ _ c.in-Types.is c.if-list-count.true c.are_type_args.ensures
