use Rattle.ir_trees.specs.Syntax.Words.{args_forest}
use Rattle.ir_context.proofs.Instantiation.Declared.{hidden_is_closed}
use Rattle.ir_context.proofs.decl.context.Cx.hidden_type_of.Goals as goal

pub returns-clause-closed : goal.returns-clause-closed
returns-clause-closed c =
    hidden_is_closed c.args.self.now c.recall_well_formed_table.ensures c.args.opaque.0 (args_forest c.args.self.now.trees c.args.args) c.requires c.hidden_type.result c.hidden_type.ensures.is
