use Rattle.std.specs.Prelude.{option_copied}
use Rattle.ir_trees.specs.Syntax.Words.{args_forest}
use Rattle.ir_context.proofs.Instantiation.Declared.{impl_owned}
use Rattle.ir_context.proofs.decl.context.Cx.impl_of.Goals as goal

pub returns-clause-owned : goal.returns-clause-owned
returns-clause-owned c =
    let it = c.impl_contents.ensures in
    impl_owned c.args.self.now c.recall_well_formed_table.ensures c.args.of (args_forest c.args.self.now.trees c.args.args) c.requires (option_copied c.impl_contents.result) it.is it.given
