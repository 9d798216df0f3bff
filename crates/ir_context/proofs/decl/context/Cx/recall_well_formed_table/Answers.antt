use Rattle.std.proofs.Common.{subst}
use Rattle.ir_trees.specs.Validity.WellFormed.{IsWellFormedTable}
use Rattle.ir_context.proofs.Validity.WellFormed.{table_of}
use Rattle.ir_context.proofs.decl.context.Cx.recall_well_formed_table.Goals as goal

pub returns : goal.returns
returns c = subst IsWellFormedTable c.self.view_is (table_of _ c.self.invariant.0)
