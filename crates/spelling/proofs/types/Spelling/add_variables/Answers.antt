use Rattle.std.proofs.Common.{rules}
use Rattle.ir_trees.proofs.Growth.Made.{IsVar-listed}
use Rattle.spelling.proofs.types.Spelling.add_variables.Goals as goal

pub var-requires : goal.var-requires
var-requires c = search (rules, IsVar-listed)
