use Rattle.std.proofs.Common.{rules}
use Rattle.ir_trees.proofs.Growth.Made.{IsClause-listed}
use Rattle.spelling.proofs.types.Spelling.add_wheres.Goals as goal

pub add_clause-requires : goal.add_clause-requires
add_clause-requires c = search (rules, IsClause-listed)
