use Rattle.std.proofs.Common.{◌≡◌, drop}
use Rattle.ir_trees.specs.Declarations.Names.{principal_of}
use Rattle.ir_trees.specs.Syntax.Words.{pred_list_forest}
use Rattle.ir_trees.proofs.ir.trees.Trees.principal.Given as goal

abbrev pub invariant-loop-i : goal.invariant-loop-i
invariant-loop-i g l = principal_of (pred_list_forest (g.Self.Trees.trees l.self) l.bounds) ≡ principal_of (pred_list_forest (g.Self.Trees.trees l.self) (drop l.i l.bounds))
