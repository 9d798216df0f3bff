use Rattle.std.proofs.Common.{refl}
use Rattle.ir_trees.specs.Declarations.Context.{world_of}
use Rattle.ir_trees.proofs.Kinding.Arity.{surely}
use Rattle.ir_trees.proofs.Kinding.Fitting.{plain-node-takes}
use Rattle.ir_trees.proofs.decl.arity.node_fits.Goals as goal

pub returns-in_default : goal.returns-in_default
returns-in_default c =
    surely _ refl
    (plain-node-takes (world_of c.args.definitions.now) c.args.nodes.now c.args.node.now c.requires c.in_default.not-Ty c.in_default.not-Const c.in_default.not-Pred c.in_default.not-Clause)
