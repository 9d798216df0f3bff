use Rattle.std.proofs.Common.{rules}
use Rattle.ir_builder.proofs.Hierarchy.Supers.{first_is}
use Rattle.ir_builder.proofs.decl.supers.first.Goals as goal

pub returns : goal.returns
returns c = first_is c.args.nodes.now c.args-list.result.now c.args.args c.number.result c.args-list.ensures.fits c.args-list.ensures.tree (search rules) c.number.ensures
