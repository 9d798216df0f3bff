use Rattle.std.proofs.Common.{◌∙◌, ap}
use Rattle.ir_trees.specs.declared.decl.contents.ImplId.{ImplId}
use Rattle.overlaps.specs.Allowed.{allowance_of_ordered}
use Rattle.overlaps.proofs.allowance.allowance_of.Goals as goal

pub returns : goal.returns
returns c = c.allowance_of_ordered.ensures ∙ ap (λ (p : ImplId × ImplId). allowance_of_ordered c.args.cx.now p.0 p.1) c.in_order-pair.ensures
