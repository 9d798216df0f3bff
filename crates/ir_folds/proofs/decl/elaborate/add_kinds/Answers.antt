use Rattle.ir_trees.proofs.Growth.Made.{IsVar-listed}
use Rattle.ir_folds.proofs.Instantiation.Joining.{no-kinds, one-more-kind, all-kinds}
use Rattle.ir_folds.proofs.decl.elaborate.add_kinds.Goals as goal

pub loop-var-init : goal.loop-var-init
loop-var-init c = no-kinds c.args.cx.now.trees c.vars-var-items.result.now c.args.kinds.now.items

pub var-requires : goal.var-requires
var-requires c = IsVar-listed c.args.cx.now.trees c.vars-var-items.result.now c.loop-var.var-index _ c.loop-var-test.true c.vars-var-items.ensures.fits

pub loop-var-preserved : goal.loop-var-preserved
loop-var-preserved c =
    one-more-kind c.args.cx.now.trees c.vars-var-items.result.now c.args.kinds.now.items c.loop-var.kinds.items c.push.new.self.items c.loop-var.var-index _ c.var.result c.loop-var-test.true c.loop-var.invariant
    c.in_ok-push.ensures.items c.var.ensures.tree

pub returns : goal.returns
returns c =
    all-kinds c.args.cx.now.trees c.vars-var-items.result.now c.args.kinds.now.items c.loop-var.kinds.items c.loop-var.var-index c.args.vars c.loop-var-test.false c.loop-var.auto.var-index-end
    c.loop-var.invariant c.vars-var-items.ensures.tree
