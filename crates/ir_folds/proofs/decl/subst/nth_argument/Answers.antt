use Rattle.std.proofs.Common.{refl}
use Rattle.ir_trees.specs.declared.ir.kinds.GenericArg.TheVariants as A
use Rattle.ir_folds.proofs.Instantiation.Substituting.{nth-there, nth-missing}
use Rattle.ir_folds.proofs.decl.subst.nth_argument.Goals as goal

pub returns : goal.returns
returns c =
    nth-there c.args.cx.now.trees _ c.args-list.result.now c.args.index (A.Ty (record { 0 = 0 })) _ c.args-list.ensures.fits c.args-list.ensures.tree c.if-index-list.false refl

pub returns-then-index-list : goal.returns-then-index-list
returns-then-index-list c = nth-missing c.args.cx.now.trees _ c.args-list.result.now c.args.index c.args-list.ensures.fits c.args-list.ensures.tree c.if-index-list.true
