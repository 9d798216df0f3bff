use Rattle.std.proofs.Common.{refl}
use Rattle.ir_trees.specs.Declarations.Context.{world}
use Rattle.ir_trees.specs.Syntax.Words.{KindFits}
use Rattle.ir_trees.specs.declared.ir.kinds.Mutability.TheVariants as M
use Rattle.ir_trees.specs.declared.ir.kinds.TyKind.{TyKind}
use Rattle.ir_trees.specs.declared.ir.kinds.TyKind.TheVariants as K
use Rattle.ir_trees.proofs.Kinding.Arity.{plain-takes}
use Rattle.ir_trees.proofs.Growth.Kept.{ty-kept}
use Rattle.examples.proofs.Made.{reference-is}
use Rattle.examples.proofs.normalising.reference_to.Goals as goal

pub mk_ty-requires-clause-fits : goal.mk_ty-requires-clause-fits
mk_ty-requires-clause-fits c =
    let region = c.in_ok-region.ensures.made.sort in
    let type = (ty-kept _ _ c.args.ty c.mk_region.ensures.made.kept c.requires).0 in
    cc

pub mk_ty-requires-clause-takes : goal.mk_ty-requires-clause-takes
mk_ty-requires-clause-takes c = λ _.
    let cx = c.mk_region.new.self in
    let kind : TyKind = K.Ref c.in_ok-region.region c.args.ty M.Not in
    let region = c.in_ok-region.ensures.made.sort in
    let type = (ty-kept _ _ c.args.ty c.mk_region.ensures.made.kept c.requires).0 in
    let fits : KindFits cx.trees kind = cc in
    plain-takes (world cx) cx.trees kind refl fits

pub returns-clause-tree : goal.returns-clause-tree
returns-clause-tree c =
    reference-is _ _ _ c.in_ok-region.region c.args.ty c.mk_ty.result c.mk_region.ensures.made.kept c.requires c.in_ok-region.ensures.made.sort c.in_ok-region.ensures.made.tree
    c.mk_ty.ensures.made.tree
