use Rattle.std.proofs.Common.{refl}
use Rattle.ir_trees.specs.Declarations.Context.{world}
use Rattle.ir_trees.specs.Syntax.Words.{KindFits}
use Rattle.ir_trees.specs.declared.ir.kinds.Mutability.TheVariants as M
use Rattle.ir_trees.specs.declared.ir.kinds.TyKind.{TyKind}
use Rattle.ir_trees.specs.declared.ir.kinds.TyKind.TheVariants as K
use Rattle.ir_trees.proofs.Kinding.Arity.{plain-takes}
use Rattle.examples.proofs.coherence.reference.Goals as goal

pub mk_ty-requires-clause-takes : goal.mk_ty-requires-clause-takes
mk_ty-requires-clause-takes c = λ _.
    let cx = c.args.rounds.now.context in
    let kind : TyKind = K.Ref c.args.region c.args.ty M.Not in
    let region = c.requires.region in
    let type = c.requires.ty in
    let fits : KindFits cx.trees kind = cc in
    plain-takes (world cx) cx.trees kind refl fits
