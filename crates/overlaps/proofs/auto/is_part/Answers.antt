use Rattle.std.proofs.Common.{ap, refl, sym, suc, ◌∙◌}
use Rattle.ir_trees.specs.declared.ir.kinds.GenericArg.TheVariants as A
use Rattle.ir_trees.specs.Syntax.Nodes.{tree_at}
use Rattle.ir_trees.specs.Syntax.Trees.{is_alias, skip}
use Rattle.ir_trees.specs.Syntax.Words.{ty_tree}
use Rattle.ir_trees.proofs.Traversal.Asking.{arg-below}
use Rattle.overlaps.proofs.PartTraits.{is-whole, no-parameters, one-parameter}
use Rattle.overlaps.proofs.auto.is_part.Goals as goal

pub head-requires : goal.head-requires
head-requires c = arg-below c.args.cx.now.trees (A.Ty c.args.ty) c.requires

pub child-requires : goal.child-requires
child-requires c = arg-below c.args.cx.now.trees (A.Ty c.args.ty) c.requires

pub is_new_parameter-requires-clause-number : goal.is_new_parameter-requires-clause-number
is_new_parameter-requires-clause-number c = arg-below c.args.cx.now.trees (A.Ty c.args.ty) c.requires

pub loop-place-init : goal.loop-place-init
loop-place-init c = no-parameters (ty_tree c.args.cx.now.trees c.args.ty).children

pub loop-place-preserved : goal.loop-place-preserved
loop-place-preserved c =
    let ts = c.args.cx.now.trees in
    let row = (ty_tree ts c.args.ty).children in
    one-parameter row c.loop-place.place (tree_at ts c.in-Some.child) c.loop-place.invariant (skip (suc c.loop-place.place) row, c.in-Some.ensures.1) (c.if-not-is_new_parameter.ensures.parameter refl)
    (c.if-not-is_new_parameter.ensures.new refl)

pub returns-in_default : goal.returns-in_default
returns-in_default c = λ no.
    let t = ty_tree c.args.cx.now.trees c.args.ty in
    is-whole t c.loop-place.place (ap is_alias (sym c.head.ensures) ∙ (sym c.has.ensures ∙ c.if-has.false)) c.loop-place.invariant c.in_default.ensures
