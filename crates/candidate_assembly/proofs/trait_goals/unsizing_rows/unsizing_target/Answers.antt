use Rattle.std.proofs.Common.{◌≡◌, sym, subst, ap, ◌∙◌}
use Rattle.ir_trees.specs.declared.ir.kinds.GenericArg.TheVariants as G
use Rattle.ir_trees.specs.declared.ir.kinds.Ty.{Ty}
use Rattle.ir_trees.specs.Syntax.Words.{IsTy, ty_tree}
use Rattle.candidate_eval.specs.Dynamic.ObjectRequirements.{first_tree}
use Rattle.ir_trees.specs.Hierarchy.Supers.{after_first}
use Rattle.candidate_assembly.proofs.Unsizing.TwoTypes.{second-is, second-there, two-arguments}
use Rattle.candidate_assembly.proofs.trait_goals.unsizing_rows.unsizing_target.Goals as goal

same-type : (t u : Ty) → G.Ty t ≡ G.Ty u → t ≡ u
same-type t u e = cc

pub bounds-1 : goal.bounds-1
bounds-1 c = second-there c.args.cx.now.trees c.args-2.result.now (two-arguments c.args.cx.now c.args.predicate.trait_ref c.args-2.result.now c.args-2.ensures.fits c.args-2.ensures.tree c.requires.fit c.requires.takes_a_type)

pub bounds-args-1 : goal.bounds-args-1
bounds-args-1 c = second-there c.args.cx.now.trees c.args-2.result.now (two-arguments c.args.cx.now c.args.predicate.trait_ref c.args-2.result.now c.args-2.ensures.fits c.args-2.ensures.tree c.requires.fit c.requires.takes_a_type)

pub unreachable-requires : goal.unreachable-requires
unreachable-requires c =
    let two = two-arguments c.args.cx.now c.args.predicate.trait_ref c.args-2.result.now c.args-2.ensures.fits c.args-2.ensures.tree c.requires.fit c.requires.takes_a_type in
    c.in_default.not-Ty two.second (second-is c.args.cx.now.trees c.args-2.result.now _ two)

pub returns-clause-sort : goal.returns-clause-sort
returns-clause-sort c =
    let two = two-arguments c.args.cx.now c.args.predicate.trait_ref c.args-2.result.now c.args-2.ensures.fits c.args-2.ensures.tree c.requires.fit c.requires.takes_a_type in
    let same = same-type c.in-Ty.ty two.second (sym c.in-Ty.is ∙ second-is c.args.cx.now.trees c.args-2.result.now _ two) in
    subst (IsTy c.args.cx.now.trees) (sym same) two.sort

pub returns-clause-tree : goal.returns-clause-tree
returns-clause-tree c =
    let two = two-arguments c.args.cx.now c.args.predicate.trait_ref c.args-2.result.now c.args-2.ensures.fits c.args-2.ensures.tree c.requires.fit c.requires.takes_a_type in
    let same = same-type c.in-Ty.ty two.second (sym c.in-Ty.is ∙ second-is c.args.cx.now.trees c.args-2.result.now _ two) in
    ap (ty_tree c.args.cx.now.trees) same ∙ (two.tree ∙ ap (λ f. first_tree (after_first f)) c.args-2.ensures.tree)
