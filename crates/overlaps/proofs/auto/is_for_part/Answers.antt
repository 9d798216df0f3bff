use Rattle.std.proofs.Common.{ap, sym, ◌∙◌}
use Rattle.ir_trees.specs.Declarations.Contents.{Impl}
use Rattle.ir_trees.specs.Syntax.Words.{args_forest, ty_tree}
use Rattle.candidate_eval.specs.Dynamic.ObjectRequirements.{first_tree}
use Rattle.overlaps.proofs.PartTraits.{no-impl, whole-impl}
use Rattle.overlaps.proofs.auto.is_for_part.Goals as goal

pub returns-in-Some : goal.returns-in-Some
returns-in-Some c = λ no.
    let cx = c.args.cx.now in
    whole-impl cx c.args.of c.in-Some.contents.now (ty_tree cx.trees c.self_ty.result) (sym c.in-Some.ensures.is)
    (c.self_ty.ensures.tree ∙ ap (λ (y : Impl). first_tree (args_forest cx.trees y.trait_ref.args)) c.contents.view_is) (c.is_part.ensures no)

pub returns-in-None : goal.returns-in-None
returns-in-None c = λ no. no-impl c.args.cx.now c.args.of (sym c.in-None.ensures.is)
