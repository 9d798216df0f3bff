use Rattle.std.proofs.Common.{◌&&◌, refl, sym, ◌∙◌, ap}
use Rattle.ir_trees.specs.Syntax.Nodes.{tree_at}
use Rattle.ir_trees.specs.Syntax.Trees.{kind_of}
use Rattle.ir_trees.proofs.Syntax.Lists.{kind_of-tree_at}
use Rattle.candidate_eval.specs.Judges.Soundness.{is_region}
use Rattle.candidate_rounds.specs.Evaluators.Known.{Evaluator}
use Rattle.candidate_rounds.proofs.rounds.Rounds.regions.Goals as goal

pub returns-in-Region-Region : goal.returns-in-Region-Region
returns-in-Region-Region c =
    let ts = c.args.self.now.context.trees in
    let left = ap (λ (e : Evaluator). (tree_at e.context.trees c.args.left).head) (sym c.self.view_is) ∙ (sym c.head.ensures ∙ c.in-Region-Region.is-0) in
    let right = ap (λ (e : Evaluator). (tree_at e.context.trees c.args.right).head) (sym c.self.view_is) ∙ (sym c.head-2.ensures ∙ c.in-Region-Region.is-1) in (
      refl,
      refl,
      kind_of-tree_at ts c.args.left c.requires.left ∙ ap kind_of left,
      kind_of-tree_at ts c.args.right c.requires.right ∙ ap kind_of right,
      ap (λ h. is_region h && is_region (tree_at ts c.args.right).head) left ∙ ap is_region right,
    )
