use Rattle.std.proofs.Common.{◌≡◌, ap, ◌∙◌}
use Rattle.ir_trees.specs.declared.ir.heads.Flag.TheVariants as F
use Rattle.ir_trees.specs.Instantiation.Folds.{arg_tree}
use Rattle.ir_trees.specs.Syntax.Flags.{mark}
use Rattle.ir_trees.specs.Syntax.Kinds.{arg_number}
use Rattle.ir_trees.specs.Syntax.Nodes.{tree_at}
use Rattle.ir_trees.specs.Syntax.Trees.{is_alias, tree_holds}
use Rattle.rounds_judge.specs.Aliases.Listed.{normalized_tree}
use Rattle.candidate_eval.specs.Judges.States.{resolved_tree}
use Rattle.candidate_rounds.specs.Evaluators.Known.{Evaluator, listing, state}
use Rattle.candidate_rounds.proofs.Obligations.Evaluating.{holds-alone}
use Rattle.candidate_rounds.proofs.Resolution.Placing.{nothing-placed}
use Rattle.candidate_rounds.proofs.rounds.Rounds.has_unlisted.Goals as goal

pub returns-clause-is : goal.returns-clause-is
returns-clause-is c =
    let old = c.args.self.now in
    let t = normalized_tree (listing old) (resolved_tree (state old) (arg_tree old.context.trees c.args.arg)) in
    let same : mark F.Alias ≡ is_alias = λ i h. is_alias h in
    c.has.ensures.is ∙ (ap (λ (r : Evaluator). tree_holds (mark F.Alias) (tree_at r.context.trees (arg_number c.in_ok-value.value))) c.self.view_is
    ∙ (ap (λ m. tree_holds m (tree_at c.value_for.new.self.context.trees (arg_number c.in_ok-value.value))) same ∙ (ap (tree_holds is_alias) (c.in_ok-value.ensures.tree ∙ nothing-placed t) ∙ holds-alone is_alias t)))
