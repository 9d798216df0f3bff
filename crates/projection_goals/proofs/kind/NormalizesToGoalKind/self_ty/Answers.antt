use Rattle.std.proofs.Common.{ap, ◌∙◌}
use Rattle.ir_trees.specs.Syntax.Words.{args_forest}
use Rattle.candidate_eval.specs.Dynamic.ObjectRequirements.{first_tree}
use Rattle.projection_goals.proofs.kind.NormalizesToGoalKind.self_ty.Goals as goal

pub returns-clause-tree : goal.returns-clause-tree
returns-clause-tree g c = c.self_ty.ensures.tree ∙ ap (λ a. first_tree (args_forest c.args.cx.now.trees a)) c.reference.ensures.args
