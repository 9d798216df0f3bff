use Rattle.std.proofs.Common.{rules, ◌≡◌, false, subst}
use Rattle.std.specs.Prelude.{IfOk}
use Rattle.ir_trees.specs.Instantiation.Folding.{lacks_argument}
use Rattle.ir_trees.specs.Syntax.Trees.{Tree, tree_holds}
use Rattle.ir_trees.specs.Syntax.Words.{args_forest, clause_tree}
use Rattle.candidate_eval.proofs.Dynamic.Requiring.{all_there}
use Rattle.std.proofs.lemmas.Result.{IfErr-weaker}
use Rattle.ir_trees.specs.Syntax.Trees.{ClauseKind}
use Rattle.candidate_eval.specs.Interface.Unmade.IsMade.{with_arguments}
use Rattle.candidate_eval.specs.Interface.Unmade.IsUnmade.{of_trees}
use Rattle.ir_trees.proofs.Growth.Kept.{grows-refl}
use Rattle.candidate_eval.proofs.objects.required.with_arguments.Goals as goal

pub returns-then-has_arguments-clause-tree : goal.returns-then-has_arguments-clause-tree
returns-then-has_arguments-clause-tree g c =
    let start = g.M.Build.context c.args.make.now in
    let there : tree_holds (lacks_argument (args_forest start.trees c.args.args)) (clause_tree start.trees c.args.clause) ≡ false = search rules in
    subst (λ (t : Tree). IfOk c.subst.result (λ x. clause_tree (g.M.Build.context c.subst.new.make).trees x ≡ t)) (all_there (args_forest start.trees c.args.args) (clause_tree start.trees c.args.clause) there) c.subst.ensures.tree

pub returns-then-has_arguments-clause-cause : goal.returns-then-has_arguments-clause-cause
returns-then-has_arguments-clause-cause g c =
    IfErr-weaker c.subst.result _ _ (λ s x. of_trees (g.M.Build.context c.args.make.now) (grows-refl _) c.subst.ensures.grows (with_arguments ClauseKind c.args.clause.0 c.args.args.0) x) c.subst.ensures.cause
