use Rattle.std.proofs.Common.{◌≡◌, ap, subst, ◌∙◌}
use Rattle.ir_trees.specs.Declarations.Context.{Context}
use Rattle.ir_trees.specs.Syntax.Trees.{Tree}
use Rattle.ir_trees.specs.Syntax.Words.{args_forest, ty_tree}
use Rattle.candidate_eval.specs.Dynamic.ObjectRequirements.{first_tree}
use Rattle.candidate_assembly.proofs.Calls.Considering.{considers-same}
use Rattle.projection_goals.specs.LanguageTypes.{known_rule, metadata}
use Rattle.projection_goals.specs.Normalizing.{goal_of_trait, normalizes_goal}
use Rattle.projection_goals.proofs.language.consider_metadata.Goals as goal

pub returns : goal.returns
returns g c =
    let first = c.args.ecx.now in
    let old = g.E.Build.context first in
    let now = normalizes_goal old.trees c.args.env c.args.predicate in
    let self = subst (λ (x : Context). ty_tree x.trees c.self_ty-ty.result ≡ first_tree (args_forest x.trees c.reference.result.args)) c.cx.ensures c.self_ty-ty.ensures.tree
    ∙ ap (λ a. first_tree (args_forest old.trees a)) c.reference.ensures.args in
    let read = subst (λ (x : Context). c.metadata-named.result ≡ metadata x (ty_tree x.trees c.self_ty-ty.result).head (ty_tree x.trees c.self_ty-ty.result).children) c.cx-3.ensures c.metadata-named.ensures in
    considers-same first c.consider_type.new.ecx _ _ c.consider_type.result
    (ap (known_rule (goal_of_trait old now) now.term) (read ∙ ap (λ (t : Tree). metadata old t.head t.children) self)) c.consider_type.ensures
