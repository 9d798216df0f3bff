use Rattle.std.proofs.Common.{◌≡◌, ◌∙◌, ◌<◌, ap, length, refl, subst, sym}
use Rattle.ir_trees.specs.Declarations.Context.{Context}
use Rattle.ir_trees.specs.Syntax.Trees.{Tree, TypeKind}
use Rattle.ir_trees.specs.Syntax.Words.{IsTy, args_forest, ty_tree}
use Rattle.ir_trees.proofs.Syntax.Lists.{below_kind}
use Rattle.candidate_eval.specs.Dynamic.ObjectRequirements.{first_tree}
use Rattle.candidate_assembly.proofs.Calls.Considering.{considers-same}
use Rattle.projection_goals.specs.LanguageTypes.{discriminant, known_rule}
use Rattle.projection_goals.specs.Normalizing.{goal_of_trait, normalizes_goal}
use Rattle.projection_goals.proofs.language.consider_discriminant.Goals as goal

pub head-head-requires : goal.head-head-requires
head-head-requires g c =
    let old = g.E.Build.context c.args.ecx.now in
    let sort = subst (λ (x : Context). IsTy x.trees c.self_ty-ty.result) c.cx.ensures c.self_ty-ty.ensures.sort in
    subst (λ (x : Context). c.self_ty-ty.result.0 < length x.trees) (sym c.cx-3.ensures) (below_kind old.trees c.self_ty-ty.result.0 TypeKind refl sort)

pub returns : goal.returns
returns g c =
    let first = c.args.ecx.now in
    let old = g.E.Build.context first in
    let now = normalizes_goal old.trees c.args.env c.args.predicate in
    let self = subst (λ (x : Context). ty_tree x.trees c.self_ty-ty.result ≡ first_tree (args_forest x.trees c.reference.result.args)) c.cx.ensures c.self_ty-ty.ensures.tree
    ∙ ap (λ a. first_tree (args_forest old.trees a)) c.reference.ensures.args in
    let head = subst (λ (x : Context). c.head-head.result ≡ (ty_tree x.trees c.self_ty-ty.result).head) c.cx-3.ensures c.head-head.ensures ∙ ap (λ (t : Tree). t.head) self in
    let read = subst (λ (x : Context). c.discriminant-named.result ≡ discriminant x c.head-head.result) c.cx-4.ensures c.discriminant-named.ensures in
    considers-same first c.consider_type.new.ecx _ _ c.consider_type.result
    (ap (known_rule (goal_of_trait old now) now.term) (read ∙ ap (discriminant old) head)) c.consider_type.ensures
