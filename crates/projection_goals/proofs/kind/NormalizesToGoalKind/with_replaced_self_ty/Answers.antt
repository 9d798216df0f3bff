use Rattle.std.proofs.Common.{◌≡◌, ◌∙◌, ap, refl, subst, sym}
use Rattle.ir_trees.specs.declared.ir.kinds.PredicatePolarity.TheVariants as Pol
use Rattle.ir_trees.specs.declared.ir.kinds.TraitPredicate.{TraitPredicate}
use Rattle.ir_trees.specs.Declarations.Context.{Context}
use Rattle.ir_trees.specs.Declarations.References.{ArgumentsFit, reference_of}
use Rattle.ir_trees.specs.Declarations.Worlds.{Reference}
use Rattle.ir_trees.specs.Syntax.Words.{args_forest, ty_tree}
use Rattle.ir_trees.proofs.Growth.Kept.{ty-kept}
use Rattle.candidate_eval.specs.Derivations.ImplRules.{TraitGoal}
use Rattle.candidate_assembly.specs.Goals.KindShown.{IsGoal}
use Rattle.candidate_assembly.specs.Goals.TraitGoals.{with_first}
use Rattle.projection_goals.specs.declared.kind.NormalizesTo.{NormalizesTo}
use Rattle.projection_goals.specs.Normalizing.{normalizes_goal, normalizes_kind, reference_of_goal}
use Rattle.projection_goals.specs.NormalizingLaws.{term-is}
use Rattle.projection_goals.proofs.Changing.{as-trait-goal, other-goal, reference-here, same-goal}
use Rattle.projection_goals.proofs.kind.NormalizesToGoalKind.with_replaced_self_ty.Goals as goal

pub reference-requires : goal.reference-requires
reference-requires g c = subst (λ (x : Context). IsGoal normalizes_kind x c.args.env c.args.predicate) (sym c.cx.ensures) c.requires.goal

pub with_replaced_self_ty-requires-clause-goal : goal.with_replaced_self_ty-requires-clause-goal
with_replaced_self_ty-requires-clause-goal g c =
    let old = g.E.Build.context c.args.ecx.now in
    let fit = subst (λ (x : Context). ArgumentsFit x c.reference.result) c.cx.ensures c.reference.ensures.fit in
    as-trait-goal old c.args.env c.args.predicate c.reference.result c.requires.goal c.reference.ensures.args fit

pub returns-clause-is : goal.returns-clause-is
returns-clause-is g c =
    let old = g.E.Build.context c.args.ecx.now in
    let new = g.E.Build.context c.with_replaced_self_ty.new.ecx in
    let p = c.args.predicate in
    let other = c.in_ok-other.other in
    let t = ty_tree old.trees c.args.self_ty in
    let is = c.in_ok-other.ensures.is in
    let q : NormalizesTo = record { alias = record { kind = p.alias.kind; id = p.alias.id; args = other.trait_ref.args }; term = p.term } in
    let args : args_forest new.trees other.trait_ref.args ≡ with_first t (args_forest old.trees p.alias.args) =
    ap (λ (z : TraitGoal). z.reference.arguments) is ∙ ap (λ a. with_first t (args_forest old.trees a)) c.reference.ensures.args in
    same-goal old new c.args.env c.args.env p q _ _ refl (ap (λ (z : TraitGoal). z.env) is) args (ty-kept old new p.term c.with_replaced_self_ty.ensures.kept.grows (term-is old c.args.env p c.requires.goal)).1

pub returns-clause-goal : goal.returns-clause-goal
returns-clause-goal g c free shut =
    let old = g.E.Build.context c.args.ecx.now in
    let new = g.E.Build.context c.with_replaced_self_ty.new.ecx in
    let p = c.args.predicate in
    let other = c.in_ok-other.other in
    let t = ty_tree old.trees c.args.self_ty in
    let q : NormalizesTo = record { alias = record { kind = p.alias.kind; id = p.alias.id; args = other.trait_ref.args }; term = p.term } in
    let r : TraitPredicate = record { trait_ref = c.reference.result; polarity = Pol.Positive } in
    let named = ap (λ (z : Reference). z.trait) (subst (λ (x : Context). reference_of x.trees c.reference.result ≡ reference_of_goal x (normalizes_goal x.trees c.args.env p)) c.cx.ensures c.reference.ensures.is ∙ reference-here old c.args.env p c.requires.goal) in
    other-goal old new c.args.env p q r other t c.with_replaced_self_ty.ensures.kept.grows c.requires.goal refl refl refl named c.in_ok-other.ensures.is (c.in_ok-other.ensures.goal free shut)
