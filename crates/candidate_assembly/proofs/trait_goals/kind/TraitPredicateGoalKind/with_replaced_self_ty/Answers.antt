use Rattle.std.proofs.lemmas.Result.{err_from_is_err_and}
use Rattle.ir_trees.specs.Syntax.Words.{ty_tree}
use Rattle.candidate_eval.specs.Interface.Accounts.StopsSomehow.{making}
use Rattle.candidate_eval.proofs.Dynamic.Objects.{env-kept}
use Rattle.candidate_assembly.proofs.Goals.SelfTypes.{other-goal, same-trait-goal}
use Rattle.candidate_assembly.proofs.trait_goals.kind.TraitPredicateGoalKind.with_replaced_self_ty.Goals as goal

pub returns-in_err-other-clause-cause : goal.returns-in_err-other-clause-cause
returns-in_err-other-clause-cause g c =
    let p = err_from_is_err_and c.from_residual.result c.from_residual.ensures.1 in
    rw (p.1, p.2) (making c.in_err-other.ensures.cause)

pub returns-clause-is : goal.returns-clause-is
returns-clause-is g c =
    let old = g.E.Build.context c.args.ecx.now in
    let new = g.E.Build.context c.with_self_ty.new.make in
    same-trait-goal old new c.args.env c.args.predicate c.in_ok-other.other (ty_tree old.trees c.args.self_ty) (env-kept old new c.args.env c.with_self_ty.ensures.grows c.requires.goal.env).1
    c.in_ok-other.ensures.id c.in_ok-other.ensures.polarity c.in_ok-other.ensures.arguments

pub returns-clause-goal : goal.returns-clause-goal
returns-clause-goal g c free e =
    let old = g.E.Build.context c.args.ecx.now in
    let new = g.E.Build.context c.with_self_ty.new.make in
    other-goal old new c.args.env c.args.predicate c.in_ok-other.other c.args.self_ty c.with_self_ty.ensures.grows c.requires.goal c.in_ok-other.ensures.sort c.in_ok-other.ensures.fit c.in_ok-other.ensures.arguments free e
