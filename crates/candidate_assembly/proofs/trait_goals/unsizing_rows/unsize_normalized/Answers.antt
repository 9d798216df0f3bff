use Rattle.std.proofs.Common.{[], subst, sym}
use Rattle.ir_trees.specs.Validity.WellFormed.{IsWellFormedTable}
use Rattle.ir_trees.specs.Syntax.Words.{env_forest, ty_tree}
use Rattle.candidate_eval.specs.Interface.Accounts as question
use Rattle.candidate_eval.specs.Interface.Accounts.{by_stop}
use Rattle.candidate_eval.proofs.Interface.Accounts.{reaches}
use Rattle.candidate_eval.proofs.Interface.Probing.{keeps-trans}
use Rattle.candidate_assembly.specs.Goals.KindBounds.{UnsizingList, refused}
use Rattle.candidate_assembly.specs.Answers.Telling.{StopsOfItself}
use Rattle.candidate_assembly.specs.Goals.TraitGoals.{trait_goal}
use Rattle.candidate_assembly.specs.Goals.TraitRules.{trait_bounds, trait_rules}
use Rattle.candidate_assembly.specs.Rules.Unsizing.{IsUnsizedTo}
use Rattle.candidate_assembly.proofs.Aliases.AliasChains.{list-as}
use Rattle.candidate_assembly.proofs.Calls.Causes.{asked-here, later, so-err}
use Rattle.candidate_assembly.proofs.Calls.Keeping.{trait-goal-kept}
use Rattle.candidate_assembly.proofs.Unsizing.UnsizedTargets.{normal-target, nothing-told, target-is, type-fits, unsized-there}
use Rattle.candidate_assembly.proofs.trait_goals.unsizing_rows.unsize_normalized.Goals as goal

pub unsize_to-requires-clause-goal : goal.unsize_to-requires-clause-goal
unsize_to-requires-clause-goal g c = (trait-goal-kept (g.E.Build.context c.args.ecx.now) (g.E.Build.context c.structurally_normalize_ty.new.self) c.args.env c.args.predicate c.structurally_normalize_ty.ensures.kept.grows c.requires.goal).0

pub unsize_to-requires-clause-stands : goal.unsize_to-requires-clause-stands
unsize_to-requires-clause-stands g c =
    let E = g.E.EvalCtxt in
    let first = c.args.ecx.now in
    let mid = c.structurally_normalize_ty.new.self in
    let old = g.E.Build.context first in
    let now = g.E.Build.context mid in
    let goal = trait_goal old.trees c.args.env c.args.predicate in
    let same = (trait-goal-kept old now c.args.env c.args.predicate c.structurally_normalize_ty.ensures.kept.grows c.requires.goal).1 in
    normal-target (E.judge (E.fixed first)) (g.met.E.EvalCtxt.lawful (E.fixed first)).normal_forms (E.state first) (E.state mid) goal (trait_goal now.trees c.args.env c.args.predicate) (ty_tree old.trees c.args.target) (ty_tree now.trees c.in-Ok.target)
    same (target-is goal (ty_tree old.trees c.args.target) c.requires.is_target) c.requires.stands c.in-Ok.ensures.ok

pub returns-in-Ok-clause-kept : goal.returns-in-Ok-clause-kept
returns-in-Ok-clause-kept g c =
    let E = g.E.EvalCtxt in
    keeps-trans E.fixed E.probes g.E.Build.context c.args.ecx.now c.structurally_normalize_ty.new.self c.unsize_to.new.ecx c.structurally_normalize_ty.ensures.kept c.unsize_to.ensures.kept

pub returns-in-Ok-clause-told : goal.returns-in-Ok-clause-told
returns-in-Ok-clause-told g c =
    let E = g.E.EvalCtxt in
    let first = c.args.ecx.now in
    let mid = c.structurally_normalize_ty.new.self in
    let old = g.E.Build.context first in
    let now = g.E.Build.context mid in
    let to = ty_tree now.trees c.in-Ok.target in
    let kept = c.structurally_normalize_ty.ensures.kept in
    list-as _ (g.E.Build.context c.unsize_to.new.ecx).trees c.unsize_to.result
    (λ l x. unsized-there (E.judge (E.fixed first)) (g.met.E.EvalCtxt.lawful (E.fixed first)).alike_judged_alike old now (E.state first) (E.state mid) c.args.env c.args.predicate (ty_tree old.trees c.args.target) to
    (subst IsWellFormedTable c.cx.ensures c.recall_well_formed_table.ensures) kept.grows c.requires.goal c.requires.is_target c.in-Ok.ensures.ok
    (type-fits now (subst IsWellFormedTable c.cx-in-Ok.ensures c.recall_well_formed_table-in-Ok.ensures) c.in-Ok.target c.in-Ok.ensures.sort) l
    (subst (λ f. IsUnsizedTo (E.judge f) now (E.state mid) (trait_goal now.trees c.args.env c.args.predicate) to [] l) kept.fixed_same x))
    c.unsize_to.ensures.told

pub returns-in-Ok-clause-cause : goal.returns-in-Ok-clause-cause
returns-in-Ok-clause-cause g c = so-err c.unsize_to.result (λ s. later (reaches c.structurally_normalize_ty.ensures.kept)) c.unsize_to.ensures.cause

pub returns-in-Err-Stop-clause-cause : goal.returns-in-Err-Stop-clause-cause
returns-in-Err-Stop-clause-cause g c =
    let old = g.E.Build.context c.args.ecx.now in
    let q = question.normalize (env_forest old.trees c.args.env) (ty_tree old.trees c.args.target) in
    subst (StopsOfItself g.E.EvalCtxt.fixed g.E.Build.context g.E.EvalCtxt.state g.E.EvalCtxt.stops c.args.ecx.now c.structurally_normalize_ty.new.self) (sym c.in-Err-Stop.stop-is)
    (asked-here q c.structurally_normalize_ty.ensures.kept
    (subst (by_stop (λ s. g.E.EvalCtxt.stops c.structurally_normalize_ty.new.self (g.E.EvalCtxt.state c.args.ecx.now) q s)) c.in-Err-Stop.field-0-is c.in-Err-Stop.ensures.cause))

pub returns-in-Err-NoSolution-clause-told : goal.returns-in-Err-NoSolution-clause-told
returns-in-Err-NoSolution-clause-told g c =
    let E = g.E.EvalCtxt in
    let first = c.args.ecx.now in
    let old = g.E.Build.context first in
    nothing-told (g.E.Build.context c.structurally_normalize_ty.new.self).trees (UnsizingList trait_rules trait_bounds (E.judge (E.fixed first)) old (E.state first) (trait_goal old.trees c.args.env c.args.predicate)) c.new.result c.new.ensures.items
    (refused (E.state first) c.requires.is_target ((g.met.E.EvalCtxt.lawful (E.fixed first)).alike_judged_alike.alike_same (E.state first)) (c.in-Err-NoSolution.ensures.refused c.in-Err-NoSolution.field-0-is))
