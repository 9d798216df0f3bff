use Rattle.std.proofs.Common.{◌≡◌, Err, Some, ap, subst, sym, ◌∙◌}
use Rattle.std.proofs.lemmas.Result.{err_from_is_err_and}
use Rattle.ir_trees.specs.Declarations.Context.{Context}
use Rattle.ir_trees.specs.Hierarchy.Supers.{after_first}
use Rattle.ir_trees.specs.Validity.WellFormed.{IsWellFormedTable}
use Rattle.ir_trees.specs.Syntax.Words.{IsTy, args_forest, ty_tree}
use Rattle.ir_trees.proofs.Growth.Kept.{ty-kept}
use Rattle.candidate_eval.specs.declared.eval.context.ProbeKind.TheVariants.{Kept}
use Rattle.candidate_eval.specs.Interface.Accounts as question
use Rattle.candidate_eval.specs.Dynamic.ObjectRequirements.{first_tree}
use Rattle.candidate_eval.specs.Judges.States.{State}
use Rattle.candidate_assembly.specs.Goals.KindBounds.{UnsizingList, no_target}
use Rattle.candidate_assembly.specs.Goals.Standing.{GoalIsValid}
use Rattle.candidate_assembly.specs.Goals.TraitGoals.{trait_goal}
use Rattle.candidate_assembly.specs.Goals.TraitRules.{trait_bounds, trait_rules}
use Rattle.candidate_assembly.specs.Rules.Unsizing.{unsizing_target}
use Rattle.candidate_assembly.proofs.Aliases.AliasChains.{list-as}
use Rattle.candidate_assembly.proofs.Aliases.AliasWalks.{list-not-begun}
use Rattle.candidate_assembly.proofs.Calls.Keeping.{trait-goal-kept}
use Rattle.candidate_assembly.proofs.Unsizing.UnsizedTargets.{listed-in-probe, nothing-listed, target-none, target-some, unsizing-list-back}
use Rattle.candidate_assembly.proofs.trait_goals.unsizing_rows.consider_unsizing.Goals as goal

pub returns-then-not-is_positive : goal.returns-then-not-is_positive
returns-then-not-is_positive g c =
    let E = g.E.EvalCtxt in
    let first = c.args.ecx.now in
    let old = g.E.Build.context first in
    let goal = trait_goal old.trees c.args.env c.args.predicate in
    nothing-listed (λ f. (g.met.E.EvalCtxt.lawful f).alike_judged_alike) first (UnsizingList trait_rules trait_bounds (E.judge (E.fixed first)) old (E.state first) goal) c.new.result c.new.ensures.items
    (no_target (target-none goal (sym c.is_positive.ensures ∙ c.if-not-is_positive.true)))

pub returns-in_err-probe : goal.returns-in_err-probe
returns-in_err-probe g c =
    let why = c.in_err-probe.ensures in
    let p = err_from_is_err_and c.from_residual.result c.from_residual.ensures.1 in
    list-not-begun g.met.E.EvalCtxt.stops_itself (λ f. (g.met.E.EvalCtxt.lawful f).alike_judged_alike) c.args.ecx.now c.begin_probe.new.self (question.begin_probe Kept) c.from_residual.result c.in_err-probe.field-0.0 (p.1 ∙ ap Err p.2) why.fixed why.grows why.faults why.stopped why.cause

pub unsize_normalized-answer-requires-clause-goal : goal.unsize_normalized-answer-requires-clause-goal
unsize_normalized-answer-requires-clause-goal g c = (trait-goal-kept (g.E.Build.context c.args.ecx.now) (g.E.Build.context c.begin_probe.new.self) c.args.env c.args.predicate c.begin_probe.ensures.grows c.requires.goal).0

pub unsize_normalized-answer-requires-clause-stands : goal.unsize_normalized-answer-requires-clause-stands
unsize_normalized-answer-requires-clause-stands g c =
    let E = g.E.EvalCtxt in
    let old = g.E.Build.context c.args.ecx.now in
    let began = g.E.Build.context c.begin_probe.new.self in
    let same = (trait-goal-kept old began c.args.env c.args.predicate c.begin_probe.ensures.grows c.requires.goal).1 in
    subst (λ (S : State). GoalIsValid trait_rules S (trait_goal began.trees c.args.env c.args.predicate)) (sym c.in_ok-probe.ensures.ok.0) (subst (λ x. GoalIsValid trait_rules (E.state c.args.ecx.now) x) (sym same) c.requires.stands)

pub unsize_normalized-answer-requires-clause-target : goal.unsize_normalized-answer-requires-clause-target
unsize_normalized-answer-requires-clause-target g c =
    let old = g.E.Build.context c.args.ecx.now in
    let sort = subst (λ (x : Context). IsTy x.trees c.unsizing_target-target.result) c.cx-3.ensures c.unsizing_target-target.ensures.sort in
    (ty-kept old (g.E.Build.context c.begin_probe.new.self) c.unsizing_target-target.result c.begin_probe.ensures.grows sort).0

pub unsize_normalized-answer-requires-clause-is_target : goal.unsize_normalized-answer-requires-clause-is_target
unsize_normalized-answer-requires-clause-is_target g c =
    let old = g.E.Build.context c.args.ecx.now in
    let began = g.E.Build.context c.begin_probe.new.self in
    let goal = trait_goal old.trees c.args.env c.args.predicate in
    let t = c.unsizing_target-target.result in
    let sort = subst (λ (x : Context). IsTy x.trees t) c.cx-3.ensures c.unsizing_target-target.ensures.sort in
    let is = subst (λ (x : Context). ty_tree x.trees t ≡ first_tree (after_first (args_forest x.trees c.args.predicate.trait_ref.args))) c.cx-3.ensures c.unsizing_target-target.ensures.tree in
    let same = (trait-goal-kept old began c.args.env c.args.predicate c.begin_probe.ensures.grows c.requires.goal).1 in
    ap unsizing_target same
    ∙ (target-some goal (ty_tree old.trees t) (sym c.is_positive.ensures ∙ c.if-not-is_positive.false) is ∙ ap Some (sym (ty-kept old began t c.begin_probe.ensures.grows sort).1))

pub returns : goal.returns
returns g c =
    let E = g.E.EvalCtxt in
    let first = c.args.ecx.now in
    let start = c.begin_probe.new.self in
    let old = g.E.Build.context first in
    let began = c.in_ok-probe.ensures in
    let ran = c.unsize_normalized-answer in
    let end = c.end_probe-usages.ensures in
    let now = g.E.Build.context start in
    listed-in-probe _ (UnsizingList trait_rules trait_bounds (E.judge (E.fixed first)) old (E.state first) (trait_goal old.trees c.args.env c.args.predicate)) first start ran.new.ecx c.end_probe-usages.new.self ran.result began.fixed began.ok.1 began.grows began.faults
    ran.ensures.kept
    (list-as _ (g.E.Build.context ran.new.ecx).trees ran.result
    (λ l x. unsizing-list-back (E.judge (E.fixed first)) old now (E.state first) c.args.env c.args.predicate (subst IsWellFormedTable c.cx.ensures c.recall_well_formed_table.ensures) began.grows c.requires.goal l
    (subst (λ S. UnsizingList trait_rules trait_bounds (E.judge (E.fixed first)) now S (trait_goal now.trees c.args.env c.args.predicate) l) began.ok.0
    (subst (λ f. UnsizingList trait_rules trait_bounds (E.judge f) now (E.state start) (trait_goal now.trees c.args.env c.args.predicate) l) began.fixed x)))
    ran.ensures.told)
    ran.ensures.cause end.fixed end.grows end.faults end.left end.closed
