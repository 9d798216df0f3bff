use Rattle.std.proofs.lemmas.Result.{err_from_is_err_and}
use Rattle.std.proofs.Common.{true}
use Rattle.candidate_eval.specs.declared.eval.context.ProbeKind.TheVariants.{Kept}
use Rattle.candidate_eval.specs.Interface.Accounts as question
use Rattle.candidate_assembly.proofs.Calls.Causes.{answered-stop}
use Rattle.candidate_assembly.proofs.Calls.Considering.{not-begun}
use Rattle.candidate_assembly.proofs.Calls.Keeping.{goal-kept, in-probe}
use Rattle.candidate_assembly.proofs.Calls.Using.{considers-using}
use Rattle.projection_goals.specs.LanguageTypes.{equal_rule}
use Rattle.projection_goals.specs.Normalizing.{goal_of_trait, normalizes_goal}
use Rattle.projection_goals.specs.NormalizingLaws.{normalizes_goal_stays}
use Rattle.projection_goals.proofs.LanguageRules.{says-same}
use Rattle.projection_goals.proofs.language.probe_type.Goals as goal

pub returns-in_err-probe : goal.returns-in_err-probe
returns-in_err-probe g c =
    let why = c.in_err-probe.ensures in
    let old = g.E.Build.context c.args.ecx.now in
    let now = normalizes_goal old.trees c.args.env c.args.predicate in
    let s = c.in_err-probe.field-0.0 in
    not-begun g.met.E.EvalCtxt.stops_itself (λ f. (g.met.E.EvalCtxt.lawful f).alike_judged_alike) c.args.ecx.now c.begin_probe.new.self (question.begin_probe Kept) (equal_rule (goal_of_trait old now) now.term true c.args.named) c.from_residual.result s
    (answered-stop c.from_residual.result s (err_from_is_err_and c.from_residual.result c.from_residual.ensures.1)) why.fixed why.grows why.faults why.stopped why.cause

pub try_type-answer-requires : goal.try_type-answer-requires
try_type-answer-requires g c =
    let grows = c.begin_probe.ensures.grows in
    record { goal = goal-kept grows (normalizes_goal_stays (g.E.Build.context c.args.ecx.now) (g.E.Build.context c.begin_probe.new.self) c.args.env c.args.predicate grows c.requires.goal) c.requires.goal }

pub returns : goal.returns
returns g c =
    let E = g.E.EvalCtxt in
    let old = g.E.Build.context c.args.ecx.now in
    let mid = g.E.Build.context c.begin_probe.new.self in
    let ran = c.try_type-answer in
    let end = c.end_probe-usages.ensures in
    let began = c.in_ok-probe.ensures in
    let now = normalizes_goal old.trees c.args.env c.args.predicate in
    let there = normalizes_goal mid.trees c.args.env c.args.predicate in
    considers-using c.args.ecx.now c.end_probe-usages.new.self _ c.end_probe-usages.result ran.result c.with_head_usages.result c.with_head_usages.ensures
    (in-probe E.fixed E.judge E.state E.probes g.E.Build.context E.stops c.args.ecx.now c.begin_probe.new.self ran.new.ecx c.end_probe-usages.new.self (equal_rule (goal_of_trait old now) now.term true c.args.named)
    (equal_rule (goal_of_trait mid there) there.term true c.args.named) ran.result began.fixed began.ok.0 began.ok.1 began.grows began.faults ran.ensures.kept end.fixed end.grows end.faults end.left end.closed
    (says-same (λ x t. equal_rule x t true c.args.named) old mid c.args.env c.args.predicate began.grows c.requires.goal)
    ran.ensures.told ran.ensures.cause)
