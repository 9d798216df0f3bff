use Rattle.std.proofs.Common.{rules, ◌≡◌, None, Some, ap}
use Rattle.std.proofs.lemmas.Result.{err_from_is_err_and}
use Rattle.ir_trees.specs.Syntax.Words.{env_forest, pred_tree}
use Rattle.candidate_eval.specs.declared.eval.context.ProbeKind.TheVariants.{Kept}
use Rattle.candidate_eval.specs.declared.eval.refusal.NoSolutionOrStop.TheVariants.{NoSolution}
use Rattle.candidate_eval.specs.Interface.Accounts as question
use Rattle.candidate_eval.specs.Judges.States.{is_some}
use Rattle.candidate_eval.proofs.Interface.Accounts.{at-stop, somehow-within}
use Rattle.candidate_eval.proofs.Dynamic.Objects.{env-kept}
use Rattle.candidate_eval.proofs.Interface.Probing.{alike-probe, keeps-probe, of-error}
use Rattle.candidate_assembly.specs.Calls.Upcasting.{row_under}
use Rattle.candidate_assembly.proofs.Calls.Causes.{asked-somehow}
use Rattle.candidate_assembly.proofs.Upcasting.UpcastMatches.{met-then}
use Rattle.candidate_assembly.proofs.Upcasting.UpcastRows.{pred-kept}
use Rattle.candidate_assembly.proofs.trait_goals.bounds_met.bounds_meet.Goals as goal

pub returns-in_err-probe-clause-cause : goal.returns-in_err-probe-clause-cause
returns-in_err-probe-clause-cause g c =
    let why = c.in_err-probe.ensures in
    let p = err_from_is_err_and c.from_residual.result c.from_residual.ensures.1 in
    rw (p.1, p.2) (asked-somehow {probes = g.E.EvalCtxt.probes} (question.begin_probe Kept) (record { fixed_same = why.fixed; probes_same = why.stopped.1; grows = why.grows; faults = why.faults }) why.cause)

pub equate_bounds-answer-requires-clause-env : goal.equate_bounds-answer-requires-clause-env
equate_bounds-answer-requires-clause-env g c = (env-kept (g.E.Build.context c.args.ecx.now) (g.E.Build.context c.begin_probe.new.self) c.args.env c.begin_probe.ensures.grows c.requires.env).0

pub equate_bounds-answer-requires-clause-source : goal.equate_bounds-answer-requires-clause-source
equate_bounds-answer-requires-clause-source g c = (pred-kept (g.E.Build.context c.args.ecx.now) (g.E.Build.context c.begin_probe.new.self) c.args.source c.begin_probe.ensures.grows c.requires.source).0

pub equate_bounds-answer-requires-clause-target : goal.equate_bounds-answer-requires-clause-target
equate_bounds-answer-requires-clause-target g c = (pred-kept (g.E.Build.context c.args.ecx.now) (g.E.Build.context c.begin_probe.new.self) c.args.target c.begin_probe.ensures.grows c.requires.target).0

pub returns-in-Ok-clause-answer : goal.returns-in-Ok-clause-answer
returns-in-Ok-clause-answer g c =
    let E = g.E.EvalCtxt in
    let old = c.args.ecx.now in
    let mid = c.begin_probe.new.self in
    let a = g.E.Build.context old in
    let b = g.E.Build.context mid in
    let began = c.in_ok-probe.ensures in
    let grows = began.grows in
    ap is_some (met-then E.judge (E.fixed old) (E.fixed mid) (env_forest a.trees c.args.env) (env_forest b.trees c.args.env) (E.state old) (E.state mid) (row_under (pred_tree a.trees c.args.source)) (row_under (pred_tree a.trees c.args.target))
    (row_under (pred_tree b.trees c.args.source)) (row_under (pred_tree b.trees c.args.target)) (Some (E.state c.equate_bounds-answer.new.ecx)) began.fixed (env-kept a b c.args.env grows c.requires.env).1 began.ok.0
    (ap row_under (pred-kept a b c.args.source grows c.requires.source).1) (ap row_under (pred-kept a b c.args.target grows c.requires.target).1) c.in-Ok.ensures.ok)

pub returns-in-Err-NoSolution-clause-answer : goal.returns-in-Err-NoSolution-clause-answer
returns-in-Err-NoSolution-clause-answer g c =
    let E = g.E.EvalCtxt in
    let old = c.args.ecx.now in
    let mid = c.begin_probe.new.self in
    let a = g.E.Build.context old in
    let b = g.E.Build.context mid in
    let began = c.in_ok-probe.ensures in
    let grows = began.grows in
    let ran = c.equate_bounds-answer in
    let is : c.in-Err-NoSolution.field-0 ≡ NoSolution = search rules in
    ap is_some (met-then E.judge (E.fixed old) (E.fixed mid) (env_forest a.trees c.args.env) (env_forest b.trees c.args.env) (E.state old) (E.state mid) (row_under (pred_tree a.trees c.args.source)) (row_under (pred_tree a.trees c.args.target))
    (row_under (pred_tree b.trees c.args.source)) (row_under (pred_tree b.trees c.args.target)) None began.fixed (env-kept a b c.args.env grows c.requires.env).1 began.ok.0
    (ap row_under (pred-kept a b c.args.source grows c.requires.source).1) (ap row_under (pred-kept a b c.args.target grows c.requires.target).1) (of-error ran.result c.in-Err-NoSolution.field-0 _ c.in-Err-NoSolution.is ran.ensures.refused is))

pub returns-in-Ok-clause-kept : goal.returns-in-Ok-clause-kept
returns-in-Ok-clause-kept g c =
    let E = g.E.EvalCtxt in
    let ran = c.equate_bounds-answer in
    let end = c.end_probe-usages in
    let began = c.in_ok-probe.ensures in
    keeps-probe E.fixed E.probes g.E.Build.context c.args.ecx.now c.begin_probe.new.self ran.new.ecx end.new.self (E.state c.args.ecx.now)
    began.fixed began.grows began.faults began.ok.1 ran.ensures.kept end.ensures.fixed end.ensures.grows end.ensures.faults end.ensures.left

pub returns-in-Ok-clause-alike : goal.returns-in-Ok-clause-alike
returns-in-Ok-clause-alike g c =
    let E = g.E.EvalCtxt in
    let ran = c.equate_bounds-answer in
    let end = c.end_probe-usages in
    let began = c.in_ok-probe.ensures in
    alike-probe E.fixed E.probes E.judge E.state c.args.ecx.now c.begin_probe.new.self ran.new.ecx end.new.self
    began.fixed began.ok.1 ran.ensures.kept.fixed_same ran.ensures.kept.probes_same end.ensures.closed

pub returns-in-Err-NoSolution-clause-kept : goal.returns-in-Err-NoSolution-clause-kept
returns-in-Err-NoSolution-clause-kept g c =
    let E = g.E.EvalCtxt in
    let ran = c.equate_bounds-answer in
    let end = c.end_probe-usages in
    let began = c.in_ok-probe.ensures in
    keeps-probe E.fixed E.probes g.E.Build.context c.args.ecx.now c.begin_probe.new.self ran.new.ecx end.new.self (E.state c.args.ecx.now)
    began.fixed began.grows began.faults began.ok.1 ran.ensures.kept end.ensures.fixed end.ensures.grows end.ensures.faults end.ensures.left

pub returns-in-Err-NoSolution-clause-alike : goal.returns-in-Err-NoSolution-clause-alike
returns-in-Err-NoSolution-clause-alike g c =
    let E = g.E.EvalCtxt in
    let ran = c.equate_bounds-answer in
    let end = c.end_probe-usages in
    let began = c.in_ok-probe.ensures in
    alike-probe E.fixed E.probes E.judge E.state c.args.ecx.now c.begin_probe.new.self ran.new.ecx end.new.self
    began.fixed began.ok.1 ran.ensures.kept.fixed_same ran.ensures.kept.probes_same end.ensures.closed

pub returns-clause-kept : goal.returns-clause-kept
returns-clause-kept g c =
    let E = g.E.EvalCtxt in
    let ran = c.equate_bounds-answer in
    let end = c.end_probe-usages in
    let began = c.in_ok-probe.ensures in
    keeps-probe E.fixed E.probes g.E.Build.context c.args.ecx.now c.begin_probe.new.self ran.new.ecx end.new.self (E.state c.args.ecx.now)
    began.fixed began.grows began.faults began.ok.1 ran.ensures.kept end.ensures.fixed end.ensures.grows end.ensures.faults end.ensures.left

pub returns-clause-alike : goal.returns-clause-alike
returns-clause-alike g c =
    let E = g.E.EvalCtxt in
    let ran = c.equate_bounds-answer in
    let end = c.end_probe-usages in
    let began = c.in_ok-probe.ensures in
    alike-probe E.fixed E.probes E.judge E.state c.args.ecx.now c.begin_probe.new.self ran.new.ecx end.new.self
    began.fixed began.ok.1 ran.ensures.kept.fixed_same ran.ensures.kept.probes_same end.ensures.closed

pub returns-clause-cause : goal.returns-clause-cause
returns-clause-cause g c =
    let ran = c.equate_bounds-answer in
    let began = c.in_ok-probe.ensures in
    let end = c.end_probe-usages.ensures in
    somehow-within (record { same = began.fixed; grows = began.grows })
    (at-stop _ c.in-Err-Stop.field-0 c.in-Err-Stop.stop (search rules) (of-error ran.result c.in-Err-Stop.field-0 _ c.in-Err-Stop.is ran.ensures.cause))
    (record { same = end.fixed; grows = end.grows })
