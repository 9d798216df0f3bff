use Rattle.std.proofs.Common.{rules, ◌≡◌, true, false}
use Rattle.ir_trees.specs.Syntax.Words.{args_forest, clause_tree, env_forest}
use Rattle.ir_folds.proofs.Instantiation.Joining.{clause-kept}
use Rattle.ir_trees.proofs.Growth.Kept.{args-kept}
use Rattle.candidate_eval.specs.declared.eval.refusal.NoSolutionOrStop.TheVariants.{NoSolution}
use Rattle.candidate_eval.specs.Dynamic.Objects.{is_about}
use Rattle.candidate_eval.proofs.Dynamic.Objects.{env-kept, probe-answer}
use Rattle.candidate_eval.proofs.Interface.Probing.{of-error, keeps-probe, alike-probe}
use Rattle.std.proofs.lemmas.Result.{err_from_is_err_and}
use Rattle.candidate_eval.proofs.Interface.Accounts.{accounted-here, at-stop, same-bound, stops-within}
use Rattle.candidate_eval.specs.Interface.Accounts.StopsBy.{accounted}
use Rattle.candidate_eval.proofs.objects.object.bound_matches.Goals as goal

pub equate_and_evaluate-answer-requires-clause-env : goal.equate_and_evaluate-answer-requires-clause-env
equate_and_evaluate-answer-requires-clause-env g c =
    (env-kept (g.E.Build.context c.args.ecx.now) (g.E.Build.context c.begin_probe.new.self) c.args.env c.begin_probe.ensures.grows c.requires.env).0

pub equate_and_evaluate-answer-requires-clause-bound : goal.equate_and_evaluate-answer-requires-clause-bound
equate_and_evaluate-answer-requires-clause-bound g c =
    (clause-kept (g.E.Build.context c.args.ecx.now) (g.E.Build.context c.begin_probe.new.self) c.args.bound c.begin_probe.ensures.grows c.requires.bound).0

pub equate_and_evaluate-answer-requires-clause-args : goal.equate_and_evaluate-answer-requires-clause-args
equate_and_evaluate-answer-requires-clause-args g c =
    (args-kept (g.E.Build.context c.args.ecx.now) (g.E.Build.context c.begin_probe.new.self) c.args.projection.args c.begin_probe.ensures.grows c.requires.args).0

pub returns-in-Ok-clause-answer : goal.returns-in-Ok-clause-answer
returns-in-Ok-clause-answer g c =
    let E = g.E.EvalCtxt in
    let old = c.args.ecx.now in
    let mid = c.begin_probe.new.self in
    let before = g.E.Build.context old in
    let after = g.E.Build.context mid in
    let grows = c.begin_probe.ensures.grows in
    let about : is_about c.args.projection.def_id.0 (clause_tree before.trees c.args.bound).head ≡ true = search rules in
    probe-answer E.judge (E.fixed old) (E.fixed mid) (E.state old) (E.state mid) (env_forest before.trees c.args.env) (env_forest after.trees c.args.env) (clause_tree before.trees c.args.bound) (clause_tree after.trees c.args.bound)
    (args_forest before.trees c.args.projection.args) (args_forest after.trees c.args.projection.args) c.args.projection.def_id.0 true
    c.begin_probe.ensures.fixed c.in_ok-probe.ensures.ok.0 (env-kept before after c.args.env grows c.requires.env).1 (clause-kept before after c.args.bound grows c.requires.bound).1
    (args-kept before after c.args.projection.args grows c.requires.args).1 about c.in-Ok.ensures.ok

pub returns-in-Err-NoSolution-clause-answer : goal.returns-in-Err-NoSolution-clause-answer
returns-in-Err-NoSolution-clause-answer g c =
    let E = g.E.EvalCtxt in
    let old = c.args.ecx.now in
    let mid = c.begin_probe.new.self in
    let before = g.E.Build.context old in
    let after = g.E.Build.context mid in
    let grows = c.begin_probe.ensures.grows in
    let ran = c.equate_and_evaluate-answer in
    let about : is_about c.args.projection.def_id.0 (clause_tree before.trees c.args.bound).head ≡ true = search rules in
    let is : c.in-Err-NoSolution.field-0 ≡ NoSolution = search rules in
    probe-answer E.judge (E.fixed old) (E.fixed mid) (E.state old) (E.state mid) (env_forest before.trees c.args.env) (env_forest after.trees c.args.env) (clause_tree before.trees c.args.bound) (clause_tree after.trees c.args.bound)
    (args_forest before.trees c.args.projection.args) (args_forest after.trees c.args.projection.args) c.args.projection.def_id.0 false
    c.begin_probe.ensures.fixed c.in_ok-probe.ensures.ok.0 (env-kept before after c.args.env grows c.requires.env).1 (clause-kept before after c.args.bound grows c.requires.bound).1
    (args-kept before after c.args.projection.args grows c.requires.args).1 about (of-error ran.result c.in-Err-NoSolution.field-0 _ c.in-Err-NoSolution.is ran.ensures.refused is)

pub returns-in-Ok-clause-kept : goal.returns-in-Ok-clause-kept
returns-in-Ok-clause-kept g c =
    let E = g.E.EvalCtxt in
    let ran = c.equate_and_evaluate-answer in
    let end = c.end_probe-usages in
    let began = c.in_ok-probe.ensures in
    keeps-probe E.fixed E.probes g.E.Build.context c.args.ecx.now c.begin_probe.new.self ran.new.ecx end.new.self (E.state c.args.ecx.now)
    began.fixed began.grows began.faults began.ok.1 ran.ensures.kept end.ensures.fixed end.ensures.grows end.ensures.faults end.ensures.left

pub returns-in-Ok-clause-alike : goal.returns-in-Ok-clause-alike
returns-in-Ok-clause-alike g c =
    let E = g.E.EvalCtxt in
    let ran = c.equate_and_evaluate-answer in
    let end = c.end_probe-usages in
    let began = c.in_ok-probe.ensures in
    alike-probe E.fixed E.probes E.judge E.state c.args.ecx.now c.begin_probe.new.self ran.new.ecx end.new.self
    began.fixed began.ok.1 ran.ensures.kept.fixed_same ran.ensures.kept.probes_same end.ensures.closed

pub returns-in-Err-NoSolution-clause-kept : goal.returns-in-Err-NoSolution-clause-kept
returns-in-Err-NoSolution-clause-kept g c =
    let E = g.E.EvalCtxt in
    let ran = c.equate_and_evaluate-answer in
    let end = c.end_probe-usages in
    let began = c.in_ok-probe.ensures in
    keeps-probe E.fixed E.probes g.E.Build.context c.args.ecx.now c.begin_probe.new.self ran.new.ecx end.new.self (E.state c.args.ecx.now)
    began.fixed began.grows began.faults began.ok.1 ran.ensures.kept end.ensures.fixed end.ensures.grows end.ensures.faults end.ensures.left

pub returns-in-Err-NoSolution-clause-alike : goal.returns-in-Err-NoSolution-clause-alike
returns-in-Err-NoSolution-clause-alike g c =
    let E = g.E.EvalCtxt in
    let ran = c.equate_and_evaluate-answer in
    let end = c.end_probe-usages in
    let began = c.in_ok-probe.ensures in
    alike-probe E.fixed E.probes E.judge E.state c.args.ecx.now c.begin_probe.new.self ran.new.ecx end.new.self
    began.fixed began.ok.1 ran.ensures.kept.fixed_same ran.ensures.kept.probes_same end.ensures.closed

pub returns-clause-kept : goal.returns-clause-kept
returns-clause-kept g c =
    let E = g.E.EvalCtxt in
    let ran = c.equate_and_evaluate-answer in
    let end = c.end_probe-usages in
    let began = c.in_ok-probe.ensures in
    keeps-probe E.fixed E.probes g.E.Build.context c.args.ecx.now c.begin_probe.new.self ran.new.ecx end.new.self (E.state c.args.ecx.now)
    began.fixed began.grows began.faults began.ok.1 ran.ensures.kept end.ensures.fixed end.ensures.grows end.ensures.faults end.ensures.left

pub returns-clause-alike : goal.returns-clause-alike
returns-clause-alike g c =
    let E = g.E.EvalCtxt in
    let ran = c.equate_and_evaluate-answer in
    let end = c.end_probe-usages in
    let began = c.in_ok-probe.ensures in
    alike-probe E.fixed E.probes E.judge E.state c.args.ecx.now c.begin_probe.new.self ran.new.ecx end.new.self
    began.fixed began.ok.1 ran.ensures.kept.fixed_same ran.ensures.kept.probes_same end.ensures.closed

pub returns-in_err-probe-clause-cause : goal.returns-in_err-probe-clause-cause
returns-in_err-probe-clause-cause g c =
    let p = err_from_is_err_and c.from_residual.result c.from_residual.ensures.1 in
    rw (p.1, p.2) (accounted (accounted-here _ (record { same = c.begin_probe.ensures.fixed; grows = c.begin_probe.ensures.grows }) c.in_err-probe.ensures.cause))

pub returns-clause-cause : goal.returns-clause-cause
returns-clause-cause g c =
    let same = (clause-kept (g.E.Build.context c.args.ecx.now) (g.E.Build.context c.begin_probe.new.self) c.args.bound c.begin_probe.ensures.grows c.requires.bound).1 in
    let ran = c.equate_and_evaluate-answer in
    let end = c.end_probe-usages.ensures in
    stops-within (record { same = c.begin_probe.ensures.fixed; grows = c.begin_probe.ensures.grows }) (same-bound same)
    (at-stop _ c.in-Err-Stop.field-0 c.in-Err-Stop.stop (search rules) (of-error ran.result c.in-Err-Stop.field-0 _ c.in-Err-Stop.is ran.ensures.cause))
    (record { same = end.fixed; grows = end.grows })
