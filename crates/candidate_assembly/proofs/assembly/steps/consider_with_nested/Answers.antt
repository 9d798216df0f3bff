use Rattle.std.proofs.Common.{◌≡◌, true, rules, map, refl}
use Rattle.ir_trees.specs.Syntax.Words.{clause_tree, env_forest}
use Rattle.candidate_assembly.specs.Answers.Telling.{flat_rule}
use Rattle.std.proofs.lemmas.Result.{err_from_is_err_and}
use Rattle.candidate_eval.proofs.Dynamic.Objects.{env-kept}
use Rattle.candidate_eval.proofs.Outcomes.Responding.{clauses-kept}
use Rattle.candidate_assembly.proofs.Calls.Causes.{answered-stop}
use Rattle.candidate_assembly.proofs.Calls.Considering.{not-begun}
use Rattle.candidate_assembly.proofs.Calls.Keeping.{in-probe}
use Rattle.candidate_assembly.proofs.Rules.Flat.{flat-told}
use Rattle.candidate_assembly.proofs.Calls.Using.{considers-using}
use Rattle.candidate_assembly.proofs.assembly.steps.consider_with_nested.Goals as goal

pub returns-in_err-probe : goal.returns-in_err-probe
returns-in_err-probe g c =
    let why = c.in_err-probe.ensures in
    not-begun g.met.E.EvalCtxt.stops_itself (λ f. (g.met.E.EvalCtxt.lawful f).alike_judged_alike) c.args.ecx.now c.begin_probe.new.self _ _ c.from_residual.result c.in_err-probe.field-0.0
    (answered-stop c.from_residual.result _ (err_from_is_err_and c.from_residual.result c.from_residual.ensures.1)) why.fixed why.grows why.faults why.stopped why.cause

pub nest_and_respond-answer-requires-clause-env : goal.nest_and_respond-answer-requires-clause-env
nest_and_respond-answer-requires-clause-env g c = (env-kept _ _ c.args.env c.begin_probe.ensures.grows c.requires.env).0

pub nest_and_respond-answer-requires-clause-nested : goal.nest_and_respond-answer-requires-clause-nested
nest_and_respond-answer-requires-clause-nested g c = (clauses-kept _ _ c.args.nested.now c.begin_probe.ensures.grows c.requires.nested).0

pub returns : goal.returns
returns g c =
    let E = g.E.EvalCtxt in
    let ran = c.nest_and_respond-answer in
    let end = c.end_probe-usages.ensures in
    let began = c.in_ok-probe.ensures in
    let applies : c.args.applies ≡ true = search rules in
    let rule = flat_rule (env_forest (g.E.Build.context c.args.ecx.now).trees c.args.env) c.args.applies c.args.nested_source (map (clause_tree (g.E.Build.context c.args.ecx.now).trees) c.args.nested.now) c.args.source c.args.certainty in
    considers-using c.args.ecx.now c.end_probe-usages.new.self _ c.end_probe-usages.result ran.result c.with_head_usages.result c.with_head_usages.ensures
    (in-probe E.fixed E.judge E.state E.probes g.E.Build.context E.stops c.args.ecx.now c.begin_probe.new.self ran.new.ecx c.end_probe-usages.new.self rule rule ran.result began.fixed began.ok.0 began.ok.1 began.grows began.faults ran.ensures.kept
    end.fixed end.grows end.faults end.left end.closed refl
    (flat-told (E.judge (E.fixed c.begin_probe.new.self)) (g.E.Build.context c.args.ecx.now) (g.E.Build.context c.begin_probe.new.self) (g.E.Build.context ran.new.ecx).trees (E.state c.begin_probe.new.self)
    c.args.applies c.args.env c.args.nested_source c.args.source c.args.certainty c.args.nested.now ran.result applies began.grows c.requires.env c.requires.nested c.requires.free ran.ensures.told)
    ran.ensures.cause)
