use Rattle.std.proofs.Common.{true, map}
use Rattle.std.proofs.lemmas.Result.{err_from_is_err_and}
use Rattle.ir_trees.specs.Syntax.Words.{ty_tree}
use Rattle.candidate_eval.specs.Interface.Evaluators.{kinds_listed}
use Rattle.candidate_eval.proofs.Builtins.Types.{types_kept}
use Rattle.candidate_assembly.specs.Rules.BuiltinRules.{entered_rule}
use Rattle.candidate_assembly.specs.Goals.TraitGoals.{trait_goal}
use Rattle.candidate_assembly.proofs.Calls.Causes.{answered-stop}
use Rattle.candidate_assembly.proofs.Calls.Considering.{not-begun}
use Rattle.candidate_assembly.proofs.Calls.Keeping.{in-probe, trait-goal-kept}
use Rattle.candidate_assembly.proofs.Rules.PartsTold.{entered-moved, free-types}
use Rattle.candidate_assembly.proofs.Calls.Using.{considers-using}
use Rattle.candidate_assembly.proofs.trait_goals.parts.probe_parts.Goals as goal

pub returns-in_err-probe : goal.returns-in_err-probe
returns-in_err-probe g c =
    let why = c.in_err-probe.ensures in
    not-begun g.met.E.EvalCtxt.stops_itself (λ f. (g.met.E.EvalCtxt.lawful f).alike_judged_alike) c.args.ecx.now c.begin_probe.new.self _ _ c.from_residual.result c.in_err-probe.field-0.0
    (answered-stop c.from_residual.result _ (err_from_is_err_and c.from_residual.result c.from_residual.ensures.1)) why.fixed why.grows why.faults why.stopped why.cause

pub try_parts-answer-requires-clause-goal : goal.try_parts-answer-requires-clause-goal
try_parts-answer-requires-clause-goal g c = (trait-goal-kept _ _ c.args.env c.args.predicate c.begin_probe.ensures.grows c.requires.goal).0

pub try_parts-answer-requires-clause-types : goal.try_parts-answer-requires-clause-types
try_parts-answer-requires-clause-types g c = (types_kept _ _ c.args.types.now c.begin_probe.ensures.grows.kept c.requires.types).0

pub try_parts-answer-requires-clause-free : goal.try_parts-answer-requires-clause-free
try_parts-answer-requires-clause-free g c =
    free-types (g.E.Build.context c.args.ecx.now).trees (g.E.Build.context c.begin_probe.new.self).trees c.args.types.now (types_kept _ _ c.args.types.now c.begin_probe.ensures.grows.kept c.requires.types).1 c.requires.free

pub returns : goal.returns
returns g c =
    let E = g.E.EvalCtxt in
    let old = g.E.Build.context c.args.ecx.now in
    let mid = g.E.Build.context c.begin_probe.new.self in
    let ran = c.try_parts-answer in
    let end = c.end_probe-usages.ensures in
    let began = c.in_ok-probe.ensures in
    let K = kinds_listed c.args.kinds.now in
    let now = trait_goal old.trees c.args.env c.args.predicate in
    let there = trait_goal mid.trees c.args.env c.args.predicate in
    let ts = map (ty_tree old.trees) c.args.types.now in
    let us = map (ty_tree mid.trees) c.args.types.now in
    considers-using c.args.ecx.now c.end_probe-usages.new.self _ c.end_probe-usages.result ran.result c.with_head_usages.result c.with_head_usages.ensures
    (in-probe E.fixed E.judge E.state E.probes g.E.Build.context E.stops c.args.ecx.now c.begin_probe.new.self ran.new.ecx c.end_probe-usages.new.self (entered_rule now true c.args.source K ts) (entered_rule there true c.args.source K us)
    ran.result began.fixed began.ok.0 began.ok.1 began.grows began.faults ran.ensures.kept end.fixed end.grows end.faults end.left end.closed
    (entered-moved now there c.args.source K ts us (trait-goal-kept old mid c.args.env c.args.predicate began.grows c.requires.goal).1 (types_kept old.trees mid.trees c.args.types.now began.grows.kept c.requires.types).1)
    ran.ensures.told ran.ensures.cause)
