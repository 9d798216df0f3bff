use Rattle.std.proofs.Common.{length}
use Rattle.std.specs.Prelude.{option_map}
use Rattle.std.proofs.lemmas.Result.{err_from_is_err_and}
use Rattle.ir_trees.specs.Syntax.Words.{clause_tree, env_forest}
use Rattle.candidate_eval.specs.declared.eval.context.ProbeKind.TheVariants.{Kept}
use Rattle.candidate_eval.specs.Interface.Accounts as question
use Rattle.candidate_eval.proofs.Dynamic.Objects.{env-kept}
use Rattle.candidate_assembly.specs.Calls.Upcasting.{upcast_by}
use Rattle.candidate_assembly.proofs.Calls.Causes.{answered-stop}
use Rattle.candidate_assembly.proofs.Calls.Considering.{not-begun}
use Rattle.candidate_assembly.proofs.Calls.Keeping.{in-probe}
use Rattle.candidate_assembly.proofs.Upcasting.UpcastBounds.{env-later, rule-principal-later}
use Rattle.candidate_assembly.proofs.Upcasting.UpcastRules.{as-many, upcast-later, upcast-stays}
use Rattle.candidate_assembly.proofs.Calls.Using.{considers-using}
use Rattle.candidate_assembly.proofs.trait_goals.upcasting.consider_upcast.Goals as goal

pub returns-in_err-probe : goal.returns-in_err-probe
returns-in_err-probe g c =
    let why = c.in_err-probe.ensures in
    let old = g.E.Build.context c.args.ecx.now in
    let rule = upcast_by old (env_forest old.trees c.args.env) c.args.upcast.now (option_map (clause_tree old.trees) c.args.principal) c.args.source in
    let s = c.in_err-probe.field-0.0 in
    not-begun g.met.E.EvalCtxt.stops_itself (λ f. (g.met.E.EvalCtxt.lawful f).alike_judged_alike) c.args.ecx.now c.begin_probe.new.self (question.begin_probe Kept) rule c.from_residual.result s
    (answered-stop c.from_residual.result s (err_from_is_err_and c.from_residual.result c.from_residual.ensures.1)) why.fixed why.grows why.faults why.stopped why.cause

pub try_upcast-answer-requires-clause-env : goal.try_upcast-answer-requires-clause-env
try_upcast-answer-requires-clause-env g c = (env-kept (g.E.Build.context c.args.ecx.now) (g.E.Build.context c.begin_probe.new.self) c.args.env c.begin_probe.ensures.grows c.requires.env).0

pub try_upcast-answer-requires-clause-env_below : goal.try_upcast-answer-requires-clause-env_below
try_upcast-answer-requires-clause-env_below g c =
    let S = g.E.EvalCtxt.state c.args.ecx.now in
    let T = g.E.EvalCtxt.state c.begin_probe.new.self in
    env-later (g.E.Build.context c.args.ecx.now) (g.E.Build.context c.begin_probe.new.self) c.begin_probe.ensures.grows (length S.variables) (length T.variables) (as-many S T c.in_ok-probe.ensures.ok.0) c.args.env c.requires.env c.requires.env_below

pub try_upcast-answer-requires-clause-upcast : goal.try_upcast-answer-requires-clause-upcast
try_upcast-answer-requires-clause-upcast g c =
    let S = g.E.EvalCtxt.state c.args.ecx.now in
    let T = g.E.EvalCtxt.state c.begin_probe.new.self in
    upcast-later (g.E.Build.context c.args.ecx.now) (g.E.Build.context c.begin_probe.new.self) c.begin_probe.ensures.grows (length S.variables) (length T.variables) (as-many S T c.in_ok-probe.ensures.ok.0) c.args.upcast.now c.requires.upcast

pub try_upcast-answer-requires-clause-principal : goal.try_upcast-answer-requires-clause-principal
try_upcast-answer-requires-clause-principal g c =
    let S = g.E.EvalCtxt.state c.args.ecx.now in
    let T = g.E.EvalCtxt.state c.begin_probe.new.self in
    rule-principal-later (g.E.Build.context c.args.ecx.now) (g.E.Build.context c.begin_probe.new.self) c.begin_probe.ensures.grows (length S.variables) (length T.variables) (as-many S T c.in_ok-probe.ensures.ok.0) c.args.principal c.requires.principal

pub returns : goal.returns
returns g c =
    let E = g.E.EvalCtxt in
    let old = g.E.Build.context c.args.ecx.now in
    let mid = g.E.Build.context c.begin_probe.new.self in
    let S = E.state c.args.ecx.now in
    let T = E.state c.begin_probe.new.self in
    let ran = c.try_upcast-answer in
    let end = c.end_probe-usages.ensures in
    let began = c.in_ok-probe.ensures in
    let u = c.args.upcast.now in
    considers-using c.args.ecx.now c.end_probe-usages.new.self _ c.end_probe-usages.result ran.result c.with_head_usages.result c.with_head_usages.ensures
    (in-probe E.fixed E.judge E.state E.probes g.E.Build.context E.stops c.args.ecx.now c.begin_probe.new.self ran.new.ecx c.end_probe-usages.new.self
    (upcast_by old (env_forest old.trees c.args.env) u (option_map (clause_tree old.trees) c.args.principal) c.args.source)
    (upcast_by mid (env_forest mid.trees c.args.env) u (option_map (clause_tree mid.trees) c.args.principal) c.args.source)
    ran.result began.fixed began.ok.0 began.ok.1 began.grows began.faults ran.ensures.kept end.fixed end.grows end.faults end.left end.closed
    (upcast-stays old mid began.grows (length S.variables) (length T.variables) (as-many S T began.ok.0) c.args.env u c.args.principal c.args.source c.requires.env c.requires.upcast c.requires.principal)
    ran.ensures.told ran.ensures.cause)
