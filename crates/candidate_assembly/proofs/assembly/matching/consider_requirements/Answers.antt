use Rattle.std.proofs.lemmas.Result.{err_from_is_err_and}
use Rattle.ir_trees.specs.Syntax.Words.{env_forest}
use Rattle.candidate_eval.specs.declared.eval.context.ProbeKind.TheVariants.{Kept}
use Rattle.candidate_eval.specs.Interface.Accounts as question
use Rattle.candidate_eval.specs.Interface.Accounts.{by_stop}
use Rattle.candidate_eval.specs.Derivations.Judging.{judged}
use Rattle.candidate_eval.proofs.Dynamic.Objects.{env-kept}
use Rattle.candidate_assembly.specs.Rules.Requirements.{requirement_steps, requiring_rule}
use Rattle.candidate_assembly.specs.Answers.Telling.{StopsOfItself}
use Rattle.candidate_eval.proofs.Interface.Probing.{of-error}
use Rattle.candidate_assembly.proofs.Calls.Causes.{answered-stop, so-err}
use Rattle.candidate_assembly.proofs.Calls.Considering.{not-begun}
use Rattle.candidate_assembly.proofs.Calls.Keeping.{in-probe}
use Rattle.candidate_assembly.proofs.Rules.Requiring.{fits-kept, required-free, requiring-told, rule-kept}
use Rattle.candidate_assembly.proofs.assembly.matching.consider_requirements.Goals as goal

pub returns-in_err-probe : goal.returns-in_err-probe
returns-in_err-probe g c =
    let why = c.in_err-probe.ensures in
    let old = g.E.Build.context c.args.ecx.now in
    let s = c.in_err-probe.field-0.0 in
    not-begun g.met.E.EvalCtxt.stops_itself (λ f. (g.met.E.EvalCtxt.lawful f).alike_judged_alike) c.args.ecx.now c.begin_probe.new.self (question.begin_probe Kept)
    (requiring_rule (env_forest old.trees c.args.env) (requirement_steps old.trees c.args.requirements.now)) c.from_residual.result s
    (answered-stop c.from_residual.result s (err_from_is_err_and c.from_residual.result c.from_residual.ensures.1)) why.fixed why.grows why.faults why.stopped why.cause

pub require_and_respond-answer-requires-clause-env : goal.require_and_respond-answer-requires-clause-env
require_and_respond-answer-requires-clause-env g c = (env-kept (g.E.Build.context c.args.ecx.now) (g.E.Build.context c.begin_probe.new.self) c.args.env c.begin_probe.ensures.grows c.requires.env).0

pub require_and_respond-answer-requires-clause-requirements : goal.require_and_respond-answer-requires-clause-requirements
require_and_respond-answer-requires-clause-requirements g c = fits-kept (g.E.Build.context c.args.ecx.now) (g.E.Build.context c.begin_probe.new.self) c.args.requirements.now c.begin_probe.ensures.grows c.requires.requirements

pub returns : goal.returns
returns g c =
    let E = g.E.EvalCtxt in
    let old = g.E.Build.context c.args.ecx.now in
    let mid = g.E.Build.context c.begin_probe.new.self in
    let ran = c.require_and_respond-answer in
    let end = c.end_probe-usages.ensures in
    let began = c.in_ok-probe.ensures in
    let grows = began.grows in
    let J = E.judge (E.fixed c.begin_probe.new.self) in
    let S = E.state c.begin_probe.new.self in
    let rs = c.args.requirements.now in
    let rule = requiring_rule (env_forest mid.trees c.args.env) (requirement_steps mid.trees rs) in
    let us = (g.E.Build.context ran.new.ecx).trees in
    in-probe E.fixed E.judge E.state E.probes g.E.Build.context E.stops c.args.ecx.now c.begin_probe.new.self ran.new.ecx c.end_probe-usages.new.self
    (requiring_rule (env_forest old.trees c.args.env) (requirement_steps old.trees rs)) rule
    c.with_source.result began.fixed began.ok.0 began.ok.1 grows began.faults ran.ensures.kept end.fixed end.grows end.faults end.left end.closed
    (rule-kept old mid c.args.env rs grows c.requires.env c.requires.requirements)
    (c.with_source.ensures.told us (judged J S rule) (requiring-told J mid.trees us c.args.env S rs ran.result (required-free old mid rs grows c.requires.requirements c.requires.free) ran.ensures.responds))
    (so-err c.with_source.result (λ e is. of-error ran.result e (by_stop (StopsOfItself E.fixed g.E.Build.context E.state E.stops c.begin_probe.new.self ran.new.ecx)) is ran.ensures.cause) c.with_source.ensures.error)
