use Rattle.std.proofs.Common.{◌≡◌, ◌∙◌, refl, subst, sym}
use Rattle.std.proofs.lemmas.Result.{err_from_is_err_and}
use Rattle.ir_trees.specs.Syntax.Words.{env_forest, ty_tree}
use Rattle.ir_trees.proofs.Growth.Kept.{ty-kept}
use Rattle.candidate_eval.specs.Interface.Accounts.StopsSomehow.{asking}
use Rattle.candidate_eval.specs.Interface.Evaluators.{Keeps}
use Rattle.candidate_eval.proofs.Dynamic.Objects.{env-kept}
use Rattle.candidate_eval.proofs.Interface.Accounts.{accounted-here, somehow-within}
use Rattle.candidate_eval.proofs.Interface.Probing.{alike-probe, keeps-probe}
use Rattle.candidate_assembly.proofs.Calls.Causes.{answered-stop, caused, so-err, so-ok}
use Rattle.projection_goals.specs.Equations.{equal_by}
use Rattle.projection_goals.proofs.Rigid.{answers-stopped, fits-later, responds-later}
use Rattle.projection_goals.proofs.proving.probe_equal.Goals as goal

pub returns-in_err-probe : goal.returns-in_err-probe
returns-in_err-probe g c =
    let E = g.E.EvalCtxt in
    let why = c.in_err-probe.ensures in
    let s = c.in_err-probe.field-0.0 in
    let kept : Keeps E.fixed E.probes g.E.Build.context c.args.ecx.now c.begin_probe.new.self = record { fixed_same = why.fixed; probes_same = why.stopped.1; grows = why.grows; faults = why.faults } in
    answers-stopped c.args.ecx.now c.begin_probe.new.self c.from_residual.result s _ (answered-stop c.from_residual.result s (err_from_is_err_and c.from_residual.result c.from_residual.ensures.1)) kept
    (subst (λ S. (E.judge (E.fixed c.args.ecx.now)).alike (E.state c.args.ecx.now) S) (sym why.stopped.0) ((g.met.E.EvalCtxt.lawful (E.fixed c.args.ecx.now)).alike_judged_alike.alike_same (E.state c.args.ecx.now)))
    (asking (accounted-here _ (record { same = why.fixed; grows = why.grows }) why.cause))

pub respond_equal-answer-requires-clause-env : goal.respond_equal-answer-requires-clause-env
respond_equal-answer-requires-clause-env g c = (env-kept _ _ c.args.env c.begin_probe.ensures.grows c.requires.env).0

pub respond_equal-answer-requires-clause-term : goal.respond_equal-answer-requires-clause-term
respond_equal-answer-requires-clause-term g c = (ty-kept _ _ c.args.term c.begin_probe.ensures.grows c.requires.term).0

pub respond_equal-answer-requires-clause-other : goal.respond_equal-answer-requires-clause-other
respond_equal-answer-requires-clause-other g c = (ty-kept _ _ c.args.other c.begin_probe.ensures.grows c.requires.other).0

pub returns : goal.returns
returns g c =
    let E = g.E.EvalCtxt in
    let context = g.E.Build.context in
    let first = c.args.ecx.now in
    let middle = c.begin_probe.new.self in
    let ran = c.respond_equal-answer in
    let end = c.end_probe-usages in
    let began = c.in_ok-probe.ensures in
    let old = context first in
    let mid = context middle in
    let o = equal_by (E.judge (E.fixed first)) (E.state first) (env_forest old.trees c.args.env) (ty_tree old.trees c.args.term) (ty_tree old.trees c.args.other) in
    let same : equal_by (E.judge (E.fixed middle)) (E.state middle) (env_forest mid.trees c.args.env) (ty_tree mid.trees c.args.term) (ty_tree mid.trees c.args.other) ≡ o =
    rw (began.fixed, began.ok.0, (env-kept _ _ c.args.env began.grows c.requires.env).1, (ty-kept _ _ c.args.term began.grows c.requires.term).1, (ty-kept _ _ c.args.other began.grows c.requires.other).1) refl in
    record {
      kept = keeps-probe E.fixed E.probes context first middle ran.new.ecx end.new.self (E.state first)
          began.fixed began.grows began.faults began.ok.1 ran.ensures.kept end.ensures.fixed end.ensures.grows end.ensures.faults end.ensures.left;
      alike = alike-probe E.fixed E.probes E.judge E.state first middle ran.new.ecx end.new.self
          began.fixed began.ok.1 ran.ensures.kept.fixed_same ran.ensures.kept.probes_same end.ensures.closed;
      fits = fits-later _ _ ran.result end.ensures.grows ran.ensures.sort;
      ok = responds-later _ _ ran.result o end.ensures.grows ran.ensures.sort (so-ok ran.result (λ r h. sym same ∙ h) ran.ensures.ok);
      refused = so-err ran.result (λ e h n. sym same ∙ h n) ran.ensures.refused;
      cause = caused ran.result (λ s x. somehow-within (record { same = began.fixed; grows = began.grows }) x (record { same = end.ensures.fixed; grows = end.ensures.grows })) ran.ensures.cause;
    }
