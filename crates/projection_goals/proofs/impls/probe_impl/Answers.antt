use Rattle.std.proofs.Common.{◌≡◌, ◌∙◌, Err, ap, refl, subst}
use Rattle.std.specs.Prelude.{IfSome}
use Rattle.std.proofs.lemmas.Result.{err_from_is_err_and}
use Rattle.ir_trees.specs.Declarations.Context.{Context}
use Rattle.ir_trees.specs.Declarations.Declaring.{impl_at}
use Rattle.ir_trees.specs.Syntax.Words.{env_forest}
use Rattle.ir_trees.specs.Validity.WellFormed.{ImplIsGiven}
use Rattle.candidate_eval.specs.declared.eval.certainty.Certainty.TheVariants.{Yes}
use Rattle.candidate_eval.specs.declared.eval.source.CandidateSource.TheVariants as source
use Rattle.candidate_eval.specs.Derivations.Judging.{Reached}
use Rattle.candidate_eval.specs.Interface.Accounts.{by_stop}
use Rattle.candidate_eval.specs.Interface.Accounts.StopsSomehow.{asking}
use Rattle.candidate_eval.specs.Judges.States.{State}
use Rattle.candidate_eval.proofs.Dynamic.Objects.{env-kept}
use Rattle.candidate_eval.proofs.Interface.Accounts.{accounted-here}
use Rattle.candidate_eval.proofs.Interface.Probing.{alike-probe, keeps-but-probe, of-error}
use Rattle.candidate_assembly.specs.Answers.Closures.{AfterWith, TellsWith, not_begun, tried}
use Rattle.candidate_assembly.specs.Answers.Telling.{StopsOfItself, Told}
use Rattle.candidate_assembly.specs.Goals.Kinds.{ImplPart}
use Rattle.candidate_assembly.proofs.Calls.Causes.{so-err}
use Rattle.candidate_assembly.proofs.Calls.Keeping.{goal-kept, itself-within, keeps-in}
use Rattle.candidate_assembly.proofs.Calls.Stepping.{evaluator-own, told-error, told-kept}
use Rattle.candidate_assembly.proofs.Rules.ImplSteps.{judged-moved, run-moved}
use Rattle.projection_goals.specs.Normalizing.{impl_part, normalizes_goal}
use Rattle.projection_goals.specs.NormalizingLaws.{normalizes_goal_stays}
use Rattle.projection_goals.proofs.ImplSteps.{part-here}
use Rattle.projection_goals.proofs.impls.probe_impl.Goals as goal

pub returns-in_err-probe-clause-told : goal.returns-in_err-probe-clause-told
returns-in_err-probe-clause-told g c = λ k tells.
    let p = err_from_is_err_and c.from_residual.result c.from_residual.ensures.1 in
    told-error _ c.from_residual.result _ _ (p.1 ∙ ap Err p.2) (λ n. absurd cc) (evaluator-own _ (g.met.E.EvalCtxt.stops_itself _ _ _ _ c.in_err-probe.ensures.cause))

pub returns-in_err-probe-clause-cause : goal.returns-in_err-probe-clause-cause
returns-in_err-probe-clause-cause g c =
    let p = err_from_is_err_and c.from_residual.result c.from_residual.ensures.1 in
    rw (p.1, p.2) (λ own. asking (accounted-here _ (record { same = c.begin_probe.ensures.fixed; grows = c.begin_probe.ensures.grows }) c.in_err-probe.ensures.cause))

pub follow_impl_and_then-answer-requires-clause-goal : goal.follow_impl_and_then-answer-requires-clause-goal
follow_impl_and_then-answer-requires-clause-goal g c =
    let grows = c.begin_probe.ensures.grows in
    goal-kept grows (normalizes_goal_stays (g.E.Build.context c.args.ecx.now) (g.E.Build.context c.begin_probe.new.self) c.args.env c.args.predicate grows c.requires.goal) c.requires.goal

pub follow_impl_and_then-answer-requires-clause-applies : goal.follow_impl_and_then-answer-requires-clause-applies
follow_impl_and_then-answer-requires-clause-applies g c =
    let E = g.E.EvalCtxt in
    let old = g.E.Build.context c.args.ecx.now in
    let mid = g.E.Build.context c.begin_probe.new.self in
    let began = c.in_ok-probe.ensures in
    let given : IfSome (impl_at old c.args.of) (ImplIsGiven old) = subst (λ (x : Context). IfSome (impl_at x c.args.of) (ImplIsGiven x)) c.cx.ensures c.recall_impl_given.ensures in
    ap (λ (T : State). (impl_part mid T.mode (normalizes_goal mid.trees c.args.env c.args.predicate) c.args.of).applies) began.ok.0
    ∙ (ap (λ (x : ImplPart). x.applies) (part-here old mid c.args.env c.args.predicate (E.state c.args.ecx.now).mode c.args.of began.grows c.requires.goal given) ∙ c.requires.applies)

pub follow_impl_and_then-answer-requires-clause-callable : goal.follow_impl_and_then-answer-requires-clause-callable
follow_impl_and_then-answer-requires-clause-callable g c =
    let began = c.in_ok-probe.ensures in
    record {
      may = λ x a k. c.requires.callable.may x a (keeps-in began.fixed began.ok.1 began.grows k);
      keeps = λ x a r y k. c.requires.callable.keeps x a r y (keeps-in began.fixed began.ok.1 began.grows k);
      cause = λ x a r y k. c.requires.callable.cause x a r y (keeps-in began.fixed began.ok.1 began.grows k);
    }

pub returns-clause-kept : goal.returns-clause-kept
returns-clause-kept g c =
    let E = g.E.EvalCtxt in
    let ran = c.follow_impl_and_then-answer in
    let end = c.end_probe-usages in
    let began = c.in_ok-probe.ensures in
    keeps-but-probe E.fixed E.probes g.E.Build.context c.args.ecx.now c.begin_probe.new.self ran.new.ecx end.new.self (E.state c.args.ecx.now) (λ xs ys p. tt)
    began.fixed began.grows began.faults began.ok.1 ran.ensures.kept end.ensures.fixed end.ensures.grows end.ensures.faults end.ensures.left

pub returns-clause-alike : goal.returns-clause-alike
returns-clause-alike g c =
    let E = g.E.EvalCtxt in
    let ran = c.follow_impl_and_then-answer in
    let end = c.end_probe-usages in
    let began = c.in_ok-probe.ensures in
    alike-probe E.fixed E.probes E.judge E.state c.args.ecx.now c.begin_probe.new.self ran.new.ecx end.new.self
    began.fixed began.ok.1 ran.ensures.kept.fixed_same ran.ensures.kept.probes_same end.ensures.closed

pub returns-clause-told : goal.returns-clause-told
returns-clause-told g c = λ k tells.
    let E = g.E.EvalCtxt in
    let first = c.args.ecx.now in
    let middle = c.begin_probe.new.self in
    let old = g.E.Build.context first in
    let mid = g.E.Build.context middle in
    let S = E.state first in
    let s = source.Impl c.args.of in
    let ran = c.follow_impl_and_then-answer in
    let began = c.in_ok-probe.ensures in
    let given : IfSome (impl_at old c.args.of) (ImplIsGiven old) = subst (λ (x : Context). IfSome (impl_at x c.args.of) (ImplIsGiven x)) c.cx.ensures c.recall_impl_given.ensures in
    let there : TellsWith E.fixed E.state E.probes g.E.Build.context E.stops g.F.FnOnce c.args.then middle (E.probes middle) Yes k
    = record { at = λ x r y in-it. tells.at x r y (keeps-in began.fixed began.ok.1 began.grows in-it) } in
    let told = c.with_source.ensures.told (g.E.Build.context ran.new.ecx).trees _ (ran.ensures.told s k there) in
    let here = impl_part old S.mode (normalizes_goal old.trees c.args.env c.args.predicate) c.args.of in
    let later = impl_part mid (E.state middle).mode (normalizes_goal mid.trees c.args.env c.args.predicate) c.args.of in
    let same : later ≡ here =
    ap (λ (T : State). impl_part mid T.mode (normalizes_goal mid.trees c.args.env c.args.predicate) c.args.of) began.ok.0 ∙ part-here old mid c.args.env c.args.predicate S.mode c.args.of began.grows c.requires.goal given in
    let moved = judged-moved E.judge (E.fixed first) (E.fixed middle) (env_forest old.trees c.args.env) (env_forest mid.trees c.args.env) S (E.state middle) s here.steps later.steps
    k began.fixed (env-kept old mid c.args.env began.grows c.requires.goal.env).1 began.ok.0 (ap (λ (x : ImplPart). x.steps) same) in
    told-kept _ _ c.with_source.result _ c.end_probe-usages.ensures.grows (subst (λ j. Told (g.E.Build.context ran.new.ecx).trees c.with_source.result j) moved told)

pub returns-clause-cause : goal.returns-clause-cause
returns-clause-cause g c =
    let E = g.E.EvalCtxt in
    let ran = c.follow_impl_and_then-answer in
    let began = c.in_ok-probe.ensures in
    let end = c.end_probe-usages.ensures in
    let caused = itself-within E.fixed g.E.Build.context E.state E.stops ran.result (record { same = began.fixed; grows = began.grows }) ran.ensures.cause (record { same = end.fixed; grows = end.grows }) in
    so-err c.with_source.result (λ e is. of-error ran.result e (by_stop (StopsOfItself E.fixed g.E.Build.context E.state E.stops c.args.ecx.now c.end_probe-usages.new.self)) is caused) c.with_source.ensures.error

pub returns-in_err-probe-clause-tried : goal.returns-in_err-probe-clause-tried
returns-in_err-probe-clause-tried g c =
    let p = err_from_is_err_and c.from_residual.result c.from_residual.ensures.1 in
    let why = c.in_err-probe.ensures in
    rw (p.1, p.2) (not_begun _ _ (evaluator-own _ (g.met.E.EvalCtxt.stops_itself _ _ _ _ why.cause)) (asking (accounted-here _ (record { same = c.begin_probe.ensures.fixed; grows = c.begin_probe.ensures.grows }) why.cause)) why.faults)

pub returns-clause-tried : goal.returns-clause-tried
returns-clause-tried g c =
    let E = g.E.EvalCtxt in
    let first = c.args.ecx.now in
    let middle = c.begin_probe.new.self in
    let old = g.E.Build.context first in
    let mid = g.E.Build.context middle in
    let S = E.state first in
    let ran = c.follow_impl_and_then-answer in
    let began = c.in_ok-probe.ensures in
    let given : IfSome (impl_at old c.args.of) (ImplIsGiven old) = subst (λ (x : Context). IfSome (impl_at x c.args.of) (ImplIsGiven x)) c.cx.ensures c.recall_impl_given.ensures in
    let here = impl_part old S.mode (normalizes_goal old.trees c.args.env c.args.predicate) c.args.of in
    let later = impl_part mid (E.state middle).mode (normalizes_goal mid.trees c.args.env c.args.predicate) c.args.of in
    let same : later ≡ here =
    ap (λ (T : State). impl_part mid T.mode (normalizes_goal mid.trees c.args.env c.args.predicate) c.args.of) began.ok.0 ∙ part-here old mid c.args.env c.args.predicate S.mode c.args.of began.grows c.requires.goal given in
    let moved = run-moved E.judge (E.fixed first) (E.fixed middle) (env_forest old.trees c.args.env) (env_forest mid.trees c.args.env) S (E.state middle) here.steps later.steps
    began.fixed (env-kept old mid c.args.env began.grows c.requires.goal.env).1 began.ok.0 (ap (λ (x : ImplPart). x.steps) same) in
    let after = subst (λ (x : Reached). AfterWith E.fixed E.state E.probes g.E.Build.context E.stops g.F.FnOnce c.args.then middle Yes x ran.result ran.new.ecx) moved ran.ensures.after in
    tried middle ran.new.ecx c.end_probe-usages.new.self refl (record { fixed_same = began.fixed; probes_are = began.ok.1; grows = began.grows }) began.ok.0 began.faults after c.with_source.ensures.sourced c.end_probe-usages.ensures.faults
