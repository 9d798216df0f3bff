use Rattle.std.proofs.Common.{◌∙◌, Err, ap, refl, subst, sym}
use Rattle.std.proofs.lemmas.Result.{err_from_is_err_and}
use Rattle.candidate_eval.specs.Derivations.Judging.{Reached, answered, continued}
use Rattle.candidate_eval.specs.Outcomes.Certainties.{AMBIGUOUS}
use Rattle.candidate_eval.specs.Derivations.Rules.{ask}
use Rattle.candidate_eval.proofs.Interface.Accounts.{reaches}
use Rattle.candidate_assembly.specs.Answers.Closures.{ReturnsWith}
use Rattle.candidate_assembly.specs.Answers.Closures.AfterWith.{called}
use Rattle.candidate_assembly.specs.Answers.Telling.{ToldAs}
use Rattle.candidate_assembly.proofs.Calls.Keeping.{itself-later, keeps-open, somehow-is-own, somehow-itself}
use Rattle.candidate_assembly.proofs.Calls.Quieting.{any-kept, any-then}
use Rattle.candidate_assembly.proofs.Calls.Stepping.{responds-told, told-as-error}
use Rattle.candidate_assembly.proofs.Rules.PureFolder.{error-after-with}
use Rattle.candidate_assembly.proofs.trait_goals.impls.follow_impl_and_then.Goals as goal

pub returns-in_err-follow_impl-clause-told : goal.returns-in_err-follow_impl-clause-told
returns-in_err-follow_impl-clause-told g c = λ s k tells.
    let E = g.E.EvalCtxt in
    let J = E.judge (E.fixed c.args.ecx.now) in
    let why = c.in_err-follow_impl.field-0.0 in
    let p = err_from_is_err_and c.from_residual.result c.from_residual.ensures.1 in
    told-as-error _ s c.from_residual.result why _ (p.1 ∙ ap Err p.2) (λ n. ap (λ (z : Reached). continued J (ask s AMBIGUOUS) z (λ q. answered s (k q.state))) (c.in_err-follow_impl.ensures.refused n))
    (somehow-is-own E.fixed g.E.Build.context E.state E.stops c.args.ecx.now c.follow_impl.new.ecx g.met.E.EvalCtxt.stops_itself why c.in_err-follow_impl.ensures.cause)

pub returns-in_err-follow_impl-clause-cause : goal.returns-in_err-follow_impl-clause-cause
returns-in_err-follow_impl-clause-cause g c =
    let E = g.E.EvalCtxt in
    let p = err_from_is_err_and c.from_residual.result c.from_residual.ensures.1 in
    rw (p.1, p.2) (somehow-itself E.fixed g.E.Build.context E.state E.stops c.args.ecx.now c.follow_impl.new.ecx c.in_err-follow_impl.field-0.0 c.in_err-follow_impl.ensures.cause)

pub returns-clause-kept : goal.returns-clause-kept
returns-clause-kept g c =
    let answers : ReturnsWith g.F.FnOnce c.args.then c.follow_impl.new.ecx c.args.certainty c.then.result c.then.new.arg2 = record { shown = _; shows = refl; left = _; met = c.then.ensures; leaves = refl } in
    any-then c.follow_impl.ensures.kept (c.requires.callable.keeps _ _ _ _ (keeps-open c.follow_impl.ensures.kept) answers)

pub returns-clause-told : goal.returns-clause-told
returns-clause-told g c = λ s k tells.
    let E = g.E.EvalCtxt in
    let ts = (g.E.Build.context c.then.new.arg2).trees in
    let J = E.judge (E.fixed c.args.ecx.now) in
    let answers : ReturnsWith g.F.FnOnce c.args.then c.follow_impl.new.ecx c.args.certainty c.then.result c.then.new.arg2 = record { shown = _; shows = refl; left = _; met = c.then.ensures; leaves = refl } in
    subst (λ (z : Reached). ToldAs ts s c.then.result (continued J (ask s AMBIGUOUS) z (λ q. answered s (k q.state)))) (sym c.in_ok-follow_impl.ensures.ok)
    (responds-told ts s c.then.result (k (E.state c.follow_impl.new.ecx)) (tells.at _ _ _ (keeps-open c.follow_impl.ensures.kept) answers))

pub returns-clause-cause : goal.returns-clause-cause
returns-clause-cause g c =
    let E = g.E.EvalCtxt in
    let answers : ReturnsWith g.F.FnOnce c.args.then c.follow_impl.new.ecx c.args.certainty c.then.result c.then.new.arg2 = record { shown = _; shows = refl; left = _; met = c.then.ensures; leaves = refl } in
    itself-later E.fixed g.E.Build.context E.state E.stops c.then.new.arg2 c.then.result (reaches c.follow_impl.ensures.kept) (c.requires.callable.cause _ _ _ _ (keeps-open c.follow_impl.ensures.kept) answers)

pub returns-in_err-follow_impl-clause-after : goal.returns-in_err-follow_impl-clause-after
returns-in_err-follow_impl-clause-after g c =
    let E = g.E.EvalCtxt in
    let p = err_from_is_err_and c.from_residual.result c.from_residual.ensures.1 in
    error-after-with E.fixed E.state E.probes g.E.Build.context E.stops g.F.FnOnce c.args.then c.args.ecx.now c.args.certainty _ c.follow_impl.new.ecx c.from_residual.result c.in_err-follow_impl.field-0.0 g.met.E.EvalCtxt.stops_itself (p.1 ∙ ap Err p.2)
    c.in_err-follow_impl.ensures.refused c.in_err-follow_impl.ensures.cause c.follow_impl.ensures.kept.faults

pub returns-in_err-follow_impl-clause-kept : goal.returns-in_err-follow_impl-clause-kept
returns-in_err-follow_impl-clause-kept g c = any-kept c.follow_impl.ensures.kept

pub returns-clause-after : goal.returns-clause-after
returns-clause-after g c =
    let returned : ReturnsWith g.F.FnOnce c.args.then c.follow_impl.new.ecx c.args.certainty c.then.result c.then.new.arg2 = record { shown = _; shows = refl; left = _; met = c.then.ensures; leaves = refl } in
    called c.follow_impl.new.ecx _ c.in_ok-follow_impl.ensures.ok refl c.follow_impl.ensures.kept returned
