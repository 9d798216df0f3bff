use Rattle.candidate_eval.proofs.Interface.Probing.{keeps-trans}
use Rattle.std.proofs.Common.{refl, sym, ◌∙◌}
use Rattle.std.proofs.lemmas.Result.{err_from_is_err_and}
use Rattle.ir_trees.specs.Syntax.Words.{env_forest}
use Rattle.ir_trees.proofs.Growth.Kept.{grows-trans}
use Rattle.candidate_eval.specs.Dynamic.Replacing.{clauses_at}
use Rattle.candidate_eval.proofs.Dynamic.Objects.{env-kept}
use Rattle.candidate_eval.proofs.Dynamic.Picking.{ambiguous-then, none-picked, one-picked, one-stuck, picked-then, projection-later}
use Rattle.candidate_eval.proofs.Outcomes.Responding.{clauses-kept}
use Rattle.candidate_eval.proofs.Interface.Accounts.{by-object-stop, listed-made, memory-somehow, reaches, somehow, somehow-later}
use Rattle.candidate_eval.proofs.objects.replacing.pick_all.Goals as goal

pub loop-projection-init : goal.loop-projection-init
loop-projection-init g c =
    let E = g.E.EvalCtxt in
    let old = c.args.ecx.now in
    let start = g.E.Build.context old in
    (none-picked (E.judge (E.fixed old)) (env_forest start.trees c.args.env) (clauses_at start.trees c.args.bounds.now) start (E.state old) c.args.projections.now c.new-terms.result.items c.new-terms.ensures.items, refl, refl, refl)

pub pick_bound-requires-clause-env : goal.pick_bound-requires-clause-env
pick_bound-requires-clause-env g c = (env-kept (g.E.Build.context c.args.ecx.now) (g.E.Build.context c.loop-projection.ecx) c.args.env c.loop-projection.invariant.0.grows c.requires.env).0

pub pick_bound-requires-clause-bounds : goal.pick_bound-requires-clause-bounds
pick_bound-requires-clause-bounds g c = (clauses-kept (g.E.Build.context c.args.ecx.now) (g.E.Build.context c.loop-projection.ecx) c.args.bounds.now c.loop-projection.invariant.0.grows c.requires.bounds).0

pub pick_bound-requires-clause-args : goal.pick_bound-requires-clause-args
pick_bound-requires-clause-args g c =
    (projection-later (g.E.Build.context c.args.ecx.now) (g.E.Build.context c.loop-projection.ecx) c.args.projections.now c.loop-projection.projection-index _ c.loop-projection.invariant.0.grows c.requires.projections
    c.loop-projection-test.true).0

pub returns-in_err-term-clause-ambiguous : goal.returns-in_err-term-clause-ambiguous
returns-in_err-term-clause-ambiguous g c =
    let E = g.E.EvalCtxt in
    let old = c.args.ecx.now in
    let now = c.loop-projection.ecx in
    let start = g.E.Build.context old in
    let mid = g.E.Build.context now in
    let s = c.loop-projection.invariant.0 in
    let p = projection-later start mid c.args.projections.now c.loop-projection.projection-index _ s.grows c.requires.projections c.loop-projection-test.true in
    let r = err_from_is_err_and c.from_residual.result c.from_residual.ensures.1 in
    rw r.1 (λ n. one-stuck (E.judge (E.fixed old)) (env_forest start.trees c.args.env) (clauses_at start.trees c.args.bounds.now) start mid (E.state old) (E.state now) c.args.projections.now c.loop-projection.projection-index _
    c.loop-projection.terms.items s c.loop-projection-test.true (E.state c.pick_bound.new.ecx)
    (ambiguous-then E.judge (E.fixed old) (E.fixed now) (env_forest start.trees c.args.env) (env_forest mid.trees c.args.env) _ _ (E.state now) (E.state c.pick_bound.new.ecx) (clauses_at start.trees c.args.bounds.now) (clauses_at mid.trees c.args.bounds.now)
    c.loop-projection.invariant.1 (env-kept start mid c.args.env s.grows c.requires.env).1 p.1 (clauses-kept start mid c.args.bounds.now s.grows c.requires.bounds).1 (c.in_err-term.ensures.ambiguous (sym r.2 ∙ n))))

pub returns-in_err-push-clause-kept : goal.returns-in_err-push-clause-kept
returns-in_err-push-clause-kept g c =
    let kept = c.pick_bound.ensures.kept in
    let s = c.loop-projection.invariant in
    record { fixed_same = kept.fixed_same ∙ s.1; probes_same = kept.probes_same ∙ s.2; grows = grows-trans (g.E.Build.context c.args.ecx.now) (g.E.Build.context c.loop-projection.ecx) (g.E.Build.context c.pick_bound.new.ecx) s.0.grows kept.grows; faults = kept.faults ∙ s.3 }

pub loop-projection-preserved : goal.loop-projection-preserved
loop-projection-preserved g c =
    let E = g.E.EvalCtxt in
    let old = c.args.ecx.now in
    let now = c.loop-projection.ecx in
    let new = c.pick_bound.new.ecx in
    let start = g.E.Build.context old in
    let mid = g.E.Build.context now in
    let last = g.E.Build.context new in
    let s = c.loop-projection.invariant in
    let kept = c.pick_bound.ensures.kept in
    let p = projection-later start mid c.args.projections.now c.loop-projection.projection-index _ s.0.grows c.requires.projections c.loop-projection-test.true in (
      one-picked (E.judge (E.fixed old)) (env_forest start.trees c.args.env) (clauses_at start.trees c.args.bounds.now) start mid last (E.state old) (E.state now) (E.state new) c.args.projections.now
          c.loop-projection.projection-index _ c.loop-projection.terms.items _ c.in_ok-term.term s.0 c.loop-projection-test.true kept.grows c.in_ok-term.ensures.sort
          (picked-then E.judge (E.fixed old) (E.fixed now) (env_forest start.trees c.args.env) (env_forest mid.trees c.args.env) _ _ (E.state now) (E.state new) (clauses_at start.trees c.args.bounds.now)
          (clauses_at mid.trees c.args.bounds.now) _ s.1 (env-kept start mid c.args.env s.0.grows c.requires.env).1 p.1 (clauses-kept start mid c.args.bounds.now s.0.grows c.requires.bounds).1 c.in_ok-term.ensures.picked)
          c.in_ok-push.ensures.pushed,
      kept.fixed_same ∙ s.1,
      kept.probes_same ∙ s.2,
      kept.faults ∙ s.3,
    )

pub returns-in_err-term-clause-kept : goal.returns-in_err-term-clause-kept
returns-in_err-term-clause-kept g c =
    let E = g.E.EvalCtxt in
    keeps-trans E.fixed E.probes g.E.Build.context c.args.ecx.now c.loop-projection.ecx c.pick_bound.new.ecx (record { fixed_same = c.loop-projection.invariant.1; probes_same = c.loop-projection.invariant.2; grows = c.loop-projection.invariant.0.grows; faults = c.loop-projection.invariant.3 }) c.pick_bound.ensures.kept

pub returns-in_err-term-clause-cause : goal.returns-in_err-term-clause-cause
returns-in_err-term-clause-cause g c =
    let p = err_from_is_err_and c.from_residual.result c.from_residual.ensures.1 in
    rw (p.1, p.2) (by-object-stop c.in_err-term.field-0.0 (λ s x. somehow-later (record { same = c.loop-projection.invariant.1; grows = c.loop-projection.invariant.0.grows }) (somehow (reaches c.in_err-term.ensures.kept) (λ ts i. listed-made _ _ i) x)) c.in_err-term.ensures.cause)

pub returns-in_err-push-clause-cause : goal.returns-in_err-push-clause-cause
returns-in_err-push-clause-cause g c =
    let p = err_from_is_err_and c.from_residual-in_err-push.result c.from_residual-in_err-push.ensures.1 in
    rw (p.1, p.2) (memory-somehow c.in_err-push.ensures.cause)
