use Rattle.std.proofs.Common.{refl, sym, ◌∙◌}
use Rattle.std.proofs.lemmas.Result.{err_from_is_err_and}
use Rattle.ir_trees.specs.Syntax.Words.{env_forest, ty_tree}
use Rattle.ir_trees.proofs.Growth.Kept.{grows-trans, ty-kept}
use Rattle.candidate_eval.specs.Dynamic.Replacing.{clauses_at}
use Rattle.candidate_eval.proofs.Dynamic.Objects.{env-kept}
use Rattle.candidate_eval.proofs.Dynamic.Picking.{none-replaced, one-clause-stuck, one-replaced, replaced-then, stuck-at}
use Rattle.candidate_eval.proofs.Outcomes.Responding.{clauses-kept}
use Rattle.candidate_eval.proofs.Dynamic.Tries.{bound-listed}
use Rattle.candidate_eval.proofs.Interface.Accounts.{by-object-stop, memory-somehow, somehow-later}
use Rattle.candidate_eval.proofs.objects.replacing.replaced.Goals as goal

pub loop-clause-init : goal.loop-clause-init
loop-clause-init g c =
    let E = g.E.EvalCtxt in
    let old = c.args.ecx.now in
    let start = g.E.Build.context old in (
      none-replaced (E.judge (E.fixed old)) (env_forest start.trees c.args.env) (ty_tree start.trees c.args.object) (clauses_at start.trees c.args.bounds.now) start (E.state old) c.args.clauses.now c.new-list.result.items
          c.new-list.ensures.items,
      refl,
      refl,
      refl,
    )

pub replaced_clause-requires-clause-env : goal.replaced_clause-requires-clause-env
replaced_clause-requires-clause-env g c = (env-kept (g.E.Build.context c.args.ecx.now) (g.E.Build.context c.loop-clause.ecx) c.args.env c.loop-clause.invariant.0.grows c.requires.env).0

pub replaced_clause-requires-clause-object : goal.replaced_clause-requires-clause-object
replaced_clause-requires-clause-object g c = (ty-kept (g.E.Build.context c.args.ecx.now) (g.E.Build.context c.loop-clause.ecx) c.args.object c.loop-clause.invariant.0.grows c.requires.object).0

pub replaced_clause-requires-clause-bounds : goal.replaced_clause-requires-clause-bounds
replaced_clause-requires-clause-bounds g c = (clauses-kept (g.E.Build.context c.args.ecx.now) (g.E.Build.context c.loop-clause.ecx) c.args.bounds.now c.loop-clause.invariant.0.grows c.requires.bounds).0

pub replaced_clause-requires-clause-clause : goal.replaced_clause-requires-clause-clause
replaced_clause-requires-clause-clause g c =
    (bound-listed (g.E.Build.context c.args.ecx.now) (g.E.Build.context c.loop-clause.ecx) c.args.clauses.now c.loop-clause.clause-index _ c.loop-clause.invariant.0.grows c.requires.clauses c.loop-clause-test.true).0

pub returns-in_err-made-clause-kept : goal.returns-in_err-made-clause-kept
returns-in_err-made-clause-kept g c =
    let kept = c.replaced_clause.ensures.kept in
    let s = c.loop-clause.invariant in
    record { fixed_same = kept.fixed_same ∙ s.1; probes_same = kept.probes_same ∙ s.2; grows = grows-trans (g.E.Build.context c.args.ecx.now) (g.E.Build.context c.loop-clause.ecx) (g.E.Build.context c.replaced_clause.new.ecx) s.0.grows kept.grows; faults = kept.faults ∙ s.3 }

pub returns-in_err-push-clause-kept : goal.returns-in_err-push-clause-kept
returns-in_err-push-clause-kept g c =
    let kept = c.replaced_clause.ensures.kept in
    let s = c.loop-clause.invariant in
    record { fixed_same = kept.fixed_same ∙ s.1; probes_same = kept.probes_same ∙ s.2; grows = grows-trans (g.E.Build.context c.args.ecx.now) (g.E.Build.context c.loop-clause.ecx) (g.E.Build.context c.replaced_clause.new.ecx) s.0.grows kept.grows; faults = kept.faults ∙ s.3 }

pub returns-in_err-made-clause-ambiguous : goal.returns-in_err-made-clause-ambiguous
returns-in_err-made-clause-ambiguous g c =
    let E = g.E.EvalCtxt in
    let old = c.args.ecx.now in
    let now = c.loop-clause.ecx in
    let start = g.E.Build.context old in
    let mid = g.E.Build.context now in
    let s = c.loop-clause.invariant.0 in
    let listed = bound-listed start mid c.args.clauses.now c.loop-clause.clause-index _ s.grows c.requires.clauses c.loop-clause-test.true in
    let r = err_from_is_err_and c.from_residual.result c.from_residual.ensures.1 in
    rw r.1 (λ n. one-clause-stuck (E.judge (E.fixed old)) (env_forest start.trees c.args.env) (ty_tree start.trees c.args.object) (clauses_at start.trees c.args.bounds.now) start mid (E.state old) (E.state now) c.args.clauses.now
    c.loop-clause.clause-index _ c.loop-clause.list.items s c.loop-clause-test.true (E.state c.replaced_clause.new.ecx)
    (stuck-at E.judge (E.fixed old) (E.fixed now) (env_forest start.trees c.args.env) (env_forest mid.trees c.args.env) (ty_tree start.trees c.args.object) (ty_tree mid.trees c.args.object) _ _ (E.state now) (E.state c.replaced_clause.new.ecx)
    (clauses_at start.trees c.args.bounds.now) (clauses_at mid.trees c.args.bounds.now) c.loop-clause.invariant.1 (env-kept start mid c.args.env s.grows c.requires.env).1 (ty-kept start mid c.args.object s.grows c.requires.object).1
    listed.1 (clauses-kept start mid c.args.bounds.now s.grows c.requires.bounds).1 (c.in_err-made.ensures.ambiguous (sym r.2 ∙ n))))

pub loop-clause-preserved : goal.loop-clause-preserved
loop-clause-preserved g c =
    let E = g.E.EvalCtxt in
    let old = c.args.ecx.now in
    let now = c.loop-clause.ecx in
    let new = c.replaced_clause.new.ecx in
    let start = g.E.Build.context old in
    let mid = g.E.Build.context now in
    let last = g.E.Build.context new in
    let s = c.loop-clause.invariant in
    let kept = c.replaced_clause.ensures.kept in
    let listed = bound-listed start mid c.args.clauses.now c.loop-clause.clause-index _ s.0.grows c.requires.clauses c.loop-clause-test.true in (
      one-replaced (E.judge (E.fixed old)) (env_forest start.trees c.args.env) (ty_tree start.trees c.args.object) (clauses_at start.trees c.args.bounds.now) start mid last (E.state old) (E.state now) (E.state new)
          c.args.clauses.now c.loop-clause.clause-index _ c.loop-clause.list.items _ c.in_ok-made.made s.0 c.loop-clause-test.true kept.grows c.in_ok-made.ensures.sort
          (replaced-then E.judge (E.fixed old) (E.fixed now) (env_forest start.trees c.args.env) (env_forest mid.trees c.args.env) (ty_tree start.trees c.args.object) (ty_tree mid.trees c.args.object) _ _ _ (E.state now)
          (E.state new) (clauses_at start.trees c.args.bounds.now) (clauses_at mid.trees c.args.bounds.now) s.1 (env-kept start mid c.args.env s.0.grows c.requires.env).1
          (ty-kept start mid c.args.object s.0.grows c.requires.object).1 listed.1 (clauses-kept start mid c.args.bounds.now s.0.grows c.requires.bounds).1 c.in_ok-made.ensures.replaced)
          c.in_ok-push.ensures.pushed,
      kept.fixed_same ∙ s.1,
      kept.probes_same ∙ s.2,
      kept.faults ∙ s.3,
    )

pub returns-in_err-made-clause-cause : goal.returns-in_err-made-clause-cause
returns-in_err-made-clause-cause g c =
    let p = err_from_is_err_and c.from_residual.result c.from_residual.ensures.1 in
    rw (p.1, p.2) (by-object-stop c.in_err-made.field-0.0 (λ s x. somehow-later (record { same = c.loop-clause.invariant.1; grows = c.loop-clause.invariant.0.grows }) x) c.in_err-made.ensures.cause)

pub returns-in_err-push-clause-cause : goal.returns-in_err-push-clause-cause
returns-in_err-push-clause-cause g c =
    let p = err_from_is_err_and c.from_residual-in_err-push.result c.from_residual-in_err-push.ensures.1 in
    rw (p.1, p.2) (memory-somehow c.in_err-push.ensures.cause)
