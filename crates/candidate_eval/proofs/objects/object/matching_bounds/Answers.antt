use Rattle.candidate_eval.proofs.Interface.Probing.{keeps-trans}
use Rattle.std.proofs.Common.{rules, ◌≡◌, true, false, [], ◌∷◌, ◌++◌, refl, ◌∙◌, ap, subst}
use Rattle.ir_trees.specs.Syntax.Trees.{Forest}
use Rattle.ir_trees.specs.Syntax.Words.{env_forest, clause_tree}
use Rattle.ir_trees.proofs.Growth.Kept.{args-kept}
use Rattle.candidate_eval.specs.Dynamic.Objects.{Projection, projection_at}
use Rattle.candidate_eval.proofs.Dynamic.Objects.{env-kept}
use Rattle.candidate_eval.proofs.Dynamic.Tries.{bound-listed, none-tried, one-found, one-passed, said-then}
use Rattle.std.proofs.lemmas.Result.{err_from_is_err_and}
use Rattle.candidate_eval.proofs.Interface.Accounts.{listed-bound, stops-later}
use Rattle.candidate_eval.specs.Interface.Accounts.StopsBy.{no_memory}
use Rattle.candidate_eval.proofs.objects.object.matching_bounds.Goals.{then-branch+in_ok-push, else-branch}
use Rattle.candidate_eval.proofs.objects.object.matching_bounds.Goals as goal

pub loop-bound-init : goal.loop-bound-init
loop-bound-init g c =
    let E = g.E.EvalCtxt in
    let old = c.args.ecx.now in
    let start = g.E.Build.context old in (
      none-tried (E.judge (E.fixed old)) (env_forest start.trees c.args.env) (projection_at start.trees c.args.projection) start (E.state old) c.args.bounds.now c.new-found.result.items (g.met.E.EvalCtxt.lawful (E.fixed old))
          c.new-found.ensures.items,
      refl,
      refl,
      refl,
    )

pub bound_matches-requires-clause-env : goal.bound_matches-requires-clause-env
bound_matches-requires-clause-env g c = (env-kept (g.E.Build.context c.args.ecx.now) (g.E.Build.context c.loop-bound.ecx) c.args.env c.loop-bound.invariant.0.grows c.requires.env).0

pub bound_matches-requires-clause-bound : goal.bound_matches-requires-clause-bound
bound_matches-requires-clause-bound g c =
    (bound-listed (g.E.Build.context c.args.ecx.now) (g.E.Build.context c.loop-bound.ecx) c.args.bounds.now c.loop-bound.bound-index _ c.loop-bound.invariant.0.grows c.requires.bounds c.loop-bound-test.true).0

pub bound_matches-requires-clause-args : goal.bound_matches-requires-clause-args
bound_matches-requires-clause-args g c = (args-kept (g.E.Build.context c.args.ecx.now) (g.E.Build.context c.loop-bound.ecx) c.args.projection.args c.loop-bound.invariant.0.grows c.requires.args).0

pub loop-bound-preserved : goal.loop-bound-preserved
loop-bound-preserved g c =
    let E = g.E.EvalCtxt in
    let old = c.args.ecx.now in
    let now = c.loop-bound.ecx in
    let new = c.bound_matches.new.ecx in
    let start = g.E.Build.context old in
    let mid = g.E.Build.context now in
    let last = g.E.Build.context new in
    let kept = c.bound_matches.ensures.kept in
    let so = c.loop-bound.invariant.0 in
    let fixed = c.loop-bound.invariant.1 in
    let lawful = g.met.E.EvalCtxt.lawful (E.fixed old) in
    let e = env_forest start.trees c.args.env in
    let p = projection_at start.trees c.args.projection in
    let listed = bound-listed start mid c.args.bounds.now c.loop-bound.bound-index _ so.grows c.requires.bounds c.loop-bound-test.true in
    let args = ap (λ (f : Forest). let q : Projection = record { item = c.args.projection.def_id.0; arguments = f } in q) (args-kept start mid c.args.projection.args so.grows c.requires.args).1 in
    let alike = subst (λ f. (E.judge f).alike (E.state now) (E.state new)) fixed c.bound_matches.ensures.alike in
    let said = said-then E.judge (E.fixed old) (E.fixed now) (E.state now) e (env_forest mid.trees c.args.env) _ _ p (projection_at mid.trees c.args.projection) c.in_ok-bound_matches.field-0 fixed
    (env-kept start mid c.args.env so.grows c.requires.env).1 listed.1 args c.in_ok-bound_matches.ensures.answer in (
      elim c.if-branch.branch [
        | then-branch+in_ok-push w ↦
            let yes : c.in_ok-bound_matches.field-0 ≡ true = search rules in
            let items : c.if-branch.found.items ≡ c.loop-bound.found.items ++ _ ∷ [] = search rules in
            one-found (E.judge (E.fixed old)) e p start mid last (E.state old) (E.state now) (E.state new) c.args.bounds.now c.loop-bound.bound-index _ c.loop-bound.found.items c.if-branch.found.items lawful so c.requires.bounds
            c.loop-bound-test.true kept.grows alike (said ∙ yes) items
        | else-branch w ↦
            let no : c.in_ok-bound_matches.field-0 ≡ false = search rules in
            let same : c.if-branch.found.items ≡ c.loop-bound.found.items = search rules in
            rw same
            (one-passed (E.judge (E.fixed old)) e p start mid last (E.state old) (E.state now) (E.state new) c.args.bounds.now c.loop-bound.bound-index _ c.loop-bound.found.items lawful so
            c.loop-bound-test.true kept.grows alike (said ∙ no))
      ],
      kept.fixed_same ∙ fixed,
      kept.probes_same ∙ c.loop-bound.invariant.2,
      kept.faults ∙ c.loop-bound.invariant.3,
    )

pub returns-in_err-bound_matches-clause-kept : goal.returns-in_err-bound_matches-clause-kept
returns-in_err-bound_matches-clause-kept g c =
    let E = g.E.EvalCtxt in
    keeps-trans E.fixed E.probes g.E.Build.context c.args.ecx.now c.loop-bound.ecx c.bound_matches.new.ecx (record { fixed_same = c.loop-bound.invariant.1; probes_same = c.loop-bound.invariant.2; grows = c.loop-bound.invariant.0.grows; faults = c.loop-bound.invariant.3 }) c.bound_matches.ensures.kept

pub returns-in_err-bound_matches-clause-alike : goal.returns-in_err-bound_matches-clause-alike
returns-in_err-bound_matches-clause-alike g c =
    let E = g.E.EvalCtxt in
    (g.met.E.EvalCtxt.lawful (E.fixed c.args.ecx.now)).alike_judged_alike.alike_along (E.state c.args.ecx.now) (E.state c.loop-bound.ecx) (E.state c.bound_matches.new.ecx) c.loop-bound.invariant.0.alike (subst (λ f. (E.judge f).alike (E.state c.loop-bound.ecx) (E.state c.bound_matches.new.ecx)) c.loop-bound.invariant.1 c.bound_matches.ensures.alike)

pub returns-in_err-push-clause-kept : goal.returns-in_err-push-clause-kept
returns-in_err-push-clause-kept g c =
    let E = g.E.EvalCtxt in
    keeps-trans E.fixed E.probes g.E.Build.context c.args.ecx.now c.loop-bound.ecx c.bound_matches.new.ecx (record { fixed_same = c.loop-bound.invariant.1; probes_same = c.loop-bound.invariant.2; grows = c.loop-bound.invariant.0.grows; faults = c.loop-bound.invariant.3 }) c.bound_matches.ensures.kept

pub returns-in_err-push-clause-alike : goal.returns-in_err-push-clause-alike
returns-in_err-push-clause-alike g c =
    let E = g.E.EvalCtxt in
    (g.met.E.EvalCtxt.lawful (E.fixed c.args.ecx.now)).alike_judged_alike.alike_along (E.state c.args.ecx.now) (E.state c.loop-bound.ecx) (E.state c.bound_matches.new.ecx) c.loop-bound.invariant.0.alike (subst (λ f. (E.judge f).alike (E.state c.loop-bound.ecx) (E.state c.bound_matches.new.ecx)) c.loop-bound.invariant.1 c.bound_matches.ensures.alike)

pub returns-in_err-bound_matches-clause-cause : goal.returns-in_err-bound_matches-clause-cause
returns-in_err-bound_matches-clause-cause g c =
    let start = g.E.Build.context c.args.ecx.now in
    let so = c.loop-bound.invariant.0 in
    let listed = bound-listed start (g.E.Build.context c.loop-bound.ecx) c.args.bounds.now c.loop-bound.bound-index _ so.grows c.requires.bounds c.loop-bound-test.true in
    let p = err_from_is_err_and c.from_residual.result c.from_residual.ensures.1 in
    rw (p.1, p.2)
    (stops-later (record { same = c.loop-bound.invariant.1; grows = so.grows }) (listed-bound (clause_tree start.trees) c.args.bounds.now c.loop-bound.bound-index _ c.loop-bound-test.true listed.1) c.in_err-bound_matches.ensures.cause)

pub returns-in_err-push-clause-cause : goal.returns-in_err-push-clause-cause
returns-in_err-push-clause-cause g c =
    let p = err_from_is_err_and c.from_residual-in_err-push.result c.from_residual-in_err-push.ensures.1 in
    rw (p.1, p.2) no_memory
