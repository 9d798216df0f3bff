use Rattle.std.proofs.Common.{[], false, length, refl, rules, subst, true, ◌++◌, ◌∙◌, ◌∷◌, ◌≡◌}
use Rattle.std.specs.Prelude.{slice_index_or}
use Rattle.std.proofs.lemmas.List.Elements.{All-get_or}
use Rattle.std.proofs.lemmas.Result.{err_from_is_err_and}
use Rattle.ir_trees.specs.declared.ir.kinds.Pred.{Pred}
use Rattle.ir_trees.specs.Syntax.Words.{env_forest, pred_tree}
use Rattle.candidate_eval.proofs.Interface.Accounts.{memory-somehow, reaches, somehow-later}
use Rattle.candidate_eval.proofs.Dynamic.Objects.{env-kept}
use Rattle.candidate_eval.proofs.Interface.Probing.{then}
use Rattle.candidate_assembly.specs.Calls.Upcasting.{IsRulePred, meets_projection}
use Rattle.candidate_assembly.proofs.Upcasting.UpcastFinding.{both-so, meets-then, not-first, one-more-kept, one-more-left, projects-then}
use Rattle.candidate_assembly.proofs.Upcasting.UpcastRows.{pred-kept}
use Rattle.candidate_assembly.proofs.trait_goals.bounds_met.matching_bounds.Goals.{then-branch+in_ok-push, else-branch}
use Rattle.candidate_assembly.proofs.trait_goals.bounds_met.matching_bounds.Goals as goal

pub projects-requires : goal.projects-requires
projects-requires g c =
    let E = g.E.EvalCtxt in
    let start = g.E.Build.context c.args.ecx.now in
    let now = g.E.Build.context c.loop-source.ecx in
    let d : Pred = record { 0 = 0 } in
    let x = slice_index_or c.args.sources.now c.loop-source.source-index d in
    let own = All-get_or (IsRulePred start.trees (length (E.state c.args.ecx.now).variables)) c.args.sources.now c.loop-source.source-index d c.loop-source-test.true c.requires.sources in
    rw c.cx.ensures (pred-kept start now x c.loop-source.invariant.0.grows own.0).0

pub loop-source-preserved-then-not-projects : goal.loop-source-preserved-then-not-projects
loop-source-preserved-then-not-projects g c =
    let E = g.E.EvalCtxt in
    let first = c.args.ecx.now in
    let start = g.E.Build.context first in
    let now = g.E.Build.context c.loop-source.ecx in
    let d : Pred = record { 0 = 0 } in
    let xs = c.args.sources.now in
    let k = c.loop-source.source-index in
    let x = slice_index_or xs k d in
    let so = c.loop-source.invariant in
    let own = All-get_or (IsRulePred start.trees (length (E.state first).variables)) xs k d c.loop-source-test.true c.requires.sources in
    let no : c.projects.result ≡ false = search rules in (
      so.0,
      so.1,
      one-more-left (λ p. meets_projection (E.judge (E.fixed first)) (env_forest start.trees c.args.env) (E.state first) c.args.item.0 (pred_tree start.trees c.args.target) (pred_tree start.trees p)) xs c.loop-source.found.items k d c.loop-source-test.true so.2
          (not-first _ _ (projects-then start now c.cx.result.now x c.args.item.0 c.projects.result so.0.grows own.0 c.cx.ensures c.projects.ensures ∙ no)),
    )

pub bounds_meet-requires-clause-env : goal.bounds_meet-requires-clause-env
bounds_meet-requires-clause-env g c = (env-kept (g.E.Build.context c.args.ecx.now) (g.E.Build.context c.loop-source.ecx) c.args.env c.loop-source.invariant.0.grows c.requires.env).0

pub bounds_meet-requires-clause-source : goal.bounds_meet-requires-clause-source
bounds_meet-requires-clause-source g c =
    let E = g.E.EvalCtxt in
    let start = g.E.Build.context c.args.ecx.now in
    let d : Pred = record { 0 = 0 } in
    let x = slice_index_or c.args.sources.now c.loop-source.source-index d in
    let own = All-get_or (IsRulePred start.trees (length (E.state c.args.ecx.now).variables)) c.args.sources.now c.loop-source.source-index d c.loop-source-test.true c.requires.sources in
    (pred-kept start (g.E.Build.context c.loop-source.ecx) x c.loop-source.invariant.0.grows own.0).0

pub bounds_meet-requires-clause-target : goal.bounds_meet-requires-clause-target
bounds_meet-requires-clause-target g c = (pred-kept (g.E.Build.context c.args.ecx.now) (g.E.Build.context c.loop-source.ecx) c.args.target c.loop-source.invariant.0.grows c.requires.target.0).0

pub returns-in_err-bounds_meet-clause-kept : goal.returns-in_err-bounds_meet-clause-kept
returns-in_err-bounds_meet-clause-kept g c = then c.loop-source.invariant.0 c.bounds_meet.ensures.kept

pub returns-in_err-bounds_meet-clause-alike : goal.returns-in_err-bounds_meet-clause-alike
returns-in_err-bounds_meet-clause-alike g c =
    let E = g.E.EvalCtxt in
    let so = c.loop-source.invariant in
    (g.met.E.EvalCtxt.lawful (E.fixed c.args.ecx.now)).alike_judged_alike.alike_along (E.state c.args.ecx.now) (E.state c.loop-source.ecx) (E.state c.bounds_meet.new.ecx) so.1
    (subst (λ f. (E.judge f).alike (E.state c.loop-source.ecx) (E.state c.bounds_meet.new.ecx)) so.0.fixed_same c.bounds_meet.ensures.alike)

pub returns-in_err-bounds_meet-clause-cause : goal.returns-in_err-bounds_meet-clause-cause
returns-in_err-bounds_meet-clause-cause g c =
    let p = err_from_is_err_and c.from_residual.result c.from_residual.ensures.1 in
    rw (p.1, p.2) (somehow-later (reaches c.loop-source.invariant.0) c.in_err-bounds_meet.ensures.cause)

pub returns-in_err-push-clause-kept : goal.returns-in_err-push-clause-kept
returns-in_err-push-clause-kept g c = then c.loop-source.invariant.0 c.bounds_meet.ensures.kept

pub returns-in_err-push-clause-alike : goal.returns-in_err-push-clause-alike
returns-in_err-push-clause-alike g c =
    let E = g.E.EvalCtxt in
    let so = c.loop-source.invariant in
    (g.met.E.EvalCtxt.lawful (E.fixed c.args.ecx.now)).alike_judged_alike.alike_along (E.state c.args.ecx.now) (E.state c.loop-source.ecx) (E.state c.bounds_meet.new.ecx) so.1
    (subst (λ f. (E.judge f).alike (E.state c.loop-source.ecx) (E.state c.bounds_meet.new.ecx)) so.0.fixed_same c.bounds_meet.ensures.alike)

pub returns-in_err-push-clause-cause : goal.returns-in_err-push-clause-cause
returns-in_err-push-clause-cause g c =
    let p = err_from_is_err_and c.from_residual-in_err-push.result c.from_residual-in_err-push.ensures.1 in
    rw (p.1, p.2) (memory-somehow refl)

pub loop-source-preserved : goal.loop-source-preserved
loop-source-preserved g c =
    let E = g.E.EvalCtxt in
    let first = c.args.ecx.now in
    let start = g.E.Build.context first in
    let now = g.E.Build.context c.loop-source.ecx in
    let d : Pred = record { 0 = 0 } in
    let xs = c.args.sources.now in
    let k = c.loop-source.source-index in
    let x = slice_index_or xs k d in
    let so = c.loop-source.invariant in
    let e = env_forest start.trees c.args.env in
    let own = All-get_or (IsRulePred start.trees (length (E.state first).variables)) xs k d c.loop-source-test.true c.requires.sources in
    let yes : c.projects.result ≡ true = search rules in
    let about = projects-then start now c.cx.result.now x c.args.item.0 c.projects.result so.0.grows own.0 c.cx.ensures c.projects.ensures ∙ yes in
    let said = meets-then E.judge (λ f. (g.met.E.EvalCtxt.lawful f).alike_judged_alike) (E.fixed first) (E.fixed c.loop-source.ecx) start now (E.state first) (E.state c.loop-source.ecx) e (env_forest now.trees c.args.env) x c.args.target c.in_ok-bounds_meet.field-0
    so.0.grows own c.requires.target c.requires.env_below so.1 so.0.fixed_same (env-kept start now c.args.env so.0.grows c.requires.env).1 c.in_ok-bounds_meet.ensures.answer in (
      then so.0 c.bounds_meet.ensures.kept,
      (g.met.E.EvalCtxt.lawful (E.fixed first)).alike_judged_alike.alike_along (E.state first) (E.state c.loop-source.ecx) (E.state c.bounds_meet.new.ecx) so.1
          (subst (λ f. (E.judge f).alike (E.state c.loop-source.ecx) (E.state c.bounds_meet.new.ecx)) so.0.fixed_same c.bounds_meet.ensures.alike),
      elim c.if-branch.branch [
        | then-branch+in_ok-push w ↦
            let matches : c.in_ok-bounds_meet.field-0 ≡ true = search rules in
            let items : c.if-branch.found.items ≡ c.loop-source.found.items ++ x ∷ [] = search rules in
            one-more-kept (λ p. meets_projection (E.judge (E.fixed first)) e (E.state first) c.args.item.0 (pred_tree start.trees c.args.target) (pred_tree start.trees p)) xs c.loop-source.found.items c.if-branch.found.items k d c.loop-source-test.true so.2
            (both-so _ _ true about (said ∙ matches)) items
        | else-branch w ↦
            let matches : c.in_ok-bounds_meet.field-0 ≡ false = search rules in
            let same : c.if-branch.found.items ≡ c.loop-source.found.items = search rules in
            rw same
            (one-more-left (λ p. meets_projection (E.judge (E.fixed first)) e (E.state first) c.args.item.0 (pred_tree start.trees c.args.target) (pred_tree start.trees p)) xs c.loop-source.found.items k d c.loop-source-test.true so.2
            (both-so _ _ false about (said ∙ matches)))
      ],
    )
