use Rattle.candidate_eval.proofs.Interface.Probing.{made, then}
use Rattle.std.proofs.Common.{◌≡◌, List, sym, ◌∙◌, ap, subst}
use Rattle.ir_trees.specs.declared.ir.kinds.Ty.{Ty}
use Rattle.ir_trees.specs.Declarations.Context.{Context}
use Rattle.ir_trees.specs.Syntax.Words.{clause_tree, env_forest}
use Rattle.ir_folds.proofs.Instantiation.Joining.{clause-kept}
use Rattle.ir_trees.proofs.Growth.Kept.{ty-kept}
use Rattle.candidate_eval.specs.Dynamic.Replacing.{Picks, clauses_at, finds_own, projections, projections_at, types_at}
use Rattle.candidate_eval.proofs.Dynamic.Picking.{replaced-by}
use Rattle.candidate_eval.proofs.Outcomes.Responding.{clauses-kept}
use Rattle.std.proofs.lemmas.Result.{err_from_is_err_and}
use Rattle.candidate_eval.specs.Interface.Accounts.StopsSomehow.{making}
use Rattle.candidate_eval.specs.Interface.Noting.{IsNotingStop}
use Rattle.candidate_eval.proofs.Interface.Unmade.{noting-unmade, unmade-before}
use Rattle.candidate_eval.proofs.objects.replacing.replaced_clause.Goals as goal

pub fill-requires-clause-object : goal.fill-requires-clause-object
fill-requires-clause-object g c = (ty-kept (g.E.Build.context c.args.ecx.now) (g.E.Build.context c.pick_all.new.ecx) c.args.object c.pick_all.ensures.kept.grows c.requires.object).0

pub fill-requires-clause-bounds : goal.fill-requires-clause-bounds
fill-requires-clause-bounds g c = (clauses-kept (g.E.Build.context c.args.ecx.now) (g.E.Build.context c.pick_all.new.ecx) c.args.bounds.now c.pick_all.ensures.kept.grows c.requires.bounds).0

pub fill-requires-clause-clause : goal.fill-requires-clause-clause
fill-requires-clause-clause g c = (clause-kept (g.E.Build.context c.args.ecx.now) (g.E.Build.context c.pick_all.new.ecx) c.args.clause c.pick_all.ensures.kept.grows c.requires.clause).0

pub returns-clause-replaced : goal.returns-clause-replaced
returns-clause-replaced g c =
    let E = g.E.EvalCtxt in
    let old = c.args.ecx.now in
    let mid = c.pick_all.new.ecx in
    let new = c.fill.new.make in
    let start = g.E.Build.context old in
    let after = g.E.Build.context mid in
    let found = c.in_ok-projections.projections.items in
    let listed = subst (λ (y : Context). projections_at y.trees found ≡ projections (finds_own y.trees c.args.object c.args.bounds.now) (clause_tree y.trees c.args.clause).children) c.cx.ensures c.in_ok-projections.ensures.projections in
    let picked = subst (λ (us : List Ty). Picks (E.judge (E.fixed old)) (env_forest start.trees c.args.env) (clauses_at start.trees c.args.bounds.now) (E.state old) (projections_at start.trees c.as_slice.result.now)
    (types_at after.trees us) (E.state mid)) (sym c.as_slice-2.ensures.value) c.in_ok-terms.ensures.picked in
    replaced-by (E.judge (E.fixed old)) (env_forest start.trees c.args.env) start after c.args.object c.args.bounds.now c.args.clause (clause_tree (g.E.Build.context new).trees c.in_ok-fill.field-0) _ _ (E.state old)
    (E.state mid) (E.state new) c.pick_all.ensures.kept.grows c.requires.object c.requires.bounds c.requires.clause (ap (projections_at start.trees) c.as_slice.ensures.value ∙ listed) picked (g.met.E.EvalCtxt.by_rest mid new c.fill.ensures.rest).1
    c.in_ok-fill.ensures.tree

pub returns-in_err-fill-clause-kept : goal.returns-in_err-fill-clause-kept
returns-in_err-fill-clause-kept g c = then c.pick_all.ensures.kept (made (g.met.E.EvalCtxt.by_rest c.pick_all.new.ecx c.fill.new.make c.fill.ensures.rest) c.fill.ensures.grows)

pub returns-clause-kept : goal.returns-clause-kept
returns-clause-kept g c = then c.pick_all.ensures.kept (made (g.met.E.EvalCtxt.by_rest c.pick_all.new.ecx c.fill.new.make c.fill.ensures.rest) c.fill.ensures.grows)

pub returns-in_err-projections-clause-cause : goal.returns-in_err-projections-clause-cause
returns-in_err-projections-clause-cause g c =
    let p = err_from_is_err_and c.from_residual.result c.from_residual.ensures.1 in
    rw (p.1, p.2) (making
    (noting-unmade (subst (λ (x : Context). IsNotingStop x.trees c.in_err-projections.field-0.0) c.cx.ensures c.in_err-projections.ensures.cause)))

pub returns-in_err-fill-clause-cause : goal.returns-in_err-fill-clause-cause
returns-in_err-fill-clause-cause g c =
    let p = err_from_is_err_and c.from_residual-in_err-fill.result c.from_residual-in_err-fill.ensures.1 in
    rw (p.1, p.2) (making (unmade-before c.pick_all.ensures.kept.grows c.in_err-fill.ensures.cause))
