use Rattle.std.proofs.Common.{rules, ◌≡◌, [], ◌∷◌, ◌++◌, ◌≤◌, length, refl, ◌∙◌}
use Rattle.ir_trees.specs.declared.ir.kinds.GoalSource.TheVariants.{ImplWhereBound}
use Rattle.ir_trees.proofs.Growth.Kept.{grows-trans, ty-kept}
use Rattle.ir_trees.proofs.Growth.Made.{IsPred-listed}
use Rattle.candidate_eval.proofs.Dynamic.Required.{preds_read}
use Rattle.candidate_assembly.proofs.Unsizing.DynRequirements.{all-required, next-said, none-yet, said-still}
use Rattle.std.proofs.lemmas.Result.{err_from_is_err_and}
use Rattle.candidate_eval.specs.Interface.Unmade.IsUnmade.{no_memory}
use Rattle.candidate_eval.proofs.Interface.Unmade.{unmade-before}
use Rattle.candidate_assembly.proofs.trait_goals.to_dyn.bound_requirements.Goals as goal

pub loop-bound-init : goal.loop-bound-init
loop-bound-init g c = (none-yet (g.M.Build.context c.args.make.now) c.new-requirements.result.items c.new-requirements.ensures.items, refl)

pub bound_clause-requires-clause-ty : goal.bound_clause-requires-clause-ty
bound_clause-requires-clause-ty g c = (ty-kept (g.M.Build.context c.args.make.now) (g.M.Build.context c.loop-bound.make) c.args.ty c.loop-bound.invariant.0.grows c.requires.ty).0

pub bound_clause-requires-clause-bound : goal.bound_clause-requires-clause-bound
bound_clause-requires-clause-bound g c =
    let start = g.M.Build.context c.args.make.now in
    let xs = c.deref-bound-items.result.now in
    let read = preds_read start _ c.args.bounds c.preds.result.now xs c.cx.ensures (c.deref-bound-items.ensures.value ∙ c.in_ok-listed.ensures.items) c.preds.ensures.fits c.preds.ensures.tree in
    (said-still start (g.M.Build.context c.loop-bound.make) c.args.ty _ c.loop-bound.invariant.0.grows c.requires.ty (IsPred-listed start.trees xs c.loop-bound.bound-index _ c.loop-bound-test.true read.0)).0

pub loop-bound-preserved : goal.loop-bound-preserved
loop-bound-preserved g c =
    let items : c.push.new.self.items ≡ c.loop-bound.requirements.items ++ (ImplWhereBound, c.in_ok-clause.clause) ∷ [] = search rules in
    let start = g.M.Build.context c.args.make.now in
    let xs = c.deref-bound-items.result.now in
    let so = c.loop-bound.invariant.0 in
    let now = g.M.Build.context c.loop-bound.make in
    let read = preds_read start _ c.args.bounds c.preds.result.now xs c.cx.ensures (c.deref-bound-items.ensures.value ∙ c.in_ok-listed.ensures.items) c.preds.ensures.fits c.preds.ensures.tree in
    let still = said-still start now c.args.ty _ so.grows c.requires.ty (IsPred-listed start.trees xs c.loop-bound.bound-index _ c.loop-bound-test.true read.0) in (
      next-said start now (g.M.Build.context c.bound_clause.new.make) c.args.ty c.loop-bound.requirements.items c.push.new.self.items c.in_ok-clause.clause xs c.loop-bound.bound-index _ so c.loop-bound-test.true
          c.bound_clause.ensures.grows c.in_ok-clause.ensures.sort (c.in_ok-clause.ensures.tree ∙ still.1) items,
      c.bound_clause.ensures.rest ∙ c.loop-bound.invariant.1,
    )

pub returns-clause-steps : goal.returns-clause-steps
returns-clause-steps g c =
    let start = g.M.Build.context c.args.make.now in
    let xs = c.deref-bound-items.result.now in
    let read = preds_read start _ c.args.bounds c.preds.result.now xs c.cx.ensures (c.deref-bound-items.ensures.value ∙ c.in_ok-listed.ensures.items) c.preds.ensures.fits c.preds.ensures.tree in
    let past : length xs ≤ c.loop-bound.bound-index = search rules in
    all-required start (g.M.Build.context c.loop-bound.make) c.args.ty c.loop-bound.requirements.items c.args.bounds xs c.loop-bound.bound-index c.loop-bound.invariant.0 past read.0 read.1

pub returns-clause-fit : goal.returns-clause-fit
returns-clause-fit g c = c.loop-bound.invariant.0.fit

pub returns-in_err-clause-clause-grows : goal.returns-in_err-clause-clause-grows
returns-in_err-clause-clause-grows g c = grows-trans (g.M.Build.context c.args.make.now) (g.M.Build.context c.loop-bound.make) (g.M.Build.context c.bound_clause.new.make) c.loop-bound.invariant.0.grows c.bound_clause.ensures.grows

pub returns-in_err-push-clause-grows : goal.returns-in_err-push-clause-grows
returns-in_err-push-clause-grows g c = grows-trans (g.M.Build.context c.args.make.now) (g.M.Build.context c.loop-bound.make) (g.M.Build.context c.bound_clause.new.make) c.loop-bound.invariant.0.grows c.bound_clause.ensures.grows

pub returns-in_err-listed-clause-cause : goal.returns-in_err-listed-clause-cause
returns-in_err-listed-clause-cause g c =
    let p = err_from_is_err_and c.from_residual.result c.from_residual.ensures.1 in
    rw (p.1, p.2) no_memory

pub returns-in_err-push-clause-cause : goal.returns-in_err-push-clause-cause
returns-in_err-push-clause-cause g c =
    let p = err_from_is_err_and c.from_residual-in_err-push.result c.from_residual-in_err-push.ensures.1 in
    rw (p.1, p.2) no_memory

pub returns-in_err-clause-clause-cause : goal.returns-in_err-clause-clause-cause
returns-in_err-clause-clause-cause g c =
    let p = err_from_is_err_and c.from_residual-in_err-clause.result c.from_residual-in_err-clause.ensures.1 in
    rw (p.1, p.2) (unmade-before c.loop-bound.invariant.0.grows c.in_err-clause.ensures.cause)
