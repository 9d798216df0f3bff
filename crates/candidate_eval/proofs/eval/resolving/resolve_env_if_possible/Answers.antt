use Rattle.std.proofs.Common.{rules, refl, ◌≡◌, ◌≤◌, ◌∷◌, [], ◌++◌, length, ◌∙◌, ap}
use Rattle.ir_folds.proofs.Instantiation.Joining.{clause-kept}
use Rattle.ir_trees.proofs.Growth.Made.{IsClause-listed}
use Rattle.std.proofs.lemmas.Result.{IfErr-weaker, IfOk-weaker, err_from_is_err_and}
use Rattle.std.specs.Prelude.{slice_index_or}
use Rattle.ir_trees.specs.declared.ir.kinds.Clause.{Clause}
use Rattle.ir_trees.specs.Syntax.Words.{clause_list_forest, clause_tree}
use Rattle.candidate_eval.specs.Judges.States.{resolved}
use Rattle.candidate_eval.proofs.Interface.Probing.{made, then}
use Rattle.candidate_eval.proofs.Dynamic.Required.{all_gathered, more_gathered, pushed_fit, pushed_trees}
use Rattle.candidate_eval.proofs.Interface.Resolving.{one-resolved, read-env, resolved-env, resolved_one}
use Rattle.candidate_eval.proofs.Interface.Unmade.{members-unmade}
use Rattle.candidate_eval.proofs.Interface.Accounts.{accounted-here, memory-somehow, reaches, somehow-later}
use Rattle.candidate_eval.specs.Interface.Accounts.StopsSomehow.{asking, making}
use Rattle.candidate_eval.proofs.eval.resolving.resolve_env_if_possible.Goals as goal

pub resolve_clause_if_possible-requires : goal.resolve_clause_if_possible-requires
resolve_clause_if_possible-requires g c =
    let start = g.E.Build.context c.args.ecx.now in
    let xs = c.deref-clause-items.result.now in
    let read = read-env start c.cx.result.now c.args.env c.param_env.result.now xs c.cx.ensures (c.deref-clause-items.ensures.value ∙ c.in_ok-clauses.ensures.items) c.param_env.ensures.fits c.param_env.ensures.tree in
    (clause-kept start _ _ c.loop-clause.invariant.0.grows (IsClause-listed start.trees xs c.loop-clause.clause-index _ c.loop-clause-test.true read.0)).0

pub loop-clause-preserved : goal.loop-clause-preserved
loop-clause-preserved g c =
    let E = g.E.EvalCtxt in
    let S = E.state c.args.ecx.now in
    let start = g.E.Build.context c.args.ecx.now in
    let now = g.E.Build.context c.loop-clause.ecx in
    let new = g.E.Build.context c.resolve_clause_if_possible.new.self in
    let xs = c.deref-clause-items.result.now in
    let so = c.loop-clause.invariant.0 in
    let called = c.in_ok-resolved.ensures in
    let items : c.push.new.self.items ≡ c.loop-clause.list.items ++ c.in_ok-resolved.resolved ∷ [] = search rules in
    let read = read-env start c.cx.result.now c.args.env c.param_env.result.now xs c.cx.ensures (c.deref-clause-items.ensures.value ∙ c.in_ok-clauses.ensures.items) c.param_env.ensures.fits c.param_env.ensures.tree in
    let x : Clause = slice_index_or xs c.loop-clause.clause-index (record { 0 = 0 }) in
    let stays = (clause-kept start now x so.grows (IsClause-listed start.trees xs c.loop-clause.clause-index _ c.loop-clause-test.true read.0)).1 in
    let is = one-resolved S (E.state c.loop-clause.ecx) start.trees now.trees x (clause_tree new.trees c.in_ok-resolved.resolved) c.loop-clause.invariant.2 stays called.tree in (
      more_gathered start now new [] c.loop-clause.list.items c.push.new.self.items (resolved_one S start.trees) xs c.loop-clause.clause-index _ so c.loop-clause-test.true
          called.kept.grows (pushed_fit now new c.loop-clause.list.items c.push.new.self.items c.in_ok-resolved.resolved called.kept.grows so.fit called.sort items)
          (pushed_trees now new c.loop-clause.list.items c.push.new.self.items c.in_ok-resolved.resolved _ called.kept.grows so.fit items is),
      then c.loop-clause.invariant.1 called.kept,
      called.same ∙ c.loop-clause.invariant.2,
    )

pub returns-in_err-resolved-clause-kept : goal.returns-in_err-resolved-clause-kept
returns-in_err-resolved-clause-kept g c = then c.loop-clause.invariant.1 c.in_err-resolved.ensures.kept

pub returns-in_err-push-clause-kept : goal.returns-in_err-push-clause-kept
returns-in_err-push-clause-kept g c = then c.loop-clause.invariant.1 c.in_ok-resolved.ensures.kept

pub returns-clause-tree : goal.returns-clause-tree
returns-clause-tree g c =
    let S = g.E.EvalCtxt.state c.args.ecx.now in
    let start = g.E.Build.context c.args.ecx.now in
    let now = g.E.Build.context c.loop-clause.ecx in
    let xs = c.deref-clause-items.result.now in
    let so = c.loop-clause.invariant.0 in
    let read = read-env start c.cx.result.now c.args.env c.param_env.result.now xs c.cx.ensures (c.deref-clause-items.ensures.value ∙ c.in_ok-clauses.ensures.items) c.param_env.ensures.fits c.param_env.ensures.tree in
    let past : length xs ≤ c.loop-clause.clause-index = search rules in
    let gathered = all_gathered start now [] c.loop-clause.list.items (resolved_one S start.trees) xs c.loop-clause.clause-index so past in
    let whole = resolved-env S start.trees now.trees xs c.loop-clause.list.items read.0 so.fit gathered ∙ ap (resolved S) read.1 in
    IfOk-weaker c.mk_param_env.result _ _ (λ x e. e ∙ (ap (clause_list_forest now.trees) c.as_slice.ensures.value ∙ whole)) c.mk_param_env.ensures.made.tree

pub returns-in_err-clauses-clause-cause : goal.returns-in_err-clauses-clause-cause
returns-in_err-clauses-clause-cause g c =
    let p = err_from_is_err_and c.from_residual.result c.from_residual.ensures.1 in
    rw (p.1, p.2) (memory-somehow refl)

pub returns-in_err-resolved-clause-cause : goal.returns-in_err-resolved-clause-cause
returns-in_err-resolved-clause-cause g c =
    let p = err_from_is_err_and c.from_residual-in_err-resolved.result c.from_residual-in_err-resolved.ensures.1 in
    rw (p.1, p.2) (somehow-later (reaches c.loop-clause.invariant.1) (asking (accounted-here _ (reaches c.in_err-resolved.ensures.kept) c.in_err-resolved.ensures.cause)))

pub returns-in_err-push-clause-cause : goal.returns-in_err-push-clause-cause
returns-in_err-push-clause-cause g c =
    let p = err_from_is_err_and c.from_residual-in_err-push.result c.from_residual-in_err-push.ensures.1 in
    rw (p.1, p.2) (memory-somehow refl)

pub returns-clause-cause : goal.returns-clause-cause
returns-clause-cause g c = IfErr-weaker c.mk_param_env.result _ _ (λ s x. making
    (members-unmade _ c.mk_param_env.ensures.made.kept x)) c.mk_param_env.ensures.made.cause

pub returns-clause-kept : goal.returns-clause-kept
returns-clause-kept g c =
    then c.loop-clause.invariant.1 (made (g.met.E.EvalCtxt.by_rest c.loop-clause.ecx c.mk_param_env.new.self c.mk_param_env.ensures.rest) c.mk_param_env.ensures.made.kept)
