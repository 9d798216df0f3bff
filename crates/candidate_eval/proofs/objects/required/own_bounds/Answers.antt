use Rattle.std.proofs.Common.{rules, ◌≤◌, [], ◌++◌, List, length, refl, ◌∙◌, ap}
use Rattle.std.specs.Prelude.{map}
use Rattle.ir_trees.specs.Syntax.Trees.{Tree}
use Rattle.ir_trees.specs.Syntax.Words.{clause_tree}
use Rattle.ir_trees.proofs.Growth.Kept.{ty-kept, grows-trans}
use Rattle.ir_trees.proofs.Growth.Made.{IsPred-listed}
use Rattle.candidate_eval.proofs.Dynamic.Required.{all_gathered, all_said, bound_said, more_gathered, none_added, preds_read, said_stays}
use Rattle.std.proofs.lemmas.Result.{err_from_is_err_and}
use Rattle.candidate_eval.specs.Interface.Unmade.IsUnmade.{no_memory}
use Rattle.candidate_eval.proofs.Interface.Unmade.{unmade-before}
use Rattle.candidate_eval.proofs.objects.required.own_bounds.Goals as goal

pub loop-bound-init : goal.loop-bound-init
loop-bound-init g c = (none_added _ _ _ _ refl c.new-list.ensures.items refl, refl)

pub push_own-requires-clause-object : goal.push_own-requires-clause-object
push_own-requires-clause-object g c = (ty-kept _ _ c.args.object c.loop-bound.invariant.0.grows c.requires.object).0

pub push_own-requires-clause-bound : goal.push_own-requires-clause-bound
push_own-requires-clause-bound g c =
    let start = g.M.Build.context c.args.make.now in
    let read = preds_read start _ c.args.bounds c.preds.result.now _ c.cx.ensures (c.deref-bound-items.ensures.value ∙ c.in_ok-listed.ensures.items) c.preds.ensures.fits c.preds.ensures.tree in
    (said_stays start _ c.args.object _ c.loop-bound.invariant.0.grows c.requires.object (IsPred-listed start.trees c.deref-bound-items.result.now c.loop-bound.bound-index _ c.loop-bound-test.true read.0)).0

pub loop-bound-preserved : goal.loop-bound-preserved
loop-bound-preserved g c =
    let start = g.M.Build.context c.args.make.now in
    let xs = c.deref-bound-items.result.now in
    let so = c.loop-bound.invariant.0 in
    let read = preds_read start _ c.args.bounds c.preds.result.now xs c.cx.ensures (c.deref-bound-items.ensures.value ∙ c.in_ok-listed.ensures.items) c.preds.ensures.fits c.preds.ensures.tree in
    let stays = said_stays start (g.M.Build.context c.loop-bound.make) c.args.object _ so.grows c.requires.object (IsPred-listed start.trees xs c.loop-bound.bound-index _ c.loop-bound-test.true read.0) in (
      more_gathered start (g.M.Build.context c.loop-bound.make) (g.M.Build.context c.push_own.new.make) [] c.loop-bound.list.items c.push_own.new.list.items (bound_said start.trees c.args.object) xs c.loop-bound.bound-index _ so
          c.loop-bound-test.true c.push_own.ensures.grows c.in_ok-push_own.ensures.sort (c.in_ok-push_own.ensures.trees ∙ ap (λ (ts : List Tree). map (clause_tree (g.M.Build.context c.loop-bound.make).trees) c.loop-bound.list.items ++ ts) stays.1),
      c.push_own.ensures.rest ∙ c.loop-bound.invariant.1,
    )

pub returns-clause-trees : goal.returns-clause-trees
returns-clause-trees g c =
    let start = g.M.Build.context c.args.make.now in
    let xs = c.deref-bound-items.result.now in
    let read = preds_read start _ c.args.bounds c.preds.result.now xs c.cx.ensures (c.deref-bound-items.ensures.value ∙ c.in_ok-listed.ensures.items) c.preds.ensures.fits c.preds.ensures.tree in
    let past : length xs ≤ c.loop-bound.bound-index = search rules in
    all_gathered start _ [] c.loop-bound.list.items (bound_said start.trees c.args.object) xs c.loop-bound.bound-index c.loop-bound.invariant.0 past ∙ all_said start.trees c.args.object c.args.bounds xs read.0 read.1

pub returns-in_err-push_own-clause-grows : goal.returns-in_err-push_own-clause-grows
returns-in_err-push_own-clause-grows g c = grows-trans _ _ _ c.loop-bound.invariant.0.grows c.push_own.ensures.grows

pub returns-in_err-listed-clause-cause : goal.returns-in_err-listed-clause-cause
returns-in_err-listed-clause-cause g c =
    let p = err_from_is_err_and c.from_residual.result c.from_residual.ensures.1 in
    rw (p.1, p.2) no_memory

pub returns-in_err-push_own-clause-cause : goal.returns-in_err-push_own-clause-cause
returns-in_err-push_own-clause-cause g c =
    let p = err_from_is_err_and c.from_residual-in_err-push_own.result c.from_residual-in_err-push_own.ensures.1 in
    rw (p.1, p.2) (unmade-before c.loop-bound.invariant.0.grows c.in_err-push_own.ensures.cause)
