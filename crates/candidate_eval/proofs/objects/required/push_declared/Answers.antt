use Rattle.std.proofs.Common.{rules, ◌≡◌, ◌≤◌, ◌∷◌, [], ◌++◌, List, length, refl, ◌∙◌, ap}
use Rattle.std.specs.Prelude.{map}
use Rattle.ir_trees.specs.Syntax.Trees.{Tree}
use Rattle.ir_trees.specs.Syntax.Words.{clause_tree}
use Rattle.ir_folds.proofs.Instantiation.Joining.{clause-kept}
use Rattle.ir_trees.proofs.Growth.Kept.{args-kept, grows-trans}
use Rattle.ir_trees.proofs.Growth.Made.{IsClause-listed}
use Rattle.candidate_eval.proofs.Dynamic.Required.{all_gathered, more_gathered, none_added, pushed_fit, pushed_trees}
use Rattle.candidate_eval.proofs.Dynamic.Requiring.{all_declared, clause_stays, clause_with, declared_read}
use Rattle.std.proofs.lemmas.Result.{err_from_is_err_and}
use Rattle.candidate_eval.specs.Interface.Unmade.IsUnmade.{no_memory}
use Rattle.candidate_eval.proofs.Interface.Unmade.{unmade-before}
use Rattle.candidate_eval.proofs.objects.required.push_declared.Goals as goal

pub loop-clause-init : goal.loop-clause-init
loop-clause-init g c = (none_added _ _ _ _ c.requires.list refl refl, refl)

pub with_arguments-requires-clause-args : goal.with_arguments-requires-clause-args
with_arguments-requires-clause-args g c = (args-kept _ _ c.args.args c.loop-clause.invariant.0.grows c.requires.args).0

pub with_arguments-requires-clause-clause : goal.with_arguments-requires-clause-clause
with_arguments-requires-clause-clause g c =
    let start = g.M.Build.context c.args.make.now in
    let read = declared_read start _ c.args.of c.declared_clauses.result.now _ c.cx.ensures (c.deref-clause-items.ensures.value ∙ c.in_ok-declared.ensures.items) c.declared_clauses.ensures.is c.declared_clauses.ensures.fit in
    (clause-kept start _ _ c.loop-clause.invariant.0.grows (IsClause-listed start.trees c.deref-clause-items.result.now c.loop-clause.clause-index _ c.loop-clause-test.true read.1)).0

pub loop-clause-preserved : goal.loop-clause-preserved
loop-clause-preserved g c =
    let start = g.M.Build.context c.args.make.now in
    let now = g.M.Build.context c.loop-clause.make in
    let new = g.M.Build.context c.with_arguments.new.make in
    let xs = c.deref-clause-items.result.now in
    let so = c.loop-clause.invariant.0 in
    let items : c.push.new.self.items ≡ c.loop-clause.list.items ++ c.in_ok-clause.clause ∷ [] = search rules in
    let read = declared_read start _ c.args.of c.declared_clauses.result.now xs c.cx.ensures (c.deref-clause-items.ensures.value ∙ c.in_ok-declared.ensures.items) c.declared_clauses.ensures.is c.declared_clauses.ensures.fit in
    let stays = clause_stays start now c.args.args _ so.grows c.requires.args (IsClause-listed start.trees xs c.loop-clause.clause-index _ c.loop-clause-test.true read.1) in (
      more_gathered start now new c.args.list.now.items c.loop-clause.list.items c.push.new.self.items (clause_with start.trees c.args.args) xs c.loop-clause.clause-index _ so c.loop-clause-test.true
          c.with_arguments.ensures.grows (pushed_fit now new c.loop-clause.list.items c.push.new.self.items c.in_ok-clause.clause c.with_arguments.ensures.grows so.fit c.in_ok-clause.ensures.sort items)
          (pushed_trees now new c.loop-clause.list.items c.push.new.self.items c.in_ok-clause.clause _ c.with_arguments.ensures.grows so.fit items (c.in_ok-clause.ensures.tree ∙ stays)),
      c.with_arguments.ensures.rest ∙ c.loop-clause.invariant.1,
    )

pub returns-clause-trees : goal.returns-clause-trees
returns-clause-trees g c =
    let start = g.M.Build.context c.args.make.now in
    let xs = c.deref-clause-items.result.now in
    let read = declared_read start _ c.args.of c.declared_clauses.result.now xs c.cx.ensures (c.deref-clause-items.ensures.value ∙ c.in_ok-declared.ensures.items) c.declared_clauses.ensures.is c.declared_clauses.ensures.fit in
    let past : length xs ≤ c.loop-clause.clause-index = search rules in
    all_gathered start _ _ _ (clause_with start.trees c.args.args) xs c.loop-clause.clause-index c.loop-clause.invariant.0 past
    ∙ ap (λ (ts : List Tree). map (clause_tree start.trees) c.args.list.now.items ++ ts) (all_declared start c.args.args c.args.of xs read.0)

pub returns-in_err-clause-clause-grows : goal.returns-in_err-clause-clause-grows
returns-in_err-clause-clause-grows g c = grows-trans _ _ _ c.loop-clause.invariant.0.grows c.with_arguments.ensures.grows

pub returns-in_err-push-clause-grows : goal.returns-in_err-push-clause-grows
returns-in_err-push-clause-grows g c = grows-trans _ _ _ c.loop-clause.invariant.0.grows c.with_arguments.ensures.grows

pub returns-in_err-declared-clause-cause : goal.returns-in_err-declared-clause-cause
returns-in_err-declared-clause-cause g c =
    let p = err_from_is_err_and c.from_residual.result c.from_residual.ensures.1 in
    rw (p.1, p.2) no_memory

pub returns-in_err-push-clause-cause : goal.returns-in_err-push-clause-cause
returns-in_err-push-clause-cause g c =
    let p = err_from_is_err_and c.from_residual-in_err-push.result c.from_residual-in_err-push.ensures.1 in
    rw (p.1, p.2) no_memory

pub returns-in_err-clause-clause-cause : goal.returns-in_err-clause-clause-cause
returns-in_err-clause-clause-cause g c =
    let p = err_from_is_err_and c.from_residual-in_err-clause.result c.from_residual-in_err-clause.ensures.1 in
    rw (p.1, p.2) (unmade-before c.loop-clause.invariant.0.grows c.in_err-clause.ensures.cause)
