use Rattle.std.proofs.Common.{rules, ◌≡◌, ◌≤◌, [], ◌∷◌, ◌++◌, length, map, get_or, refl, ap, ◌∙◌}
use Rattle.std.specs.Prelude.{List}
use Rattle.std.proofs.lemmas.Result.{err_from_is_err_and}
use Rattle.ir_trees.specs.declared.ir.kinds.Clause.{Clause}
use Rattle.ir_trees.specs.Syntax.Trees.{Tree, is_alias}
use Rattle.ir_trees.specs.Syntax.Words.{clause_tree}
use Rattle.ir_folds.proofs.Instantiation.Joining.{clause-kept}
use Rattle.ir_trees.proofs.Growth.Kept.{grows-trans, ty-kept}
use Rattle.ir_trees.proofs.Growth.Made.{IsClause-listed}
use Rattle.candidate_eval.proofs.Dynamic.Required.{all_gathered, more_gathered, none_added, pushed_fit, pushed_trees}
use Rattle.candidate_assembly.proofs.Opaques.SaidBounds.{all-with-type, one-with-type, with-type-kept}
use Rattle.candidate_eval.specs.Interface.Unmade.IsUnmade.{no_memory}
use Rattle.candidate_eval.proofs.Interface.Unmade.{unmade-before}
use Rattle.candidate_assembly.proofs.assembly.opaques.each_with_type_for.Goals as goal

pub loop-clause-init : goal.loop-clause-init
loop-clause-init g c = (none_added _ _ _ _ refl c.new-list.ensures.items refl, refl)

pub with_type_for-requires-clause-old : goal.with_type_for-requires-clause-old
with_type_for-requires-clause-old g c = (ty-kept _ _ c.args.old c.loop-clause.invariant.0.grows c.requires.old).0

pub with_type_for-requires-clause-new : goal.with_type_for-requires-clause-new
with_type_for-requires-clause-new g c = (ty-kept _ _ c.args.new c.loop-clause.invariant.0.grows c.requires.new).0

pub with_type_for-requires-clause-clause : goal.with_type_for-requires-clause-clause
with_type_for-requires-clause-clause g c =
    let start = g.M.Build.context c.args.make.now in
    let xs = c.args.clauses.now in
    let d : Clause = record { 0 = 0 } in
    (clause-kept start _ (get_or xs c.loop-clause.clause-index d) c.loop-clause.invariant.0.grows (IsClause-listed start.trees xs c.loop-clause.clause-index d c.loop-clause-test.true c.requires.clauses)).0

pub returns-in_err-clause-clause-cause : goal.returns-in_err-clause-clause-cause
returns-in_err-clause-clause-cause g c =
    let p = err_from_is_err_and c.from_residual.result c.from_residual.ensures.1 in
    rw (p.1, p.2) (unmade-before c.loop-clause.invariant.0.grows c.in_err-clause.ensures.cause)

pub returns-in_err-clause-clause-grows : goal.returns-in_err-clause-clause-grows
returns-in_err-clause-clause-grows g c = grows-trans _ _ _ c.loop-clause.invariant.0.grows c.with_type_for.ensures.grows

pub returns-in_err-push-clause-grows : goal.returns-in_err-push-clause-grows
returns-in_err-push-clause-grows g c = grows-trans _ _ _ c.loop-clause.invariant.0.grows c.with_type_for.ensures.grows

pub loop-clause-preserved : goal.loop-clause-preserved
loop-clause-preserved g c =
    let start = g.M.Build.context c.args.make.now in
    let now = g.M.Build.context c.loop-clause.make in
    let new = g.M.Build.context c.with_type_for.new.make in
    let so = c.loop-clause.invariant.0 in
    let xs = c.args.clauses.now in
    let k = c.loop-clause.clause-index in
    let d : Clause = record { 0 = 0 } in
    let is = IsClause-listed start.trees xs k d c.loop-clause-test.true c.requires.clauses in
    let items : c.push.new.self.items ≡ c.loop-clause.list.items ++ c.in_ok-clause.clause ∷ [] = search rules in
    let stays = with-type-kept start now c.args.old c.args.new (get_or xs k d) so.grows c.requires.old c.requires.new is in
    let trees = pushed_trees now new c.loop-clause.list.items c.push.new.self.items c.in_ok-clause.clause _ c.with_type_for.ensures.grows so.fit items c.in_ok-clause.ensures.tree in (
      more_gathered start now new [] c.loop-clause.list.items c.push.new.self.items (one-with-type start.trees c.args.old c.args.new) xs k d so
          c.loop-clause-test.true c.with_type_for.ensures.grows (pushed_fit now new c.loop-clause.list.items c.push.new.self.items c.in_ok-clause.clause c.with_type_for.ensures.grows so.fit c.in_ok-clause.ensures.sort items)
          (trees ∙ ap (λ (ts : List Tree). map (clause_tree now.trees) c.loop-clause.list.items ++ ts) stays),
      c.with_type_for.ensures.rest ∙ c.loop-clause.invariant.1,
    )

pub returns-clause-trees : goal.returns-clause-trees
returns-clause-trees g c =
    let start = g.M.Build.context c.args.make.now in
    let xs = c.args.clauses.now in
    let past : length xs ≤ c.loop-clause.clause-index = search rules in
    all_gathered start _ [] c.loop-clause.list.items (one-with-type start.trees c.args.old c.args.new) xs c.loop-clause.clause-index c.loop-clause.invariant.0 past ∙ all-with-type start.trees c.args.old c.args.new xs

pub with_type_for-requires-clause-alias : goal.with_type_for-requires-clause-alias
with_type_for-requires-clause-alias g c = ap (λ (t : Tree). is_alias t.head) (ty-kept _ _ c.args.old c.loop-clause.invariant.0.grows c.requires.old).1 ∙ c.requires.alias

pub returns-in_err-push-clause-cause : goal.returns-in_err-push-clause-cause
returns-in_err-push-clause-cause g c =
    let p = err_from_is_err_and c.from_residual-in_err-push.result c.from_residual-in_err-push.ensures.1 in
    rw (p.1, p.2) no_memory
