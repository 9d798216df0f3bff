use Rattle.std.proofs.Common.{rules, ◌≡◌, ◌≤◌, [], ◌∷◌, ◌++◌, length, map, refl, ap, ◌∙◌, subst}
use Rattle.std.specs.Prelude.{List, slice_index_or}
use Rattle.std.proofs.lemmas.List.{get_or_default}
use Rattle.std.proofs.lemmas.Result.{err_from_is_err_and}
use Rattle.ir_trees.specs.declared.ir.kinds.Clause.{Clause}
use Rattle.ir_trees.specs.Declarations.Context.{Context}
use Rattle.ir_trees.specs.Declarations.Declaring.{trait_at}
use Rattle.ir_trees.specs.Declarations.Lookups.{maybe}
use Rattle.ir_trees.specs.Syntax.Trees.{ClauseKind, Tree}
use Rattle.ir_trees.specs.Syntax.Words.{args_forest, clause_tree}
use Rattle.ir_folds.proofs.Instantiation.Joining.{clause-kept}
use Rattle.ir_trees.proofs.Growth.Kept.{args-kept, grows-trans}
use Rattle.ir_context.proofs.Hierarchy.Listing.{listed_clause}
use Rattle.candidate_eval.proofs.Dynamic.Required.{all_gathered, more_gathered, none_added, pushed_fit, pushed_trees}
use Rattle.candidate_assembly.proofs.Rules.TraitAliases.{all-values, owned-read, put-still, there-still, with_values}
use Rattle.candidate_eval.specs.Interface.Unmade.IsUnmade.{no_memory, of_trees}
use Rattle.candidate_eval.specs.Interface.Unmade.IsMade.{with_arguments}
use Rattle.candidate_assembly.proofs.trait_goals.aliases.where_clauses.Goals as goal

pub loop-clause-init : goal.loop-clause-init
loop-clause-init g c = (none_added _ _ _ _ refl c.new-list.ensures.items refl, refl)

pub subst-requires-clause-value : goal.subst-requires-clause-value
subst-requires-clause-value g c =
    let old = g.M.Build.context c.args.make.now in
    let xs = c.deref-clause-items.result.now in
    let owned = owned-read old _ c.args.reference.args xs c.trait_where_clauses_of.result.now c.cx.ensures (c.deref-clause-items.ensures.value ∙ c.in_ok-declared.ensures.items) c.trait_where_clauses_of.ensures.owned in
    let past : Clause = record { 0 = 0 } in
    let x = slice_index_or xs c.loop-clause.clause-index past in
    (clause-kept old _ x c.loop-clause.invariant.0.grows (listed_clause _ xs c.loop-clause.clause-index x owned.fit c.loop-clause-test.true (get_or_default xs c.loop-clause.clause-index past x c.loop-clause-test.true))).0

pub subst-requires-clause-args : goal.subst-requires-clause-args
subst-requires-clause-args g c = (args-kept _ _ c.args.reference.args c.loop-clause.invariant.0.grows c.requires.args).0

pub subst-requires-clause-there : goal.subst-requires-clause-there
subst-requires-clause-there g c =
    let old = g.M.Build.context c.args.make.now in
    let xs = c.deref-clause-items.result.now in
    let owned = owned-read old _ c.args.reference.args xs c.trait_where_clauses_of.result.now c.cx.ensures (c.deref-clause-items.ensures.value ∙ c.in_ok-declared.ensures.items) c.trait_where_clauses_of.ensures.owned in
    let past : Clause = record { 0 = 0 } in
    let x = slice_index_or xs c.loop-clause.clause-index past in
    there-still old _ c.args.reference.args x c.loop-clause.invariant.0.grows c.requires.args
    (listed_clause _ xs c.loop-clause.clause-index x owned.fit c.loop-clause-test.true (get_or_default xs c.loop-clause.clause-index past x c.loop-clause-test.true)) (owned.have c.loop-clause.clause-index past c.loop-clause-test.true)

pub returns-in_err-clause-clause-cause : goal.returns-in_err-clause-clause-cause
returns-in_err-clause-clause-cause g c =
    let p = err_from_is_err_and c.from_residual-in_err-clause.result c.from_residual-in_err-clause.ensures.1 in
    rw (p.1, p.2) (of_trees (g.M.Build.context c.loop-clause.make) c.loop-clause.invariant.0.grows c.subst.ensures.grows (with_arguments ClauseKind _ c.args.reference.args.0) c.in_err-clause.ensures.cause)

pub returns-in_err-clause-clause-grows : goal.returns-in_err-clause-clause-grows
returns-in_err-clause-clause-grows g c = grows-trans _ _ _ c.loop-clause.invariant.0.grows c.subst.ensures.grows

pub returns-in_err-push-clause-grows : goal.returns-in_err-push-clause-grows
returns-in_err-push-clause-grows g c = grows-trans _ _ _ c.loop-clause.invariant.0.grows c.subst.ensures.grows

pub loop-clause-preserved : goal.loop-clause-preserved
loop-clause-preserved g c =
    let start = g.M.Build.context c.args.make.now in
    let now = g.M.Build.context c.loop-clause.make in
    let new = g.M.Build.context c.subst.new.make in
    let so = c.loop-clause.invariant.0 in
    let xs = c.deref-clause-items.result.now in
    let owned = owned-read start _ c.args.reference.args xs c.trait_where_clauses_of.result.now c.cx.ensures (c.deref-clause-items.ensures.value ∙ c.in_ok-declared.ensures.items) c.trait_where_clauses_of.ensures.owned in
    let past : Clause = record { 0 = 0 } in
    let x = slice_index_or xs c.loop-clause.clause-index past in
    let is = listed_clause _ xs c.loop-clause.clause-index x owned.fit c.loop-clause-test.true (get_or_default xs c.loop-clause.clause-index past x c.loop-clause-test.true) in
    let items : c.push.new.self.items ≡ c.loop-clause.list.items ++ c.in_ok-clause.clause ∷ [] = search rules in
    let stays = put-still start now c.args.reference.args x so.grows c.requires.args is in
    let trees = pushed_trees now new c.loop-clause.list.items c.push.new.self.items c.in_ok-clause.clause _ c.subst.ensures.grows so.fit items c.in_ok-clause.ensures.tree in (
      more_gathered start now new [] c.loop-clause.list.items c.push.new.self.items (with_values start.trees (args_forest start.trees c.args.reference.args)) xs c.loop-clause.clause-index past so
          c.loop-clause-test.true c.subst.ensures.grows (pushed_fit now new c.loop-clause.list.items c.push.new.self.items c.in_ok-clause.clause c.subst.ensures.grows so.fit c.in_ok-clause.ensures.sort items)
          (trees ∙ ap (λ (ts : List Tree). map (clause_tree now.trees) c.loop-clause.list.items ++ ts) stays),
      c.subst.ensures.rest ∙ c.loop-clause.invariant.1,
    )

pub returns-clause-trees : goal.returns-clause-trees
returns-clause-trees g c =
    let start = g.M.Build.context c.args.make.now in
    let xs = c.deref-clause-items.result.now in
    let args = args_forest start.trees c.args.reference.args in
    let past : length xs ≤ c.loop-clause.clause-index = search rules in
    let are = subst (λ (y : Context). xs ≡ maybe [] (λ t. t.wheres) (trait_at y c.args.reference.def_id.0)) c.cx.ensures (c.deref-clause-items.ensures.value ∙ (c.in_ok-declared.ensures.items ∙ c.trait_where_clauses_of.ensures.is)) in
    all_gathered start _ [] c.loop-clause.list.items (with_values start.trees args) xs c.loop-clause.clause-index c.loop-clause.invariant.0 past ∙ (all-values start.trees args xs ∙ ap (map _) are)

pub returns-in_err-declared-clause-cause : goal.returns-in_err-declared-clause-cause
returns-in_err-declared-clause-cause g c =
    let p = err_from_is_err_and c.from_residual.result c.from_residual.ensures.1 in
    rw (p.1, p.2) no_memory

pub returns-in_err-push-clause-cause : goal.returns-in_err-push-clause-cause
returns-in_err-push-clause-cause g c =
    let p = err_from_is_err_and c.from_residual-in_err-push.result c.from_residual-in_err-push.ensures.1 in
    rw (p.1, p.2) no_memory
