use Rattle.std.proofs.Common.{rules, ◌≤◌, ◌++◌, List, length, refl, sym, ◌∙◌, ap, subst}
use Rattle.std.specs.Prelude.{map}
use Rattle.std.specs.List.{flat_map}
use Rattle.std.proofs.lemmas.List.{append-nil}
use Rattle.ir_trees.specs.declared.ir.kinds.AssocId.{AssocId}
use Rattle.ir_trees.specs.Declarations.Context.{Context}
use Rattle.ir_trees.specs.Syntax.Trees.{Tree}
use Rattle.ir_trees.specs.Validity.WellFormed.{IsWellFormedTable}
use Rattle.ir_trees.specs.Syntax.Words.{args_forest, clause_tree}
use Rattle.ir_trees.proofs.Growth.Kept.{args-kept, grows-refl, grows-trans}
use Rattle.candidate_eval.specs.Dynamic.Required.{items_of}
use Rattle.candidate_eval.proofs.Dynamic.Required.{all_gathered, more_gathered, none_added}
use Rattle.candidate_eval.proofs.Dynamic.Requiring.{all_items, item_left, item_there, item_with, required_now}
use Rattle.std.proofs.lemmas.Result.{err_from_is_err_and}
use Rattle.candidate_eval.specs.Interface.Unmade.IsUnmade.{no_memory}
use Rattle.candidate_eval.proofs.Interface.Unmade.{unmade-before}
use Rattle.candidate_eval.proofs.objects.required.push_required.Goals as goal

pub loop-item-init : goal.loop-item-init
loop-item-init g c = (none_added _ _ _ _ c.requires.list refl refl, refl)

pub push_bounds-requires-clause-args : goal.push_bounds-requires-clause-args
push_bounds-requires-clause-args g c = (args-kept _ _ c.args.trait_ref.args c.loop-item.invariant.0.grows c.requires.args).0

pub loop-item-preserved-then-not-is_required : goal.loop-item-preserved-then-not-is_required
loop-item-preserved-then-not-is_required g c =
    let start = g.M.Build.context c.args.make.now in
    let now = g.M.Build.context c.loop-item.make in
    let args = args_forest start.trees c.args.trait_ref.args in
    let so = c.loop-item.invariant.0 in
    let no = required_now now _ _ _ _ c.cx-in-loop-item.ensures c.is_required.ensures c.if-not-is_required.true in
    let trees =
    sym (append-nil (map (clause_tree now.trees) c.loop-item.list.items))
    ∙ ap (λ (ts : List Tree). map (clause_tree now.trees) c.loop-item.list.items ++ ts) (sym (item_left start now args _ so.grows no)) in
    (more_gathered start now now c.args.list.now.items c.loop-item.list.items c.loop-item.list.items (item_with start args) c.deref-item-items.result.now c.loop-item.item-index _ so c.loop-item-test.true (grows-refl now) so.fit trees, c.loop-item.invariant.1)

pub loop-item-preserved : goal.loop-item-preserved
loop-item-preserved g c =
    let start = g.M.Build.context c.args.make.now in
    let now = g.M.Build.context c.loop-item.make in
    let args = args_forest start.trees c.args.trait_ref.args in
    let so = c.loop-item.invariant.0 in
    let table = subst IsWellFormedTable c.cx.ensures c.recall_well_formed_table.ensures in
    let yes = required_now now _ _ _ _ c.cx-in-loop-item.ensures c.is_required.ensures c.if-not-is_required.false in
    let same = item_there start now c.args.trait_ref.args _ table so.grows c.requires.args yes in (
      more_gathered start now (g.M.Build.context c.push_bounds.new.make) c.args.list.now.items c.loop-item.list.items c.push_bounds.new.list.items (item_with start args) c.deref-item-items.result.now c.loop-item.item-index _ so
          c.loop-item-test.true c.push_bounds.ensures.grows c.in_ok-push_bounds.ensures.sort
          (c.in_ok-push_bounds.ensures.trees ∙ ap (λ (ts : List Tree). map (clause_tree now.trees) c.loop-item.list.items ++ ts) same),
      c.push_bounds.ensures.rest ∙ c.loop-item.invariant.1,
    )

pub returns-in_err-push_bounds-clause-grows : goal.returns-in_err-push_bounds-clause-grows
returns-in_err-push_bounds-clause-grows g c = grows-trans _ _ _ c.loop-item.invariant.0.grows c.push_bounds.ensures.grows

pub returns-clause-trees : goal.returns-clause-trees
returns-clause-trees g c =
    let start = g.M.Build.context c.args.make.now in
    let args = args_forest start.trees c.args.trait_ref.args in
    let xs = c.deref-item-items.result.now in
    let same = c.deref-item-items.ensures.value ∙ (c.in_ok-items.ensures.items ∙ (c.associated_items.ensures ∙ ap (λ (x : Context). items_of x c.args.trait_ref.def_id.0) c.cx-2.ensures)) in
    let past : length xs ≤ c.loop-item.item-index = search rules in
    all_gathered start _ _ _ (item_with start args) xs c.loop-item.item-index c.loop-item.invariant.0 past
    ∙ ap (λ (ts : List Tree). map (clause_tree start.trees) c.args.list.now.items ++ ts) (ap (λ (is : List AssocId). flat_map (item_with start args) is) same ∙ all_items start args (items_of start c.args.trait_ref.def_id.0))

pub returns-in_err-items-clause-cause : goal.returns-in_err-items-clause-cause
returns-in_err-items-clause-cause g c =
    let p = err_from_is_err_and c.from_residual.result c.from_residual.ensures.1 in
    rw (p.1, p.2) no_memory

pub returns-in_err-push_bounds-clause-cause : goal.returns-in_err-push_bounds-clause-cause
returns-in_err-push_bounds-clause-cause g c =
    let p = err_from_is_err_and c.from_residual-in_err-push_bounds.result c.from_residual-in_err-push_bounds.ensures.1 in
    rw (p.1, p.2) (unmade-before c.loop-item.invariant.0.grows c.in_err-push_bounds.ensures.cause)
