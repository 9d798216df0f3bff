use Rattle.std.proofs.Common.{◌∙◌}
use Rattle.ir_trees.specs.Syntax.Words.{clause_tree, ty_tree}
use Rattle.ir_trees.proofs.Growth.Kept.{grows-trans}
use Rattle.candidate_eval.proofs.Dynamic.Required.{preds_read}
use Rattle.candidate_assembly.proofs.Unsizing.DynRequirements.{region-still}
use Rattle.candidate_assembly.proofs.Upcasting.UpcastParts.{between-is, listed-bounds, lives-read, parts-read}
use Rattle.std.proofs.lemmas.Result.{err_from_is_err_and}
use Rattle.candidate_eval.specs.Interface.Unmade.IsUnmade.{no_memory}
use Rattle.candidate_eval.proofs.Interface.Unmade.{unmade-before}
use Rattle.candidate_assembly.proofs.trait_goals.upcasting.upcast_between.Goals as goal

pub needed_supertraits-requires-clause-sources : goal.needed_supertraits-requires-clause-sources
needed_supertraits-requires-clause-sources g c =
    let old = g.M.Build.context c.args.make.now in
    let from = parts-read c.cx.result.now old c.args.from c.dyn_parts.result.0 c.dyn_parts.result.1 c.cx.ensures c.dyn_parts.ensures.bounds c.dyn_parts.ensures.region c.dyn_parts.ensures.region_tree in
    let read = preds_read old c.cx-3.result.now c.dyn_parts.result.0 c.preds.result.now c.as_slice-own.result.now c.cx-3.ensures (c.as_slice-own.ensures.value ∙ c.in_ok-sources.ensures.items) c.preds.ensures.fits c.preds.ensures.tree in
    (listed-bounds old c.args.from c.dyn_parts.result.0 c.as_slice-own.result.now from.0 read).0

pub needed_supertraits-requires-clause-sources_are : goal.needed_supertraits-requires-clause-sources_are
needed_supertraits-requires-clause-sources_are g c =
    let old = g.M.Build.context c.args.make.now in
    let from = parts-read c.cx.result.now old c.args.from c.dyn_parts.result.0 c.dyn_parts.result.1 c.cx.ensures c.dyn_parts.ensures.bounds c.dyn_parts.ensures.region c.dyn_parts.ensures.region_tree in
    let read = preds_read old c.cx-3.result.now c.dyn_parts.result.0 c.preds.result.now c.as_slice-own.result.now c.cx-3.ensures (c.as_slice-own.ensures.value ∙ c.in_ok-sources.ensures.items) c.preds.ensures.fits c.preds.ensures.tree in
    (listed-bounds old c.args.from c.dyn_parts.result.0 c.as_slice-own.result.now from.0 read).1

pub needed_supertraits-requires-clause-targets : goal.needed_supertraits-requires-clause-targets
needed_supertraits-requires-clause-targets g c =
    let old = g.M.Build.context c.args.make.now in
    let to = parts-read c.cx-2.result.now old c.args.to c.dyn_parts-2.result.0 c.dyn_parts-2.result.1 c.cx-2.ensures c.dyn_parts-2.ensures.bounds c.dyn_parts-2.ensures.region c.dyn_parts-2.ensures.region_tree in
    let read = preds_read old c.cx-4.result.now c.dyn_parts-2.result.0 c.preds-2.result.now c.as_slice-asked.result.now c.cx-4.ensures (c.as_slice-asked.ensures.value ∙ c.in_ok-targets.ensures.items) c.preds-2.ensures.fits c.preds-2.ensures.tree in
    (listed-bounds old c.args.to c.dyn_parts-2.result.0 c.as_slice-asked.result.now to.0 read).0

pub needed_supertraits-requires-clause-targets_are : goal.needed_supertraits-requires-clause-targets_are
needed_supertraits-requires-clause-targets_are g c =
    let old = g.M.Build.context c.args.make.now in
    let to = parts-read c.cx-2.result.now old c.args.to c.dyn_parts-2.result.0 c.dyn_parts-2.result.1 c.cx-2.ensures c.dyn_parts-2.ensures.bounds c.dyn_parts-2.ensures.region c.dyn_parts-2.ensures.region_tree in
    let read = preds_read old c.cx-4.result.now c.dyn_parts-2.result.0 c.preds-2.result.now c.as_slice-asked.result.now c.cx-4.ensures (c.as_slice-asked.ensures.value ∙ c.in_ok-targets.ensures.items) c.preds-2.ensures.fits c.preds-2.ensures.tree in
    (listed-bounds old c.args.to c.dyn_parts-2.result.0 c.as_slice-asked.result.now to.0 read).1

pub region_outlives-requires-clause-longer : goal.region_outlives-requires-clause-longer
region_outlives-requires-clause-longer g c =
    let old = g.M.Build.context c.args.make.now in
    let from = parts-read c.cx.result.now old c.args.from c.dyn_parts.result.0 c.dyn_parts.result.1 c.cx.ensures c.dyn_parts.ensures.bounds c.dyn_parts.ensures.region c.dyn_parts.ensures.region_tree in
    (region-still old (g.M.Build.context c.needed_supertraits.new.make) c.dyn_parts.result.1 c.needed_supertraits.ensures.grows from.1).0

pub region_outlives-requires-clause-shorter : goal.region_outlives-requires-clause-shorter
region_outlives-requires-clause-shorter g c =
    let old = g.M.Build.context c.args.make.now in
    let to = parts-read c.cx-2.result.now old c.args.to c.dyn_parts-2.result.0 c.dyn_parts-2.result.1 c.cx-2.ensures c.dyn_parts-2.ensures.bounds c.dyn_parts-2.ensures.region c.dyn_parts-2.ensures.region_tree in
    (region-still old (g.M.Build.context c.needed_supertraits.new.make) c.dyn_parts-2.result.1 c.needed_supertraits.ensures.grows to.1).0

pub returns-clause-is : goal.returns-clause-is
returns-clause-is g c =
    let old = g.M.Build.context c.args.make.now in
    let mid = g.M.Build.context c.needed_supertraits.new.make in
    let new = g.M.Build.context c.region_outlives.new.make in
    let from = parts-read c.cx.result.now old c.args.from c.dyn_parts.result.0 c.dyn_parts.result.1 c.cx.ensures c.dyn_parts.ensures.bounds c.dyn_parts.ensures.region c.dyn_parts.ensures.region_tree in
    let to = parts-read c.cx-2.result.now old c.args.to c.dyn_parts-2.result.0 c.dyn_parts-2.result.1 c.cx-2.ensures c.dyn_parts-2.ensures.bounds c.dyn_parts-2.ensures.region c.dyn_parts-2.ensures.region_tree in
    let first = preds_read old c.cx-3.result.now c.dyn_parts.result.0 c.preds.result.now c.in_ok-sources.sources.items c.cx-3.ensures c.in_ok-sources.ensures.items c.preds.ensures.fits c.preds.ensures.tree in
    let second = preds_read old c.cx-4.result.now c.dyn_parts-2.result.0 c.preds-2.result.now c.in_ok-targets.targets.items c.cx-4.ensures c.in_ok-targets.ensures.items c.preds-2.ensures.fits c.preds-2.ensures.tree in
    let source = ty_tree old.trees c.args.from in
    let target = ty_tree old.trees c.args.to in
    between-is old mid new (record { sources = c.in_ok-sources.sources; supers = c.in_ok-supers.supers; targets = c.in_ok-targets.targets; outlives = c.in_ok-outlives.outlives }) source target c.needed_supertraits.ensures.grows
    c.region_outlives.ensures.grows (listed-bounds old c.args.from c.dyn_parts.result.0 c.in_ok-sources.sources.items from.0 first) (listed-bounds old c.args.to c.dyn_parts-2.result.0 c.in_ok-targets.targets.items to.0 second)
    c.in_ok-supers.ensures.serve c.in_ok-supers.ensures.sort c.in_ok-supers.ensures.may_stand c.in_ok-outlives.ensures.sort
    (lives-read old mid c.dyn_parts.result.1 c.dyn_parts-2.result.1 source target (clause_tree new.trees c.in_ok-outlives.outlives) c.needed_supertraits.ensures.grows from.1 to.1 from.2 to.2 c.in_ok-outlives.ensures.tree)

pub returns-clause-grows : goal.returns-clause-grows
returns-clause-grows g c =
    grows-trans (g.M.Build.context c.args.make.now) (g.M.Build.context c.needed_supertraits.new.make) (g.M.Build.context c.region_outlives.new.make) c.needed_supertraits.ensures.grows c.region_outlives.ensures.grows

pub returns-in_err-outlives-clause-grows : goal.returns-in_err-outlives-clause-grows
returns-in_err-outlives-clause-grows g c =
    grows-trans (g.M.Build.context c.args.make.now) (g.M.Build.context c.needed_supertraits.new.make) (g.M.Build.context c.region_outlives.new.make) c.needed_supertraits.ensures.grows c.region_outlives.ensures.grows

pub returns-in_err-sources-clause-cause : goal.returns-in_err-sources-clause-cause
returns-in_err-sources-clause-cause g c =
    let p = err_from_is_err_and c.from_residual.result c.from_residual.ensures.1 in
    rw (p.1, p.2) no_memory

pub returns-in_err-targets-clause-cause : goal.returns-in_err-targets-clause-cause
returns-in_err-targets-clause-cause g c =
    let p = err_from_is_err_and c.from_residual-in_err-targets.result c.from_residual-in_err-targets.ensures.1 in
    rw (p.1, p.2) no_memory

pub returns-in_err-outlives-clause-cause : goal.returns-in_err-outlives-clause-cause
returns-in_err-outlives-clause-cause g c =
    let p = err_from_is_err_and c.from_residual-in_err-outlives.result c.from_residual-in_err-outlives.ensures.1 in
    rw (p.1, p.2) (unmade-before c.needed_supertraits.ensures.grows c.in_err-outlives.ensures.cause)
