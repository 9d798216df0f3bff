use Rattle.std.proofs.Common.{sym, ◌∙◌}
use Rattle.std.specs.Prelude.{slice_index_or}
use Rattle.std.proofs.lemmas.List.{get_or_default}
use Rattle.ir_trees.specs.declared.ir.kinds.Clause.{Clause}
use Rattle.ir_context.proofs.Hierarchy.Listing.{listed_clause}
use Rattle.ir_trees.proofs.Validity.Misplacing.{any_in, any_on, any_past}
use Rattle.candidate_assembly.proofs.Rules.AutoTraits.{bounds-speak, speaks}
use Rattle.candidate_assembly.proofs.trait_goals.auto_traits.bounds_name.Goals as goal

pub is_of_trait-requires : goal.is_of_trait-requires
is_of_trait-requires c =
    let past : Clause = record { 0 = 0 } in
    let xs = c.self_bounds-bound-items.result.now in
    let x = slice_index_or xs c.loop-bound.bound-index past in
    listed_clause _ xs c.loop-bound.bound-index x c.self_bounds-bound-items.ensures.fit c.loop-bound-test.true (get_or_default xs c.loop-bound.bound-index past x c.loop-bound-test.true)

pub returns-then-is_of_trait : goal.returns-then-is_of_trait
returns-then-is_of_trait c =
    let past : Clause = record { 0 = 0 } in
    let xs = c.self_bounds-bound-items.result.now in
    let x = slice_index_or xs c.loop-bound.bound-index past in
    let at = get_or_default xs c.loop-bound.bound-index past x c.loop-bound-test.true in
    sym (any_in (speaks c.args.cx.now.trees c.args.of) xs c.loop-bound.bound-index x c.loop-bound-test.true at (sym c.is_of_trait.ensures ∙ c.if-is_of_trait.true))
    ∙ bounds-speak c.args.cx.now c.args.opaque c.args.of xs c.self_bounds-bound-items.ensures.is

pub loop-bound-preserved : goal.loop-bound-preserved
loop-bound-preserved c =
    let past : Clause = record { 0 = 0 } in
    let xs = c.self_bounds-bound-items.result.now in
    let x = slice_index_or xs c.loop-bound.bound-index past in
    let at = get_or_default xs c.loop-bound.bound-index past x c.loop-bound-test.true in
    any_on (speaks c.args.cx.now.trees c.args.of) xs c.loop-bound.bound-index x c.loop-bound-test.true at (sym c.is_of_trait.ensures ∙ c.if-is_of_trait.false) c.loop-bound.invariant

pub returns : goal.returns
returns c =
    let xs = c.self_bounds-bound-items.result.now in
    sym (any_past (speaks c.args.cx.now.trees c.args.of) xs c.loop-bound.bound-index c.loop-bound-test.false c.loop-bound.invariant)
    ∙ bounds-speak c.args.cx.now c.args.opaque c.args.of xs c.self_bounds-bound-items.ensures.is
