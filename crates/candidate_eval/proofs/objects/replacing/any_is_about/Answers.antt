use Rattle.std.proofs.Common.{sym, ◌∙◌}
use Rattle.std.specs.Prelude.{slice_index_or}
use Rattle.std.proofs.lemmas.List.{get_or_default}
use Rattle.ir_trees.specs.declared.ir.kinds.Clause.{Clause}
use Rattle.ir_context.proofs.Hierarchy.Listing.{listed_clause}
use Rattle.ir_trees.proofs.Validity.Misplacing.{any_in, any_on, any_past}
use Rattle.candidate_eval.proofs.Dynamic.Replacing.{about, any-listed}
use Rattle.candidate_eval.proofs.objects.replacing.any_is_about.Goals as goal

pub is_about-requires : goal.is_about-requires
is_about-requires c =
    let past : Clause = record { 0 = 0 } in
    let x = slice_index_or c.args.bounds.now c.loop-bound.bound-index past in
    listed_clause _ c.args.bounds.now c.loop-bound.bound-index x c.requires c.loop-bound-test.true (get_or_default c.args.bounds.now c.loop-bound.bound-index past x c.loop-bound-test.true)

pub returns-then-is_about : goal.returns-then-is_about
returns-then-is_about c =
    let past : Clause = record { 0 = 0 } in
    let x = slice_index_or c.args.bounds.now c.loop-bound.bound-index past in
    let at = get_or_default c.args.bounds.now c.loop-bound.bound-index past x c.loop-bound-test.true in
    sym (any_in (about c.args.cx.now.trees c.args.item) c.args.bounds.now c.loop-bound.bound-index x c.loop-bound-test.true at (sym c.is_about.ensures ∙ c.if-is_about.true))
    ∙ any-listed c.args.cx.now.trees c.args.item c.args.bounds.now

pub loop-bound-preserved : goal.loop-bound-preserved
loop-bound-preserved c =
    let past : Clause = record { 0 = 0 } in
    let x = slice_index_or c.args.bounds.now c.loop-bound.bound-index past in
    let at = get_or_default c.args.bounds.now c.loop-bound.bound-index past x c.loop-bound-test.true in
    any_on (about c.args.cx.now.trees c.args.item) c.args.bounds.now c.loop-bound.bound-index x c.loop-bound-test.true at (sym c.is_about.ensures ∙ c.if-is_about.false) c.loop-bound.invariant

pub returns : goal.returns
returns c =
    sym (any_past (about c.args.cx.now.trees c.args.item) c.args.bounds.now c.loop-bound.bound-index c.loop-bound-test.false c.loop-bound.invariant)
    ∙ any-listed c.args.cx.now.trees c.args.item c.args.bounds.now
