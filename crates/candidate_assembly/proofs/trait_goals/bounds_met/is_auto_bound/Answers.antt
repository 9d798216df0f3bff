use Rattle.std.proofs.Common.{◌∙◌, sym}
use Rattle.std.specs.Prelude.{slice_index_or}
use Rattle.std.proofs.lemmas.List.{get_or_default}
use Rattle.std.proofs.lemmas.List.Elements.{All-get_or}
use Rattle.ir_trees.specs.declared.ir.kinds.Pred.{Pred}
use Rattle.ir_trees.specs.Syntax.Words.{IsPred, pred_tree}
use Rattle.ir_trees.proofs.Validity.Misplacing.{any_in, any_on, any_past}
use Rattle.candidate_assembly.specs.Calls.Upcasting.{names_auto}
use Rattle.candidate_assembly.proofs.trait_goals.bounds_met.is_auto_bound.Goals as goal

pub names_auto_trait-requires : goal.names_auto_trait-requires
names_auto_trait-requires c = All-get_or (IsPred c.args.cx.now.trees) c.args.bounds.now c.loop-bound.bound-index (record { 0 = 0 }) c.loop-bound-test.true c.requires

pub returns-then-names_auto_trait : goal.returns-then-names_auto_trait
returns-then-names_auto_trait c =
    let d : Pred = record { 0 = 0 } in
    let xs = c.args.bounds.now in
    let x = slice_index_or xs c.loop-bound.bound-index d in
    let at = get_or_default xs c.loop-bound.bound-index d x c.loop-bound-test.true in
    sym (any_in (λ (p : Pred). names_auto c.args.of.0 (pred_tree c.args.cx.now.trees p)) xs c.loop-bound.bound-index x c.loop-bound-test.true at (sym c.names_auto_trait.ensures ∙ c.if-names_auto_trait.true))

pub loop-bound-preserved : goal.loop-bound-preserved
loop-bound-preserved c =
    let d : Pred = record { 0 = 0 } in
    let xs = c.args.bounds.now in
    let x = slice_index_or xs c.loop-bound.bound-index d in
    let at = get_or_default xs c.loop-bound.bound-index d x c.loop-bound-test.true in
    any_on (λ (p : Pred). names_auto c.args.of.0 (pred_tree c.args.cx.now.trees p)) xs c.loop-bound.bound-index x c.loop-bound-test.true at (sym c.names_auto_trait.ensures ∙ c.if-names_auto_trait.false) c.loop-bound.invariant

pub returns : goal.returns
returns c = sym (any_past (λ (p : Pred). names_auto c.args.of.0 (pred_tree c.args.cx.now.trees p)) c.args.bounds.now c.loop-bound.bound-index c.loop-bound-test.false c.loop-bound.invariant)
