use Rattle.std.proofs.Common.{◌∙◌, sym}
use Rattle.std.specs.Prelude.{slice_index_or}
use Rattle.std.proofs.lemmas.List.{get_or_default}
use Rattle.std.proofs.lemmas.List.Elements.{All-get_or}
use Rattle.ir_trees.specs.declared.ir.kinds.Pred.{Pred}
use Rattle.ir_trees.specs.Syntax.Words.{IsPred, pred_tree}
use Rattle.ir_trees.proofs.Validity.Misplacing.{any_in, any_on, any_past}
use Rattle.candidate_assembly.specs.Calls.Upcasting.{lacks_auto, names_by}
use Rattle.candidate_assembly.proofs.trait_goals.upcasting.lacks_auto_traits.Goals as goal

pub lacks_auto_trait-requires-clause-target : goal.lacks_auto_trait-requires-clause-target
lacks_auto_trait-requires-clause-target c = All-get_or (IsPred c.args.cx.now.trees) c.args.targets.now c.loop-target.target-index (record { 0 = 0 }) c.loop-target-test.true c.requires.targets

pub returns-then-lacks_auto_trait : goal.returns-then-lacks_auto_trait
returns-then-lacks_auto_trait c =
    let ts = c.args.cx.now.trees in
    let d : Pred = record { 0 = 0 } in
    let xs = c.args.targets.now in
    let x = slice_index_or xs c.loop-target.target-index d in
    let at = get_or_default xs c.loop-target.target-index d x c.loop-target-test.true in
    sym (any_in (λ (p : Pred). lacks_auto (names_by ts c.args.sources.now) (pred_tree ts p).head) xs c.loop-target.target-index x c.loop-target-test.true at (sym c.lacks_auto_trait.ensures ∙ c.if-lacks_auto_trait.true))

pub loop-target-preserved : goal.loop-target-preserved
loop-target-preserved c =
    let ts = c.args.cx.now.trees in
    let d : Pred = record { 0 = 0 } in
    let xs = c.args.targets.now in
    let x = slice_index_or xs c.loop-target.target-index d in
    let at = get_or_default xs c.loop-target.target-index d x c.loop-target-test.true in
    any_on (λ (p : Pred). lacks_auto (names_by ts c.args.sources.now) (pred_tree ts p).head) xs c.loop-target.target-index x c.loop-target-test.true at (sym c.lacks_auto_trait.ensures ∙ c.if-lacks_auto_trait.false) c.loop-target.invariant

pub returns : goal.returns
returns c =
    let ts = c.args.cx.now.trees in
    sym (any_past (λ (p : Pred). lacks_auto (names_by ts c.args.sources.now) (pred_tree ts p).head) c.args.targets.now c.loop-target.target-index c.loop-target-test.false c.loop-target.invariant)
