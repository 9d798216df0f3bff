use Rattle.std.proofs.Common.{List, refl, ◌∙◌, ap}
use Rattle.ir_trees.specs.declared.ir.kinds.Binder.{Binder}
use Rattle.ir_trees.specs.declared.ir.kinds.ExistentialPredicate.{ExistentialPredicate}
use Rattle.ir_trees.specs.Syntax.Words.{bounds_forest}
use Rattle.ir_trees.specs.Syntax.Trees.{PredicatesKind, holds, is_param}
use Rattle.ir_trees.proofs.Growth.Made.{IsPreds-grows}
use Rattle.assembly_notation.proofs.Lacking.{lacks-grows, made-lacks, region-lacks, preds-lacks, dyn-lacks}
use Rattle.ir_trees.proofs.Growth.Kept.{grows-trans}
use Rattle.assembly_notation.proofs.building.dyn_type.Goals as goal

pub ty-requires : goal.ty-requires
ty-requires g c =
    let bounds = IsPreds-grows _ _ c.in_ok-preds.preds c.static_region.ensures.kept c.in_ok-preds.ensures.sort in
    let region = c.in_ok-region.ensures.sort in
    cc

pub returns-clause-no_param : goal.returns-clause-no_param
returns-clause-no_param g c =
    let ts = (g.M.Build.context c.args.maker.now).trees in
    let preds = c.in_ok-preds.preds in
    let is = c.in_ok-preds.ensures.sort in
    made-lacks _ c.ty.result _ _ c.ty.ensures.tree
    (λ s. dyn-lacks _ preds c.in_ok-region.region
    (lacks-grows _ _ preds.0 PredicatesKind c.static_region.ensures.kept refl is (preds-lacks _ preds is (ap (holds is_param) c.in_ok-preds.ensures.tree ∙ (ap (λ (bs : List (Binder ExistentialPredicate)). holds is_param (bounds_forest ts bs)) c.as_slice.ensures.value ∙ c.requires.no_param s))))
    (region-lacks _ c.in_ok-region.region _ c.in_ok-region.ensures.tree))

pub returns-in_err-region-clause-grows : goal.returns-in_err-region-clause-grows
returns-in_err-region-clause-grows g c = grows-trans _ _ _ c.bounds.ensures.grows c.static_region.ensures.kept

pub returns-clause-grows : goal.returns-clause-grows
returns-clause-grows g c = grows-trans _ _ _ (grows-trans _ _ _ c.bounds.ensures.grows c.static_region.ensures.kept) c.ty.ensures.grows
