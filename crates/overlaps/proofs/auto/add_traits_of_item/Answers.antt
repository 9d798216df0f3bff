use Rattle.std.proofs.Common.{List, subst}
use Rattle.std.proofs.lemmas.Result.{IfOk-weaker}
use Rattle.ir_trees.specs.declared.ir.kinds.Clause.{Clause}
use Rattle.overlaps.specs.PartTraits.{Adds, IsSaid}
use Rattle.overlaps.proofs.PartTraits.{adds-then}
use Rattle.overlaps.proofs.auto.add_traits_of_item.Goals as goal

pub returns-clause-adds : goal.returns-clause-adds
returns-clause-adds c =
    let cx = c.args.cx.now in
    let a = c.args.traits.now.items in
    let b = c.add_traits.new.traits.items in
    let d = c.add_traits-2.new.traits.items in
    IfOk-weaker c.add_traits-2.result _ _
    (λ x h. adds-then (subst (λ (s : List Clause). Adds (IsSaid cx s) a b) c.self_bounds.ensures.is c.in_ok-add_traits.ensures.adds)
    (subst (λ (s : List Clause). Adds (IsSaid cx s) b d) c.non_self_bounds.ensures.is h))
    c.add_traits-2.ensures.adds
