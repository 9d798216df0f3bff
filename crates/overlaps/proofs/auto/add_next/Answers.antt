use Rattle.std.proofs.Common.{List, subst}
use Rattle.std.proofs.lemmas.Result.{IfOk-weaker}
use Rattle.ir_trees.specs.declared.ir.kinds.Clause.{Clause}
use Rattle.overlaps.specs.PartTraits.{Adds, IsSaid}
use Rattle.overlaps.proofs.PartTraits.{next-by-five}
use Rattle.overlaps.proofs.auto.add_next.Goals as goal

pub returns-clause-adds : goal.returns-clause-adds
returns-clause-adds c =
    let cx = c.args.cx.now in
    let a = c.args.traits.now.items in
    let b = c.add_traits.new.traits.items in
    let d = c.add_traits-2.new.traits.items in
    IfOk-weaker c.add_asked_by_language.result _ _
    (λ x h. next-by-five cx c.args.of a b d c.add_traits_of_items.new.traits.items c.add_traits_of_impls.new.traits.items c.add_asked_by_language.new.traits.items
    (subst (λ (s : List Clause). Adds (IsSaid cx s) a b) c.super_clauses.ensures.is c.in_ok-add_traits.ensures.adds)
    (subst (λ (s : List Clause). Adds (IsSaid cx s) b d) c.trait_where_clauses.ensures.is c.in_ok-add_traits-2.ensures.adds)
    c.in_ok-add_traits_of_items.ensures.adds c.in_ok-add_traits_of_impls.ensures.adds h)
    c.add_asked_by_language.ensures.adds
