use Rattle.std.proofs.Common.{refl, sym, ◌∙◌}
use Rattle.std.proofs.lemmas.Result.{IfOk-weaker}
use Rattle.overlaps.proofs.PartTraits.{adds-asked}
use Rattle.overlaps.proofs.auto.add_asked.Goals as goal

pub returns-in-Some-clause-adds : goal.returns-in-Some-clause-adds
returns-in-Some-clause-adds c =
    IfOk-weaker c.add_trait.result _ _
    (λ x h. adds-asked c.args.cx.now c.args.item c.args.asked c.args.of c.in-Some.next c.args.traits.now.items c.add_trait.new.traits.items (c.if-not-is_item.ensures.is refl)
    (sym c.lang_item.ensures ∙ c.in-Some.is) h)
    c.add_trait.ensures.adds
