use Rattle.std.proofs.lemmas.Result.{IfOk-weaker}
use Rattle.overlaps.proofs.PartTraits.{asked-by-four}
use Rattle.overlaps.proofs.auto.add_asked_by_language.Goals as goal

pub returns-clause-adds : goal.returns-clause-adds
returns-clause-adds c =
    IfOk-weaker c.add_asked-4.result _ _
    (λ x h. asked-by-four c.args.cx.now c.args.of c.args.traits.now.items c.add_asked.new.traits.items c.add_asked-2.new.traits.items c.add_asked-3.new.traits.items c.add_asked-4.new.traits.items
    c.in_ok-add_asked.ensures.adds c.in_ok-add_asked-2.ensures.adds c.in_ok-add_asked-3.ensures.adds h)
    c.add_asked-4.ensures.adds
