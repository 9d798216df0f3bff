use Rattle.std.proofs.Common.{◌∙◌}
use Rattle.assembly_text.proofs.Finding.{alone-again, stays-forgot, stays-then}
use Rattle.assembly_text.proofs.asking.Asking.push_pairs_of.Goals as goal

pub returns-in-Err-clause-declared : goal.returns-in-Err-clause-declared
returns-in-Err-clause-declared c = alone-again _ _ c.forget_nodes.ensures.context

pub returns-in-Err-clause-stays : goal.returns-in-Err-clause-stays
returns-in-Err-clause-stays c =
    let f = c.forget_nodes.ensures in
    stays-forgot c.args.self c.later_than-found.new.self c.forget_nodes.new.self c.requires.declared c.later_than-found.ensures.stays f.context f.names f.given

pub returns-in-Err-clause-answer : goal.returns-in-Err-clause-answer
returns-in-Err-clause-answer c = c.forget_nodes.ensures.answer ∙ c.later_than-found.ensures.answer

pub loop-place-init : goal.loop-place-init
loop-place-init c =
    let f = c.forget_nodes.ensures in (
      alone-again _ _ f.context,
      stays-forgot c.args.self c.later_than-found.new.self c.forget_nodes.new.self c.requires.declared c.later_than-found.ensures.stays f.context f.names f.given,
      f.answer ∙ c.later_than-found.ensures.answer,
    )

pub loop-place-preserved : goal.loop-place-preserved
loop-place-preserved c =
    let before = c.loop-place.invariant in
    let last = c.push_if_open-asked.result.0 in
    let asked = c.push_if_open-asked.ensures in
    (asked.declared, stays-then c.args.self c.loop-place.asking last before.1 asked.stays, asked.answer ∙ before.2)

pub returns-in_default-clause-stays : goal.returns-in_default-clause-stays
returns-in_default-clause-stays c =
    stays-then c.args.self c.loop-place.asking c.push_if_open-asked.result.0 c.loop-place.invariant.1 c.push_if_open-asked.ensures.stays
