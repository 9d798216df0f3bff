use Rattle.std.proofs.Common.{◌∙◌, refl}
use Rattle.assembly_text.proofs.Finding.{stays-refl, stays-then}
use Rattle.assembly_text.proofs.Pairing.{aliases-on}
use Rattle.assembly_text.proofs.asking.Asking.push_open_pairs.Goals as goal

pub loop-number-init : goal.loop-number-init
loop-number-init c = (c.requires.declared, stays-refl c.args.self, refl)

pub loop-number-preserved : goal.loop-number-preserved
loop-number-preserved c =
    let before = c.loop-number.invariant in
    let last = c.push_pairs_of-asked.result.0 in
    let asked = c.push_pairs_of-asked.ensures in
    (asked.declared, stays-then c.args.self c.loop-number.asking last before.1 asked.stays, asked.answer ∙ before.2)

pub push_pairs_of-asked-requires-clause-aliases : goal.push_pairs_of-asked-requires-clause-aliases
push_pairs_of-asked-requires-clause-aliases c = aliases-on _ _ c.in-Ok.with_aliases c.loop-number.invariant.1.grows c.in-Ok.ensures.has
