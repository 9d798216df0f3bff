use Rattle.assembly_text.proofs.Pairing.{aliases-on}
use Rattle.assembly_text.proofs.asking.Asking.later_than.Goals as goal

pub later_impls-requires-clause-aliases : goal.later_impls-requires-clause-aliases
later_impls-requires-clause-aliases c = aliases-on _ _ c.args.with_aliases.now c.open_header.ensures.stays.grows c.requires
