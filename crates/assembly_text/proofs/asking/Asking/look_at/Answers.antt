use Rattle.assembly_text.proofs.Finding.{adds-of-impl-then, stays-then}
use Rattle.assembly_text.proofs.Pairing.{aliases-on}
use Rattle.assembly_text.proofs.asking.Asking.look_at.Goals as goal

pub returns-in_err-check_header-clause-stays : goal.returns-in_err-check_header-clause-stays
returns-in_err-check_header-clause-stays c = stays-then c.args.self.now c.open_header.new.self c.check_header.new.self c.open_header.ensures.stays c.check_header.ensures.stays

pub returns-clause-stays : goal.returns-clause-stays
returns-clause-stays c = stays-then c.args.self.now c.open_header.new.self c.check_header.new.self c.open_header.ensures.stays c.check_header.ensures.stays

pub returns-clause-found : goal.returns-clause-found
returns-clause-found c =
    adds-of-impl-then c.args.of c.args.self.now c.open_header.new.self c.check_header.new.self c.open_header.ensures.stays c.open_header.ensures.answer c.in_ok-check_header.ensures.found

pub later_impls-requires-clause-aliases : goal.later_impls-requires-clause-aliases
later_impls-requires-clause-aliases c = aliases-on _ _ c.args.with_aliases.now c.open_header.ensures.stays.grows c.requires

pub returns-clause-paired : goal.returns-clause-paired
returns-clause-paired c = (c.open_header.new.self.scope.maker, c.open_header.ensures.stays.grows, c.in_ok-later.ensures)
