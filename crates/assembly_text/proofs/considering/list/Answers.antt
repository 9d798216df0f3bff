use Rattle.std.proofs.Common.{rules}
use Rattle.assembly_text.proofs.MayBeGiven.{clauses-of-new}
use Rattle.assembly_text.proofs.considering.list.Goals as goal

pub list_in-list-requires-clause-clauses : goal.list_in-list-requires-clause-clauses
list_in-list-requires-clause-clauses c =
    clauses-of-new c.args.cx c.args.given.now c.in-Ok.rounds c.as_slice-clauses.result.now (search rules) c.requires.given c.as_slice-clauses.ensures.value
