use Rattle.std.proofs.Common.{rules}
use Rattle.assembly_text.proofs.MayBeGiven.{clauses-of-new}
use Rattle.assembly_text.proofs.explaining.look_back.Goals as goal

pub look_back_in-since-requires-clause-clauses : goal.look_back_in-since-requires-clause-clauses
look_back_in-since-requires-clause-clauses c =
    clauses-of-new c.args.cx c.args.given.now c.in-Ok.rounds c.as_slice-clauses.result.now (search rules) c.requires.given c.as_slice-clauses.ensures.value
