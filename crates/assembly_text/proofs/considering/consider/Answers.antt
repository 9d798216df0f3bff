use Rattle.ir_trees.proofs.Growth.Kept.{grows-trans}
use Rattle.assembly_text.proofs.Giving.{given_grows}
use Rattle.assembly_text.proofs.MayBeGiven.{read-kept}
use Rattle.assembly_text.proofs.considering.consider.Goals as goal

pub list-cx-requires-clause-given : goal.list-cx-requires-clause-given
list-cx-requires-clause-given c = given_grows c.args.cx c.solve-cx.result.0 c.args.given.now c.solve-cx.ensures.grows c.requires.given

pub list-cx-requires-clause-read : goal.list-cx-requires-clause-read
list-cx-requires-clause-read c = read-kept c.args.cx c.solve-cx.result.0 c.args.predicate c.solve-cx.ensures.grows c.requires.read

pub returns-in-Ok-list-clause-grows : goal.returns-in-Ok-list-clause-grows
returns-in-Ok-list-clause-grows c = grows-trans _ _ _ c.solve-cx.ensures.grows c.list-cx.ensures

pub returns-in-Err-list-clause-grows : goal.returns-in-Err-list-clause-grows
returns-in-Err-list-clause-grows c = grows-trans _ _ _ c.solve-cx.ensures.grows c.list-cx.ensures
