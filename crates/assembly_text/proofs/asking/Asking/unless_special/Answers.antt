use Rattle.ir_trees.proofs.Growth.Made.{IsArgs-grows}
use Rattle.assembly_text.proofs.Compared.{err-value}
use Rattle.assembly_text.proofs.asking.Asking.unless_special.Goals as goal

pub returns-in-Ok-None-clause-printable : goal.returns-in-Ok-None-clause-printable
returns-in-Ok-None-clause-printable c = IsArgs-grows _ _ c.args.instance.trait_ref.args c.special_one-asking.ensures.stays.grows c.requires.printable

pub returns-in-Err-clause-stopped : goal.returns-in-Err-clause-stopped
returns-in-Err-clause-stopped c = err-value _ c.special_one-asking.result.1 c.in-Err.stop c.in-Err.is c.special_one-asking.ensures.stopped
