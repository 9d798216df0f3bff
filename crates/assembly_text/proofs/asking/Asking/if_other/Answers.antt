use Rattle.std.proofs.Common.{◌≡◌, Err, rules}
use Rattle.assembly_text.proofs.Compared.{err-value}
use Rattle.assembly_text.proofs.asking.Asking.if_other.Goals as goal

pub returns-in-Err-clause-stopped : goal.returns-in-Err-clause-stopped
returns-in-Err-clause-stopped c =
    let is : c.is_special-asking.result.1 ≡ Err c.in-Err.stop = search rules in
    err-value _ c.is_special-asking.result.1 c.in-Err.stop is c.is_special-asking.ensures.stopped
