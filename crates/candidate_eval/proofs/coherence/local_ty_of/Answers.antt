use Rattle.std.proofs.Common.{rules}
use Rattle.candidate_eval.proofs.coherence.local_ty_of.Goals as goal

pub returns-in-Err-Broken-Stop : goal.returns-in-Err-Broken-Stop
returns-in-Err-Broken-Stop g c = search rules
