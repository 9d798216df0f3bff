use Rattle.std.proofs.Common.{ap, sym}
use Rattle.candidate_assembly.specs.Answers.MergedKinds.{response_in}
use Rattle.candidate_assembly.proofs.assembly.merging.respond_unproved.Goals as goal

pub returns-in-Ok : goal.returns-in-Ok
returns-in-Ok g c = record { answer = c.forced_ambiguity.result; considers = c.forced_ambiguity.ensures; response = sym (ap response_in c.in-Ok.is) }

pub returns-in-Err : goal.returns-in-Err
returns-in-Err g c = record { answer = c.forced_ambiguity.result; considers = c.forced_ambiguity.ensures; response = sym (ap response_in c.in-Err.is) }
