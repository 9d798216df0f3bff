use Rattle.std.specs.Prelude.{slice_get}
use Rattle.std.proofs.Common.{sym}
use Rattle.ir_trees.specs.Declarations.Context.{world}
use Rattle.candidate_eval.proofs.Frontier.Carry.{none_passes}
use Rattle.candidate_eval.proofs.coherence.table.passes.Goals as goal

pub returns-in-Remote : goal.returns-in-Remote
returns-in-Remote c = rw c.in-Remote.is (sym (none_passes (slice_get (world c.args.cx.now) c.args.definition)))
