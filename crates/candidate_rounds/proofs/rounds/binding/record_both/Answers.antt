use Rattle.std.proofs.Common.{◌∙◌}
use Rattle.candidate_rounds.proofs.Equations.Recording.{both-undone}
use Rattle.candidate_rounds.proofs.rounds.binding.record_both.Goals as goal

pub returns-in-Err-clause-unchanged : goal.returns-in-Err-clause-unchanged
returns-in-Err-clause-unchanged c =
    both-undone c.args.inference.now c.record_region-2.new.self c.undo_to.new.self c.changes-changes.result c.args.one c.changes-changes.ensures (c.in-Err.ensures.unchanged ∙ c.in_ok-record_region.ensures.recorded) c.undo_to.ensures
