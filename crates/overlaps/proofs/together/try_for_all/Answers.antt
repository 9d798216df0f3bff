use Rattle.candidate_eval.proofs.Interface.Accounts.{memory-somehow}
use Rattle.candidate_assembly.proofs.Calls.Causes.{so-err}
use Rattle.overlaps.proofs.Jointly.{entered-tried, kept-tried}
use Rattle.overlaps.proofs.Staying.{known-beside}
use Rattle.overlaps.proofs.Stopping.{asking-stop, later-steps, passed-on}
use Rattle.overlaps.specs.Stopping.{IsOverlapStop}
use Rattle.overlaps.proofs.together.try_for_all.Goals as goal

pub returns-in_err-is_refused_under_binder-clause-stays : goal.returns-in_err-is_refused_under_binder-clause-stays
returns-in_err-is_refused_under_binder-clause-stays c = known-beside c.is_refused_under_binder.ensures.stays

pub returns-in_err-is_refused_under_binder-clause-cause : goal.returns-in_err-is_refused_under_binder-clause-cause
returns-in_err-is_refused_under_binder-clause-cause c =
    passed-on (IsOverlapStop c.args.rounds.now c.is_refused_under_binder.new.rounds) c.from_residual.result c.in_err-is_refused_under_binder.field-0.0 c.from_residual.ensures.1
    c.in_err-is_refused_under_binder.ensures.cause

pub returns-then-branch-clause-stays : goal.returns-then-branch-clause-stays
returns-then-branch-clause-stays c = known-beside c.is_refused_under_binder.ensures.stays

pub returns-then-branch-clause-tried : goal.returns-then-branch-clause-tried
returns-then-branch-clause-tried c =
    entered-tried c.args.rounds.now c.is_refused_under_binder.new.rounds c.args.goal (later-steps c.is_refused_under_binder.ensures.stays) c.requires.empty
    (c.in_ok-is_refused_under_binder.ensures.refused c.if-branch.true)

pub returns-clause-stays : goal.returns-clause-stays
returns-clause-stays c = known-beside c.is_refused_under_binder.ensures.stays

pub returns-clause-tried : goal.returns-clause-tried
returns-clause-tried c =
    let stays = c.is_refused_under_binder.ensures.stays in
    kept-tried c.args.rounds.now c.is_refused_under_binder.new.rounds c.args.goal c.args.left.now.items c.keep.new.left.items c.keep.result (later-steps stays) stays.state_same c.requires.pending c.requires.fit
    c.requires.left c.keep.ensures.open c.keep.ensures.pushed

pub returns-clause-cause : goal.returns-clause-cause
returns-clause-cause c = so-err c.keep.result (λ s k. asking-stop (later-steps c.is_refused_under_binder.ensures.stays) (memory-somehow k)) c.keep.ensures.cause
