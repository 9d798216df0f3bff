use Rattle.std.proofs.Common.{◌∙◌, List, subst}
use Rattle.candidate_eval.proofs.Dynamic.Objects.{env-kept}
use Rattle.overlaps.proofs.Jointly.{none-passed, one-passed}
use Rattle.overlaps.proofs.Staying.{known-then}
use Rattle.overlaps.proofs.Stopping.{later-known, passed-on, stop-later}
use Rattle.overlaps.specs.Stopping.{IsOverlapStop}
use Rattle.overlaps.specs.Together.{AreLeftOfAll, Obligation}
use Rattle.overlaps.proofs.together.cannot_hold.Goals as goal

pub loop-pass-init : goal.loop-pass-init
loop-pass-init c = none-passed c.args.rounds.now c.args.goals.items c.requires.fit c.requires.pending

pub try_all-requires-clause-env : goal.try_all-requires-clause-env
try_all-requires-clause-env c = (env-kept _ _ c.args.env c.loop-pass.invariant.stays.grows c.requires.env).0

pub try_all-requires-clause-empty : goal.try_all-requires-clause-empty
try_all-requires-clause-empty c = (env-kept _ _ c.args.env c.loop-pass.invariant.stays.grows c.requires.env).1 ∙ c.requires.empty

pub returns-in_err-left-clause-stays : goal.returns-in_err-left-clause-stays
returns-in_err-left-clause-stays c = known-then c.loop-pass.invariant.stays c.try_all.ensures.stays

pub returns-in_err-left-clause-cause : goal.returns-in_err-left-clause-cause
returns-in_err-left-clause-cause c = passed-on (IsOverlapStop c.args.rounds.now c.try_all.new.rounds) c.from_residual.result c.in_err-left.field-0.0 c.from_residual.ensures.1 (stop-later (later-known c.loop-pass.invariant.stays) c.in_err-left.ensures.cause)

pub returns-then-are_same-clause-stays : goal.returns-then-are_same-clause-stays
returns-then-are_same-clause-stays c = known-then c.loop-pass.invariant.stays c.try_all.ensures.stays

pub returns-in-None-clause-stays : goal.returns-in-None-clause-stays
returns-in-None-clause-stays c = known-then c.loop-pass.invariant.stays c.try_all.ensures.stays

pub loop-pass-preserved : goal.loop-pass-preserved
loop-pass-preserved c =
    let kept : AreLeftOfAll c.loop-pass.rounds c.try_all.new.rounds c.as_slice.result.now c.in-Some.left.items = rw c.in-Some.is at c.in_ok-left.ensures.left in
    let all = subst (λ (xs : List Obligation). AreLeftOfAll c.loop-pass.rounds c.try_all.new.rounds xs c.in-Some.left.items) c.as_slice.ensures.value kept in
    one-passed c.args.rounds.now c.loop-pass.rounds c.try_all.new.rounds c.args.goals.items c.loop-pass.goals.items c.in-Some.left.items c.loop-pass.invariant c.try_all.ensures.stays all
