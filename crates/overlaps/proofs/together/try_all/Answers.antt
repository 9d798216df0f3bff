use Rattle.std.proofs.Common.{◌∙◌, rules, subst}
use Rattle.candidate_eval.proofs.Dynamic.Objects.{env-kept}
use Rattle.candidate_rounds.proofs.Obligations.Evaluating.{goal-kept}
use Rattle.candidate_rounds.proofs.Obligations.Gathering.{each-index}
use Rattle.overlaps.proofs.Jointly.{all-tried, none-tried, one-fails, one-tried}
use Rattle.overlaps.proofs.Staying.{known-then}
use Rattle.overlaps.proofs.Stopping.{later-known, passed-on, stop-later}
use Rattle.overlaps.specs.Stopping.{IsOverlapStop}
use Rattle.overlaps.specs.Together.{IsObligation, IsTried}
use Rattle.overlaps.proofs.together.try_all.Goals as goal

pub loop-i-init : goal.loop-i-init
loop-i-init c = none-tried c.args.rounds.now c.args.goals.now _ (search rules) c.requires.pending

pub try_goal-requires-clause-empty : goal.try_goal-requires-clause-empty
try_goal-requires-clause-empty c = (env-kept _ _ c.args.env c.loop-i.invariant.stays.grows c.requires.env).1 ∙ c.requires.empty

pub try_goal-requires-clause-fit : goal.try_goal-requires-clause-fit
try_goal-requires-clause-fit c = goal-kept _ _ _ c.loop-i.invariant.stays.grows (each-index (IsObligation c.args.rounds.now.context.trees) c.args.goals.now c.loop-i.i _ c.requires.fit c.loop-i-test.true)

pub returns-in_err-try_goal-clause-stays : goal.returns-in_err-try_goal-clause-stays
returns-in_err-try_goal-clause-stays c = known-then c.loop-i.invariant.stays c.try_goal.ensures.stays

pub returns-in_err-try_goal-clause-cause : goal.returns-in_err-try_goal-clause-cause
returns-in_err-try_goal-clause-cause c = passed-on (IsOverlapStop c.args.rounds.now c.try_goal.new.rounds) c.from_residual.result c.in_err-try_goal.field-0.0 c.from_residual.ensures.1 (stop-later (later-known c.loop-i.invariant.stays) c.in_err-try_goal.ensures.cause)

pub returns-then-branch-clause-stays : goal.returns-then-branch-clause-stays
returns-then-branch-clause-stays c = known-then c.loop-i.invariant.stays c.try_goal.ensures.stays

pub returns-then-branch-clause-cannot : goal.returns-then-branch-clause-cannot
returns-then-branch-clause-cannot c = λ _.
    one-fails c.args.rounds.now c.loop-i.rounds c.args.goals.now c.loop-i.left.items c.loop-i.i _ c.loop-i.invariant c.requires.fit c.loop-i-test.true
    (subst (IsTried c.loop-i.rounds c.try_goal.new.rounds _ c.loop-i.left.items c.try_goal.new.left.items) c.if-branch.true c.in_ok-try_goal.ensures.tried)

pub loop-i-preserved : goal.loop-i-preserved
loop-i-preserved c =
    one-tried c.args.rounds.now c.loop-i.rounds c.try_goal.new.rounds c.args.goals.now c.loop-i.left.items c.try_goal.new.left.items c.loop-i.i _ c.loop-i.invariant c.try_goal.ensures.stays c.requires.fit c.loop-i-test.true
    (subst (IsTried c.loop-i.rounds c.try_goal.new.rounds _ c.loop-i.left.items c.try_goal.new.left.items) c.if-branch.false c.in_ok-try_goal.ensures.tried)

pub returns-clause-left : goal.returns-clause-left
returns-clause-left c = all-tried c.args.rounds.now c.loop-i.rounds c.args.goals.now c.loop-i.left.items c.loop-i.invariant
