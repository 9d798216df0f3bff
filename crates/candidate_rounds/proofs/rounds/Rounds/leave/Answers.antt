use Rattle.candidate_rounds.proofs.Equations.Leading.{all-left, none-left, one-more-left}
use Rattle.candidate_rounds.proofs.Evaluators.Going.{goes-trans}
use Rattle.std.proofs.Common.{◌∙◌}
use Rattle.candidate_rounds.proofs.rounds.Rounds.leave.Goals as goal

pub loop-i-init : goal.loop-i-init
loop-i-init c = none-left c.args.self.now c.args.goals.now

pub loop-i-preserved : goal.loop-i-preserved
loop-i-preserved c =
    one-more-left c.args.self.now c.loop-i.self c.push_pending.new.self c.args.goals.now c.loop-i.i _ c.loop-i.invariant c.loop-i-test.true c.push_pending.ensures.goes c.push_pending.ensures.context c.in_ok-push_pending.ensures.made

pub returns-clause-made : goal.returns-clause-made
returns-clause-made c = all-left c.args.self.now c.loop-i.self c.args.goals.now c.loop-i.i c.loop-i.invariant c.loop-i-test.false

pub returns-in_err-push_pending-clause-goes : goal.returns-in_err-push_pending-clause-goes
returns-in_err-push_pending-clause-goes c = goes-trans c.args.self.now c.loop-i.self c.push_pending.new.self c.loop-i.invariant.goes c.push_pending.ensures.goes

pub returns-in_err-push_pending-clause-context : goal.returns-in_err-push_pending-clause-context
returns-in_err-push_pending-clause-context c = c.push_pending.ensures.context ∙ c.loop-i.invariant.context
