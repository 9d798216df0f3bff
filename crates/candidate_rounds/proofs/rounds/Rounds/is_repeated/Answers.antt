use Rattle.std.proofs.Common.{refl}
use Rattle.candidate_rounds.proofs.Evaluators.Going.{goes-refl}
use Rattle.candidate_rounds.proofs.rounds.Rounds.is_repeated.Goals as goal

pub returns-clause-goes : goal.returns-clause-goes
returns-clause-goes c = c.are_one-is_one.ensures.goes

pub returns-clause-state : goal.returns-clause-state
returns-clause-state c = c.are_one-is_one.ensures.state

pub returns-then-frame-ne0-clause-goes : goal.returns-then-frame-ne0-clause-goes
returns-then-frame-ne0-clause-goes c = goes-refl c.args.self.now

pub returns-then-frame-ne0-clause-state : goal.returns-then-frame-ne0-clause-state
returns-then-frame-ne0-clause-state c = refl

pub returns-then-not-meet_again-clause-goes : goal.returns-then-not-meet_again-clause-goes
returns-then-not-meet_again-clause-goes c = goes-refl c.args.self.now

pub returns-then-not-meet_again-clause-state : goal.returns-then-not-meet_again-clause-state
returns-then-not-meet_again-clause-state c = refl
