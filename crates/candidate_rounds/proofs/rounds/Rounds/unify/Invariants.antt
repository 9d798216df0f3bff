use Rattle.std.proofs.Common.{◌≡◌}
use Rattle.rounds_judge.specs.Equations.Equating.{looks, unified}
use Rattle.candidate_rounds.specs.Calls.Frames.{AreFrames, pairs_of}
use Rattle.candidate_rounds.specs.Evaluators.Known.{GoesOn, listing, state}
use Rattle.candidate_rounds.specs.Evaluators.Stopping.{StopsAsBefore}
use Rattle.candidate_rounds.proofs.rounds.Rounds.unify.Given as goal

abbrev pub decreases-loop-frame : goal.decreases-loop-frame
decreases-loop-frame l = looks (listing l.self) (state l.self) (pairs_of l.self.context.trees l.rest.universes.items l.rest.frames.items)

abbrev pub invariant-loop-frame : goal.invariant-loop-frame
invariant-loop-frame l =
    GoesOn l.initial.self l.self
    × AreFrames l.self.context.trees l.rest.universes.items l.rest.frames.items
    × (unified (listing l.initial.self) (state l.initial.self) (pairs_of l.initial.self.context.trees l.initial.rest.universes.items l.initial.rest.frames.items)
    ≡ unified (listing l.self) (state l.self) (pairs_of l.self.context.trees l.rest.universes.items l.rest.frames.items))
    × StopsAsBefore (listing l.initial.self) (state l.initial.self) (pairs_of l.initial.self.context.trees l.initial.rest.universes.items l.initial.rest.frames.items)
    (listing l.self) (state l.self) (pairs_of l.self.context.trees l.rest.universes.items l.rest.frames.items)
