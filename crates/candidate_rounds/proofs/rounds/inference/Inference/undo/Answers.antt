use Rattle.std.proofs.Common.{refl, sym}
use Rattle.candidate_rounds.proofs.Snapshots.Undoing.{popped}
use Rattle.candidate_rounds.proofs.rounds.inference.Inference.undo.Goals as goal

pub returns-in-Variable : goal.returns-in-Variable
returns-in-Variable c = rw (c.in-Variable.is, sym c.self.view_is, popped c.self.inside.variables.items _ c.pop.result _ c.self.inside.variables.ok.0 c.pop.ensures.items c.pop.ensures.variant) refl

pub returns-in-Region : goal.returns-in-Region
returns-in-Region c = rw (c.in-Region.is, sym c.self-in-Region.view_is, popped c.self-in-Region.inside.regions.items _ c.pop-in-Region.result _ c.self-in-Region.inside.regions.ok.0 c.pop-in-Region.ensures.items c.pop-in-Region.ensures.variant) refl

pub returns-in-Goal : goal.returns-in-Goal
returns-in-Goal c = rw (c.in-Goal.is, sym c.self-in-Goal.view_is, popped c.self-in-Goal.inside.goals.items _ c.pop-in-Goal.result _ c.self-in-Goal.inside.goals.ok.0 c.pop-in-Goal.ensures.items c.pop-in-Goal.ensures.variant) refl
