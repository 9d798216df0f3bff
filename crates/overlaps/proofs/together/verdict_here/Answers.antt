use Rattle.candidate_assembly.specs.Goals.TraitGoals.{trait_goal}
use Rattle.candidate_assembly.proofs.Calls.Causes.{so-err}
use Rattle.overlaps.proofs.Stopping.{later-refl, step-stop, there}
use Rattle.overlaps.specs.Stopping.{step_key}
use Rattle.overlaps.proofs.Staying.{stays-refl, stays-same}
use Rattle.overlaps.proofs.together.verdict_here.Goals as goal

pub returns-then-not-stands_here-clause-stays : goal.returns-then-not-stands_here-clause-stays
returns-then-not-stands_here-clause-stays c = stays-refl c.args.rounds.now

pub returns-clause-cause : goal.returns-clause-cause
returns-clause-cause c =
    let r = c.args.rounds.now in
    so-err c.entry.result (λ s k. step-stop (later-refl r) (step_key c.args.env c.args.predicate (there c.args.env c.args.predicate (later-refl r) c.requires.env c.requires.args c.entry.ensures.stays.grows.kept) k)) c.entry.ensures.cause

pub returns-clause-stays : goal.returns-clause-stays
returns-clause-stays c = stays-same c.entry.ensures.stays c.entry.ensures.table
