use Rattle.std.proofs.Common.{◌≡◌, None, Some, sym, ◌∙◌}
use Rattle.overlaps.proofs.Staying.{stays-refl}
use Rattle.overlaps.proofs.overlap.overlap_of_ordered.Goals as goal

pub returns-in-Some-clause-stays : goal.returns-in-Some-clause-stays
returns-in-Some-clause-stays c = stays-refl c.args.rounds.now
