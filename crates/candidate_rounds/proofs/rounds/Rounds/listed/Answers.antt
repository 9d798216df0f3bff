use Rattle.candidate_rounds.proofs.Evaluators.Between.{parts}
use Rattle.candidate_rounds.specs.Evaluators.Known.{AreTypes, Each}
use Rattle.std.proofs.Common.{subst, sym}
use Rattle.candidate_rounds.proofs.rounds.Rounds.listed.Goals as goal

pub listed-requires-clause-types : goal.listed-requires-clause-types
listed-requires-clause-types c = subst (Each (AreTypes c.self.inside.cx.trees)) (sym c.as_slice.ensures.value) (parts c.self.invariant).given.types
