use Rattle.std.proofs.Common.{reverse}
use Rattle.candidate_rounds.proofs.Evaluators.Between.{parts}
use Rattle.candidate_rounds.proofs.Snapshots.Holding.{kinds-now}
use Rattle.candidate_rounds.proofs.rounds.evaluator.RoundsInferCtxtLike.shallow_resolve.Goals as goal

pub resolved_root-requires-clause-known : goal.resolved_root-requires-clause-known
resolved_root-requires-clause-known c = (parts c.self.invariant).consistent.known

pub resolved_root-requires-clause-kinds : goal.resolved_root-requires-clause-kinds
resolved_root-requires-clause-kinds c = kinds-now c.self.inside.cx.trees c.self.inside.inference (reverse c.self.inside.probes.items) (parts c.self.invariant).consistent
