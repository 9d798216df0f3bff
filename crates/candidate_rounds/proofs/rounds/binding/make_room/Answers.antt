use Rattle.candidate_rounds.proofs.Equations.Renewing.{widen-call}
use Rattle.candidate_rounds.proofs.rounds.binding.make_room.Goals as goal

pub returns-clause-further : goal.returns-clause-further
returns-clause-further c = (widen-call c.args.cx.now.trees c.args.inference.now c.widen.new.self c.args.variable.number c.widen.result c.requires.consistent c.widen.ensures.widened c.widen.ensures.unchanged).1.0

pub returns-clause-consistent : goal.returns-clause-consistent
returns-clause-consistent c = (widen-call c.args.cx.now.trees c.args.inference.now c.widen.new.self c.args.variable.number c.widen.result c.requires.consistent c.widen.ensures.widened c.widen.ensures.unchanged).0
