use Rattle.candidate_assembly.proofs.Calls.Causes.{so-ok}
use Rattle.candidate_rounds.specs.Evaluators.Known.{table_of}
use Rattle.candidate_rounds.specs.Table.Running.{computing}
use Rattle.candidate_rounds.proofs.Table.Running.{stays-refl}
use Rattle.candidate_rounds.proofs.Table.Settled.{may-stay}
use Rattle.candidate_rounds.proofs.rounds.Rounds.due_written_at.Goals as goal

pub returns-then-not-is_due-clause-stays : goal.returns-then-not-is_due-clause-stays
returns-then-not-is_due-clause-stays c = stays-refl c.args.self.now

pub returns-clause-written : goal.returns-clause-written
returns-clause-written c = λ e g.
    so-ok c.written_at.result (may-stay c.written_at.new.self.context.trees (computing c.args.self.now) (table_of c.args.self.now) e) (c.written_at.ensures.written e g)
