use Rattle.candidate_eval.proofs.Outcomes.Pairs.{clause_there}
use Rattle.assembly_text.proofs.refusals.say_of_projection.Goals as goal

pub clause-requires : goal.clause-requires
clause-requires c = clause_there _ c.args.clauses.now (record { 0 = 0 }) c.loop-number.number c.requires c.loop-number-test.true
