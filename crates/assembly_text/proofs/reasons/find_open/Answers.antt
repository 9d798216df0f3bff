use Rattle.assembly_text.proofs.reasons.find_open.Goals as goal

pub returns-clause-sorts : goal.returns-clause-sorts
returns-clause-sorts c = record { clauses = c.in_ok-clauses.ensures.sorts; goals = c.in_ok-goals.ensures }
