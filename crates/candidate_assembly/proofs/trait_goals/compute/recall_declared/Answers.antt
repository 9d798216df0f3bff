use Rattle.candidate_assembly.proofs.trait_goals.compute.recall_declared.Goals as goal

pub returns-clause-counted : goal.returns-clause-counted
returns-clause-counted c = let said = c.recall_counted.ensures in record { adts = said.adts; traits = said.traits; bounds = said.bounds }
