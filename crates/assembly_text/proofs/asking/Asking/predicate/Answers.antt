use Rattle.assembly_text.proofs.asking.Asking.predicate.Goals as goal

pub returns-clause-read : goal.returns-clause-read
returns-clause-read c = record { args = c.in_ok-trait_ref.ensures.sort; no_param = c.in_ok-trait_ref.ensures.no_param; fit = c.in_ok-trait_ref.ensures.fit }
