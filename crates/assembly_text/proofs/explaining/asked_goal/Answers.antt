use Rattle.assembly_text.proofs.explaining.asked_goal.Goals as goal

pub returns : goal.returns
returns c = λ ts key verdict. record { clause = key.goal.1; values = c.values_of.ensures ts verdict }
