use Rattle.std.proofs.Common.{ap, ◌∙◌}
use Rattle.candidate_eval.specs.Builtins.Tables.{last_of}
use Rattle.candidate_assembly.proofs.Unsizing.Tails.{last-at}
use Rattle.candidate_assembly.proofs.trait_goals.unsizing.last_field.Goals as goal

pub returns-in-len1-up-clause-is : goal.returns-in-len1-up-clause-is
returns-in-len1-up-clause-is c = last-at (record { 0 = 0 }) c.fields_of.result.now c.in-len1-up.len_at_least ∙ ap last_of c.fields_of.ensures.is
