use Rattle.std.proofs.Common.{rules}
use Rattle.candidate_rounds.specs.Evaluators.Known.{listing}
use Rattle.candidate_rounds.specs.Table.Steps.{StepsHold}
use Rattle.assembly_text.proofs.explaining.find_reasons.Goals as goal

pub returns-in-Some-clause-sorts : goal.returns-in-Some-clause-sorts
returns-in-Some-clause-sorts c =
    let new = c.derivation.new.self in
    let holds : StepsHold new.context (listing new) c.in-Some.tree.steps.items = search rules in
    holds.are
