use Rattle.assembly_text.specs.Explaining.{IsAsked}
use Rattle.assembly_text.proofs.Values.{asked-on}
use Rattle.assembly_text.proofs.openness.with_openness.Goals as goal

pub returns-clause-sort : goal.returns-clause-sort
returns-clause-sort c =
    let cx = c.openness_of_clause.new.cx in
    let grown : IsAsked cx.trees c.args.goal = asked-on c.args.cx.now cx c.args.goal c.openness_of_clause.ensures c.requires in
    record { clause = grown.clause; values = grown.values }
