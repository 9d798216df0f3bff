use Rattle.std.proofs.Common.{ap, subst}
use Rattle.ir_trees.specs.Declarations.References.{IsWellFormed}
use Rattle.candidate_assembly.specs.Laws.Given.{IsCounted}
use Rattle.candidate_rounds.specs.Evaluators.Known.{Evaluator}
use Rattle.candidate_rounds.proofs.rounds.Rounds.recall_trees_fit.Goals as goal

pub returns-clause-fit : goal.returns-clause-fit
returns-clause-fit c = subst IsWellFormed (ap (λ (e : Evaluator). e.context) c.self.view_is) c.recall_well_formed.ensures

pub returns-clause-counted : goal.returns-clause-counted
returns-clause-counted c =
    let said = c.recall_counted.ensures in
    subst IsCounted (ap (λ (e : Evaluator). e.context) c.self.view_is) (record { adts = said.adts; traits = said.traits; bounds = said.bounds })
