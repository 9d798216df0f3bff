use Rattle.candidate_rounds.proofs.Evaluators.Between.{parts}
use Rattle.candidate_rounds.proofs.Evaluators.Interface.{fixed-kept}
use Rattle.candidate_rounds.proofs.rounds.Rounds.new_root_var.Goals as goal

pub returns-clause-fixed : goal.returns-clause-fixed
returns-clause-fixed c =
    let made = c.new_variable.ensures in
    fixed-kept c.args.self.now c.new_variable.new.self made.grows made.given (parts c.recall_well_kept.ensures).given (parts c.recall_well_kept.ensures).tabled
