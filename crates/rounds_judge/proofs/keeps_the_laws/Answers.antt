use Rattle.rounds_judge.proofs.Unifiers.Solutions.{has_solution}
use Rattle.rounds_judge.proofs.Lawfulness.TableLawful.{table_equates_errors, table_keeps_the_laws}
use Rattle.rounds_judge.proofs.Table.TableDecided.{final_decides}
use Rattle.rounds_judge.proofs.Projections.Lawful.{projections_keep_the_laws}
use Rattle.rounds_judge.proofs.keeps_the_laws.Goals as goal

pub returns-clause-solvable : goal.returns-clause-solvable
returns-clause-solvable g c = has_solution

pub returns-clause-lawful : goal.returns-clause-lawful
returns-clause-lawful g c = table_keeps_the_laws

pub returns-clause-errors : goal.returns-clause-errors
returns-clause-errors g c = table_equates_errors

pub returns-clause-decided : goal.returns-clause-decided
returns-clause-decided g c = λ table l S p h bare final. final_decides l S p table h bare final

pub returns-clause-projections : goal.returns-clause-projections
returns-clause-projections g c = projections_keep_the_laws
