use Rattle.assembly_notation.proofs.Lacking.{auto-lacks}
use Rattle.assembly_notation.proofs.building.auto_bound.Goals as goal

pub returns-clause-no_param : goal.returns-clause-no_param
returns-clause-no_param g c = λ s. auto-lacks _ c.in_ok-vars.vars c.args.id c.in_ok-vars.ensures.no_param
