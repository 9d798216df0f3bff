use Rattle.assembly_notation.proofs.Lacking.{vars-lack}
use Rattle.assembly_notation.proofs.building.binder.Goals as goal

pub returns-clause-no_param : goal.returns-clause-no_param
returns-clause-no_param g c = vars-lack _ _ c.mk_vars.result c.mk_vars.ensures.made.tree
