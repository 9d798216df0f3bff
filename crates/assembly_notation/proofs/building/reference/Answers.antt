use Rattle.assembly_notation.proofs.Lacking.{made-lacks, ref-lacks}
use Rattle.assembly_notation.proofs.building.reference.Goals as goal

pub returns-clause-no_param : goal.returns-clause-no_param
returns-clause-no_param g c =
    made-lacks _ c.ty.result _ _ c.ty.ensures.tree (λ s. ref-lacks _ c.args.region c.args.target c.args.mutability c.requires.region_no_param (c.requires.no_param s))
