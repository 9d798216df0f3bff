use Rattle.assembly_notation.proofs.Lacking.{made-lacks, pointer-lacks, slice-lacks}
use Rattle.assembly_notation.proofs.building.pointer_to.Goals as goal

pub returns-in-RawPtr-clause-no_param : goal.returns-in-RawPtr-clause-no_param
returns-in-RawPtr-clause-no_param g c =
    made-lacks _ c.ty.result _ _ c.ty.ensures.tree (λ s. pointer-lacks _ c.args.target c.in-RawPtr.mutability (c.requires.no_param s))

pub returns-in-Slice-clause-no_param : goal.returns-in-Slice-clause-no_param
returns-in-Slice-clause-no_param g c =
    made-lacks _ c.ty-in-Slice.result _ _ c.ty-in-Slice.ensures.tree (λ s. slice-lacks _ c.args.target (c.requires.no_param s))
