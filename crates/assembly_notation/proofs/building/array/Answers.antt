use Rattle.std.proofs.Common.{refl}
use Rattle.ir_trees.specs.Syntax.Trees.{TypeKind}
use Rattle.ir_trees.proofs.Growth.Made.{IsTy-grows}
use Rattle.assembly_notation.proofs.Lacking.{lacks-grows, made-lacks, array-lacks}
use Rattle.ir_trees.proofs.Growth.Kept.{grows-trans}
use Rattle.assembly_notation.proofs.building.array.Goals as goal

pub ty-requires : goal.ty-requires
ty-requires g c =
    let target = IsTy-grows _ _ c.args.target c.make_constant.ensures.grows c.requires.target in
    let constant = c.in_ok-constant.ensures.sort in
    cc

pub returns-clause-no_param : goal.returns-clause-no_param
returns-clause-no_param g c =
    made-lacks _ c.ty.result _ _ c.ty.ensures.tree
    (λ s. array-lacks _ c.args.target c.in_ok-constant.constant
    (lacks-grows _ _ c.args.target.0 TypeKind c.make_constant.ensures.grows refl c.requires.target (c.requires.no_param s))
    (c.in_ok-constant.ensures.no_param s))

pub returns-clause-grows : goal.returns-clause-grows
returns-clause-grows g c = grows-trans _ _ _ c.make_constant.ensures.grows c.ty.ensures.grows
