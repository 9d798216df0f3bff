use Rattle.std.proofs.Common.{◌∙◌, ap}
use Rattle.ir_trees.specs.declared.ir.kinds.AliasTy.{AliasTy}
use Rattle.ir_trees.specs.declared.ir.kinds.AliasKind.TheVariants as AliasKind
use Rattle.ir_trees.specs.Syntax.Trees.{holds, tree_holds, is_param}
use Rattle.ir_trees.specs.Syntax.Nodes.{tree_at}
use Rattle.assembly_notation.specs.Params.{LacksParam}
use Rattle.assembly_notation.proofs.Lacking.{made-lacks, same-lacks, args-lacks, tuple-lacks, adt-lacks, alias-lacks}
use Rattle.ir_trees.proofs.Growth.Kept.{grows-trans}
use Rattle.assembly_notation.proofs.building.construct.Goals as goal
use Rattle.assembly_notation.proofs.building.construct.Goals.{in-Tuple, in-Adt, in-Projection, in-Opaque}

pub returns-clause-no_param : goal.returns-clause-no_param
returns-clause-no_param g c =
    let ts = (g.M.Build.context c.args-2.new.self).trees in
    let args = c.in_ok-args.args in
    made-lacks _ c.ty.result _ _ c.ty.ensures.tree
    (λ s.
    let below : LacksParam ts args.0 = args-lacks ts args c.in_ok-args.ensures.sort (ap (holds is_param) c.in_ok-args.ensures.tree ∙ c.requires.no_param s) in
    elim c.match-constructor.branch [
      | in-Tuple w ↦ same-lacks ts _ _ w.kind-is (tuple-lacks ts args below)
      | in-Adt w ↦ same-lacks ts _ _ w.kind-is (adt-lacks ts w.in-Adt.id args below)
      | in-Projection w ↦ same-lacks ts _ _ w.kind-is (alias-lacks ts w.projection.result (ap (λ (x : AliasTy). tree_holds is_param (tree_at ts x.args.0)) w.projection.ensures ∙ below))
      | in-Opaque w ↦ same-lacks ts _ _ w.kind-is (alias-lacks ts (record { kind = AliasKind.Opaque; id = w.in-Opaque.id; args = args }) below)
    ])

pub returns-clause-grows : goal.returns-clause-grows
returns-clause-grows g c = grows-trans _ _ _ c.args-2.ensures.kept c.ty.ensures.grows
