use Rattle.std.proofs.Common.{rules, ◌≡◌, subst}
use Rattle.ir_trees.specs.declared.ir.kinds.TyKind.{TyKind}
use Rattle.ir_trees.specs.declared.ir.kinds.TyKind.TheVariants as K
use Rattle.ir_trees.specs.declared.ir.kinds.ClauseKind.TheVariants as CK
use Rattle.ir_trees.specs.Declarations.Context.{world}
use Rattle.ir_trees.specs.Declarations.References.{Takes}
use Rattle.ir_trees.specs.Syntax.Words.{clause_tree, kind_tree}
use Rattle.candidate_rounds.specs.Table.Trying.{Says, projection_of}
use Rattle.candidate_rounds.proofs.Obligations.Projecting.{clause-read}
use Rattle.overlaps.proofs.Jointly.{said-as-read}
use Rattle.overlaps.proofs.together.said_of_projection.Goals as goal

pub returns-in-Projection-clause-takes : goal.returns-in-Projection-clause-takes
returns-in-Projection-clause-takes c =
    let cx = c.args.cx.now in
    let x = clause_tree cx.trees c.args.clause in
    let says : Says cx x (CK.Projection c.in-Projection.said) = subst (Says cx x) c.in-Projection.is (clause-read cx c.args.clause c.clause.result c.recall_well_formed.ensures c.clause.ensures.fits c.clause.ensures.tree) in
    let is : projection_of c.in-Projection.said ≡ K.Alias c.projection.result = search rules in
    subst (λ (k : TyKind). Takes (world cx) (kind_tree cx.trees k)) is says.takes

pub returns-in-Projection-clause-said : goal.returns-in-Projection-clause-said
returns-in-Projection-clause-said c =
    let cx = c.args.cx.now in
    let x = clause_tree cx.trees c.args.clause in
    let says : Says cx x (CK.Projection c.in-Projection.said) = subst (Says cx x) c.in-Projection.is (clause-read cx c.args.clause c.clause.result c.recall_well_formed.ensures c.clause.ensures.fits c.clause.ensures.tree) in
    let is : projection_of c.in-Projection.said ≡ K.Alias c.projection.result = search rules in
    said-as-read cx x c.in-Projection.said (K.Alias c.projection.result) is says
