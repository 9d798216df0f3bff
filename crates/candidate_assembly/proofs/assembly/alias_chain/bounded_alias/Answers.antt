use Rattle.std.proofs.Common.{◌≡◌}
use Rattle.ir_trees.specs.declared.ir.kinds.TyKind.TheVariants as K
use Rattle.ir_trees.specs.Syntax.Nodes.{kind_at}
use Rattle.ir_trees.specs.Syntax.Trees.{ArgumentsKind}
use Rattle.ir_trees.specs.Syntax.Words.{KindFits}
use Rattle.ir_context.proofs.Instantiation.Declared.{alias_fits}
use Rattle.candidate_eval.proofs.Builtins.Cells.{kind_takes}
use Rattle.candidate_assembly.proofs.Aliases.AliasChains.{has-one-of}
use Rattle.candidate_assembly.proofs.assembly.alias_chain.bounded_alias.Goals as goal

pub returns-in-Projection-clause-alias : goal.returns-in-Projection-clause-alias
returns-in-Projection-clause-alias c =
    let cx = c.args.cx.now in
    let a = c.in-Alias.alias in
    let fits : KindFits cx.trees (K.Alias a) = c.in-Alias.ensures.fits in
    let i : kind_at cx.trees a.args.0 ≡ ArgumentsKind = cc in
    record { args = i; fit = alias_fits cx a i (kind_takes cx c.args.ty (K.Alias a) c.recall_well_formed.ensures c.requires c.in-Alias.ensures.tree); has = has-one-of a.kind a.id c.in-Projection.is }
