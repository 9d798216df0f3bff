use Rattle.std.proofs.Common.{◌≤◌, length, subst, arith}
use Rattle.ir_trees.specs.declared.decl.contents.AliasBoundKind.TheVariants as K
use Rattle.ir_trees.specs.Declarations.Context.{Context}
use Rattle.ir_trees.specs.Declarations.Declaring.{no_place}
use Rattle.ir_context.proofs.Instantiation.Declared.{bounds_owned}
use Rattle.ir_context.proofs.decl.context.Cx.bounds_of.Goals as goal

pub returns-in-SelfBounds-clause-owned : goal.returns-in-SelfBounds-clause-owned
returns-in-SelfBounds-clause-owned c =
    let short : length c.self.inside.contents.bounds.items ≤ no_place = omega arith in
    let bounds = subst (λ (v : Context). length v.contents.bounds ≤ no_place) c.self.view_is short in
    bounds_owned c.args.self.now c.recall_well_formed_table.ensures bounds c.args.alias c.requires K.SelfBounds c.self_bounds.result.now c.self_bounds.ensures.is c.self_bounds.ensures.fit

pub returns-in-NonSelfBounds-clause-owned : goal.returns-in-NonSelfBounds-clause-owned
returns-in-NonSelfBounds-clause-owned c =
    let short : length c.self.inside.contents.bounds.items ≤ no_place = omega arith in
    let bounds = subst (λ (v : Context). length v.contents.bounds ≤ no_place) c.self.view_is short in
    bounds_owned c.args.self.now c.recall_well_formed_table.ensures bounds c.args.alias c.requires K.NonSelfBounds c.non_self_bounds.result.now c.non_self_bounds.ensures.is c.non_self_bounds.ensures.fit
