use Rattle.std.proofs.Common.{◌≤◌, length, subst, arith}
use Rattle.ir_trees.specs.Declarations.Context.{Context}
use Rattle.ir_trees.specs.Declarations.Declaring.{no_place}
use Rattle.ir_context.proofs.Instantiation.Declared.{wheres_owned}
use Rattle.ir_context.proofs.decl.context.Cx.trait_where_clauses_of.Goals as goal

pub returns-clause-owned : goal.returns-clause-owned
returns-clause-owned c =
    let short : length c.self.inside.contents.traits.items ≤ no_place = omega arith in
    let traits = subst (λ (v : Context). length v.contents.traits ≤ no_place) c.self.view_is short in
    wheres_owned c.args.self.now c.recall_well_formed_table.ensures traits c.args.reference c.requires c.trait_where_clauses.result.now c.trait_where_clauses.ensures.is c.trait_where_clauses.ensures.fit
