use Rattle.std.proofs.Common.{◌≤◌, length, subst, arith}
use Rattle.ir_trees.specs.Declarations.Context.{Context}
use Rattle.ir_trees.specs.Declarations.Declaring.{no_place}
use Rattle.ir_context.proofs.Instantiation.Owned.{super_clause_fits}
use Rattle.ir_context.proofs.decl.context.Cx.recall_super_clause_fits.Goals as goal

pub returns : goal.returns
returns c =
    let short : length c.self.inside.contents.traits.items ≤ no_place = omega arith in
    let traits = subst (λ (v : Context). length v.contents.traits ≤ no_place) c.self.view_is short in
    super_clause_fits c.args.self.now c.recall_well_formed_table.ensures traits c.args.trait_ref c.requires c.args.place
