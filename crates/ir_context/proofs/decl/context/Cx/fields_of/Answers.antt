use Rattle.std.proofs.Common.{◌≤◌, length, subst, arith}
use Rattle.ir_trees.specs.Declarations.Context.{Context}
use Rattle.ir_trees.specs.Declarations.Declaring.{no_place}
use Rattle.ir_trees.specs.Syntax.Words.{args_forest}
use Rattle.ir_context.proofs.Instantiation.Declared.{fields_closed}
use Rattle.ir_context.proofs.decl.context.Cx.fields_of.Goals as goal

pub returns-clause-closed : goal.returns-clause-closed
returns-clause-closed c =
    let short : length c.self.inside.contents.adts.items ≤ no_place = omega arith in
    let adts = subst (λ (v : Context). length v.contents.adts ≤ no_place) c.self.view_is short in
    fields_closed c.args.self.now c.recall_well_formed_table.ensures adts c.args.adt.0 (args_forest c.args.self.now.trees c.args.args) c.requires c.fields.result.now c.fields.ensures.is
