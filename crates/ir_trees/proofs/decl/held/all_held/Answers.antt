use Rattle.std.proofs.Common.{rules, ◌++◌, ◌∙◌, ap}
use Rattle.ir_trees.specs.Declarations.Declaration.{Declaration}
use Rattle.ir_trees.specs.Declarations.Declaring.{contents_of}
use Rattle.ir_trees.specs.Validity.Held.{definition_held, definitions_held}
use Rattle.ir_trees.proofs.Validity.Holding.{one_more_definition, one_more_impl}
use Rattle.ir_trees.proofs.decl.held.all_held.Goals as goal

pub loop-number-preserved : goal.loop-number-preserved
loop-number-preserved c =
    let contents = contents_of c.args.contents.now in
    one_more_definition contents c.args.definitions.now c.loop-number.number c.index-definitions-number.result c.loop-number.held.items c.add_definition.new.held.items (search rules) (search rules) c.loop-number.invariant
    ((search rules) ∙ ap (λ (d : Declaration). c.loop-number.held.items ++ definition_held contents c.loop-number.number d.kind) c.definition.view_is)

pub loop-number-2-preserved : goal.loop-number-2-preserved
loop-number-2-preserved c =
    one_more_impl (definitions_held (contents_of c.args.contents.now) 0 c.args.definitions.now) c.args.contents.now.impls.items c.loop-number-2.number c.index.result.now c.loop-number-2.held.items c.add_impl.new.held.items (search rules) (search rules) c.loop-number-2.invariant (search rules)
