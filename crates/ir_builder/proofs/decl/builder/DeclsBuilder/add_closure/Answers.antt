use Rattle.std.proofs.Common.{◌≤◌, length, arith}
use Rattle.ir_trees.specs.Declarations.Declaring.{no_place}
use Rattle.ir_context.proofs.Validity.ListedImpls.{definition_added}
use Rattle.ir_builder.proofs.decl.builder.DeclsBuilder.add_closure.Goals as goal

pub invariant_of-self-2 : goal.invariant_of-self-2
invariant_of-self-2 c =
    let short : length c.self.inside.contents.traits.items ≤ no_place = omega arith in
    definition_added _ _ _ _ _ _ _ short c.in_ok-add.ensures.added (λ p n h. h) c.self.invariant
