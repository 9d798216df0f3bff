use Rattle.std.proofs.Common.{◌≤◌, length, arith}
use Rattle.ir_trees.specs.Declarations.Declaring.{no_place}
use Rattle.ir_context.proofs.Validity.ListedImpls.{definition_added, item_entered, pushed_onto}
use Rattle.ir_builder.proofs.decl.builder.DeclsBuilder.add_assoc.Goals as goal

pub invariant_of-self-2 : goal.invariant_of-self-2
invariant_of-self-2 c =
    let short : length c.self.inside.contents.traits.items ≤ no_place = omega arith in
    let kept = item_entered _ _ _ _ c.in_ok-enter_item.ensures.added in
    let added = pushed_onto _ _ _ _ c.push_reserved-2.ensures.items c.next_number.ensures.kept in
    definition_added _ _ _ _ _ _ _ short added kept c.self.invariant
