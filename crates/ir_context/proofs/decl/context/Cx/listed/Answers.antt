use Rattle.std.proofs.Common.{◌∙◌}
use Rattle.ir_context.proofs.Unification.KeptLists.{trait-list}
use Rattle.ir_context.proofs.decl.context.Cx.listed.Goals as goal

pub returns-in-Some : goal.returns-in-Some
returns-in-Some c =
    c.as_slice-in-Some.ensures.value
    ∙ trait-list c.self.inside.impl_lists _ _ c.args.of.0 c.trait_place-of.result c.args.class c.as_slice.result.now _ c.self.view_is c.self.invariant.0 c.self.invariant.1 c.as_slice.ensures.value
    c.trait_place-of.ensures c.in-Some.ensures.value

pub returns-in-None : goal.returns-in-None
returns-in-None c =
    trait-list c.self.inside.impl_lists _ _ c.args.of.0 c.trait_place-of.result c.args.class c.as_slice.result.now _ c.self.view_is c.self.invariant.0 c.self.invariant.1 c.as_slice.ensures.value
    c.trait_place-of.ensures c.in-None.ensures.value
