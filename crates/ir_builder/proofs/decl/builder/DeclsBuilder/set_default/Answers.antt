use Rattle.std.proofs.Common.{refl, ap, true}
use Rattle.ir_trees.specs.contracts.decl.contents.Impl.{the_view}
use Rattle.ir_trees.specs.Declarations.Contents.{Impl}
use Rattle.ir_context.proofs.Validity.ListedImpls.{impl_changed_otherwise, misnamed_listed}
use Rattle.ir_builder.proofs.decl.builder.DeclsBuilder.set_default.Goals as goal

pub invariant_of-self : goal.invariant_of-self
invariant_of-self c =
    let changed : Impl = record (the_view c.of.inside) { is_default = true } in
    let kept = ap (λ (i : Impl). i.trait_ref) c.of.view_is in
    impl_changed_otherwise _ _ _ _ _ _ _ changed c.in-Some.ensures.value refl kept c.self.invariant

pub invariant_of-self-in-None : goal.invariant_of-self-in-None
invariant_of-self-in-None c = misnamed_listed _ _ _ _ refl
