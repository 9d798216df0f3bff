use Rattle.std.proofs.Common.{refl, ap}
use Rattle.ir_trees.specs.contracts.decl.contents.TraitContents.{the_view}
use Rattle.ir_trees.specs.Declarations.Contents.{TraitContents}
use Rattle.ir_context.proofs.Validity.ListedImpls.{misnamed_listed, trait_changed_otherwise}
use Rattle.ir_builder.proofs.decl.builder.DeclsBuilder.push_super.Goals as goal

pub invariant_of-self : goal.invariant_of-self
invariant_of-self c =
    let changed : TraitContents = record (the_view c.contents.inside) { supers = c.push.new.self.items } in
    let kept = ap (λ (t : TraitContents). t.impls) c.contents.view_is in
    trait_changed_otherwise _ _ _ _ _ _ _ changed c.in-Some.ensures.value refl kept c.self.invariant

pub invariant_of-self-in-None : goal.invariant_of-self-in-None
invariant_of-self-in-None c = misnamed_listed _ _ _ _ refl
