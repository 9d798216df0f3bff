use Rattle.std.proofs.Common.{Vec, Global, ◌∙◌, ap, rules}
use Rattle.ir_trees.specs.Declarations.Contents.{Impl}
use Rattle.ir_trees.specs.Declarations.Declaring.{contents_of}
use Rattle.ir_context.proofs.Validity.ListedImpls.{impl_entered, pushed_onto}
use Rattle.ir_builder.proofs.decl.builder.DeclsBuilder.add_impl.Goals as goal

pub invariant_of-self-2 : goal.invariant_of-self-2
invariant_of-self-2 c =
    let same = ap (λ (v : Vec Impl Global). v.items) c.enter_impl.ensures.kept ∙ c.next_number.ensures.kept in
    let added = pushed_onto _ _ _ _ c.push_reserved.ensures.items same in
    impl_entered c.self.inside.definitions.items _ (contents_of c.enter_impl.new.contents) _ _ _ _ _ c.in_ok-number.ensures.is
    c.in_ok-enter_impl.ensures.added added (search rules) c.self.invariant
