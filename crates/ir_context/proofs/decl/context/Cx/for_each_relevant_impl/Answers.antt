use Rattle.std.proofs.Common.{◌≡◌, ℕ, ◌+◌, List, All, true, length, refl, sym, ◌∙◌, ap, subst}
use Rattle.std.specs.Prelude.{is_some}
use Rattle.std.specs.List.{filter}
use Rattle.ir_trees.specs.declared.decl.contents.ImplId.{ImplId}
use Rattle.ir_trees.specs.Declarations.Declaring.{impl_at}
use Rattle.ir_trees.specs.Syntax.Trees.{TypeKind}
use Rattle.ir_trees.specs.Syntax.Words.{ty_tree}
use Rattle.ir_trees.specs.Unification.ImplClasses.{sought}
use Rattle.ir_trees.specs.Unification.Impls.{is_relevant, self_type}
use Rattle.ir_trees.proofs.Syntax.Lists.{below_kind}
use Rattle.ir_context.proofs.Unification.FoundImpls.{both-counted, both-relevant, both-typed}
use Rattle.ir_context.proofs.decl.context.Cx.for_each_relevant_impl.Goals as goal

pub head-requires : goal.head-requires
head-requires c = below_kind c.args.self.now.trees c.args.self_ty.0 TypeKind refl c.requires

pub relevant_among-requires-clause-types : goal.relevant_among-requires-clause-types
relevant_among-requires-clause-types c =
    let found = ap sought (sym c.head.ensures) ∙ (sym c.sought.ensures ∙ c.in-Some.is) in
    let typed = both-typed c.args.self.now c.args.trait_id.0 (ty_tree c.args.self.now.trees c.args.self_ty) c.in-Some.class found in
    subst (λ (xs : List ImplId). All (λ i. is_some (self_type c.args.self.now.trees (impl_at c.args.self.now i)) ≡ true) xs)
    (sym (c.as_slice.ensures.value ∙ c.in_ok-listed-in-Some.ensures)) typed

pub returns-in_ok-relevant_among-in-Some-clause-list : goal.returns-in_ok-relevant_among-in-Some-clause-list
returns-in_ok-relevant_among-in-Some-clause-list c =
    let t = ty_tree c.args.self.now.trees c.args.self_ty in
    let found = ap sought (sym c.head.ensures) ∙ (sym c.sought.ensures ∙ c.in-Some.is) in
    c.in_ok-relevant_among-in-Some.ensures.list
    ∙ (ap (filter (is_relevant c.args.self.now t)) (c.as_slice.ensures.value ∙ c.in_ok-listed-in-Some.ensures) ∙ both-relevant c.args.self.now c.args.trait_id.0 t c.in-Some.class found)

pub returns-in_ok-relevant_among-in-Some-clause-counted : goal.returns-in_ok-relevant_among-in-Some-clause-counted
returns-in_ok-relevant_among-in-Some-clause-counted c =
    let t = ty_tree c.args.self.now.trees c.args.self_ty in
    let found = ap sought (sym c.head.ensures) ∙ (sym c.sought.ensures ∙ c.in-Some.is) in
    c.in_ok-relevant_among-in-Some.ensures.counted
    ∙ ap (λ (n : ℕ). c.args.count.now.tests + n) (ap length (c.as_slice.ensures.value ∙ c.in_ok-listed-in-Some.ensures) ∙ both-counted c.args.self.now c.args.trait_id.0 t c.in-Some.class found)
