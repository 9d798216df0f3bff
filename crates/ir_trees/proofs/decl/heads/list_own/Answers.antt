use Rattle.std.proofs.Common.{false, refl, rules, sym, ◌∙◌, ap}
use Rattle.std.specs.Prelude.{◌==◌}
use Rattle.ir_trees.specs.Syntax.Trees.{TypeKind}
use Rattle.ir_trees.specs.Unification.ImplClasses.{is_in, is_listed}
use Rattle.ir_trees.specs.Unification.ImplLists.{impl_is_in, listed_at}
use Rattle.ir_trees.proofs.Syntax.Lists.{below_kind}
use Rattle.ir_trees.proofs.Unification.ImplLists.{none-listed, one-listed, unmarked}
use Rattle.ir_trees.proofs.decl.heads.list_own.Goals.{in-Some+in_ok-list_impl, in_default}
use Rattle.ir_trees.proofs.decl.heads.list_own.Goals as goal

pub loop-place-init : goal.loop-place-init
loop-place-init c = λ k. none-listed (c.args.of == k.of) (listed_at c.args.lists.now k) (impl_is_in c.args.nodes.now c.args.impls.now k.class)

pub head-requires : goal.head-requires
head-requires c = below_kind c.args.nodes.now c.in-Some.ty.0 TypeKind refl c.in-Some.ensures.0

pub loop-place-preserved : goal.loop-place-preserved
loop-place-preserved c = λ k. elim c.match-impl_self_ty.branch [
  | in-Some+in_ok-list_impl w ↦
      one-listed (c.args.of == k.of) (listed_at c.args.lists.now k) (listed_at c.loop-place.lists k) (listed_at c.match-impl_self_ty.lists k)
      (impl_is_in c.args.nodes.now c.args.impls.now k.class) c.args.own.now c.loop-place.place _ _ (is_in k.class w.head.result) (search rules) refl (c.loop-place.invariant k)
      (ap (is_listed k.class) w.in-Some.ensures.1 ∙ ap (is_in k.class) (sym w.head.ensures)) (ap (λ m. listed_at m k) w.lists-is ∙ w.in_ok-list_impl.ensures k)
  | in_default w ↦
      one-listed (c.args.of == k.of) (listed_at c.args.lists.now k) (listed_at c.loop-place.lists k) (listed_at c.match-impl_self_ty.lists k)
      (impl_is_in c.args.nodes.now c.args.impls.now k.class) c.args.own.now c.loop-place.place _ _ false (search rules) refl (c.loop-place.invariant k)
      (ap (is_listed k.class) w.in_default.ensures) (ap (λ m. listed_at m k) w.lists-is ∙ unmarked (c.args.of == k.of) (listed_at c.loop-place.lists k) _)
]
