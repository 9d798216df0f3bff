use Rattle.std.proofs.Common.{◌≡◌, List, Option, Some, subst, ap, ◌∙◌}
use Rattle.std.proofs.lemmas.Result.{IfOk-weaker}
use Rattle.ir_trees.specs.declared.ir.kinds.Clause.{Clause}
use Rattle.ir_trees.specs.declared.ir.kinds.TraitId.{TraitId}
use Rattle.ir_trees.specs.Declarations.Contents.{Impl}
use Rattle.ir_trees.specs.Declarations.Lookups.{maybe}
use Rattle.ir_trees.specs.Syntax.Words.{clause_tree}
use Rattle.std.proofs.Common.{[]}
use Rattle.overlaps.specs.PartTraits.{Adds, IsSaid, trait_spoken_of}
use Rattle.overlaps.proofs.PartTraits.{one-of-none}
use Rattle.overlaps.proofs.auto.add_traits_of_impl.Goals as goal

pub returns-in-Some-clause-adds : goal.returns-in-Some-clause-adds
returns-in-Some-clause-adds c =
    let cx = c.args.cx.now in
    let now = c.args.traits.now.items in
    let next = c.add_traits.new.traits.items in
    let same = c.as_slice.ensures.value ∙ (ap (λ (y : Impl). y.wheres) c.contents.view_is ∙ ap (λ (o : Option Impl). maybe [] (λ (y : Impl). y.wheres) o) c.in-Some.ensures.is) in
    IfOk-weaker c.add_traits.result _ _ (λ x h. subst (λ (s : List Clause). Adds (IsSaid cx s) now next) same h) c.add_traits.ensures.adds

pub returns-in-None-clause-adds : goal.returns-in-None-clause-adds
returns-in-None-clause-adds c =
    let cx = c.args.cx.now in
    let now = c.args.traits.now.items in
    subst (λ (s : List Clause). Adds (IsSaid cx s) now now) (ap (λ (o : Option Impl). maybe [] (λ (y : Impl). y.wheres) o) c.in-None.ensures.is)
    (one-of-none (λ (t : TraitId) (x : Clause). trait_spoken_of cx (clause_tree cx.trees x).head ≡ Some t) now)
