use Rattle.std.proofs.Common.{◌∙◌, ap, rules, sym}
use Rattle.ir_trees.specs.Declarations.Contents.{TraitContents}
use Rattle.ir_trees.proofs.Unification.ImplLists.{all-listed, none-listed-yet, own-at, trait-listed}
use Rattle.ir_trees.proofs.decl.heads.listed_impls.Goals as goal

pub loop-of-init : goal.loop-of-init
loop-of-init c = none-listed-yet c.new-lists.result c.args.nodes.now c.args.contents.now.traits.items c.args.contents.now.impls.items c.new-lists.ensures.empty

pub loop-of-preserved : goal.loop-of-preserved
loop-of-preserved c =
    trait-listed c.loop-of.lists c.list_own.new.lists c.args.nodes.now c.args.contents.now.traits.items c.args.contents.now.impls.items c.as_slice-impls.result.now c.loop-of.of c.as_slice.result.now
    (c.as_slice.ensures.value ∙ (ap (λ (t : TraitContents). t.impls) c.behind-contents.view_is ∙ sym (own-at c.args.contents.now.traits.items c.loop-of.of c.index.result.now (search rules) (search rules))))
    c.as_slice-impls.ensures.value c.loop-of.invariant c.in_ok-list_own.ensures

pub returns : goal.returns
returns c = all-listed c.loop-of.lists c.args.nodes.now c.args.contents.now.traits.items c.args.contents.now.impls.items c.loop-of.of (search rules) c.loop-of.invariant
