use Rattle.std.proofs.Common.{◌≡◌, ◌∙◌, Some, ap, refl, rules, sym}
use Rattle.ir_trees.specs.declared.ir.kinds.TraitRef.{TraitRef}
use Rattle.ir_trees.specs.Declarations.Context.{Context}
use Rattle.ir_trees.specs.Declarations.Declaring.{impl_at}
use Rattle.ir_trees.specs.Instantiation.Folding.{substituted}
use Rattle.ir_trees.specs.Syntax.Nodes.{rows}
use Rattle.ir_trees.specs.Syntax.Words.{IsArgs, args_forest}
use Rattle.ir_trees.proofs.Growth.Kept.{args-kept, grows-trans}
use Rattle.assembly_text.specs.Paired.{variables_for}
use Rattle.assembly_text.proofs.checking.opened_header.Goals as goal

pub has_arguments-requires-clause-of : goal.has_arguments-requires-clause-of
has_arguments-requires-clause-of c =
    let list : IsArgs c.args.cx.now.trees c.contents.inside.trait_ref.args = search rules in
    (args-kept _ _ c.contents.inside.trait_ref.args c.variables.ensures.grows list).0

pub subst-requires-clause-value : goal.subst-requires-clause-value
subst-requires-clause-value c =
    let list : IsArgs c.args.cx.now.trees c.contents.inside.trait_ref.args = search rules in
    (args-kept _ _ c.contents.inside.trait_ref.args c.variables.ensures.grows list).0

pub returns-clause-open : goal.returns-clause-open
returns-clause-open c =
    let list : IsArgs c.args.cx.now.trees c.contents.inside.trait_ref.args = search rules in
    let old = c.args.cx.now in
    let mid = c.variables.new.cx in
    let new = c.subst.new.make in
    let declared = c.contents.inside.trait_ref.args in
    let by = c.in-Some.contents.now in
    let kept = args-kept old mid declared c.variables.ensures.grows list in
    let whole = grows-trans old mid new c.variables.ensures.grows c.subst.ensures.grows in
    let still = args-kept old new declared whole list in
    let same : c.contents.inside.trait_ref ≡ by.trait_ref = search rules in
    let there : impl_at old c.args.of ≡ Some by = search rules in
    let kinds : c.in_ok-kinds.kinds.items ≡ by.parameters = search rules in
    let listed : c.as_slice.result.now ≡ by.parameters = c.as_slice.ensures.value ∙ kinds in
    record {
      by = by;
      is = ap (λ (x : Context). impl_at x c.args.of) whole.same ∙ there;
      of_trait = ap (λ (t : TraitRef). t.def_id) same;
      header =
          c.in_ok-args.ensures.list refl
          ∙ (ap (λ ts. substituted ts 0 (args_forest mid.trees declared)) (c.in_ok-locals.ensures.trees ∙ ap (λ ks. rows (variables_for 0 ks)) listed)
          ∙ (ap (substituted (rows (variables_for 0 by.parameters)) 0) (kept.1 ∙ sym still.1) ∙ ap (λ (t : TraitRef). substituted (rows (variables_for 0 by.parameters)) 0 (args_forest new.trees t.args)) same));
    }
