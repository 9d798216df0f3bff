use Rattle.std.proofs.Common.{ℕ, sym, subst}
use Rattle.std.proofs.lemmas.List.Elements.{All-push}
use Rattle.ir_trees.specs.declared.ir.kinds.Ty.{Ty}
use Rattle.ir_trees.specs.Syntax.Words.{IsTy}
use Rattle.ir_trees.proofs.Growth.Kept.{grows-trans}
use Rattle.assembly_text.specs.Solving.{AreValues}
use Rattle.assembly_text.proofs.Values.{values-grown}
use Rattle.assembly_text.proofs.solving.values.Goals as goal
use Rattle.assembly_text.proofs.solving.values.Goals.{then-ne+in_ok-push, else-ne}

pub returns-in_err-ty-clause-grows : goal.returns-in_err-ty-clause-grows
returns-in_err-ty-clause-grows c = grows-trans _ _ _ c.loop-number.invariant.0 (grows-trans _ _ _ c.in_ok-variable.ensures.made.kept c.in_err-ty.ensures.kept.grows)

pub returns-in_err-push-clause-grows : goal.returns-in_err-push-clause-grows
returns-in_err-push-clause-grows c = grows-trans _ _ _ c.loop-number.invariant.0 (grows-trans _ _ _ c.in_ok-variable.ensures.made.kept c.in_ok-ty.ensures.kept.grows)

pub loop-number-preserved : goal.loop-number-preserved
loop-number-preserved c =
    let now = c.resolve_ty_if_possible.new.self.context in
    let x : ℕ × Ty = (c.loop-number.number, c.in_ok-ty.ty) in
    let before = c.loop-number.invariant in
    let grows = grows-trans _ _ _ c.in_ok-variable.ensures.made.kept c.in_ok-ty.ensures.kept.grows in
    let kept : AreValues now.trees c.loop-number.values.items = values-grown _ _ c.loop-number.values.items grows before.1 in
    let shown : AreValues now.trees c.if-ne.values.items = elim c.if-ne.branch [
      | then-ne+in_ok-push w ↦ subst (λ v. AreValues now.trees v.items) (sym w.values-is)
          (subst (AreValues now.trees) (sym w.in_ok-push.ensures.items) (All-push (λ (y : ℕ × Ty). IsTy now.trees y.1) c.loop-number.values.items x kept c.in_ok-ty.ensures.sort))
      | else-ne w ↦ subst (λ v. AreValues now.trees v.items) (sym w.values-is) kept
    ] in
    (grows-trans _ _ _ before.0 grows, shown)
