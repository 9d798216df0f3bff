use Rattle.std.proofs.Common.{◌<◌, ◌≤◌, true, false, length, arith, ap, refl, rules, sym, ◌∙◌}
use Rattle.std.specs.List.{filter}
use Rattle.std.proofs.lemmas.List.{take_all}
use Rattle.ir_context.proofs.Unification.FoundImpls.{one-tested}
use Rattle.assembly_text.specs.Paired.{is_asked_with}
use Rattle.assembly_text.proofs.checking.asked_among.Goals.{then-is_asked_with+in_ok-push, else-is_asked_with}
use Rattle.assembly_text.proofs.checking.asked_among.Goals as goal

pub loop-place-preserved : goal.loop-place-preserved
loop-place-preserved c =
    let there : c.loop-place.place < length c.args.impls.now = search rules in
    elim c.if-is_asked_with.branch [
      | then-is_asked_with+in_ok-push w ↦
          one-tested (is_asked_with c.args.cx.now c.args.of c.args.header c.args.has_alias) c.args.impls.now c.loop-place.place _ _ c.loop-place.asked.items _ true there refl (sym w.if-is_asked_with.true ∙ c.is_asked_with.ensures) c.loop-place.invariant
          (ap (λ v. v.items) w.asked-is ∙ w.in_ok-push.ensures.items)
      | else-is_asked_with w ↦
          one-tested (is_asked_with c.args.cx.now c.args.of c.args.header c.args.has_alias) c.args.impls.now c.loop-place.place _ _ c.loop-place.asked.items _ false there refl (sym w.if-is_asked_with.false ∙ c.is_asked_with.ensures) c.loop-place.invariant
          (ap (λ v. v.items) w.asked-is)
    ]

pub returns : goal.returns
returns c = search (rules, take_all)
