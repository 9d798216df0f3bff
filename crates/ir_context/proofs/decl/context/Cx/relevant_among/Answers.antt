use Rattle.std.proofs.Common.{◌<◌, true, false, length, arith, refl, rules, sym, ◌∙◌, ap}
use Rattle.std.specs.Prelude.{vec_capacity}
use Rattle.std.proofs.lemmas.List.{length-append}
use Rattle.ir_trees.specs.Syntax.Words.{ty_tree}
use Rattle.ir_trees.specs.Unification.Impls.{is_relevant}
use Rattle.ir_context.proofs.Unification.FoundImpls.{one-tested}
use Rattle.ir_context.proofs.decl.context.Cx.relevant_among.Goals.{then-is_relevant, else-is_relevant}
use Rattle.ir_context.proofs.decl.context.Cx.relevant_among.Goals as goal

pub loop-place-preserved : goal.loop-place-preserved
loop-place-preserved c =
    let before = c.loop-place.invariant in
    let there : c.loop-place.place < length c.args.impls.now = search rules in
    let counted = c.is_relevant.ensures.counted (c.requires.types c.loop-place.place _ there) in
    elim c.if-is_relevant.branch [
      | then-is_relevant w ↦
          let kept = ap (λ v. v.items) w.relevant-is ∙ w.push_reserved.ensures.items in
          let more = ap length kept ∙ length-append c.loop-place.relevant.items _ in
          let room = ap vec_capacity w.relevant-is ∙ w.push_reserved.ensures.capacity in (
            one-tested (is_relevant c.args.self.now (ty_tree c.args.self.now.trees c.args.self_ty)) c.args.impls.now c.loop-place.place _ _ c.loop-place.relevant.items _ true there refl
                (sym w.if-is_relevant.true ∙ c.is_relevant.ensures.said) before.0 kept,
            omega (arith, counted, before.1),
            omega (arith, more, before.2),
            omega (arith, room, before.3),
          )
      | else-is_relevant w ↦
          let kept = ap (λ v. v.items) w.relevant-is in
          let room = ap vec_capacity w.relevant-is in
          let same = ap length kept in (
            one-tested (is_relevant c.args.self.now (ty_tree c.args.self.now.trees c.args.self_ty)) c.args.impls.now c.loop-place.place _ _ c.loop-place.relevant.items _ false there refl
                (sym w.if-is_relevant.false ∙ c.is_relevant.ensures.said) before.0 kept,
            omega (arith, counted, before.1),
            omega (arith, same, before.2),
            omega (arith, room, before.3),
          )
    ]
