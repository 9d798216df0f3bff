use Rattle.std.proofs.Common.{rules, subst, sym}
use Rattle.std.proofs.lemmas.List.Elements.{All-get_or, All-push}
use Rattle.std.specs.Prelude.{All}
use Rattle.ir_trees.proofs.Growth.Kept.{grows-refl, grows-trans}
use Rattle.assembly_text.specs.Explaining.{IsAsked}
use Rattle.assembly_text.proofs.Values.{asked-grown}
use Rattle.assembly_text.proofs.openness.look_at_open.Goals as goal

pub loop-place-init : goal.loop-place-init
loop-place-init c =
    let none : All (IsAsked c.args.cx.now.trees) c.new-told.result.items = search rules in
    (grows-refl c.args.cx.now, none)

pub with_openness-requires : goal.with_openness-requires
with_openness-requires c =
    let cx = c.loop-place.cx in
    All-get_or (IsAsked cx.trees) c.args.goals.now c.loop-place.place _ c.loop-place-test.true (asked-grown c.args.cx.now cx c.args.goals.now c.loop-place.invariant.0 c.requires)

pub loop-place-preserved : goal.loop-place-preserved
loop-place-preserved c =
    let old = c.loop-place.cx in
    let new = c.with_openness.new.cx in
    let told = asked-grown old new c.loop-place.told.items c.with_openness.ensures.grows c.loop-place.invariant.1 in (
      grows-trans c.args.cx.now old new c.loop-place.invariant.0 c.with_openness.ensures.grows,
      subst (All (IsAsked new.trees)) (sym c.in_ok-push.ensures.items) (All-push (IsAsked new.trees) c.loop-place.told.items _ told c.in_ok-with_openness.ensures.sort),
    )
