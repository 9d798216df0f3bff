use Rattle.std.proofs.Common.{◌≡◌, ◌<◌, ◌≤◌, List, length, get_or, inl, inr, refl, subst, sym, ◌∙◌}
use Rattle.std.specs.List.{Contains}
use Rattle.std.proofs.lemmas.List.Elements.{Contains-append_left}
use Rattle.ir_trees.specs.declared.ir.kinds.TraitId.{TraitId}
use Rattle.overlaps.specs.PartTraits.{Adds, IsNext}
use Rattle.overlaps.proofs.PartTraits.{Rests, all-lead, first-alone, got-none, got-trait, none-done, one-done, rests-not, rests-on-none, trait-at}
use Rattle.overlaps.proofs.auto.may_rest_on_part.Goals as goal
use Rattle.overlaps.proofs.auto.may_rest_on_part.Goals.{then-is_item-via-then-is_item, then-is_item-via-else-is_item+then-is_implemented_by_part}

pub loop-place-init : goal.loop-place-init
loop-place-init c =
    let cx = c.args.cx.now in
    let ys = c.add_trait.new.traits.items in
    let adds = c.in_ok-add_trait.ensures.adds in
    (first-alone cx c.args.of c.new-traits.result.items ys c.new-traits.ensures.items adds, adds.all c.args.of refl, none-done cx ys (record { 0 = 0 }))

pub loop-place-preserved : goal.loop-place-preserved
loop-place-preserved c =
    let cx = c.args.cx.now in
    let of = c.args.of in
    let d : TraitId = record { 0 = 0 } in
    let xs = c.loop-place.traits.items in
    let ys = c.add_next.new.traits.items in
    let n = c.loop-place.place in
    let next = c.in-Some.next in
    let seen = got-trait c.deref.result.now n c.get.result next d c.get.ensures.lookup.0 c.get.ensures.lookup.1 (sym c.copied.ensures ∙ c.in-Some.is) in
    let l = subst (λ (zs : List TraitId). n < length zs) c.deref.ensures.value seen.0 in
    let e = subst (λ (zs : List TraitId). get_or zs n d ≡ next) c.deref.ensures.value seen.1 in
    let adds = c.in_ok-add_next.ensures.adds in
    let leads = c.loop-place.invariant.0 next (trait-at xs n d next l e) in
    let isnt : Rests cx next → ⊥ = rests-not cx next (c.if-is_item.ensures.isnt refl) (c.if-is_implemented_by_part.ensures.never refl) in (
      all-lead cx of next xs ys c.loop-place.invariant.0 leads adds,
      subst (λ (zs : List TraitId). Contains zs of) (sym adds.begins) (Contains-append_left xs adds.more of c.loop-place.invariant.1),
      one-done cx xs ys d n c.loop-place.invariant.2 l (λ r. isnt (subst (Rests cx) e r)) (subst (λ (s : TraitId). Adds (IsNext cx s) xs ys) (sym e) adds),
    )

pub returns-then-is_item-clause-may : goal.returns-then-is_item-clause-may
returns-then-is_item-clause-may c = λ yes.
    let xs = c.loop-place.traits.items in
    let d : TraitId = record { 0 = 0 } in
    let n = c.loop-place.place in
    let next = c.in-Some.next in
    let seen = got-trait c.deref.result.now n c.get.result next d c.get.ensures.lookup.0 c.get.ensures.lookup.1 (sym c.copied.ensures ∙ c.in-Some.is) in
    let l = subst (λ (zs : List TraitId). n < length zs) c.deref.ensures.value seen.0 in
    let e = subst (λ (zs : List TraitId). get_or zs n d ≡ next) c.deref.ensures.value seen.1 in
    let leads = c.loop-place.invariant.0 next (trait-at xs n d next l e) in
    elim c.then-is_item.branch [
      | then-is_item-via-then-is_item w ↦ record { trait = next; leads = leads; rests = inl (c.is_item.ensures.is w.if-is_item.true) }
      | then-is_item-via-else-is_item+then-is_implemented_by_part w ↦
          record { trait = next; leads = leads; rests = inr (w.is_implemented_by_part.ensures.by w.if-is_implemented_by_part.true) }
    ]

pub returns-in_default-clause-may : goal.returns-in_default-clause-may
returns-in_default-clause-may c = λ e. absurd cc

pub returns-in_default-clause-never : goal.returns-in_default-clause-never
returns-in_default-clause-never c = λ no.
    let d : TraitId = record { 0 = 0 } in
    let xs = c.loop-place.traits.items in
    let n = c.loop-place.place in
    let past = got-none c.deref.result.now n c.get.result c.get.ensures.lookup.0 (sym c.copied.ensures ∙ c.in_default.is) in
    rests-on-none c.args.cx.now c.args.of xs d n c.loop-place.invariant.1 c.loop-place.invariant.2 (subst (λ (zs : List TraitId). length zs ≤ n) c.deref.ensures.value past)
