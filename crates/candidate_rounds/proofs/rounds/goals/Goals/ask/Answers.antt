use Rattle.std.proofs.Common.{Bool, true, false, ◌≡◌, inr, sym, ap, subst, ◌∙◌, refl, arith}
use Rattle.indexmap.specs.IndexMap.{insert_entry}
use Rattle.candidate_rounds.specs.Table.Entries.{AreAsked, new_slot}
use Rattle.candidate_rounds.specs.Table.Goals.{Goals, HasRoomFor, IsFullFor, noting}
use Rattle.candidate_rounds.specs.Table.KeyNumbers.{same_numbers}
use Rattle.candidate_rounds.proofs.Table.Entries.{as-many, asked-stay, noted-already, noted-is, noted-last, put-last, seen_of}
use Rattle.candidate_rounds.proofs.rounds.goals.Goals.ask.Goals as goal

pub returns-then-contains_key-clause-asked : goal.returns-then-contains_key-clause-asked
returns-then-contains_key-clause-asked c =
    let i = c.self.inside in
    subst (λ (g : Goals). seen_of i.count i.entries.entries i.asks ≡ noting g c.args.key) c.self.view_is (noted-already i.count i.entries.entries i.asks c.args.key (sym c.contains_key.ensures ∙ c.if-contains_key.true))

pub returns-then-place-ge-MAX_GOALS-clause-cause : goal.returns-then-place-ge-MAX_GOALS-clause-cause
returns-then-place-ge-MAX_GOALS-clause-cause c =
    let i = c.self.inside in
    inr (
      refl,
      subst (λ (g : Goals). IsFullFor g c.args.key) c.self.view_is
          (record { missing = noted-is i.count i.entries.entries i.asks c.args.key ∙ (sym c.contains_key.ensures ∙ c.if-contains_key.false); full = let many = as-many i.count i.entries.entries i.asks c.args.key c.self.invariant.enough in omega (arith, many, c.len-place.ensures.len, c.if-place-ge-MAX_GOALS.true) }),
    )

pub invariant_of-self-2 : goal.invariant_of-self-2
invariant_of-self-2 c =
    let i = c.self.inside in
    let k = c.args.key in
    let none = sym c.contains_key.ensures ∙ c.if-contains_key.false in
    let slot = subst (λ s. c.insert.new.self.entries ≡ insert_entry same_numbers i.entries.entries k s) c.new_slot.ensures c.in_ok-insert.ensures.entries in
    subst (AreAsked i.count) (sym (put-last i.entries k new_slot c.insert.new.self.entries slot none)) (asked-stay i.count i.entries.entries i.asks k c.self.invariant.enough c.self.invariant)

pub returns-clause-asked : goal.returns-clause-asked
returns-clause-asked c =
    let i = c.self.inside in
    let k = c.args.key in
    let none = sym c.contains_key.ensures ∙ c.if-contains_key.false in
    let slot = subst (λ s. c.insert.new.self.entries ≡ insert_entry same_numbers i.entries.entries k s) c.new_slot.ensures c.in_ok-insert.ensures.entries in
    subst (λ (g : Goals). seen_of i.count c.insert.new.self.entries i.asks ≡ noting g k) c.self.view_is
    (ap (λ es. seen_of i.count es i.asks) (put-last i.entries k new_slot c.insert.new.self.entries slot none) ∙ noted-last i.count i.entries.entries i.asks k c.self.invariant.enough none)

pub returns-then-contains_key-clause-room : goal.returns-then-contains_key-clause-room
returns-then-contains_key-clause-room c =
    let i = c.self.inside in
    subst (λ (g : Goals). HasRoomFor g c.args.key) c.self.view_is (λ n. clash n (noted-is i.count i.entries.entries i.asks c.args.key ∙ (sym c.contains_key.ensures ∙ c.if-contains_key.true)))
  where
    clash : {A : Type 0} {b : Bool} → b ≡ false → b ≡ true → A
    clash e f = let q = sym e ∙ f in absurd cc

pub returns-clause-room : goal.returns-clause-room
returns-clause-room c =
    let i = c.self.inside in
    let many = as-many i.count i.entries.entries i.asks c.args.key c.self.invariant.enough in
    subst (λ (g : Goals). HasRoomFor g c.args.key) c.self.view_is (λ n. omega (arith, many, c.len-place.ensures.len, c.if-place-ge-MAX_GOALS.false))
