use Rattle.std.proofs.Common.{◌≡◌, false, is_some, sym, ap, subst, ◌∙◌}
use Rattle.std.specs.List.{IsDistinct, list_any}
use Rattle.std.specs.Map.{keys_of}
use Rattle.std.proofs.lemmas.Map.Made.{is_some-lookup}
use Rattle.indexmap.proofs.MapLemmas.{Found-position}
use Rattle.candidate_rounds.specs.Table.Entries.{IsNumberedAt}
use Rattle.candidate_rounds.specs.Table.Goals.{Goals}
use Rattle.candidate_rounds.specs.Table.KeyNumbers.{same_numbers}
use Rattle.candidate_rounds.proofs.Table.Entries.{distinct-front, none-in-front, numbered-at, numbered-behind, numbered-in-front}
use Rattle.candidate_rounds.proofs.rounds.goals.Goals.place_of.Goals as goal

pub returns-in-Some-clause-place : goal.returns-in-Some-clause-place
returns-in-Some-clause-place c =
    let k = c.args.key.now in
    let m = c.self.inside.entries in
    let found = Found-position (same_numbers k) m.entries c.in-Some.place (sym c.get_index_of.ensures.index ∙ c.in-Some.is) in
    subst (λ (g : Goals). IsNumberedAt k g.table c.in-Some.place) c.self.view_is
    (numbered-in-front k c.self.inside.count m.entries c.in-Some.place (numbered-at k m.entries c.in-Some.place found.or_len found.within) c.if-place-self.true)

pub returns-in-Some-clause-once : goal.returns-in-Some-clause-once
returns-in-Some-clause-once c =
    subst (λ (g : Goals). IsDistinct same_numbers (keys_of g.table)) c.self.view_is (distinct-front same_numbers c.self.inside.count c.self.inside.entries.entries c.get_index_of.ensures.unique)

pub returns-in_default-clause-place : goal.returns-in_default-clause-place
returns-in_default-clause-place c =
    let k = c.args.key.now in
    let m = c.self.inside.entries in
    let found = Found-position (same_numbers k) m.entries c.in-Some.place (sym c.get_index_of.ensures.index ∙ c.in-Some.is) in
    subst (λ (g : Goals). list_any (same_numbers k) (keys_of g.table) ≡ false) c.self.view_is
    (numbered-behind k c.self.inside.count m.entries c.in-Some.place (numbered-at k m.entries c.in-Some.place found.or_len found.within) c.if-place-self.false)

pub returns-in_default-clause-once : goal.returns-in_default-clause-once
returns-in_default-clause-once c =
    subst (λ (g : Goals). IsDistinct same_numbers (keys_of g.table)) c.self.view_is (distinct-front same_numbers c.self.inside.count c.self.inside.entries.entries c.get_index_of.ensures.unique)

pub returns-in_default-2-clause-place : goal.returns-in_default-2-clause-place
returns-in_default-2-clause-place c =
    let t = same_numbers c.args.key.now in
    let m = c.self.inside.entries in
    subst (λ (g : Goals). list_any t (keys_of g.table) ≡ false) c.self.view_is
    (none-in-front t c.self.inside.count m.entries (sym (is_some-lookup t m.entries) ∙ (sym c.get_index_of.ensures.found ∙ ap is_some c.in_default.is)))

pub returns-in_default-2-clause-once : goal.returns-in_default-2-clause-once
returns-in_default-2-clause-once c =
    subst (λ (g : Goals). IsDistinct same_numbers (keys_of g.table)) c.self.view_is (distinct-front same_numbers c.self.inside.count c.self.inside.entries.entries c.get_index_of.ensures.unique)
