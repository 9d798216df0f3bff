use Rattle.std.proofs.Common.{[], ◌++◌, append-nil, sym, ◌∙◌, ap}
use Rattle.std.specs.List.{cons_option}
use Rattle.std.proofs.lemmas.Option.{slice_get-get_or, slice_get_past}
use Rattle.candidate_rounds.proofs.rounds.derivation.push_place.Goals as goal

pub returns-then-place-places-clause-pushed : goal.returns-then-place-places-clause-pushed
returns-then-place-places-clause-pushed c =
    let xs = c.args.nested.now.items in
    sym (ap (λ o. xs ++ cons_option o []) (slice_get_past c.args.places.now c.args.place c.if-place-places.true) ∙ append-nil xs)

pub returns-clause-pushed : goal.returns-clause-pushed
returns-clause-pushed c =
    let xs = c.args.nested.now.items in
    c.in_ok-push.ensures.items ∙ sym (ap (λ o. xs ++ cons_option o []) (slice_get-get_or c.args.places.now c.args.place 0 c.if-place-places.false))
