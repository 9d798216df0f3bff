use Rattle.std.proofs.Common.{◌≡◌, ◌<◌, ◌≤◌, ◌++◌, ◌∷◌, [], filter_map, length, refl, slice_get, take, Some, sym, ◌∙◌, ap, arith, rules}
use Rattle.std.proofs.lemmas.List.Elements.{filter_map-append}
use Rattle.rounds_judge.specs.Table.Keys.{Key}
use Rattle.candidate_rounds.proofs.Table.Running.{get-there, take-all}
use Rattle.candidate_rounds.proofs.Table.Steps.{take-more}
use Rattle.candidate_rounds.proofs.rounds.derivation.DerivationStep.moved.Goals as goal

pub loop-i-preserved : goal.loop-i-preserved
loop-i-preserved c =
    let xs = c.args.self.now.nested.items in
    let ps = c.args.places.now in
    let below : c.loop-i.i < length xs = search rules in
    let x = c.index.result.now in
    let there : slice_get xs c.loop-i.i ≡ Some x = get-there xs c.loop-i.i x below c.index.ensures in
    let more = take-more xs c.loop-i.i x there in
    c.in_ok-push_place.ensures.pushed
    ∙ (ap (λ ys. ys ++ filter_map (slice_get ps) (x ∷ [])) c.loop-i.invariant
    ∙ sym (ap (filter_map (slice_get ps)) more ∙ filter_map-append (slice_get ps) (take c.loop-i.i xs) (x ∷ [])))

pub returns-clause-moved : goal.returns-clause-moved
returns-clause-moved c =
    let xs = c.args.self.now.nested.items in
    let ps = c.args.places.now in
    let end : length xs ≤ c.loop-i.i = (let a = c.loop-i-test.false in omega (arith, a)) in
    record {
      is_for = record { key = record { goal = c.in_ok-copied.ensures.goal; variables = ap (λ (k : Key). k.variables) (c.in_ok-copied.ensures.is []) }; response = c.in_ok-copied-2.ensures };
      source = refl;
      names = c.loop-i.invariant ∙ ap (filter_map (slice_get ps)) (take-all xs c.loop-i.i end);
    }
