use Rattle.std.proofs.Common.{◌<◌, ◌≤◌, get_or, length, sym, ◌∙◌, ap, arith, rules}
use Rattle.std.proofs.lemmas.List.Sums.{fold_more}
use Rattle.candidate_rounds.specs.Table.Steps.{with_mark, with_marks}
use Rattle.candidate_rounds.proofs.Table.Running.{take-all}
use Rattle.candidate_rounds.proofs.rounds.derivation.mark_all_below.Goals as goal

pub loop-i-preserved : goal.loop-i-preserved
loop-i-preserved c =
    let xs = c.args.places.now in
    let below : c.loop-i.i < length xs = search rules in
    c.mark_below.ensures
    ∙ (ap (λ ms. with_mark ms (get_or xs c.loop-i.i 0) c.args.bound) c.loop-i.invariant
    ∙ sym (fold_more (λ ms n. with_mark ms n c.args.bound) c.args.marks.now.items xs c.loop-i.i 0 below))

pub returns : goal.returns
returns c =
    let xs = c.args.places.now in
    let end : length xs ≤ c.loop-i.i = (let a = c.loop-i-test.false in omega (arith, a)) in
    c.loop-i.invariant ∙ ap (λ ys. with_marks c.args.marks.now.items ys c.args.bound) (take-all xs c.loop-i.i end)
