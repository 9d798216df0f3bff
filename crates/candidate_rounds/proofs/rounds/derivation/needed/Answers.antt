use Rattle.std.proofs.Common.{◌≡◌, ◌<◌, ◌+◌, ◌++◌, ◌∷◌, [], List, ℕ, true, false, filter_map, slice_get, length, rules, sym, ◌∙◌, ap, subst, arith}
use Rattle.candidate_rounds.specs.declared.rounds.derivation.DerivationStep.{DerivationStep}
use Rattle.candidate_rounds.specs.Table.Steps.{IsMoved, is_marked}
use Rattle.candidate_rounds.proofs.Table.Running.{get-there}
use Rattle.candidate_rounds.proofs.Table.Needed.{LeftSoFar, all-left, none-left, one-marked, one-unmarked}
use Rattle.candidate_rounds.proofs.rounds.derivation.needed.Goals.{then-is_marked+in_ok-moved+in_ok-push, else-is_marked}
use Rattle.candidate_rounds.proofs.rounds.derivation.needed.Goals as goal

pub loop-i-init : goal.loop-i-init
loop-i-init c =
    let ss = c.args.steps.now in
    let ms = c.in_ok-marks.marks.items in
    subst (λ (p : List DerivationStep × List ℕ). LeftSoFar ss ms p.0 p.1 0) (λ i. (sym c.new-kept.ensures.items i, sym c.new-places.ensures.items i)) (none-left ss ms)

pub loop-i-preserved : goal.loop-i-preserved
loop-i-preserved c =
    let ss = c.args.steps.now in
    let ms = c.in_ok-marks.marks.items in
    let us = c.loop-i.kept.items in
    let ps = c.loop-i.places.items in
    let i = c.loop-i.i in
    let below : i < length ss = search rules in
    let many = c.in_ok-marks.ensures.are.many in
    let within : i < length ms = omega (arith, below, many) in
    let count : c.len-place.result ≡ length us = (let a = c.loop-i.kept.ok.0 in let b = c.len-place.ensures in omega (arith, a, b)) in
    let place = c.in_ok-push-2.ensures.items ∙ ap (λ n. ps ++ n ∷ []) count in
    elim c.if-is_marked.branch [
      | then-is_marked+in_ok-moved+in_ok-push w ↦
          let x = w.index-steps-i.result in
          let t = w.in_ok-moved.field-0 in
          let yes : is_marked ms i ≡ true = ap (λ ns. is_marked ns i) (sym c.as_slice.ensures.value) ∙ (sym c.is_marked.ensures ∙ w.if-is_marked.true) in
          let moved = subst (λ ns. IsMoved x (filter_map (slice_get ns) x.nested.items) t) w.as_slice-then-is_marked.ensures.value w.in_ok-moved.ensures.moved in
          let kept = ap (λ v. v.items) w.kept-is ∙ w.in_ok-push.ensures.items in
          subst (λ (p : List DerivationStep × List ℕ). LeftSoFar ss ms p.0 p.1 (i + 1)) (λ j. (sym kept j, sym place j))
          (one-marked ss ms us ps i within c.loop-i.invariant x t (get-there ss i x below w.index-steps-i.is) yes w.in_ok-moved.ensures.step moved)
      | else-is_marked w ↦
          let no : is_marked ms i ≡ false = ap (λ ns. is_marked ns i) (sym c.as_slice.ensures.value) ∙ (sym c.is_marked.ensures ∙ w.if-is_marked.false) in
          let kept = ap (λ v. v.items) w.kept-is in
          subst (λ (p : List DerivationStep × List ℕ). LeftSoFar ss ms p.0 p.1 (i + 1)) (λ j. (sym kept j, sym place j)) (one-unmarked ss ms us ps i within c.loop-i.invariant no)
    ]

pub returns-clause-are : goal.returns-clause-are
returns-clause-are c = λ ts h. c.loop-i.invariant.are ts h

pub returns-clause-needed : goal.returns-clause-needed
returns-clause-needed c =
    let ss = c.args.steps.now in
    let a = c.loop-i-test.false in
    let b = c.loop-i.auto.i-end in
    all-left ss c.in_ok-marks.marks.items c.loop-i.kept.items c.loop-i.places.items c.loop-i.i (omega (arith, a, b)) c.in_ok-marks.ensures.are c.loop-i.invariant
