use Rattle.std.proofs.Common.{◌≡◌, ◌<◌, ◌≤◌, ◌+◌, ◌-◌, false, length, refl, arith, sym, ◌∙◌, ap, subst}
use Rattle.candidate_rounds.specs.declared.rounds.derivation.DerivationStep.{DerivationStep}
use Rattle.candidate_rounds.specs.Table.Steps.{is_marked, with_marks}
use Rattle.candidate_rounds.proofs.Table.Needed.{MarkedDown, all-marked, last-marked, marked-more, unmarked-more}
use Rattle.candidate_rounds.proofs.Table.Running.{get-there}
use Rattle.candidate_rounds.proofs.rounds.derivation.marks_of.Goals.{then-is_marked, else-is_marked}
use Rattle.candidate_rounds.proofs.rounds.derivation.marks_of.Goals as goal

pub loop-back-init : goal.loop-back-init
loop-back-init c =
    let ss = c.args.steps.now in
    let marks = c.in_ok-marks.marks in
    let many : length marks.items ≡ length ss = (let a = marks.ok.0 in let b = c.in_ok-marks.ensures.len in omega (arith, a, b)) in
    subst (λ ms. MarkedDown ss ms 0) (sym c.mark.ensures) (last-marked ss marks.items c.saturating_sub.result many c.saturating_sub.ensures)

pub loop-back-preserved : goal.loop-back-preserved
loop-back-preserved c =
    let ss = c.args.steps.now in
    let back = c.loop-back.back in
    let ms = c.loop-back.marks.items in
    let place = length ss - 1 - back in
    let below : back < length ss = (let a = c.loop-back-test.true in omega (arith, a)) in
    elim c.if-is_marked.branch [
      | then-is_marked w ↦
          let x = w.index-steps-place.result in
          subst (λ ns. MarkedDown ss ns (back + 1)) (sym (ap (λ v. v.items) w.marks-is ∙ (w.mark_all_below.ensures ∙ ap (λ ns. with_marks ms ns place) (w.as_slice-then-is_marked.ensures.value ∙ ap (λ (y : DerivationStep). y.nested.items) (sym w.index-steps-place.is)))))
          (marked-more ss ms back place below refl c.loop-back.invariant x (get-there ss place x (omega (arith, below)) w.index-steps-place.is))
      | else-is_marked w ↦
          subst (λ ns. MarkedDown ss ns (back + 1)) (sym (ap (λ v. v.items) w.marks-is))
          (let no : is_marked ms place ≡ false = ap (λ ns. is_marked ns place) (sym c.as_slice.ensures.value) ∙ (sym c.is_marked.ensures ∙ w.if-is_marked.false) in unmarked-more ss ms back place below refl c.loop-back.invariant no)
    ]

pub returns-clause-are : goal.returns-clause-are
returns-clause-are c =
    let ss = c.args.steps.now in
    let end : length ss ≤ c.loop-back.back = (let a = c.loop-back-test.false in omega (arith, a)) in
    all-marked ss c.loop-back.marks.items c.loop-back.back end c.loop-back.invariant
