use Rattle.std.proofs.Common.{◌≡◌, ◌≤◌, true, false, length, subst, sym, ◌∙◌, arith}
use Rattle.candidate_rounds.specs.Table.Cleanness.{has_error}
use Rattle.candidate_rounds.specs.Table.Entries.{GoalEntry}
use Rattle.candidate_rounds.specs.Table.Goals.{Each, IsEntryOf}
use Rattle.candidate_rounds.proofs.Snapshots.Knowing.{each-get}
use Rattle.candidate_rounds.proofs.Table.Running.{take-all}
use Rattle.candidate_rounds.proofs.Table.Steps.{each-push, take-more}
use Rattle.candidate_rounds.proofs.Table.Tabled.{table-parts}
use Rattle.candidate_rounds.proofs.rounds.cleanness.goals_have_error_region.Goals as goal

true-not-false : true ≡ false → ⊥
true-not-false e = cc

pub loop-place-preserved : goal.loop-place-preserved
loop-place-preserved c =
    let ts = c.args.cx.now.trees in
    let es = c.args.goals.now.table in
    let P : GoalEntry → Type 0 = λ e. has_error ts e.0 ≡ false in
    let e : GoalEntry = (c.entry_at.result.0.now, c.entry_at.result.1.now) in
    subst (Each P) (sym (take-more es c.loop-place.place e c.entry_at.ensures)) (each-push P _ e c.loop-place.invariant (sym c.has_error_region.ensures ∙ c.if-has_error_region.false))

pub has_error_region-requires : goal.has_error_region-requires
has_error_region-requires c =
    let ts = c.args.cx.now.trees in
    let e : GoalEntry = (c.entry_at.result.0.now, c.entry_at.result.1.now) in
    (each-get (IsEntryOf ts) c.args.goals.now.table c.loop-place.place e (table-parts c.requires).entries c.entry_at.ensures).key.goal

pub returns-then-has_error_region-clause-error : goal.returns-then-has_error_region-clause-error
returns-then-has_error_region-clause-error c = λ _ all.
    let ts = c.args.cx.now.trees in
    let e : GoalEntry = (c.entry_at.result.0.now, c.entry_at.result.1.now) in
    let none : has_error ts e.0 ≡ false = each-get (λ e. has_error ts e.0 ≡ false) c.args.goals.now.table c.loop-place.place e all c.entry_at.ensures in
    true-not-false (sym (sym c.has_error_region.ensures ∙ c.if-has_error_region.true) ∙ none)

pub returns-clause-clean : goal.returns-clause-clean
returns-clause-clean c = λ _.
    let es = c.args.goals.now.table in
    let end : length es ≤ c.loop-place.place = (let a = c.loop-place-test.false in let b = c.len-place-end.ensures in omega (arith, a, b)) in
    subst (Each (λ (e : GoalEntry). has_error c.args.cx.now.trees e.0 ≡ false)) (take-all es c.loop-place.place end) c.loop-place.invariant
