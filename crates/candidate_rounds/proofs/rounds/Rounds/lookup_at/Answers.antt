use Rattle.std.proofs.Common.{◌≡◌, Some, slice_get, sym, ◌∙◌, ap, subst}
use Rattle.candidate_rounds.specs.Table.Entries.{GoalEntry}
use Rattle.candidate_rounds.specs.Calls.Found.{IsFound}
use Rattle.candidate_rounds.specs.Evaluators.Known.{Evaluator}
use Rattle.candidate_rounds.proofs.Table.Finding.{read-found, unread-found}
use Rattle.candidate_rounds.proofs.Table.Running.{entry-at}
use Rattle.candidate_rounds.proofs.rounds.Rounds.lookup_at.Goals as goal

pub returns-then-slot : goal.returns-then-slot
returns-then-slot c = λ k o.
    let r = c.args.self.now in
    let n = c.args.place in
    let e : GoalEntry = (c.entry_at.result.0.now, c.entry_at.result.1.now) in
    let there : slice_get r.goals.table n ≡ Some e = sym (ap (λ (x : Evaluator). slice_get x.goals.table n) c.self.view_is) ∙ c.entry_at.ensures in
    subst (IsFound r.context.trees r.goals.table k) (sym c.lookup_of.ensures)
    (read-found r.context.trees r.goals.table k n e there o (entry-at r n e c.recall_well_kept.ensures there) c.if-slot.true)

pub returns-else-slot : goal.returns-else-slot
returns-else-slot c = λ k o.
    let r = c.args.self.now in
    let n = c.args.place in
    let e : GoalEntry = (c.entry_at.result.0.now, c.entry_at.result.1.now) in
    let there : slice_get r.goals.table n ≡ Some e = sym (ap (λ (x : Evaluator). slice_get x.goals.table n) c.self.view_is) ∙ c.entry_at.ensures in
    unread-found r.context.trees r.goals.table k n e there o (entry-at r n e c.recall_well_kept.ensures there) c.if-slot.false
