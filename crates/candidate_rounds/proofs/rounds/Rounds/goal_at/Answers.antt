use Rattle.std.proofs.Common.{◌≡◌, Some, slice_get, sym, ◌∙◌, ap, subst}
use Rattle.candidate_rounds.specs.Evaluators.Known.{Evaluator}
use Rattle.candidate_rounds.specs.Table.Entries.{GoalEntry}
use Rattle.candidate_rounds.specs.Table.Goals.{IsVerdict, entry_of}
use Rattle.candidate_rounds.proofs.Table.Running.{entry-at, seen-get}
use Rattle.candidate_rounds.proofs.rounds.Rounds.goal_at.Goals as goal

pub returns-clause-goal : goal.returns-clause-goal
returns-clause-goal c =
    let r = c.args.self.now in
    let i = c.args.place in
    let e : GoalEntry = (c.entry_at.result.0.now, c.entry_at.result.1.now) in
    let there : slice_get r.goals.table i ≡ Some e =
    sym (ap (λ (x : Evaluator). slice_get x.goals.table i) c.self.view_is) ∙ c.entry_at.ensures in
    (entry-at r i e c.recall_well_kept.ensures there).key.goal

pub returns-clause-sort : goal.returns-clause-sort
returns-clause-sort c =
    let r = c.args.self.now in
    let i = c.args.place in
    let e : GoalEntry = (c.entry_at.result.0.now, c.entry_at.result.1.now) in
    let there : slice_get r.goals.table i ≡ Some e =
    sym (ap (λ (x : Evaluator). slice_get x.goals.table i) c.self.view_is) ∙ c.entry_at.ensures in
    subst (IsVerdict r.context.trees) (sym c.as_ref.ensures.value) (entry-at r i e c.recall_well_kept.ensures there).verdict

pub returns-clause-entry : goal.returns-clause-entry
returns-clause-entry c =
    let r = c.args.self.now in
    let i = c.args.place in
    let e : GoalEntry = (c.entry_at.result.0.now, c.entry_at.result.1.now) in
    let there : slice_get r.goals.table i ≡ Some e =
    sym (ap (λ (x : Evaluator). slice_get x.goals.table i) c.self.view_is) ∙ c.entry_at.ensures in
    seen-get r i e there ∙ ap (λ v. Some (entry_of r.context.trees c.entry_at.result.0.now v)) (sym c.as_ref.ensures.value)
