use Rattle.std.proofs.Common.{◌≡◌, Some, slice_get, sym, ◌∙◌, ap, subst}
use Rattle.std.specs.Option.{option_map}
use Rattle.candidate_rounds.specs.Table.Entries.{GoalEntry}
use Rattle.candidate_rounds.specs.Table.Goals.{IsVerdict, verdict_seen}
use Rattle.candidate_rounds.specs.Evaluators.Known.{Evaluator}
use Rattle.candidate_rounds.proofs.Table.Running.{entry-at, verdict-get}
use Rattle.candidate_rounds.proofs.rounds.Rounds.copied_at.Goals as goal

pub returns-in_ok-copied-in-Some-clause-sort : goal.returns-in_ok-copied-in-Some-clause-sort
returns-in_ok-copied-in-Some-clause-sort c =
    let r = c.args.self.now in
    let i = c.args.place in
    let e : GoalEntry = (c.entry_at.result.0.now, c.entry_at.result.1.now) in
    let there : slice_get r.goals.table i ≡ Some e =
    sym (ap (λ (x : Evaluator). slice_get x.goals.table i) c.self.view_is) ∙ c.entry_at.ensures in
    c.in_ok-copied-in-Some.ensures.sort r.context.trees (subst (IsVerdict r.context.trees) c.in-Some.is (entry-at r i e c.recall_well_kept.ensures there).verdict)

pub returns-in_ok-copied-in-Some-clause-is : goal.returns-in_ok-copied-in-Some-clause-is
returns-in_ok-copied-in-Some-clause-is c =
    let r = c.args.self.now in
    let i = c.args.place in
    let e : GoalEntry = (c.entry_at.result.0.now, c.entry_at.result.1.now) in
    let there : slice_get r.goals.table i ≡ Some e =
    sym (ap (λ (x : Evaluator). slice_get x.goals.table i) c.self.view_is) ∙ c.entry_at.ensures in
    ap Some (c.in_ok-copied-in-Some.ensures.is r.context.trees) ∙ sym (verdict-get r.context.trees r.goals.table i e there ∙ ap (option_map (verdict_seen r.context.trees)) c.in-Some.is)

pub returns-in-None-clause-is : goal.returns-in-None-clause-is
returns-in-None-clause-is c =
    let r = c.args.self.now in
    let i = c.args.place in
    let e : GoalEntry = (c.entry_at.result.0.now, c.entry_at.result.1.now) in
    let there : slice_get r.goals.table i ≡ Some e =
    sym (ap (λ (x : Evaluator). slice_get x.goals.table i) c.self.view_is) ∙ c.entry_at.ensures in
    sym (verdict-get r.context.trees r.goals.table i e there ∙ ap (option_map (verdict_seen r.context.trees)) c.in-None.is)
