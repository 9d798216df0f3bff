use Rattle.std.proofs.Common.{◌≡◌, Some, slice_get, sym, ap, ◌∙◌}
use Rattle.candidate_rounds.specs.Table.Entries.{GoalEntry}
use Rattle.candidate_rounds.specs.Evaluators.Known.{Evaluator}
use Rattle.candidate_rounds.proofs.Table.Running.{verdict-get}
use Rattle.rounds_judge.specs.Table.Verdicts.{is_final}
use Rattle.candidate_rounds.proofs.rounds.Rounds.is_final_at.Goals as goal

pub returns : goal.returns
returns c =
    let r = c.args.self.now in
    let i = c.args.place in
    let e : GoalEntry = (c.entry_at.result.0.now, c.entry_at.result.1.now) in
    let there : slice_get r.goals.table i ≡ Some e =
    sym (ap (λ (x : Evaluator). slice_get x.goals.table i) c.self.view_is) ∙ c.entry_at.ensures in
    c.is_final.ensures r.context.trees ∙ ap is_final (sym (verdict-get r.context.trees r.goals.table i e there))
