use Rattle.std.proofs.Common.{◌≡◌, Some, slice_get, sym, ◌∙◌, ap, subst}
use Rattle.std.specs.Option.{option_map}
use Rattle.candidate_rounds.specs.Table.Entries.{GoalEntry}
use Rattle.candidate_rounds.specs.Table.Goals.{IsVerdict, verdict_seen}
use Rattle.candidate_rounds.specs.Evaluators.Known.{Evaluator}
use Rattle.candidate_rounds.proofs.Table.Running.{entry-at, verdict-get}
use Rattle.candidate_assembly.proofs.Calls.Causes.{so-ok}
use Rattle.candidate_eval.specs.Judges.States.{is_some}
use Rattle.candidate_rounds.proofs.rounds.Rounds.verdict_at.Goals as goal

pub unreachable-requires : goal.unreachable-requires
unreachable-requires c =
    let r = c.args.self.now in
    let i = c.args.place in
    let e : GoalEntry = (c.entry_at.result.0.now, c.entry_at.result.1.now) in
    let there : slice_get r.goals.table i ≡ Some e =
    sym (ap (λ (x : Evaluator). slice_get x.goals.table i) c.self.view_is) ∙ c.entry_at.ensures in
    let none = verdict-get r.context.trees r.goals.table i e there ∙ ap (option_map (verdict_seen r.context.trees)) c.in-None.is in
    let clash = sym (ap is_some none) ∙ c.requires.some in
    cc

pub returns-clause-sort : goal.returns-clause-sort
returns-clause-sort c =
    let r = c.args.self.now in
    let i = c.args.place in
    let e : GoalEntry = (c.entry_at.result.0.now, c.entry_at.result.1.now) in
    let there : slice_get r.goals.table i ≡ Some e =
    sym (ap (λ (x : Evaluator). slice_get x.goals.table i) c.self.view_is) ∙ c.entry_at.ensures in
    c.copied.ensures.sort r.context.trees (subst (IsVerdict r.context.trees) c.in-Some.is (entry-at r i e c.recall_well_kept.ensures there).verdict)

pub returns-clause-is : goal.returns-clause-is
returns-clause-is c =
    let r = c.args.self.now in
    let i = c.args.place in
    let e : GoalEntry = (c.entry_at.result.0.now, c.entry_at.result.1.now) in
    let there : slice_get r.goals.table i ≡ Some e =
    sym (ap (λ (x : Evaluator). slice_get x.goals.table i) c.self.view_is) ∙ c.entry_at.ensures in
    let some = verdict-get r.context.trees r.goals.table i e there ∙ ap (option_map (verdict_seen r.context.trees)) c.in-Some.is in
    so-ok c.copied.result (λ v same. some ∙ ap Some (sym same)) (c.copied.ensures.is r.context.trees)
