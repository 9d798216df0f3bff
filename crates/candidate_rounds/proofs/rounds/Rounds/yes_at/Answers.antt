use Rattle.std.proofs.Common.{◌≡◌, Some, ap, slice_get, subst, sym, ◌∙◌}
use Rattle.candidate_rounds.specs.Table.Entries.{GoalEntry}
use Rattle.candidate_rounds.specs.Table.Goals.{IsEntryOf}
use Rattle.candidate_rounds.specs.Evaluators.Known.{Evaluator, IsEvaluator}
use Rattle.candidate_eval.specs.Outcomes.ResponseTrees.{IsCopy}
use Rattle.rounds_judge.specs.Table.Verdicts.{Yes}
use Rattle.candidate_rounds.proofs.Evaluators.Between.{parts}
use Rattle.candidate_rounds.proofs.Table.Finding.{copy-is, copy-sees, get-same, yes-fits, yes-same}
use Rattle.candidate_rounds.proofs.Snapshots.Knowing.{each-get}
use Rattle.candidate_rounds.proofs.Table.Tabled.{table-parts}
use Rattle.candidate_rounds.proofs.rounds.Rounds.yes_at.Goals as goal

pub returns-clause-sort : goal.returns-clause-sort
returns-clause-sort c =
    let ts = c.args.self.now.context.trees in
    let es = c.args.self.now.goals.table in
    let e : GoalEntry = (c.entry_at.result.0.now, c.entry_at.result.1.now) in
    let there : slice_get es c.args.place ≡ Some e =
    sym (ap (λ (x : Evaluator). slice_get x.goals.table c.args.place) c.self.view_is) ∙ c.entry_at.ensures in
    let whole = subst (λ (x : Evaluator). IsEvaluator x.context x.inference x.marks x.normal x.opaques x.goals) c.self.view_is c.self.invariant in
    let fits = yes-fits ts c.requires.entry c.requires.response c.requires.way (each-get (IsEntryOf ts) es c.args.place c.requires.entry (table-parts (parts whole).tabled).entries c.requires.there) c.requires.says in
    let says = rw c.in-Some-Yes.is at c.in-Some-Yes.field-0-is in
    let same = yes-same e.1.verdict c.in-Some-Yes.response c.requires.response c.in-Some-Yes.field-0-1 c.requires.way (c.in-Some-Yes.is ∙ ap Some says)
    (ap (λ (x : GoalEntry). x.1.verdict) (get-same es c.args.place e c.requires.entry there c.requires.there) ∙ c.requires.says) in
    copy-is ts c.requires.response c.in_ok-copied-in-Some-Yes.field-0 fits (subst (λ r. IsCopy r c.in_ok-copied-in-Some-Yes.field-0) same c.in_ok-copied-in-Some-Yes.ensures)

pub returns-clause-read : goal.returns-clause-read
returns-clause-read c =
    let ts = c.args.self.now.context.trees in
    let es = c.args.self.now.goals.table in
    let e : GoalEntry = (c.entry_at.result.0.now, c.entry_at.result.1.now) in
    let there : slice_get es c.args.place ≡ Some e =
    sym (ap (λ (x : Evaluator). slice_get x.goals.table c.args.place) c.self.view_is) ∙ c.entry_at.ensures in
    let says = rw c.in-Some-Yes.is at c.in-Some-Yes.field-0-is in
    let same = yes-same e.1.verdict c.in-Some-Yes.response c.requires.response c.in-Some-Yes.field-0-1 c.requires.way (c.in-Some-Yes.is ∙ ap Some says)
    (ap (λ (x : GoalEntry). x.1.verdict) (get-same es c.args.place e c.requires.entry there c.requires.there) ∙ c.requires.says) in
    let copy = subst (λ r. IsCopy r c.in_ok-copied-in-Some-Yes.field-0) same c.in_ok-copied-in-Some-Yes.ensures in
    record {
      way = c.requires.way;
      read = c.requires.read ∙ ap (λ r. Some (Yes r c.requires.way)) (sym (copy-sees ts c.requires.response c.in_ok-copied-in-Some-Yes.field-0 copy));
    }
