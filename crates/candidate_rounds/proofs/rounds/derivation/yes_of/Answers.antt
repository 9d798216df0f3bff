use Rattle.std.proofs.Common.{Option, Some, ap, ◌∙◌}
use Rattle.std.specs.Option.{option_map}
use Rattle.candidate_rounds.specs.declared.rounds.goals.Verdict.{Verdict}
use Rattle.candidate_rounds.specs.Table.Entries.{GoalEntry}
use Rattle.candidate_rounds.specs.Table.Goals.{IsEntryOf, entry_seen, key_seen, verdict_seen}
use Rattle.candidate_rounds.proofs.Snapshots.Knowing.{each-get}
use Rattle.candidate_rounds.proofs.Table.Finding.{yes-fits}
use Rattle.candidate_rounds.proofs.Table.Running.{get-map}
use Rattle.candidate_rounds.proofs.Table.Tabled.{table-parts}
use Rattle.candidate_rounds.proofs.rounds.derivation.yes_of.Goals as goal

pub returns-in-Some-Yes-clause-sort : goal.returns-in-Some-Yes-clause-sort
returns-in-Some-Yes-clause-sort c = λ ts h.
    let e : GoalEntry = (c.entry_at.result.0.now, c.entry_at.result.1.now) in
    let entry = each-get (IsEntryOf ts) c.args.goals.now.table c.args.place e (table-parts h).entries c.entry_at.ensures in
    let says = rw c.in-Some-Yes.is at c.in-Some-Yes.field-0-is in
    (entry.key.goal, yes-fits ts e c.in-Some-Yes.response c.in-Some-Yes.field-0-1 entry (c.in-Some-Yes.is ∙ ap Some says))

pub returns-in-Some-Yes-clause-is : goal.returns-in-Some-Yes-clause-is
returns-in-Some-Yes-clause-is c = λ ts.
    let e : GoalEntry = (c.entry_at.result.0.now, c.entry_at.result.1.now) in
    let says = rw c.in-Some-Yes.is at c.in-Some-Yes.field-0-is in
    record {
      way = c.in-Some-Yes.field-0-1;
      entry = get-map (entry_seen ts) c.args.goals.now.table c.args.place e c.entry_at.ensures ∙ ap (λ (v : Option Verdict). Some (record { key = key_seen ts e.0; verdict = option_map (verdict_seen ts) v })) (c.in-Some-Yes.is ∙ ap Some says);
    }
