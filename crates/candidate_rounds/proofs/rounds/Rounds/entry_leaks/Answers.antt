use Rattle.std.proofs.Common.{◌≡◌, Bool, false, ap, subst, sym}
use Rattle.candidate_assembly.specs.Goals.TraitGoals.{trait_goal}
use Rattle.candidate_rounds.specs.Evaluators.Known.{notes_of, state, sure_of, table_of}
use Rattle.candidate_rounds.specs.Table.Entries.{leaks_at}
use Rattle.candidate_rounds.specs.Table.Goals.{Via, key_seen, unless_noted}
use Rattle.candidate_rounds.proofs.Table.Finding.{only-place}
use Rattle.rounds_judge.specs.Table.GoalTable.{GoalTable, verdict_in}
use Rattle.rounds_judge.specs.Table.Keys.{Key, key_at}
use Rattle.candidate_rounds.proofs.Table.Noted.{goes-sure, sure-at, sure-missing}
use Rattle.candidate_rounds.proofs.Table.Rounding.{goes-stays}
use Rattle.candidate_rounds.proofs.rounds.Rounds.entry_leaks.Goals as goal

pub returns-in_err-key-clause-stays : goal.returns-in_err-key-clause-stays
returns-in_err-key-clause-stays c = (goes-stays c.args.self.now c.key_for.new.self c.recall_well_kept.ensures c.key_for.ensures.goes c.key_for.ensures.state).0

pub returns-in_err-key-clause-table : goal.returns-in_err-key-clause-table
returns-in_err-key-clause-table c = (goes-stays c.args.self.now c.key_for.new.self c.recall_well_kept.ensures c.key_for.ensures.goes c.key_for.ensures.state).1

pub returns-in-Some-clause-stays : goal.returns-in-Some-clause-stays
returns-in-Some-clause-stays c = (goes-stays c.args.self.now c.key_for.new.self c.recall_well_kept.ensures c.key_for.ensures.goes c.key_for.ensures.state).0

pub returns-in-Some-clause-table : goal.returns-in-Some-clause-table
returns-in-Some-clause-table c = (goes-stays c.args.self.now c.key_for.new.self c.recall_well_kept.ensures c.key_for.ensures.goes c.key_for.ensures.state).1

pub returns-clause-stays : goal.returns-clause-stays
returns-clause-stays c = (goes-stays c.args.self.now c.key_for.new.self c.recall_well_kept.ensures c.key_for.ensures.goes c.key_for.ensures.state).0

pub returns-clause-table : goal.returns-clause-table
returns-clause-table c = (goes-stays c.args.self.now c.key_for.new.self c.recall_well_kept.ensures c.key_for.ensures.goes c.key_for.ensures.state).1

pub returns-in_err-key-clause-sure : goal.returns-in_err-key-clause-sure
returns-in_err-key-clause-sure c = goes-sure c.args.self.now c.key_for.new.self c.recall_well_kept.ensures c.key_for.ensures.goes

pub returns-in-Some-clause-sure : goal.returns-in-Some-clause-sure
returns-in-Some-clause-sure c = goes-sure c.args.self.now c.key_for.new.self c.recall_well_kept.ensures c.key_for.ensures.goes

pub returns-clause-sure : goal.returns-clause-sure
returns-clause-sure c = goes-sure c.args.self.now c.key_for.new.self c.recall_well_kept.ensures c.key_for.ensures.goes

pub returns-in-Some-clause-is : goal.returns-in-Some-clause-is
returns-in-Some-clause-is c =
    let r = c.args.self.now in
    let s = c.key_for.new.self in
    let k = key_seen s.context.trees c.in_ok-key.key in
    let t : table_of s ≡ table_of r = (goes-stays r s c.recall_well_kept.ensures c.key_for.ensures.goes c.key_for.ensures.state).1 in
    let u : sure_of s ≡ sure_of r = goes-sure r s c.recall_well_kept.ensures c.key_for.ensures.goes in
    let there = sure-at s.context.trees s.goals.table k c.in-Some.place (only-place (table_of s) k c.in-Some.place c.in-Some.ensures) in
    subst (λ (q : GoalTable Via × GoalTable Via × Key × Bool). verdict_in q.0 q.2 ≡ unless_noted q.3 (verdict_in q.1 q.2)) (λ i. (u i, t i, c.in_ok-key.ensures.key i, sym c.leaks_at.ensures i)) there

pub returns-clause-is : goal.returns-clause-is
returns-clause-is c =
    let r = c.args.self.now in
    let s = c.key_for.new.self in
    let k = key_seen s.context.trees c.in_ok-key.key in
    let t : table_of s ≡ table_of r = (goes-stays r s c.recall_well_kept.ensures c.key_for.ensures.goes c.key_for.ensures.state).1 in
    let u : sure_of s ≡ sure_of r = goes-sure r s c.recall_well_kept.ensures c.key_for.ensures.goes in
    subst (λ (q : GoalTable Via × GoalTable Via × Key). verdict_in q.0 q.2 ≡ unless_noted false (verdict_in q.1 q.2)) (λ i. (u i, t i, c.in_ok-key.ensures.key i)) (sure-missing (notes_of s) (table_of s) k c.in-None.ensures)
