use Rattle.std.proofs.Common.{◌++◌, ◌∷◌, [], sym, subst}
use Rattle.candidate_rounds.specs.declared.rounds.goals.Slot.{Slot}
use Rattle.candidate_rounds.specs.Table.Goals.{IsEntryOf, entry_seen}
use Rattle.candidate_rounds.specs.Evaluators.Known.{listing, table_of}
use Rattle.candidate_rounds.proofs.Table.Running.{new-entry-derived, new-entry-is}
use Rattle.derivations.specs.DerivedTables.{TableIsDerived}
use Rattle.candidate_rounds.proofs.rounds.Rounds.enter_key.Goals as goal

pub enter_known-requires-clause-entry : goal.enter_known-requires-clause-entry
enter_known-requires-clause-entry c =
    let r = c.args.self.now in
    subst (λ (s : Slot). IsEntryOf r.context.trees (c.args.key, s)) (sym c.new_slot.ensures) (new-entry-is r.context.trees c.args.key c.requires.key)

pub enter_known-requires-clause-derived : goal.enter_known-requires-clause-derived
enter_known-requires-clause-derived c =
    let r = c.args.self.now in
    subst (λ (s : Slot). TableIsDerived r.context (listing r) (table_of r ++ entry_seen r.context.trees (c.args.key, s) ∷ [])) (sym c.new_slot.ensures) (new-entry-derived r c.args.key c.recall_well_kept.ensures)
