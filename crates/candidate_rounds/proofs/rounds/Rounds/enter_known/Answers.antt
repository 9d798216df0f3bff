use Rattle.std.proofs.Common.{◌≡◌, ◌<◌, ◌++◌, ◌∷◌, [], length, reverse, false, sym, subst, ap, ◌∙◌, arith}
use Rattle.candidate_rounds.specs.Table.Entries.{GoalEntry}
use Rattle.candidate_rounds.specs.Table.Goals.{IsEntryOf, entry_seen, key_seen}
use Rattle.candidate_rounds.specs.Evaluators.Known.{Evaluator, listing, table_of}
use Rattle.candidate_rounds.proofs.Evaluators.Between.{parts}
use Rattle.candidate_rounds.proofs.Table.Numbered.{unnumbered}
use Rattle.candidate_rounds.proofs.Table.Running.{entered-either}
use Rattle.derivations.specs.DerivedTables.{TableIsDerived}
use Rattle.rounds_judge.specs.Table.GoalTable.{is_entered, most_goals}
use Rattle.candidate_rounds.proofs.rounds.Rounds.enter_known.Goals as goal

pub enter-requires-clause-missing : goal.enter-requires-clause-missing
enter-requires-clause-missing c =
    let i = c.self.inside in
    let k = c.args.key in
    let entry = subst (λ (r : Evaluator). IsEntryOf r.context.trees (k, c.args.slot)) (sym c.self.view_is) c.requires.entry in
    let missing = subst (λ (r : Evaluator). is_entered (table_of r) (key_seen r.context.trees k) ≡ false) (sym c.self.view_is) c.requires.missing in
    unnumbered i.cx.trees c.recall_distinct.ensures i.goals k (parts c.self.invariant).tabled entry.key.goal missing

pub enter-requires-clause-none : goal.enter-requires-clause-none
enter-requires-clause-none c = ap (λ (r : Evaluator). r.goals.asked) c.self.view_is ∙ c.requires.asked

pub invariant_of-self : goal.invariant_of-self
invariant_of-self c =
    let s = c.self.inside in
    let asked = ap (λ (r : Evaluator). r.goals.asked) c.self.view_is ∙ c.requires.asked in
    let room : length s.goals.table < most_goals = omega (arith, c.len-place.ensures, c.if-place-ge-MAX_GOALS.false) in
    let e : GoalEntry = (c.args.key, c.args.slot) in
    let entry = subst (λ (r : Evaluator). IsEntryOf r.context.trees e) (sym c.self.view_is) c.requires.entry in
    let derived = subst (λ (r : Evaluator). TableIsDerived r.context (listing r) (table_of r ++ entry_seen r.context.trees e ∷ [])) (sym c.self.view_is) c.requires.derived in
    entered-either c.enter.result s.cx s.inference (reverse s.probes.items) (record { pairs = s.normal.items; is_open = s.opens }) s.opaques.items s.goals c.enter.new.self e asked room entry derived c.enter.ensures.entered c.enter.ensures.stopped c.self.invariant

pub invariant_of-self-2 : goal.invariant_of-self-2
invariant_of-self-2 c =
    let s = c.self.inside in
    let asked = ap (λ (r : Evaluator). r.goals.asked) c.self.view_is ∙ c.requires.asked in
    let room : length s.goals.table < most_goals = omega (arith, c.len-place.ensures, c.if-place-ge-MAX_GOALS.false) in
    let e : GoalEntry = (c.args.key, c.args.slot) in
    let entry = subst (λ (r : Evaluator). IsEntryOf r.context.trees e) (sym c.self.view_is) c.requires.entry in
    let derived = subst (λ (r : Evaluator). TableIsDerived r.context (listing r) (table_of r ++ entry_seen r.context.trees e ∷ [])) (sym c.self.view_is) c.requires.derived in
    entered-either c.enter.result s.cx s.inference (reverse s.probes.items) (record { pairs = s.normal.items; is_open = s.opens }) s.opaques.items s.goals c.enter.new.self e asked room entry derived c.enter.ensures.entered c.enter.ensures.stopped c.self.invariant
