use Rattle.std.proofs.Common.{◌≡◌, MatchOption, ap, false, subst}
use Rattle.std.specs.List.{IsDistinct, list_any}
use Rattle.std.specs.Map.{keys_of}
use Rattle.ir_trees.specs.Syntax.Table.{AreDistinct}
use Rattle.candidate_rounds.specs.Table.Entries.{GoalEntry, IsNumberedAt}
use Rattle.candidate_rounds.specs.Table.Goals.{Goals, IsEntryOf, IsTraitGoal}
use Rattle.candidate_rounds.specs.Table.KeyNumbers.{same_numbers}
use Rattle.candidate_rounds.specs.Evaluators.Known.{Evaluator}
use Rattle.candidate_rounds.proofs.Evaluators.Between.{parts}
use Rattle.candidate_rounds.proofs.Snapshots.Knowing.{each-imply}
use Rattle.candidate_rounds.proofs.Table.Numbered.{place-found}
use Rattle.candidate_rounds.proofs.Table.Tabled.{table-parts}
use Rattle.candidate_rounds.proofs.rounds.Rounds.place_of.Goals as goal

pub returns : goal.returns
returns c =
    let r = c.args.self.now in
    let ts = r.context.trees in
    let k = c.args.key.now in
    let entries = each-imply (IsEntryOf ts) (λ (e : GoalEntry). IsTraitGoal ts e.0.goal) r.goals.table (λ e i. i.key.goal) (table-parts (parts c.recall_well_kept.ensures).tabled).entries in
    let trees = ap (λ (x : Evaluator). x.context.trees) c.self.view_is in
    let goals = ap (λ (x : Evaluator). x.goals) c.self.view_is in
    let place = subst (λ (g : Goals). MatchOption c.place_of.result (list_any (same_numbers k) (keys_of g.table) ≡ false) (IsNumberedAt k g.table)) goals c.place_of.ensures.place in
    let once = subst (λ (g : Goals). IsDistinct same_numbers (keys_of g.table)) goals c.place_of.ensures.once in
    place-found ts (subst AreDistinct trees c.recall_distinct.ensures) k c.requires r.goals.table c.place_of.result entries once place
