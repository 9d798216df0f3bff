use Rattle.std.proofs.Common.{◌≡◌, List, IfErr, IfOk, slice_get, Some, sym, subst, ap, ◌∙◌}
use Rattle.candidate_rounds.specs.Table.Entries.{GoalEntry}
use Rattle.ir_trees.specs.Syntax.Trees.{Tree}
use Rattle.candidate_eval.specs.Interface.Noting.{IsNotingStop}
use Rattle.candidate_rounds.specs.Table.Goals.{IsTraitGoal, Via, key_seen, verdict_seen}
use Rattle.rounds_judge.specs.Table.GoalTable.{Entry, may_be_read}
use Rattle.rounds_judge.specs.Table.Keys.{Key}
use Rattle.candidate_rounds.specs.Evaluators.Known.{Evaluator}
use Rattle.candidate_rounds.proofs.Table.Running.{entry-at, key-get}
use Rattle.candidate_rounds.proofs.rounds.Rounds.may_be_read.Goals as goal

pub may_be_read-requires-clause-key : goal.may_be_read-requires-clause-key
may_be_read-requires-clause-key c =
    let r = c.args.self.now in
    let i = c.args.place in
    let d : GoalEntry = (c.entry_at.result.0.now, c.entry_at.result.1.now) in
    let there : slice_get r.goals.table i ≡ Some d =
    sym (ap (λ (x : Evaluator). slice_get x.goals.table i) c.self.view_is) ∙ c.entry_at.ensures in
    subst (λ (x : Evaluator). IsTraitGoal x.context.trees d.0.goal) (sym c.self.view_is) (entry-at r i d c.recall_well_kept.ensures there).key.goal

pub returns-clause-is : goal.returns-clause-is
returns-clause-is c = λ e g.
    let r = c.args.self.now in
    let i = c.args.place in
    let d : GoalEntry = (c.entry_at.result.0.now, c.entry_at.result.1.now) in
    let there : slice_get r.goals.table i ≡ Some d =
    sym (ap (λ (x : Evaluator). slice_get x.goals.table i) c.self.view_is) ∙ c.entry_at.ensures in
    let q = key-get r i d e there g in
    let trees = ap (λ (r : Evaluator). r.context.trees) c.self.view_is in
    let key = ap (λ ts. key_seen ts d.0) trees ∙ sym (ap (λ (x : Entry Via). x.key) q) in
    subst (λ (p : List Tree × Key). IfOk c.may_be_read.result (λ b. b ≡ may_be_read {W = Via} p.1 (Some (verdict_seen p.0 c.args.verdict.now)))) (λ i. (trees i, key i)) c.may_be_read.ensures.is

pub returns-clause-cause : goal.returns-clause-cause
returns-clause-cause c =
    let trees = ap (λ (r : Evaluator). r.context.trees) c.self.view_is in
    subst (λ (ts : List Tree). IfErr c.may_be_read.result (λ s. IsNotingStop ts s)) trees c.may_be_read.ensures.cause
