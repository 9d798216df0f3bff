use Rattle.std.proofs.Common.{◌≡◌, ◌++◌, append-nil, map, length, sym, ◌∙◌, ap, subst}
use Rattle.candidate_rounds.specs.Calls.Writing.{ChangeTableOf}
use Rattle.candidate_rounds.specs.Evaluators.Known.{Evaluator}
use Rattle.candidate_rounds.specs.Table.Entries.{all_written_into, new_entry}
use Rattle.candidate_rounds.specs.Table.Goals.{Goals, table_seen}
use Rattle.candidate_rounds.proofs.rounds.Rounds.is_still.Goals as goal

pub is_still-requires : goal.is_still-requires
is_still-requires c = c.requires ∙ sym (ap (λ (x : Evaluator). length x.goals.table) c.self.view_is)

pub returns-clause-same : goal.returns-clause-same
returns-clause-same c = λ t.
    let r = c.args.self.now in
    let ts = r.context.trees in
    let ws = c.args.written.now in
    let goals = ap (λ (x : Evaluator). x.goals) c.self.view_is in
    let none = sym (ap (λ (g : Goals). g.asked) goals) ∙ c.is_still.ensures.asked t in
    ap (λ ks. table_seen ts (all_written_into r.goals.table ws ++ map new_entry ks)) none
    ∙ (ap (table_seen ts) (append-nil (all_written_into r.goals.table ws))
    ∙ subst (λ (g : Goals). table_seen ts (all_written_into g.table ws) ≡ table_seen ts g.table) goals (c.is_still.ensures.table t ts))

pub returns-clause-other : goal.returns-clause-other
returns-clause-other c = λ t.
    let ws = c.args.written.now in
    let here = c.is_still.ensures.other t c.self.inside.cx.trees c.recall_distinct.ensures in
    subst (λ (x : Evaluator). ChangeTableOf x.context.trees x.goals.table x.goals.asked ws) c.self.view_is here
