use Rattle.std.proofs.Common.{◌≡◌, ◌++◌, List, map, Option, Result, sym, ◌∙◌, ap, subst}
use Rattle.ir_trees.specs.declared.ir.stop.Stop.{Stop}
use Rattle.ir_trees.specs.Syntax.Trees.{Tree}
use Rattle.candidate_eval.specs.declared.eval.response.CanonicalResponse.{CanonicalResponse}
use Rattle.rounds_judge.specs.Table.GoalTable.{AreNew, GoalTable, unanswered}
use Rattle.rounds_judge.specs.Table.Keys.{Key}
use Rattle.candidate_rounds.specs.Evaluators.Known.{Evaluator, table_of}
use Rattle.candidate_rounds.specs.Table.Goals.{Via, key_seen, keys_seen}
use Rattle.candidate_rounds.specs.Table.Normalized.{IsNormalizedAt, answered, stopped}
use Rattle.candidate_rounds.proofs.Table.KeptAsked.{asked-new, normalized-before, seen-kept}
use Rattle.candidate_rounds.proofs.Table.Rounding.{is-asking}
use Rattle.candidate_rounds.proofs.rounds.Rounds.normalized_once.Goals as goal

pub returns-in-Ok-clause-answer : goal.returns-in-Ok-clause-answer
returns-in-Ok-clause-answer c =
    let r = c.args.self.now in
    let s = c.set_asking.new.self in
    let n = c.normalized.new.self in
    let item = c.args.alias.id.0 in
    let one = is-asking r s c.set_asking.ensures in
    let key : key_seen s.context.trees c.args.key ≡ key_seen r.context.trees c.args.key = ap (λ (x : Evaluator). key_seen x.context.trees c.args.key) c.set_asking.ensures in
    let there = subst (λ (q : GoalTable Via × Key). IsNormalizedAt n.context.trees s q.0 q.1 item c.args.way c.normalized.result) (λ i. (one.table i, key i)) c.normalized.ensures.answer in
    let before = normalized-before one.stays (table_of r) (key_seen r.context.trees c.args.key) item n.context.trees c.args.way c.normalized.result there in
    let trees : n.context.trees ≡ c.set_asking-in-Ok.new.self.context.trees = sym (ap (λ (x : Evaluator). x.context.trees) (c.set_asking-in-Ok.ensures) ∙ ap (λ (x : Evaluator). x.context.trees) c.keep_asked.ensures) in
    subst (λ (q : List Tree × Result (Option CanonicalResponse) Stop). IsNormalizedAt q.0 r (table_of r) (key_seen r.context.trees c.args.key) item c.args.way q.1) (λ i. (trees i, c.in-Ok.is i)) before

pub returns-in-Ok-clause-left : goal.returns-in-Ok-clause-left
returns-in-Ok-clause-left c =
    let r = c.args.self.now in
    let s = c.set_asking.new.self in
    let n = c.normalized.new.self in
    let k = c.keep_asked.new.self in
    let f = c.set_asking-in-Ok.new.self in
    let one = is-asking r s c.set_asking.ensures in
    let last = is-asking k f c.set_asking-in-Ok.ensures in
    let before : table_of n ≡ table_of r = c.normalized.ensures.table ∙ one.table in
    let asked = keys_seen n.context.trees n.goals.asked in
    let new = subst (λ T. AreNew T asked) before (asked-new n.context n.inference n.marks n.normal n.opaques n.goals c.recall_well_kept.ensures) in
    let kept : table_of k ≡ table_of n ++ map unanswered asked = ap table_of c.keep_asked.ensures ∙ seen-kept n.context.trees n.goals in
    answered asked new (last.table ∙ (kept ∙ ap (λ T. T ++ map unanswered asked) before))

pub returns-in-Err-clause-answer : goal.returns-in-Err-clause-answer
returns-in-Err-clause-answer c =
    let r = c.args.self.now in
    let s = c.set_asking.new.self in
    let n = c.normalized.new.self in
    let item = c.args.alias.id.0 in
    let one = is-asking r s c.set_asking.ensures in
    let key : key_seen s.context.trees c.args.key ≡ key_seen r.context.trees c.args.key = ap (λ (x : Evaluator). key_seen x.context.trees c.args.key) c.set_asking.ensures in
    let there = subst (λ (q : GoalTable Via × Key). IsNormalizedAt n.context.trees s q.0 q.1 item c.args.way c.normalized.result) (λ i. (one.table i, key i)) c.normalized.ensures.answer in
    let before = normalized-before one.stays (table_of r) (key_seen r.context.trees c.args.key) item n.context.trees c.args.way c.normalized.result there in
    let trees : n.context.trees ≡ c.set_asking-in-Err.new.self.context.trees = sym (ap (λ (x : Evaluator). x.context.trees) c.set_asking-in-Err.ensures) in
    subst (λ (q : List Tree × Result (Option CanonicalResponse) Stop). IsNormalizedAt q.0 r (table_of r) (key_seen r.context.trees c.args.key) item c.args.way q.1) (λ i. (trees i, c.in-Err.is i)) before

pub returns-in-Err-clause-left : goal.returns-in-Err-clause-left
returns-in-Err-clause-left c =
    let r = c.args.self.now in
    let one = is-asking r c.set_asking.new.self c.set_asking.ensures in
    let last = is-asking c.normalized.new.self c.set_asking-in-Err.new.self c.set_asking-in-Err.ensures in
    stopped (last.table ∙ (c.normalized.ensures.table ∙ one.table))
