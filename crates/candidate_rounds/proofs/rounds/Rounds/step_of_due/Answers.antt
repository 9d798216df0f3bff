use Rattle.std.proofs.Common.{◌<◌, ◌++◌, Some, length, map, reverse, slice_get, sym, ◌∙◌, ap, subst, arith}
use Rattle.candidate_eval.specs.Interface.Noting.{refused_note}
use Rattle.candidate_rounds.specs.Calls.Writing.{ChangeTableOf}
use Rattle.candidate_rounds.specs.Table.Goals.{Goals, table_seen}
use Rattle.candidate_rounds.specs.Evaluators.Known.{Evaluator, IsEvaluator, table_of}
use Rattle.candidate_rounds.specs.Table.Running.{AreWritten, IsRoundStop, computing, round_looking, verdict_at}
use Rattle.candidate_rounds.specs.Table.Entries.{all_written_into, has_one, new_entry}
use Rattle.candidate_rounds.proofs.Evaluators.Between.{parts}
use Rattle.candidate_rounds.proofs.Table.Changing.{are-verdicts}
use Rattle.candidate_rounds.proofs.Table.Derived.{left-evaluator}
use Rattle.candidate_rounds.proofs.Stops.ResponseStops.{passed-growth}
use Rattle.candidate_rounds.proofs.Table.Rounding.{place-written, round-written}
use Rattle.candidate_rounds.proofs.Table.Running.{same-length, seen-length, written-length}
use Rattle.candidate_rounds.proofs.Table.Tabled.{table-parts}
use Rattle.rounds_judge.specs.Table.Rounds.{AnyEntry, IsStep}
use Rattle.candidate_rounds.proofs.rounds.Rounds.step_of_due.Goals as goal

pub write-requires : goal.write-requires
write-requires c =
    let r = c.args.self.now in
    let said = c.in_ok-written.ensures in
    let n = c.due_written.new.self in
    written-length AnyEntry n.context.trees (computing r) (table_of r) (table_of r) c.in_ok-written.written.items said.written
    ∙ (seen-length r ∙ (sym (same-length r n said.table) ∙ sym (ap (λ (x : Evaluator). length x.goals.table) c.self.view_is)))

pub returns-clause-step : goal.returns-clause-step
returns-clause-step c =
    let r = c.args.self.now in
    let ws = c.in_ok-written.written.items in
    let said = c.in_ok-written.ensures in
    let s = c.self.inside in
    let same = ap table_of c.self.view_is ∙ said.table in
    let all = subst (λ (x : Evaluator). AreWritten AnyEntry x.context.trees (computing r) (table_of r) (table_of r) ws) (sym c.self.view_is) said.written in
    let left = ap (λ (g : Goals). table_seen c.self.inside.cx.trees g.table) c.write.ensures in
    subst (IsStep (computing r) (table_of r)) (sym left) (round-written AnyEntry s.cx.trees (computing r) (table_of r) s.goals ws same all (parts c.self.invariant).tabled)

pub invariant_of-self : goal.invariant_of-self
invariant_of-self c =
    let s = c.self.inside in
    let said = c.in_ok-written.ensures in
    let v : Evaluator = record { context = s.cx; mode = s.mode; normal = record { pairs = s.normal.items; is_open = s.opens }; opaques = s.opaques.items; goals = s.goals; inference = s.inference; marks = reverse s.probes.items } in
    subst (IsEvaluator s.cx s.inference (reverse s.probes.items) (record { pairs = s.normal.items; is_open = s.opens }) s.opaques.items) (sym c.write.ensures)
    (left-evaluator AnyEntry c.args.self.now c.due_written.new.self v c.in_ok-written.written.items c.recall_trees_fit.ensures.fit c.recall_trees_fit.ensures.counted c.recall_well_kept.ensures c.self.view_is said.stays said.table said.written c.self.invariant)
