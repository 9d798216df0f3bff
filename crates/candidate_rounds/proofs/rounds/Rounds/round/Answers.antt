use Rattle.std.proofs.Common.{◌<◌, ◌++◌, Some, length, map, reverse, slice_get, sym, ◌∙◌, ap, subst, arith}
use Rattle.candidate_eval.specs.Interface.Noting.{refused_note}
use Rattle.candidate_rounds.specs.Calls.Writing.{ChangeTableOf}
use Rattle.candidate_rounds.specs.Table.Goals.{Goals, table_seen}
use Rattle.candidate_rounds.specs.Evaluators.Known.{Evaluator, IsEvaluator, table_of}
use Rattle.candidate_rounds.specs.Table.Running.{AreWritten, IsRoundStop, computing, round_looking, verdict_at}
use Rattle.candidate_rounds.specs.Table.Entries.{all_written_into, has_one, new_entry}
use Rattle.candidate_rounds.proofs.Evaluators.Between.{parts}
use Rattle.candidate_rounds.proofs.Table.Changing.{are-verdicts}
use Rattle.candidate_rounds.proofs.Table.Derived.{left-evaluator}
use Rattle.candidate_rounds.proofs.Stops.ResponseStops.{passed-growth}
use Rattle.candidate_rounds.proofs.Table.Rounding.{place-written, round-written}
use Rattle.candidate_rounds.proofs.Table.Running.{same-length, seen-length, written-length}
use Rattle.candidate_rounds.proofs.Table.Tabled.{table-parts}
use Rattle.rounds_judge.specs.Table.Rounds.{IsFinalEntry, IsRound}
use Rattle.candidate_rounds.proofs.rounds.Rounds.round.Goals as goal

pub copy_at-requires : goal.copy_at-requires
copy_at-requires c =
    let r = c.args.self.now in
    let ws = c.in_ok-written.written.items in
    let said = c.in_ok-written.ensures in
    let many = same-length r c.all_written.new.self said.table in
    let place = c.requires.place in
    let below : c.args.place < length c.all_written.new.self.goals.table = omega (arith, many, place) in
    let n = c.all_written.new.self in
    let there = place-written n.context.trees (computing r) (table_of r) n.goals ws said.table said.written c.args.place below c.requires.open in
    ap (λ xs. has_one (slice_get xs c.args.place)) c.as_slice.ensures.value ∙ ap has_one there.there

pub returns-in_err-verdict-clause-cause : goal.returns-in_err-verdict-clause-cause
returns-in_err-verdict-clause-cause c =
    passed-growth (IsRoundStop _ c.args.self.now (table_of c.args.self.now)) c.from_residual-in_err-verdict.result c.in_err-verdict.field-0.0 c.from_residual-in_err-verdict.ensures.1 c.in_err-verdict.ensures.cause (round_looking refused_note)

pub is_still-is_still-requires : goal.is_still-is_still-requires
is_still-is_still-requires c =
    let said = c.in_ok-written.ensures in
    let n = c.all_written.new.self in
    ap length c.as_slice-2.ensures.value
    ∙ (written-length IsFinalEntry n.context.trees (computing c.args.self.now) (table_of c.args.self.now) (table_of c.args.self.now) c.in_ok-written.written.items said.written
    ∙ (seen-length c.args.self.now ∙ sym (same-length c.args.self.now n said.table)))

pub write-requires : goal.write-requires
write-requires c =
    let r = c.args.self.now in
    let said = c.in_ok-written.ensures in
    let n = c.all_written.new.self in
    written-length IsFinalEntry n.context.trees (computing r) (table_of r) (table_of r) c.in_ok-written.written.items said.written
    ∙ (seen-length r ∙ (sym (same-length r n said.table) ∙ sym (ap (λ (x : Evaluator). length x.goals.table) c.self.view_is)))

pub returns-clause-round : goal.returns-clause-round
returns-clause-round c =
    let r = c.args.self.now in
    let ws = c.in_ok-written.written.items in
    let said = c.in_ok-written.ensures in
    let many = same-length r c.all_written.new.self said.table in
    let place = c.requires.place in
    let below : c.args.place < length c.all_written.new.self.goals.table = omega (arith, many, place) in
    let s = c.self.inside in
    let same = ap table_of c.self.view_is ∙ said.table in
    let all = subst (λ (x : Evaluator). AreWritten IsFinalEntry x.context.trees (computing r) (table_of r) (table_of r) ws) (sym c.self.view_is) said.written in
    let left = ap (λ (g : Goals). table_seen c.self.inside.cx.trees g.table) c.write.ensures in
    subst (IsRound (computing r) (table_of r)) (sym left) (round-written IsFinalEntry s.cx.trees (computing r) (table_of r) s.goals ws same all (parts c.self.invariant).tabled)

pub returns-clause-sort : goal.returns-clause-sort
returns-clause-sort c =
    let r = c.args.self.now in
    let ws = c.in_ok-written.written.items in
    let said = c.in_ok-written.ensures in
    let many = same-length r c.all_written.new.self said.table in
    let place = c.requires.place in
    let below : c.args.place < length c.all_written.new.self.goals.table = omega (arith, many, place) in
    let s = c.self.inside in
    let same = ap table_of c.self.view_is ∙ said.table in
    let all = subst (λ (x : Evaluator). AreWritten IsFinalEntry x.context.trees (computing r) (table_of r) (table_of r) ws) (sym c.self.view_is) said.written in
    let here = subst (λ (x : Evaluator). c.args.place < length x.goals.table) (sym c.self.view_is) below in
    let there = place-written s.cx.trees (computing r) (table_of r) s.goals ws same all c.args.place here c.requires.open in
    let got = ap (λ xs. slice_get xs c.args.place) c.as_slice.ensures.value ∙ there.there in
    let w = there.written in
    c.in_ok-verdict.ensures.sort s.cx.trees w got there.sort

pub returns-clause-answer : goal.returns-clause-answer
returns-clause-answer c =
    let r = c.args.self.now in
    let ws = c.in_ok-written.written.items in
    let said = c.in_ok-written.ensures in
    let many = same-length r c.all_written.new.self said.table in
    let place = c.requires.place in
    let below : c.args.place < length c.all_written.new.self.goals.table = omega (arith, many, place) in
    let s = c.self.inside in
    let same = ap table_of c.self.view_is ∙ said.table in
    let all = subst (λ (x : Evaluator). AreWritten IsFinalEntry x.context.trees (computing r) (table_of r) (table_of r) ws) (sym c.self.view_is) said.written in
    let here = subst (λ (x : Evaluator). c.args.place < length x.goals.table) (sym c.self.view_is) below in
    let there = place-written s.cx.trees (computing r) (table_of r) s.goals ws same all c.args.place here c.requires.open in
    let got = ap (λ xs. slice_get xs c.args.place) c.as_slice.ensures.value ∙ there.there in
    let left = ap (λ (g : Goals). table_seen c.self.inside.cx.trees g.table) c.write.ensures in
    let w = there.written in
    ap (λ T. verdict_at T c.args.place) left
    ∙ (there.verdict
    ∙ ap Some (sym (c.in_ok-verdict.ensures.is s.cx.trees w got)))

pub returns-clause-still : goal.returns-clause-still
returns-clause-still c = λ t.
    let ws = c.in_ok-written.written.items in
    let said = c.in_ok-written.ensures in
    let n = c.all_written.new.self in
    let left = ap (λ (g : Goals). table_seen c.self.inside.cx.trees g.table) c.write.ensures in
    let now = ap (λ (x : Evaluator). table_seen x.context.trees (all_written_into x.goals.table ws ++ map new_entry x.goals.asked)) c.self.view_is in
    let same = ap (λ xs. table_seen n.context.trees (all_written_into n.goals.table xs ++ map new_entry n.goals.asked)) (sym c.as_slice-2.ensures.value) ∙ c.is_still-is_still.ensures.same t in
    left ∙ (now ∙ (same ∙ said.table))

pub returns-clause-changes : goal.returns-clause-changes
returns-clause-changes c = λ t e.
    let r = c.args.self.now in
    let s = c.self.inside in
    let ws = c.in_ok-written.written.items in
    let said = c.in_ok-written.ensures in
    let left = ap (λ (g : Goals). table_seen s.cx.trees g.table) c.write.ensures in
    let same = ap table_of c.self.view_is ∙ said.table in
    let all = subst (λ (x : Evaluator). AreWritten IsFinalEntry x.context.trees (computing r) (table_of r) (table_of r) ws) (sym c.self.view_is) said.written in
    let here = subst (λ T. AreWritten IsFinalEntry s.cx.trees (computing r) (table_of r) T ws) (sym same) all in
    let are = are-verdicts IsFinalEntry s.cx.trees (computing r) (table_of r) s.goals.table ws (table-parts (parts c.self.invariant).tabled).entries here in
    let n = c.all_written.new.self in
    let changes = subst (ChangeTableOf n.context.trees n.goals.table n.goals.asked) c.as_slice-2.ensures.value (c.is_still-is_still.ensures.other t) in
    subst (λ (x : Evaluator). ChangeTableOf x.context.trees x.goals.table x.goals.asked ws) (sym c.self.view_is) changes are (sym left ∙ (e ∙ sym same))

pub invariant_of-self : goal.invariant_of-self
invariant_of-self c =
    let s = c.self.inside in
    let said = c.in_ok-written.ensures in
    let v : Evaluator = record { context = s.cx; mode = s.mode; normal = record { pairs = s.normal.items; is_open = s.opens }; opaques = s.opaques.items; goals = s.goals; inference = s.inference; marks = reverse s.probes.items } in
    subst (IsEvaluator s.cx s.inference (reverse s.probes.items) (record { pairs = s.normal.items; is_open = s.opens }) s.opaques.items) (sym c.write.ensures)
    (left-evaluator IsFinalEntry c.args.self.now c.all_written.new.self v c.in_ok-written.written.items c.recall_trees_fit.ensures.fit c.recall_trees_fit.ensures.counted c.recall_well_kept.ensures c.self.view_is said.stays said.table said.written c.self.invariant)
