use Rattle.std.proofs.Common.{List, Some, sym, ◌∙◌, ap, subst, arith}
use Rattle.ir_trees.specs.Syntax.Trees.{Tree}
use Rattle.candidate_assembly.specs.Goals.TraitGoals.{trait_goal}
use Rattle.candidate_assembly.proofs.Calls.Causes.{so-ok}
use Rattle.derivations.specs.DerivedTables.{AnswerIsDerived, TableIsDerived}
use Rattle.derivations.proofs.Declared.{answer_derived}
use Rattle.candidate_rounds.proofs.Evaluators.Between.{parts}
use Rattle.candidate_rounds.proofs.Table.Derived.{derived-beside}
use Rattle.candidate_rounds.specs.Table.Goals.{Via, verdict_seen}
use Rattle.candidate_rounds.specs.Evaluators.Known.{Evaluator, listing, state, table_of}
use Rattle.candidate_rounds.specs.Table.Running.{IsEnteringStop, IsLeftUnsettled, IsPlaceOf, IsRoundStop, IsRunStop, after_steps, computing, not_begun, run_entering, run_round}
use Rattle.candidate_rounds.proofs.Stops.ResponseStops.{passed-on}
use Rattle.candidate_rounds.proofs.Table.Rounding.{if-err, is-asking, ok-ok, ok-table, place-below, place-verdict, stop-after}
use Rattle.candidate_rounds.proofs.Table.Settled.{place-in-settled, settles-before, within-before}
use Rattle.candidate_rounds.proofs.Table.Running.{entering-before, round-stop-before, seen-length, stays-trans}
use Rattle.rounds_judge.specs.Table.GoalTable.{GoalTable, entered_in, may_be_asked, verdict_in}
use Rattle.rounds_judge.specs.Table.Keys.{Key, key_at}
use Rattle.rounds_judge.specs.Table.Rounds.{Settles, StepsWithin, most_steps}
use Rattle.candidate_rounds.proofs.rounds.Rounds.run_settled.Goals as goal

pub enter_goal-requires-clause-asked : goal.enter_goal-requires-clause-asked
enter_goal-requires-clause-asked c =
    let r = c.args.self.now in
    let one = is-asking r c.set_asking.new.self c.set_asking.ensures in
    let key = ap (λ (x : Evaluator). key_at (state x) (trait_goal x.context.trees c.args.param_env c.args.predicate)) c.set_asking.ensures in
    let k = key_at (state r) (trait_goal r.context.trees c.args.param_env c.args.predicate) in
    ap may_be_asked key ∙ c.requires.asked

pub returns-in_err-place-clause-stays : goal.returns-in_err-place-clause-stays
returns-in_err-place-clause-stays c =
    let r = c.args.self.now in
    let one = is-asking r c.set_asking.new.self c.set_asking.ensures in
    let key = ap (λ (x : Evaluator). key_at (state x) (trait_goal x.context.trees c.args.param_env c.args.predicate)) c.set_asking.ensures in
    let k = key_at (state r) (trait_goal r.context.trees c.args.param_env c.args.predicate) in
    stays-trans one.stays c.in_err-place.ensures.stays

pub returns-in_err-place-clause-stopped : goal.returns-in_err-place-clause-stopped
returns-in_err-place-clause-stopped c =
    let r = c.args.self.now in
    let one = is-asking r c.set_asking.new.self c.set_asking.ensures in
    let key = ap (λ (x : Evaluator). key_at (state x) (trait_goal x.context.trees c.args.param_env c.args.predicate)) c.set_asking.ensures in
    let g = trait_goal r.context.trees c.args.param_env c.args.predicate in
    let stop = c.in_err-place.field-0.0 in
    let new = c.enter_goal.new.self in
    let goal = ap (λ (x : Evaluator). trait_goal x.context.trees c.args.param_env c.args.predicate) c.set_asking.ensures in
    let left = c.in_err-place.ensures.stopped ∙ one.table in
    let entering = entering-before one.stays new.context.trees _ _ (table_of new) stop goal c.in_err-place.ensures.cause in
    passed-on (IsLeftUnsettled new.context.trees r g (table_of r) (table_of new)) c.from_residual.result stop c.from_residual.ensures.1
    (not_begun (subst (λ T. IsEnteringStop new.context.trees r g T stop) left entering) left)

pub returns-in_err-place-clause-cause : goal.returns-in_err-place-clause-cause
returns-in_err-place-clause-cause c =
    let r = c.args.self.now in
    let one = is-asking r c.set_asking.new.self c.set_asking.ensures in
    let key = ap (λ (x : Evaluator). key_at (state x) (trait_goal x.context.trees c.args.param_env c.args.predicate)) c.set_asking.ensures in
    let k = key_at (state r) (trait_goal r.context.trees c.args.param_env c.args.predicate) in
    let stop = c.in_err-place.field-0.0 in
    let new = c.enter_goal.new.self in
    let goal = ap (λ (x : Evaluator). trait_goal x.context.trees c.args.param_env c.args.predicate) c.set_asking.ensures in
    passed-on (IsRunStop new.context.trees r (trait_goal r.context.trees c.args.param_env c.args.predicate) (table_of new)) c.from_residual.result stop c.from_residual.ensures.1
    (run_entering (entering-before one.stays new.context.trees _ _ (table_of new) stop goal c.in_err-place.ensures.cause))

pub settle_table-answer-requires-clause-place : goal.settle_table-answer-requires-clause-place
settle_table-answer-requires-clause-place c =
    let r = c.args.self.now in
    let one = is-asking r c.set_asking.new.self c.set_asking.ensures in
    let key = ap (λ (x : Evaluator). key_at (state x) (trait_goal x.context.trees c.args.param_env c.args.predicate)) c.set_asking.ensures in
    let k = key_at (state r) (trait_goal r.context.trees c.args.param_env c.args.predicate) in
    let b = c.enter_goal.new.self in
    let d = c.note_look_ups.new.self in
    let two = is-asking b d (c.note_look_ups.ensures ∙ c.set_asking-2.ensures) in
    let place = subst (λ (x : Key). IsPlaceOf (table_of b) x c.in_ok-place.place) key c.in_ok-place.ensures.place in
    let here = subst (λ T. IsPlaceOf T k c.in_ok-place.place) (sym two.table) place in
    let below = place-below (table_of d) k c.in_ok-place.place here in
    let many = seen-length d in
    omega (arith, below, many)

pub returns-clause-stays : goal.returns-clause-stays
returns-clause-stays c =
    let r = c.args.self.now in
    let one = is-asking r c.set_asking.new.self c.set_asking.ensures in
    let key = ap (λ (x : Evaluator). key_at (state x) (trait_goal x.context.trees c.args.param_env c.args.predicate)) c.set_asking.ensures in
    let k = key_at (state r) (trait_goal r.context.trees c.args.param_env c.args.predicate) in
    let b = c.enter_goal.new.self in
    let d = c.note_look_ups.new.self in
    let two = is-asking b d (c.note_look_ups.ensures ∙ c.set_asking-2.ensures) in
    let place = subst (λ (x : Key). IsPlaceOf (table_of b) x c.in_ok-place.place) key c.in_ok-place.ensures.place in
    let e = c.settle_table-answer.new.self in
    let f = c.set_asking-3.new.self in
    let three = is-asking e f c.set_asking-3.ensures in
    let before = stays-trans one.stays (stays-trans c.in_ok-place.ensures.stays two.stays) in
    let here = subst (λ T. IsPlaceOf T k c.in_ok-place.place) (sym two.table) place in
    let entered = two.table ∙ (c.in_ok-place.ensures.entered ∙ (ap (entered_in (table_of c.set_asking.new.self)) key ∙ ap (λ T. entered_in T k) one.table)) in
    stays-trans before (stays-trans c.settle_table-answer.ensures.stays three.stays)

pub returns-clause-settled : goal.returns-clause-settled
returns-clause-settled c =
    let r = c.args.self.now in
    let one = is-asking r c.set_asking.new.self c.set_asking.ensures in
    let key = ap (λ (x : Evaluator). key_at (state x) (trait_goal x.context.trees c.args.param_env c.args.predicate)) c.set_asking.ensures in
    let k = key_at (state r) (trait_goal r.context.trees c.args.param_env c.args.predicate) in
    let b = c.enter_goal.new.self in
    let d = c.note_look_ups.new.self in
    let two = is-asking b d (c.note_look_ups.ensures ∙ c.set_asking-2.ensures) in
    let place = subst (λ (x : Key). IsPlaceOf (table_of b) x c.in_ok-place.place) key c.in_ok-place.ensures.place in
    let e = c.settle_table-answer.new.self in
    let f = c.set_asking-3.new.self in
    let three = is-asking e f c.set_asking-3.ensures in
    let before = stays-trans one.stays (stays-trans c.in_ok-place.ensures.stays two.stays) in
    let here = subst (λ T. IsPlaceOf T k c.in_ok-place.place) (sym two.table) place in
    let entered = two.table ∙ (c.in_ok-place.ensures.entered ∙ (ap (entered_in (table_of c.set_asking.new.self)) key ∙ ap (λ T. entered_in T k) one.table)) in
    ok-table c.settle_table-answer.result
    (λ ran. subst (λ U. Settles (computing r) k most_steps (entered_in (table_of r) k) U) (sym three.table)
    (subst (λ T. Settles (computing r) k most_steps T (table_of e)) entered (settles-before r d before k most_steps (table_of d) (table_of e) (ran k here))))
    c.settle_table-answer.ensures.settled

pub returns-clause-answer : goal.returns-clause-answer
returns-clause-answer c =
    let r = c.args.self.now in
    let one = is-asking r c.set_asking.new.self c.set_asking.ensures in
    let key = ap (λ (x : Evaluator). key_at (state x) (trait_goal x.context.trees c.args.param_env c.args.predicate)) c.set_asking.ensures in
    let k = key_at (state r) (trait_goal r.context.trees c.args.param_env c.args.predicate) in
    let b = c.enter_goal.new.self in
    let d = c.note_look_ups.new.self in
    let two = is-asking b d (c.note_look_ups.ensures ∙ c.set_asking-2.ensures) in
    let place = subst (λ (x : Key). IsPlaceOf (table_of b) x c.in_ok-place.place) key c.in_ok-place.ensures.place in
    let e = c.settle_table-answer.new.self in
    let f = c.set_asking-3.new.self in
    let three = is-asking e f c.set_asking-3.ensures in
    let before = stays-trans one.stays (stays-trans c.in_ok-place.ensures.stays two.stays) in
    let here = subst (λ T. IsPlaceOf T k c.in_ok-place.place) (sym two.table) place in
    let entered = two.table ∙ (c.in_ok-place.ensures.entered ∙ (ap (entered_in (table_of c.set_asking.new.self)) key ∙ ap (λ T. entered_in T k) one.table)) in
    let trees = ap (λ (x : Evaluator). x.context.trees) c.set_asking-3.ensures in
    ok-ok c.settle_table-answer.result
    (λ v ran is. ap (λ T. verdict_in T k) three.table
    ∙ (place-verdict (table_of e) k c.in_ok-place.place (place-in-settled (computing d) k most_steps c.in_ok-place.place (table_of d) (table_of e) (ran k here) here)
    ∙ (is ∙ ap (λ ts. Some (verdict_seen ts v)) (sym trees))))
    c.settle_table-answer.ensures.settled c.settle_table-answer.ensures.answer

pub returns-clause-stopped : goal.returns-clause-stopped
returns-clause-stopped c =
    let r = c.args.self.now in
    let one = is-asking r c.set_asking.new.self c.set_asking.ensures in
    let key = ap (λ (x : Evaluator). key_at (state x) (trait_goal x.context.trees c.args.param_env c.args.predicate)) c.set_asking.ensures in
    let k = key_at (state r) (trait_goal r.context.trees c.args.param_env c.args.predicate) in
    let b = c.enter_goal.new.self in
    let d = c.note_look_ups.new.self in
    let two = is-asking b d (c.note_look_ups.ensures ∙ c.set_asking-2.ensures) in
    let place = subst (λ (x : Key). IsPlaceOf (table_of b) x c.in_ok-place.place) key c.in_ok-place.ensures.place in
    let e = c.settle_table-answer.new.self in
    let f = c.set_asking-3.new.self in
    let three = is-asking e f c.set_asking-3.ensures in
    let before = stays-trans one.stays (stays-trans c.in_ok-place.ensures.stays two.stays) in
    let here = subst (λ T. IsPlaceOf T k c.in_ok-place.place) (sym two.table) place in
    let entered = two.table ∙ (c.in_ok-place.ensures.entered ∙ (ap (entered_in (table_of c.set_asking.new.self)) key ∙ ap (λ T. entered_in T k) one.table)) in
    let trees = sym (ap (λ (x : Evaluator). x.context.trees) c.set_asking-3.ensures) in
    let same = sym three.table in
    stop-after c.settle_table-answer.result
    (λ s left h. after_steps
    (subst (λ (x : List Tree × GoalTable Via). IsRoundStop x.0 r x.1 s) (λ i. (trees i, same i)) (round-stop-before before e.context.trees (table_of e) s h))
    (subst (λ U. StepsWithin (computing r) k most_steps (entered_in (table_of r) k) U) (sym three.table)
    (subst (λ T. StepsWithin (computing r) k most_steps T (table_of e)) entered (within-before r d before k most_steps (table_of d) (table_of e) (left k here)))))
    c.settle_table-answer.ensures.stopped c.settle_table-answer.ensures.cause

pub returns-clause-cause : goal.returns-clause-cause
returns-clause-cause c =
    let r = c.args.self.now in
    let one = is-asking r c.set_asking.new.self c.set_asking.ensures in
    let key = ap (λ (x : Evaluator). key_at (state x) (trait_goal x.context.trees c.args.param_env c.args.predicate)) c.set_asking.ensures in
    let k = key_at (state r) (trait_goal r.context.trees c.args.param_env c.args.predicate) in
    let b = c.enter_goal.new.self in
    let d = c.note_look_ups.new.self in
    let two = is-asking b d (c.note_look_ups.ensures ∙ c.set_asking-2.ensures) in
    let place = subst (λ (x : Key). IsPlaceOf (table_of b) x c.in_ok-place.place) key c.in_ok-place.ensures.place in
    let e = c.settle_table-answer.new.self in
    let f = c.set_asking-3.new.self in
    let three = is-asking e f c.set_asking-3.ensures in
    let before = stays-trans one.stays (stays-trans c.in_ok-place.ensures.stays two.stays) in
    let here = subst (λ T. IsPlaceOf T k c.in_ok-place.place) (sym two.table) place in
    let entered = two.table ∙ (c.in_ok-place.ensures.entered ∙ (ap (entered_in (table_of c.set_asking.new.self)) key ∙ ap (λ T. entered_in T k) one.table)) in
    let trees = sym (ap (λ (x : Evaluator). x.context.trees) c.set_asking-3.ensures) in
    let same = sym three.table in
    if-err c.settle_table-answer.result
    (λ s h. subst (λ (x : List Tree × GoalTable Via). IsRunStop x.0 r (trait_goal r.context.trees c.args.param_env c.args.predicate) x.1 s) (λ i. (trees i, same i)) (run_round (round-stop-before before e.context.trees (table_of e) s h)))
    c.settle_table-answer.ensures.cause

pub returns-in_err-place-clause-derived : goal.returns-in_err-place-clause-derived
returns-in_err-place-clause-derived c =
    let r = c.args.self.now in
    let one = is-asking r c.set_asking.new.self c.set_asking.ensures in
    let b = c.enter_goal.new.self in
    subst (TableIsDerived b.context (listing b)) (sym (c.in_err-place.ensures.stopped ∙ one.table))
    (derived-beside r b (stays-trans one.stays c.in_err-place.ensures.stays) (table_of r) (parts c.recall_well_kept.ensures).derived)

pub returns-clause-derived : goal.returns-clause-derived
returns-clause-derived c = (parts c.recall_well_kept-2.ensures).derived

pub returns-clause-yes : goal.returns-clause-yes
returns-clause-yes c =
    let r = c.args.self.now in
    let k = key_at (state r) (trait_goal r.context.trees c.args.param_env c.args.predicate) in
    let f = c.set_asking-3.new.self in
    so-ok c.settle_table-answer.result (λ v e. subst (AnswerIsDerived f.context (listing f) (table_of f) k) e (answer_derived f.context (listing f) (table_of f) k (parts c.recall_well_kept-2.ensures).derived)) (returns-clause-answer c)

pub settle_table-answer-requires-clause-asks : goal.settle_table-answer-requires-clause-asks
settle_table-answer-requires-clause-asks c = ap (λ (x : Evaluator). x.goals.asks) (c.note_look_ups.ensures ∙ c.set_asking-2.ensures)
