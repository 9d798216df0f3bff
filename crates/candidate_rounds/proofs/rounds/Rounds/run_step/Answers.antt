use Rattle.std.proofs.Common.{List, inl, inr, sym, ◌∙◌, ap, subst, arith}
use Rattle.ir_trees.specs.Syntax.Trees.{Tree}
use Rattle.candidate_assembly.specs.Goals.TraitGoals.{trait_goal}
use Rattle.derivations.specs.DerivedTables.{TableIsDerived}
use Rattle.candidate_rounds.proofs.Evaluators.Between.{parts}
use Rattle.candidate_rounds.proofs.Table.Derived.{derived-beside}
use Rattle.candidate_rounds.specs.Table.Goals.{Via}
use Rattle.candidate_rounds.specs.Evaluators.Known.{Evaluator, listing, state, table_of}
use Rattle.candidate_rounds.specs.Table.Running.{IsPlaceOf, IsRunStop, computing, run_entering, run_round}
use Rattle.candidate_rounds.proofs.Stops.ResponseStops.{passed-on}
use Rattle.candidate_rounds.proofs.Table.Rounding.{err-table, if-err, is-asking, ok-ok, ok-table, place-below, then-err}
use Rattle.candidate_rounds.proofs.Table.Settled.{place-in-settled, rest-before, settles-before}
use Rattle.candidate_rounds.proofs.Table.Running.{entering-before, round-stop-before, seen-length, stays-trans}
use Rattle.rounds_judge.specs.Table.GoalTable.{GoalTable, entered_in, may_be_asked}
use Rattle.rounds_judge.specs.Table.Keys.{Key, key_at}
use Rattle.rounds_judge.specs.Table.Rounds.{IsAtRest, Settles}
use Rattle.candidate_rounds.proofs.rounds.Rounds.run_step.Goals as goal

pub enter_goal-requires-clause-asked : goal.enter_goal-requires-clause-asked
enter_goal-requires-clause-asked c =
    let r = c.args.self.now in
    let one = is-asking r c.set_asking.new.self c.set_asking.ensures in
    let key = ap (λ (x : Evaluator). key_at (state x) (trait_goal x.context.trees c.args.param_env c.args.predicate)) c.set_asking.ensures in
    let k = key_at (state r) (trait_goal r.context.trees c.args.param_env c.args.predicate) in
    ap may_be_asked key ∙ c.requires.asked

pub returns-in_err-place-clause-stays : goal.returns-in_err-place-clause-stays
returns-in_err-place-clause-stays c =
    let r = c.args.self.now in
    let one = is-asking r c.set_asking.new.self c.set_asking.ensures in
    let key = ap (λ (x : Evaluator). key_at (state x) (trait_goal x.context.trees c.args.param_env c.args.predicate)) c.set_asking.ensures in
    let k = key_at (state r) (trait_goal r.context.trees c.args.param_env c.args.predicate) in
    stays-trans one.stays c.in_err-place.ensures.stays

pub returns-in_err-place-clause-cause : goal.returns-in_err-place-clause-cause
returns-in_err-place-clause-cause c =
    let r = c.args.self.now in
    let one = is-asking r c.set_asking.new.self c.set_asking.ensures in
    let key = ap (λ (x : Evaluator). key_at (state x) (trait_goal x.context.trees c.args.param_env c.args.predicate)) c.set_asking.ensures in
    let k = key_at (state r) (trait_goal r.context.trees c.args.param_env c.args.predicate) in
    let stop = c.in_err-place.field-0.0 in
    let new = c.enter_goal.new.self in
    let goal = ap (λ (x : Evaluator). trait_goal x.context.trees c.args.param_env c.args.predicate) c.set_asking.ensures in
    passed-on (IsRunStop new.context.trees r (trait_goal r.context.trees c.args.param_env c.args.predicate) (table_of new)) c.from_residual.result stop c.from_residual.ensures.1
    (run_entering (entering-before one.stays new.context.trees _ _ (table_of new) stop goal c.in_err-place.ensures.cause))

pub step_unless_final-answer-requires : goal.step_unless_final-answer-requires
step_unless_final-answer-requires c =
    let r = c.args.self.now in
    let one = is-asking r c.set_asking.new.self c.set_asking.ensures in
    let key = ap (λ (x : Evaluator). key_at (state x) (trait_goal x.context.trees c.args.param_env c.args.predicate)) c.set_asking.ensures in
    let k = key_at (state r) (trait_goal r.context.trees c.args.param_env c.args.predicate) in
    let b = c.enter_goal.new.self in
    let d = c.go_on_noting.new.self in
    let two = is-asking b d (c.go_on_noting.ensures ∙ c.set_asking-2.ensures) in
    let place = subst (λ (x : Key). IsPlaceOf (table_of b) x c.in_ok-place.place) key c.in_ok-place.ensures.place in
    let here = subst (λ T. IsPlaceOf T k c.in_ok-place.place) (sym two.table) place in
    let below = place-below (table_of d) k c.in_ok-place.place here in
    let many = seen-length d in
    omega (arith, below, many)

pub returns-clause-stays : goal.returns-clause-stays
returns-clause-stays c =
    let r = c.args.self.now in
    let one = is-asking r c.set_asking.new.self c.set_asking.ensures in
    let key = ap (λ (x : Evaluator). key_at (state x) (trait_goal x.context.trees c.args.param_env c.args.predicate)) c.set_asking.ensures in
    let k = key_at (state r) (trait_goal r.context.trees c.args.param_env c.args.predicate) in
    let b = c.enter_goal.new.self in
    let d = c.go_on_noting.new.self in
    let two = is-asking b d (c.go_on_noting.ensures ∙ c.set_asking-2.ensures) in
    let place = subst (λ (x : Key). IsPlaceOf (table_of b) x c.in_ok-place.place) key c.in_ok-place.ensures.place in
    let e = c.step_unless_final-answer.new.self in
    let f = c.set_asking-3.new.self in
    let three = is-asking e f c.set_asking-3.ensures in
    let before = stays-trans one.stays (stays-trans c.in_ok-place.ensures.stays two.stays) in
    let here = subst (λ T. IsPlaceOf T k c.in_ok-place.place) (sym two.table) place in
    let entered = two.table ∙ (c.in_ok-place.ensures.entered ∙ (ap (entered_in (table_of c.set_asking.new.self)) key ∙ ap (λ T. entered_in T k) one.table)) in
    stays-trans before (stays-trans c.step_unless_final-answer.ensures.stays three.stays)

pub returns-clause-settled : goal.returns-clause-settled
returns-clause-settled c =
    let r = c.args.self.now in
    let one = is-asking r c.set_asking.new.self c.set_asking.ensures in
    let key = ap (λ (x : Evaluator). key_at (state x) (trait_goal x.context.trees c.args.param_env c.args.predicate)) c.set_asking.ensures in
    let k = key_at (state r) (trait_goal r.context.trees c.args.param_env c.args.predicate) in
    let b = c.enter_goal.new.self in
    let d = c.go_on_noting.new.self in
    let two = is-asking b d (c.go_on_noting.ensures ∙ c.set_asking-2.ensures) in
    let place = subst (λ (x : Key). IsPlaceOf (table_of b) x c.in_ok-place.place) key c.in_ok-place.ensures.place in
    let e = c.step_unless_final-answer.new.self in
    let f = c.set_asking-3.new.self in
    let three = is-asking e f c.set_asking-3.ensures in
    let before = stays-trans one.stays (stays-trans c.in_ok-place.ensures.stays two.stays) in
    let here = subst (λ T. IsPlaceOf T k c.in_ok-place.place) (sym two.table) place in
    let entered = two.table ∙ (c.in_ok-place.ensures.entered ∙ (ap (entered_in (table_of c.set_asking.new.self)) key ∙ ap (λ T. entered_in T k) one.table)) in
    ok-table c.step_unless_final-answer.result
    (λ ran. subst (λ U. Settles (computing r) k 1 (entered_in (table_of r) k) U) (sym three.table)
    (subst (λ T. Settles (computing r) k 1 T (table_of e)) entered (settles-before r d before k 1 (table_of d) (table_of e) (ran k here))))
    c.step_unless_final-answer.ensures.settled

pub returns-clause-cause : goal.returns-clause-cause
returns-clause-cause c =
    let r = c.args.self.now in
    let one = is-asking r c.set_asking.new.self c.set_asking.ensures in
    let key = ap (λ (x : Evaluator). key_at (state x) (trait_goal x.context.trees c.args.param_env c.args.predicate)) c.set_asking.ensures in
    let k = key_at (state r) (trait_goal r.context.trees c.args.param_env c.args.predicate) in
    let b = c.enter_goal.new.self in
    let d = c.go_on_noting.new.self in
    let two = is-asking b d (c.go_on_noting.ensures ∙ c.set_asking-2.ensures) in
    let place = subst (λ (x : Key). IsPlaceOf (table_of b) x c.in_ok-place.place) key c.in_ok-place.ensures.place in
    let e = c.step_unless_final-answer.new.self in
    let f = c.set_asking-3.new.self in
    let three = is-asking e f c.set_asking-3.ensures in
    let before = stays-trans one.stays (stays-trans c.in_ok-place.ensures.stays two.stays) in
    let here = subst (λ T. IsPlaceOf T k c.in_ok-place.place) (sym two.table) place in
    let entered = two.table ∙ (c.in_ok-place.ensures.entered ∙ (ap (entered_in (table_of c.set_asking.new.self)) key ∙ ap (λ T. entered_in T k) one.table)) in
    let trees = sym (ap (λ (x : Evaluator). x.context.trees) c.set_asking-3.ensures) in
    let same = sym three.table in
    if-err c.step_unless_final-answer.result
    (λ s h. subst (λ (x : List Tree × GoalTable Via). IsRunStop x.0 r (trait_goal r.context.trees c.args.param_env c.args.predicate) x.1 s) (λ i. (trees i, same i)) (run_round (round-stop-before before e.context.trees (table_of e) s h)))
    c.step_unless_final-answer.ensures.cause

pub returns-in_err-place-clause-derived : goal.returns-in_err-place-clause-derived
returns-in_err-place-clause-derived c =
    let r = c.args.self.now in
    let one = is-asking r c.set_asking.new.self c.set_asking.ensures in
    let b = c.enter_goal.new.self in
    subst (TableIsDerived b.context (listing b)) (sym (c.in_err-place.ensures.stopped ∙ one.table))
    (derived-beside r b (stays-trans one.stays c.in_err-place.ensures.stays) (table_of r) (parts c.recall_well_kept.ensures).derived)

pub returns-clause-derived : goal.returns-clause-derived
returns-clause-derived c = (parts c.recall_well_kept-2.ensures).derived

pub returns-in_err-place-clause-stopped : goal.returns-in_err-place-clause-stopped
returns-in_err-place-clause-stopped c =
    let one = is-asking c.args.self.now c.set_asking.new.self c.set_asking.ensures in
    err-table c.from_residual.result (inl (c.in_err-place.ensures.stopped ∙ one.table))

pub returns-clause-stopped : goal.returns-clause-stopped
returns-clause-stopped c =
    let r = c.args.self.now in
    let one = is-asking r c.set_asking.new.self c.set_asking.ensures in
    let key = ap (λ (x : Evaluator). key_at (state x) (trait_goal x.context.trees c.args.param_env c.args.predicate)) c.set_asking.ensures in
    let k = key_at (state r) (trait_goal r.context.trees c.args.param_env c.args.predicate) in
    let b = c.enter_goal.new.self in
    let d = c.go_on_noting.new.self in
    let two = is-asking b d (c.go_on_noting.ensures ∙ c.set_asking-2.ensures) in
    let e = c.step_unless_final-answer.new.self in
    let f = c.set_asking-3.new.self in
    let three = is-asking e f c.set_asking-3.ensures in
    let entered = two.table ∙ (c.in_ok-place.ensures.entered ∙ (ap (entered_in (table_of c.set_asking.new.self)) key ∙ ap (λ T. entered_in T k) one.table)) in
    then-err c.step_unless_final-answer.result (λ same. inr (three.table ∙ (same ∙ entered))) c.step_unless_final-answer.ensures.stopped

pub returns-clause-last : goal.returns-clause-last
returns-clause-last c =
    let r = c.args.self.now in
    let one = is-asking r c.set_asking.new.self c.set_asking.ensures in
    let key = ap (λ (x : Evaluator). key_at (state x) (trait_goal x.context.trees c.args.param_env c.args.predicate)) c.set_asking.ensures in
    let k = key_at (state r) (trait_goal r.context.trees c.args.param_env c.args.predicate) in
    let b = c.enter_goal.new.self in
    let d = c.go_on_noting.new.self in
    let two = is-asking b d (c.go_on_noting.ensures ∙ c.set_asking-2.ensures) in
    let place = subst (λ (x : Key). IsPlaceOf (table_of b) x c.in_ok-place.place) key c.in_ok-place.ensures.place in
    let e = c.step_unless_final-answer.new.self in
    let f = c.set_asking-3.new.self in
    let three = is-asking e f c.set_asking-3.ensures in
    let before = stays-trans one.stays (stays-trans c.in_ok-place.ensures.stays two.stays) in
    let here = subst (λ T. IsPlaceOf T k c.in_ok-place.place) (sym two.table) place in
    ok-ok c.step_unless_final-answer.result
    (λ b ran last t. subst (IsAtRest (computing r) k) (sym three.table)
    (rest-before before k (table_of e) (last t k (place-in-settled (computing d) k 1 c.in_ok-place.place (table_of d) (table_of e) (ran k here) here))))
    c.step_unless_final-answer.ensures.settled c.step_unless_final-answer.ensures.last
