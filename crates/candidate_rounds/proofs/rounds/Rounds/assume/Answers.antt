use Rattle.std.proofs.Common.{◌≡◌, ◌⊎◌, inl, ◌≤◌, [], ◌∷◌, ◌++◌, length, refl, sym, ◌∙◌, ap, subst}
use Rattle.ir_trees.specs.declared.ir.stop.Stop.TheVariants.{EvaluatorLimit}
use Rattle.candidate_eval.specs.Interface.Noting.{IsNotingStop}
use Rattle.rounds_judge.specs.Table.GoalTable.{Entry, may_be_asked, most_goals}
use Rattle.candidate_rounds.proofs.Stops.ResponseStops.{passed-on}
use Rattle.candidate_rounds.specs.Evaluators.Known.{listing, table_of}
use Rattle.candidate_rounds.specs.Table.Goals.{Via, key_seen}
use Rattle.candidate_rounds.specs.Table.Steps.{step_entry}
use Rattle.derivations.specs.DerivedTables.{TableIsDerived}
use Rattle.derivations.proofs.Declared.{each_table}
use Rattle.candidate_rounds.proofs.Table.Sources.{with-step-new, with-step-there}
use Rattle.candidate_rounds.proofs.Table.StepStops.{entering-stop, memory-noting}
use Rattle.candidate_rounds.proofs.Table.Steps.{entered-step, entry-like}
use Rattle.candidate_rounds.proofs.rounds.Rounds.assume.Goals as goal

pub enter_known-requires-clause-derived : goal.enter_known-requires-clause-derived
enter_known-requires-clause-derived c =
    let r = c.args.self.now in
    let ts = r.context.trees in
    let s = c.args.step.now in
    let same = entry-like ts s c.in_ok-key.key c.in_ok-slot.slot (c.in_ok-key.ensures.is ts) c.in_ok-slot.ensures.says in
    subst (λ (e : Entry Via). TableIsDerived r.context (listing r) (table_of r ++ e ∷ [])) (sym same) (each_table r.context (listing r) (table_of r ++ step_entry ts s ∷ []) c.requires.holds)

pub returns-in_err-key-clause-cause : goal.returns-in_err-key-clause-cause
returns-in_err-key-clause-cause c =
    let r = c.args.self.now in
    passed-on (λ s. IsNotingStop r.context.trees s ⊎ ((s ≡ EvaluatorLimit) × (most_goals ≤ length r.goals.table))) c.from_residual.result c.in_err-key.field-0.0 c.from_residual.ensures.1
    (inl (memory-noting c.in_err-key.ensures.cause))

pub returns-in_err-enter_known-clause-cause : goal.returns-in_err-enter_known-clause-cause
returns-in_err-enter_known-clause-cause c =
    let r = c.args.self.now in
    passed-on (λ s. IsNotingStop r.context.trees s ⊎ ((s ≡ EvaluatorLimit) × (most_goals ≤ length r.goals.table))) c.from_residual-in_err-enter_known.result c.in_err-enter_known.field-0.0 c.from_residual-in_err-enter_known.ensures.1
    (entering-stop (length r.goals.table) c.in_err-enter_known.ensures.cause)

pub returns-then-not-branch-clause-not_asked : goal.returns-then-not-branch-clause-not_asked
returns-then-not-branch-clause-not_asked c = λ _. sym (ap may_be_asked (c.in_ok-key.ensures.is c.args.self.now.context.trees)) ∙ (sym c.in_ok-may_be_asked.ensures.is ∙ c.if-not-branch.true)

pub returns-then-is_some-clause-table : goal.returns-then-is_some-clause-table
returns-then-is_some-clause-table c = λ _.
    let r = c.args.self.now in
    let ts = r.context.trees in
    with-step-there ts (table_of r) (table_of r) c.args.step.now (key_seen ts c.in_ok-key.key) c.place_of.result (c.in_ok-key.ensures.is ts) c.place_of.ensures (sym c.is_some.ensures ∙ c.if-is_some.true) refl

pub returns-clause-table : goal.returns-clause-table
returns-clause-table c = λ _.
    let r = c.args.self.now in
    let n = c.enter_known.new.self in
    let ts = r.context.trees in
    let s = c.args.step.now in
    let k = c.in_ok-key.key in
    let slot = c.in_ok-slot.slot in
    let same = c.in_ok-key.ensures.is ts in
    let entered = entered-step r n s k slot same c.in_ok-slot.ensures.says c.in_ok-enter_known.ensures.entered in
    with-step-new ts (table_of r) (table_of n) s (key_seen ts k) c.place_of.result same c.place_of.ensures (sym c.is_some.ensures ∙ c.if-is_some.false) entered
