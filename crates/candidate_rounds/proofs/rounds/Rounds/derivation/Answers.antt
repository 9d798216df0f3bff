use Rattle.std.proofs.Common.{◌≡◌, length, sym, subst, ap, ◌∙◌, arith}
use Rattle.rounds_judge.specs.Table.GoalTable.{GoalTable}
use Rattle.rounds_judge.specs.Table.Keys.{Key, key_at}
use Rattle.candidate_rounds.specs.Evaluators.Known.{Evaluator, IsEvaluator, state, table_of}
use Rattle.candidate_rounds.specs.Table.Goals.{Goals, IsTabled, Via, key_seen, table_seen}
use Rattle.candidate_rounds.specs.Table.Running.{IsPlaceOf, StaysBesideTable}
use Rattle.candidate_rounds.specs.Table.Steps.{EndsAtPlace, IsOfGoal, no_goals}
use Rattle.candidate_rounds.proofs.Evaluators.Between.{parts}
use Rattle.candidate_rounds.proofs.Table.Finding.{only-place}
use Rattle.candidate_rounds.proofs.Table.Needed.{ends-of-goal}
use Rattle.candidate_rounds.proofs.Table.Rounding.{goes-stays, place-below}
use Rattle.candidate_rounds.proofs.Table.Running.{seen-length, stays-refl, stays-trans}
use Rattle.candidate_rounds.specs.Table.Sources.{WereBySource}
use Rattle.candidate_rounds.proofs.Table.Sources.{some-imply, were-since, were-until}
use Rattle.candidate_rounds.proofs.Table.Steps.{goals-back, stays-from, stays-with, table-back}
use Rattle.candidate_rounds.specs.Table.StepStops.{IsDerivationStop, derivation_key, derivation_search}
use Rattle.candidate_rounds.proofs.Table.StepStops.{search-before, stays-aside}
use Rattle.candidate_rounds.proofs.Stops.ResponseStops.{passed-on}
use Rattle.candidate_assembly.proofs.Calls.Causes.{so-err, so-ok}
use Rattle.candidate_assembly.specs.Goals.TraitGoals.{trait_goal}
use Rattle.candidate_rounds.proofs.rounds.Rounds.derivation.Goals as goal

pub returns-in_err-key-clause-stays : goal.returns-in_err-key-clause-stays
returns-in_err-key-clause-stays c = (goes-stays c.args.self.now c.key_for.new.self c.recall_well_kept.ensures c.key_for.ensures.goes c.key_for.ensures.state).0

pub returns-in_err-key-clause-table : goal.returns-in_err-key-clause-table
returns-in_err-key-clause-table c = (goes-stays c.args.self.now c.key_for.new.self c.recall_well_kept.ensures c.key_for.ensures.goes c.key_for.ensures.state).1

pub returns-in_default-clause-stays : goal.returns-in_default-clause-stays
returns-in_default-clause-stays c = (goes-stays c.args.self.now c.key_for.new.self c.recall_well_kept.ensures c.key_for.ensures.goes c.key_for.ensures.state).0

pub returns-in_default-clause-table : goal.returns-in_default-clause-table
returns-in_default-clause-table c = (goes-stays c.args.self.now c.key_for.new.self c.recall_well_kept.ensures c.key_for.ensures.goes c.key_for.ensures.state).1

pub derivation_of-answer-requires-clause-tabled : goal.derivation_of-answer-requires-clause-tabled
derivation_of-answer-requires-clause-tabled c =
    let r = c.key_for.new.self in
    subst (λ (x : Evaluator). IsTabled x.context.trees c.suspend_goals-goals.result) (sym c.suspend_goals-goals.ensures.out)
    (subst (IsTabled r.context.trees) (sym c.suspend_goals-goals.ensures.goals) (parts c.recall_well_kept-2.ensures).tabled)

pub restore_goals-requires : goal.restore_goals-requires
restore_goals-requires c =
    let r = c.key_for.new.self in
    let n = c.derivation_of-answer.new.self in
    let stays = stays-from r n no_goals (subst (λ (x : Evaluator). StaysBesideTable x n) c.suspend_goals-goals.ensures.out c.derivation_of-answer.ensures.stays) in
    subst (IsEvaluator n.context n.inference n.marks n.normal n.opaques) (sym c.suspend_goals-goals.ensures.goals) (goals-back r n c.recall_well_kept-2.ensures stays c.recall_well_kept-3.ensures)

pub returns-clause-stays : goal.returns-clause-stays
returns-clause-stays c =
    let r = c.key_for.new.self in
    let n = c.derivation_of-answer.new.self in
    let goes = goes-stays c.args.self.now r c.recall_well_kept.ensures c.key_for.ensures.goes c.key_for.ensures.state in
    stays-trans goes.0
    (subst (StaysBesideTable r) (sym c.restore_goals.ensures)
    (stays-with r n no_goals c.suspend_goals-goals.result (subst (λ (x : Evaluator). StaysBesideTable x n) c.suspend_goals-goals.ensures.out c.derivation_of-answer.ensures.stays)))

pub returns-clause-table : goal.returns-clause-table
returns-clause-table c =
    let r = c.key_for.new.self in
    let n = c.derivation_of-answer.new.self in
    let goes = goes-stays c.args.self.now r c.recall_well_kept.ensures c.key_for.ensures.goes c.key_for.ensures.state in
    let stays = stays-from r n no_goals (subst (λ (x : Evaluator). StaysBesideTable x n) c.suspend_goals-goals.ensures.out c.derivation_of-answer.ensures.stays) in
    ap table_of c.restore_goals.ensures ∙ (ap (λ (g : Goals). table_of (record n { goals = g })) c.suspend_goals-goals.ensures.goals ∙ (table-back r n c.recall_well_kept-2.ensures stays ∙ goes.1))

pub returns-in_err-key-clause-cause : goal.returns-in_err-key-clause-cause
returns-in_err-key-clause-cause c =
    let r = c.args.self.now in
    let g = trait_goal r.context.trees c.args.param_env c.args.predicate in
    passed-on (IsDerivationStop c.key_for.new.self.context.trees r g) c.from_residual.result c.in_err-key.field-0.0 c.from_residual.ensures.1 (derivation_key c.in_err-key.ensures.cause)

pub returns-clause-cause : goal.returns-clause-cause
returns-clause-cause c =
    let r = c.args.self.now in
    let s = c.key_for.new.self in
    let g = trait_goal r.context.trees c.args.param_env c.args.predicate in
    let goes = goes-stays r s c.recall_well_kept.ensures c.key_for.ensures.goes c.key_for.ensures.state in
    let aside = stays-trans goes.0 (stays-aside s _ c.suspend_goals-goals.ensures.out) in
    let trees = sym (ap (λ (x : Evaluator). x.context.trees) c.restore_goals.ensures) in
    so-err c.derivation_of-answer.result (λ e h. subst (λ ts. IsDerivationStop ts r g e) trees (derivation_search (search-before aside h))) c.derivation_of-answer.ensures.cause

pub returns-clause-sources : goal.returns-clause-sources
returns-clause-sources c =
    let r = c.args.self.now in
    let s = c.key_for.new.self in
    let m = c.suspend_goals-goals.new.self in
    let n = c.derivation_of-answer.new.self in
    let goes = goes-stays r s c.recall_well_kept.ensures c.key_for.ensures.goes c.key_for.ensures.state in
    let aside = stays-trans goes.0 (stays-aside s m c.suspend_goals-goals.ensures.out) in
    let back = subst (StaysBesideTable n) (sym c.restore_goals.ensures) (stays-with n n n.goals c.suspend_goals-goals.result (stays-refl n)) in
    so-ok c.derivation_of-answer.result (λ o h. some-imply o (λ t. WereBySource m n t.steps.items) (λ t. WereBySource r c.restore_goals.new.self t.steps.items)
    (λ t k. were-until r n c.restore_goals.new.self t.steps.items back (were-since r m n t.steps.items aside k)) h) c.derivation_of-answer.ensures.sources

pub derivation_of-answer-requires-clause-place : goal.derivation_of-answer-requires-clause-place
derivation_of-answer-requires-clause-place c =
    let s = c.key_for.new.self in
    let k = key_seen s.context.trees c.in_ok-key.key in
    let below = place-below (table_of s) k c.in-Some.place (only-place (table_of s) k c.in-Some.place c.in-Some.ensures) in
    let many = seen-length s in
    let goals = ap (λ (g : Goals). length g.table) c.suspend_goals-goals.ensures.goals in
    omega (arith, below, many, goals)

pub returns-clause-whose : goal.returns-clause-whose
returns-clause-whose c =
    let r = c.args.self.now in
    let s = c.key_for.new.self in
    let n = c.derivation_of-answer.new.self in
    let goals = c.suspend_goals-goals.result in
    let g = trait_goal r.context.trees c.args.param_env c.args.predicate in
    let k = key_seen s.context.trees c.in_ok-key.key in
    let goes = goes-stays r s c.recall_well_kept.ensures c.key_for.ensures.goes c.key_for.ensures.state in
    let stays = stays-from s n no_goals (subst (λ (x : Evaluator). StaysBesideTable x n) c.suspend_goals-goals.ensures.out c.derivation_of-answer.ensures.stays) in
    let same : table_seen n.context.trees goals.table ≡ table_of r =
    ap (λ (h : Goals). table_seen n.context.trees h.table) c.suspend_goals-goals.ensures.goals ∙ (table-back s n c.recall_well_kept-2.ensures stays ∙ goes.1) in
    let at : IsPlaceOf (table_of s) k c.in-Some.place = only-place (table_of s) k c.in-Some.place c.in-Some.ensures in
    let here = subst (λ (x : GoalTable Via × Key). IsPlaceOf x.0 x.1 c.in-Some.place) (λ i. (goes.1 i, c.in_ok-key.ensures.key i)) at in
    let trees = sym (ap (λ (x : Evaluator). x.context.trees) c.restore_goals.ensures) in
    so-ok c.derivation_of-answer.result (λ o h. some-imply o (λ t. EndsAtPlace n.context.trees goals.table c.in-Some.place t.steps.items) (λ t. IsOfGoal c.restore_goals.new.self.context.trees (table_of r) (key_at (state r) g) t.steps.items)
    (λ t e. subst (λ ts. IsOfGoal ts (table_of r) (key_at (state r) g) t.steps.items) trees (ends-of-goal n.context.trees goals.table (table_of r) c.in-Some.place (key_at (state r) g) t.steps.items same here e)) h) c.derivation_of-answer.ensures.whose
