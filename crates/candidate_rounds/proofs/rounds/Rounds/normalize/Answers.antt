use Rattle.std.proofs.Common.{Some, sym, ◌∙◌, ap, subst}
use Rattle.std.proofs.lemmas.Result.{err_from_is_err_and}
use Rattle.ir_trees.specs.declared.ir.kinds.TraitPredicate.{TraitPredicate}
use Rattle.ir_trees.specs.Declarations.Context.{Context}
use Rattle.candidate_eval.specs.Derivations.ImplRules.{TraitGoal}
use Rattle.candidate_eval.specs.Judges.States.{State}
use Rattle.candidate_assembly.specs.Goals.KindShown.{IsGoal, trait_kind}
use Rattle.candidate_assembly.specs.Goals.TraitGoals.{trait_goal}
use Rattle.candidate_assembly.proofs.Calls.Keeping.{trait-goal-kept}
use Rattle.derivations.specs.DerivedTables.{TableIsDerived}
use Rattle.projection_goals.specs.Normalizing.{trait_named}
use Rattle.rounds_judge.specs.Table.GoalTable.{GoalTable, may_be_asked, verdict_in}
use Rattle.rounds_judge.specs.Table.Keys.{Key, key_at}
use Rattle.candidate_rounds.specs.Table.Efforts.{IsLeftBy, Runs}
use Rattle.candidate_rounds.specs.Evaluators.Known.{Evaluator, listing, state, table_of}
use Rattle.candidate_rounds.specs.Evaluators.Stopping.{IsGoalKeyStop}
use Rattle.candidate_rounds.specs.Table.Goals.{Via, verdict_seen}
use Rattle.candidate_rounds.specs.Table.Normalized.{IsLeftAfter, IsNormalizedAt, normalized, not_keyed, not_run, refused}
use Rattle.candidate_rounds.specs.Table.Normalizing.{goal_of_trait, trait_predicate}
use Rattle.candidate_rounds.specs.Table.Running.{computing}
use Rattle.candidate_rounds.proofs.Table.Derived.{derived-beside}
use Rattle.candidate_rounds.proofs.Table.KeptAsked.{derived-here, normalized-before}
use Rattle.candidate_rounds.proofs.Table.Normalizing.{refused-via, takes-grown, takes-of}
use Rattle.candidate_rounds.proofs.Table.Rounding.{goes-stays}
use Rattle.candidate_rounds.proofs.Table.Running.{stays-trans}
use Rattle.candidate_rounds.proofs.rounds.Rounds.normalize.Goals as goal

pub run_by-requires-clause-asked : goal.run_by-requires-clause-asked
run_by-requires-clause-asked c =
    let r = c.args.self.now in
    let predicate = c.trait_predicate-predicate.ensures ∙ ap (λ (x : Evaluator). trait_predicate x.context c.args.alias) c.self.view_is in
    ap (λ (p : TraitPredicate). may_be_asked (key_at (state r) (trait_goal r.context.trees c.args.param_env p))) predicate ∙ c.requires.asked

pub returns-in_err-verdict-clause-normalized : goal.returns-in_err-verdict-clause-normalized
returns-in_err-verdict-clause-normalized c =
    let r = c.args.self.now in
    let m = c.run_by.new.self in
    let predicate = c.trait_predicate-predicate.ensures ∙ ap (λ (x : Evaluator). trait_predicate x.context c.args.alias) c.self.view_is in
    let goal = ap (λ (p : TraitPredicate). trait_goal r.context.trees c.args.param_env p) predicate in
    let p = err_from_is_err_and c.from_residual.result c.from_residual.ensures.1 in
    rw (p.1, p.2) (not_run (subst (λ (h : TraitGoal). IsLeftBy m.context.trees r h c.args.effort (table_of r) (table_of m) c.in_err-verdict.field-0.0) goal c.in_err-verdict.ensures.stopped))

pub returns-in_default-clause-normalized : goal.returns-in_default-clause-normalized
returns-in_default-clause-normalized c =
    let r = c.args.self.now in
    let m = c.run_by.new.self in
    let predicate = c.trait_predicate-predicate.ensures ∙ ap (λ (x : Evaluator). trait_predicate x.context c.args.alias) c.self.view_is in
    let key = ap (λ (p : TraitPredicate). key_at (state r) (trait_goal r.context.trees c.args.param_env p)) predicate in
    let ran = subst (λ (k : Key). Runs (computing r) k c.args.effort (table_of r) (table_of m)) key c.in_ok-verdict.ensures.ran in
    let is = ap (λ (k : Key). verdict_in (table_of m) k) (sym key) ∙ (c.in_ok-verdict.ensures.answer ∙ ap Some (refused-via (verdict_seen m.context.trees c.in_ok-verdict.verdict) (c.in_default.ensures m.context.trees))) in
    refused ran is

pub key_for-requires : goal.key_for-requires
key_for-requires c =
    let r = c.args.self.now in
    let predicate = c.trait_predicate-predicate.ensures ∙ ap (λ (x : Evaluator). trait_predicate x.context c.args.alias) c.self.view_is in
    let here = subst (IsGoal trait_kind r.context c.args.param_env) (sym predicate) c.requires.projection.goal in
    (trait-goal-kept r.context c.run_by.new.self.context c.args.param_env c.trait_predicate-predicate.result c.run_by.ensures.stays.grows here).0

pub returns-in_err-key-clause-stays : goal.returns-in_err-key-clause-stays
returns-in_err-key-clause-stays c = stays-trans c.run_by.ensures.stays (goes-stays c.run_by.new.self c.key_for.new.self c.recall_well_kept.ensures c.key_for.ensures.goes c.key_for.ensures.state).0

pub returns-in_err-key-clause-derived : goal.returns-in_err-key-clause-derived
returns-in_err-key-clause-derived c =
    let m = c.run_by.new.self in
    let q = c.key_for.new.self in
    let goes = goes-stays m q c.recall_well_kept.ensures c.key_for.ensures.goes c.key_for.ensures.state in
    subst (TableIsDerived q.context (listing q)) (sym goes.1) (derived-beside m q goes.0 (table_of m) c.run_by.ensures.derived)

pub returns-in_err-key-clause-normalized : goal.returns-in_err-key-clause-normalized
returns-in_err-key-clause-normalized c =
    let r = c.args.self.now in
    let m = c.run_by.new.self in
    let q = c.key_for.new.self in
    let stays = c.run_by.ensures.stays in
    let predicate = c.trait_predicate-predicate.ensures ∙ ap (λ (x : Evaluator). trait_predicate x.context c.args.alias) c.self.view_is in
    let here = subst (IsGoal trait_kind r.context c.args.param_env) (sym predicate) c.requires.projection.goal in
    let kept = (trait-goal-kept r.context m.context c.args.param_env c.trait_predicate-predicate.result stays.grows here).1 in
    let goal = kept ∙ ap (λ (p : TraitPredicate). trait_goal r.context.trees c.args.param_env p) predicate in
    let key = ap (λ (p : TraitPredicate). key_at (state r) (trait_goal r.context.trees c.args.param_env p)) predicate in
    let goes = goes-stays m q c.recall_well_kept.ensures c.key_for.ensures.goes c.key_for.ensures.state in
    let ran = subst (λ (x : Key × GoalTable Via). Runs (computing r) x.0 c.args.effort (table_of r) x.1) (λ i. (key i, sym goes.1 i)) c.in_ok-verdict.ensures.ran in
    let cause = subst (λ (x : State × TraitGoal). IsGoalKeyStop q.context.trees x.0 x.1 c.in_err-key.field-0.0) (λ i. (stays.state_same i, goal i)) c.in_err-key.ensures.cause in
    let p = err_from_is_err_and c.from_residual-in_err-key.result c.from_residual-in_err-key.ensures.1 in
    rw (p.1, p.2) (not_keyed ran cause)

pub normalized_once-answer-requires-clause-key : goal.normalized_once-answer-requires-clause-key
normalized_once-answer-requires-clause-key c =
    let r = c.args.self.now in
    let stays = c.run_by.ensures.stays in
    let predicate = c.trait_predicate-predicate.ensures ∙ ap (λ (x : Evaluator). trait_predicate x.context c.args.alias) c.self.view_is in
    let here = subst (IsGoal trait_kind r.context c.args.param_env) (sym predicate) c.requires.projection.goal in
    let kept = (trait-goal-kept r.context c.run_by.new.self.context c.args.param_env c.trait_predicate-predicate.result stays.grows here).1 in
    let goal = kept ∙ ap (λ (p : TraitPredicate). trait_goal r.context.trees c.args.param_env p) predicate in
    let key = c.in_ok-key.ensures.key ∙ (λ i. key_at (stays.state_same i) (goal i)) in
    record { goal = c.in_ok-key.ensures.sort; asked = ap may_be_asked key ∙ c.requires.asked }

pub normalized_once-answer-requires-clause-takes : goal.normalized_once-answer-requires-clause-takes
normalized_once-answer-requires-clause-takes c =
    let r = c.args.self.now in
    let q = c.key_for.new.self in
    let goes = goes-stays c.run_by.new.self q c.recall_well_kept.ensures c.key_for.ensures.goes c.key_for.ensures.state in
    takes-grown r.context q.context c.args.alias (stays-trans c.run_by.ensures.stays goes.0).grows (takes-of r.context c.args.param_env c.args.alias c.requires.projection)

pub normalized_once-answer-requires-clause-of : goal.normalized_once-answer-requires-clause-of
normalized_once-answer-requires-clause-of c =
    let r = c.args.self.now in
    let q = c.key_for.new.self in
    let stays = c.run_by.ensures.stays in
    let predicate = c.trait_predicate-predicate.ensures ∙ ap (λ (x : Evaluator). trait_predicate x.context c.args.alias) c.self.view_is in
    let here = subst (IsGoal trait_kind r.context c.args.param_env) (sym predicate) c.requires.projection.goal in
    let kept = (trait-goal-kept r.context c.run_by.new.self.context c.args.param_env c.trait_predicate-predicate.result stays.grows here).1 in
    let goal = kept ∙ ap (λ (p : TraitPredicate). trait_goal r.context.trees c.args.param_env p) predicate in
    let key = c.in_ok-key.ensures.key ∙ (λ i. key_at (stays.state_same i) (goal i)) in
    let goes = goes-stays c.run_by.new.self q c.recall_well_kept.ensures c.key_for.ensures.goes c.key_for.ensures.state in
    ap (λ (k : Key). k.goal.reference.trait) key ∙ ap (λ (y : Context). trait_named y c.args.alias.id.0) (sym (stays-trans stays goes.0).grows.same)

pub returns-clause-stays : goal.returns-clause-stays
returns-clause-stays c =
    let goes = goes-stays c.run_by.new.self c.key_for.new.self c.recall_well_kept.ensures c.key_for.ensures.goes c.key_for.ensures.state in
    stays-trans c.run_by.ensures.stays (stays-trans goes.0 c.normalized_once-answer.ensures.stays)

pub returns-clause-derived : goal.returns-clause-derived
returns-clause-derived c = derived-here c.normalized_once-answer.new.self c.recall_well_kept-2.ensures

pub returns-clause-normalized : goal.returns-clause-normalized
returns-clause-normalized c =
    let r = c.args.self.now in
    let m = c.run_by.new.self in
    let q = c.key_for.new.self in
    let f = c.normalized_once-answer.new.self in
    let item = c.args.alias.id.0 in
    let stays = c.run_by.ensures.stays in
    let predicate = c.trait_predicate-predicate.ensures ∙ ap (λ (x : Evaluator). trait_predicate x.context c.args.alias) c.self.view_is in
    let here = subst (IsGoal trait_kind r.context c.args.param_env) (sym predicate) c.requires.projection.goal in
    let kept = (trait-goal-kept r.context m.context c.args.param_env c.trait_predicate-predicate.result stays.grows here).1 in
    let goal = kept ∙ ap (λ (p : TraitPredicate). trait_goal r.context.trees c.args.param_env p) predicate in
    let asked = ap (λ (p : TraitPredicate). key_at (state r) (trait_goal r.context.trees c.args.param_env p)) predicate in
    let key = c.in_ok-key.ensures.key ∙ (λ i. key_at (stays.state_same i) (goal i)) in
    let goes = goes-stays m q c.recall_well_kept.ensures c.key_for.ensures.goes c.key_for.ensures.state in
    let ran = subst (λ (k : Key). Runs (computing r) k c.args.effort (table_of r) (table_of m)) asked c.in_ok-verdict.ensures.ran in
    let is = ap (λ (k : Key). verdict_in (table_of m) k) (sym asked) ∙ c.in_ok-verdict.ensures.answer in
    let there = subst (λ (x : GoalTable Via × Key). IsNormalizedAt f.context.trees q x.0 x.1 item c.in-Some.way c.normalized_once-answer.result) (λ i. (goes.1 i, key i)) c.normalized_once-answer.ensures.answer in
    let at = normalized-before (stays-trans stays goes.0) (table_of m) (key_at (state r) (goal_of_trait r.context c.args.param_env c.args.alias)) item f.context.trees c.in-Some.way c.normalized_once-answer.result there in
    let left = subst (λ T. IsLeftAfter T (table_of f) c.normalized_once-answer.result) goes.1 c.normalized_once-answer.ensures.left in
    normalized (table_of m) (verdict_seen m.context.trees c.in_ok-verdict.verdict) c.in-Some.way ran is (sym (c.in-Some.ensures m.context.trees)) at left
