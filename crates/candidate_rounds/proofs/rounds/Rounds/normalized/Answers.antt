use Rattle.std.proofs.Common.{◌≡◌, List, None, Option, Result, IfOk, IfSome, reverse, sym, ◌∙◌, ap, subst}
use Rattle.std.proofs.lemmas.Result.{err_from_is_err_and}
use Rattle.ir_trees.specs.declared.ir.stop.Stop.{Stop}
use Rattle.ir_trees.specs.Declarations.Context.{Grows}
use Rattle.ir_trees.specs.Syntax.Trees.{Tree}
use Rattle.ir_trees.specs.Validity.WellFormed.{IsWellFormedTable}
use Rattle.candidate_eval.specs.declared.eval.mode.TypingMode.{TypingMode}
use Rattle.candidate_eval.specs.declared.eval.response.CanonicalResponse.{CanonicalResponse}
use Rattle.candidate_eval.specs.Judges.States.{State}
use Rattle.candidate_eval.specs.Outcomes.ResponseTrees.{IsResponse, response_of}
use Rattle.candidate_assembly.specs.Answers.Shown.{IsAnsweredBy}
use Rattle.candidate_assembly.specs.Goals.Standing.{GoalIsValid}
use Rattle.projection_goals.specs.Closures.{always, answers_rigid}
use Rattle.projection_goals.specs.Normalizing.{NormalizesGoal, normalizes_goal, normalizes_kind, normalizes_rules}
use Rattle.rounds_judge.specs.Table.Keys.{start_of}
use Rattle.candidate_rounds.specs.Evaluators.Interface.{fixed}
use Rattle.candidate_rounds.specs.Evaluators.Known.{Evaluator, IsEvaluator, state, table_of}
use Rattle.candidate_rounds.specs.Table.DerivedNormals.{SureIsDerived}
use Rattle.candidate_rounds.specs.Table.Goals.{key_seen}
use Rattle.candidate_rounds.specs.Table.Normalized.{IsNormalizedAt, IsNormalizedBy, begun, not_begun}
use Rattle.candidate_rounds.specs.Table.Normalizing.{rounds_shown, with_term}
use Rattle.candidate_rounds.specs.Table.Running.{StaysBesideTable, judged_by, with_table}
use Rattle.candidate_rounds.proofs.Evaluators.Between.{parts}
use Rattle.candidate_rounds.proofs.Table.Computing.{back-holds, back-stays, back-table, out-holds, out-state, restore_state, suspend_state}
use Rattle.candidate_rounds.proofs.Table.DerivedNormals.{answer-sure}
use Rattle.candidate_rounds.proofs.Table.Normalizing.{answer-fits, fixed-there, normalizing-fits, normalizing-keeps, term-stands}
use Rattle.candidate_rounds.proofs.Table.Rounding.{goes-stays}
use Rattle.candidate_rounds.proofs.Table.Running.{stays-trans}
use Rattle.candidate_rounds.proofs.rounds.Rounds.normalized.Goals as goal

pub returns-in_err-start-clause-stays : goal.returns-in_err-start-clause-stays
returns-in_err-start-clause-stays c = (goes-stays c.args.self.now c.start_with_term.new.self c.recall_well_kept.ensures c.start_with_term.ensures.goes c.start_with_term.ensures.state).0

pub returns-in_err-start-clause-table : goal.returns-in_err-start-clause-table
returns-in_err-start-clause-table c = (goes-stays c.args.self.now c.start_with_term.new.self c.recall_well_kept.ensures c.start_with_term.ensures.goes c.start_with_term.ensures.state).1

pub returns-in_err-start-clause-answer : goal.returns-in_err-start-clause-answer
returns-in_err-start-clause-answer c =
    let p = err_from_is_err_and c.from_residual.result c.from_residual.ensures.1 in
    rw (p.1, p.2) (not_begun c.in_err-start.ensures.cause)

pub suspend_state-aside-requires : goal.suspend_state-aside-requires
suspend_state-aside-requires c =
    let r = c.args.self.now in
    let m = c.start_with_term.new.self in
    out-holds m (with_term (key_seen r.context.trees c.args.key)) c.in_ok-start.start.inference c.recall_well_kept-2.ensures c.in_ok-start.ensures.inference

pub normalize_here-answer-requires-clause-stands : goal.normalize_here-answer-requires-clause-stands
normalize_here-answer-requires-clause-stands c =
    let r = c.args.self.now in
    let m = c.start_with_term.new.self in
    let k = key_seen r.context.trees c.args.key in
    let start = c.in_ok-start.start in
    let item = c.args.alias.id.0 in
    let starts = out-state m (with_term k) start.inference c.in_ok-start.ensures.inference in
    let says = c.in_ok-start.ensures.says in
    subst (λ (x : Evaluator). GoalIsValid normalizes_rules (state x) (normalizes_goal x.context.trees start.param_env start.goal)) (sym c.suspend_state-aside.ensures.out)
    (subst (λ (p : State × NormalizesGoal). GoalIsValid normalizes_rules p.0 p.1) (λ i. (sym starts i, sym says i)) (term-stands m.mode k item c.requires.key.asked))

pub restore_state-requires : goal.restore_state-requires
restore_state-requires c =
    let r = c.args.self.now in
    let m = c.start_with_term.new.self in
    let start = c.in_ok-start.start in
    let n = c.normalize_here-answer.new.self in
    let aside = c.suspend_state-aside.ensures in
    let keeps = normalizing-keeps start.param_env start.goal c.suspend_state-aside.new.self c.args.way c.normalize_here-answer.result n c.normalize_here-answer.ensures.answered in
    let grows = subst (λ (x : Evaluator). Grows x.context n.context) aside.out keeps.grows in
    subst (λ x. IsEvaluator n.context x (reverse c.suspend_state-aside.result.probes.items) n.normal n.opaques n.goals) (sym aside.inference)
    (subst (λ x. IsEvaluator n.context m.inference x n.normal n.opaques n.goals) (sym aside.probes) (back-holds m n c.recall_well_kept-2.ensures grows c.recall_well_kept-3.ensures))

pub returns-clause-stays : goal.returns-clause-stays
returns-clause-stays c =
    let r = c.args.self.now in
    let m = c.start_with_term.new.self in
    let start = c.in_ok-start.start in
    let n = c.normalize_here-answer.new.self in
    let aside = c.suspend_state-aside.ensures in
    let answered = subst (λ (x : Evaluator). IsAnsweredBy rounds_shown (always None) tt (answers_rigid rounds_shown start.param_env start.goal) tt normalizes_kind x start.param_env start.goal c.args.way c.normalize_here-answer.result n) aside.out c.normalize_here-answer.ensures.answered in
    let keeps = normalizing-keeps start.param_env start.goal (suspend_state m start.inference) c.args.way c.normalize_here-answer.result n answered in
    let back : c.restore_state.new.self ≡ restore_state m n = c.restore_state.ensures ∙ (λ j. record n { mode = aside.mode j; inference = aside.inference j; marks = aside.probes j }) in
    let goes = goes-stays r m c.recall_well_kept.ensures c.start_with_term.ensures.goes c.start_with_term.ensures.state in
    stays-trans goes.0 (subst (StaysBesideTable m) (sym back) (back-stays m n start.inference c.recall_well_kept-2.ensures keeps))

pub returns-clause-table : goal.returns-clause-table
returns-clause-table c =
    let r = c.args.self.now in
    let m = c.start_with_term.new.self in
    let start = c.in_ok-start.start in
    let n = c.normalize_here-answer.new.self in
    let aside = c.suspend_state-aside.ensures in
    let answered = subst (λ (x : Evaluator). IsAnsweredBy rounds_shown (always None) tt (answers_rigid rounds_shown start.param_env start.goal) tt normalizes_kind x start.param_env start.goal c.args.way c.normalize_here-answer.result n) aside.out c.normalize_here-answer.ensures.answered in
    let keeps = normalizing-keeps start.param_env start.goal (suspend_state m start.inference) c.args.way c.normalize_here-answer.result n answered in
    let back : c.restore_state.new.self ≡ restore_state m n = c.restore_state.ensures ∙ (λ j. record n { mode = aside.mode j; inference = aside.inference j; marks = aside.probes j }) in
    let goes = goes-stays r m c.recall_well_kept.ensures c.start_with_term.ensures.goes c.start_with_term.ensures.state in
    ap table_of back ∙ (back-table m n start.inference keeps ∙ goes.1)

pub returns-clause-sort : goal.returns-clause-sort
returns-clause-sort c =
    let m = c.start_with_term.new.self in
    let start = c.in_ok-start.start in
    let n = c.normalize_here-answer.new.self in
    let fits = normalizing-fits start.param_env start.goal c.suspend_state-aside.new.self c.args.way c.normalize_here-answer.result n c.normalize_here-answer.ensures.answered in
    let trees : c.restore_state.new.self.context.trees ≡ n.context.trees = ap (λ (x : Evaluator). x.context.trees) c.restore_state.ensures in
    subst (λ (p : List Tree × Result (Option CanonicalResponse) Stop). IfOk p.1 (λ o. IfSome o (IsResponse p.0))) (λ i. (sym trees i, sym c.as_answer.ensures i)) (answer-fits n.context.trees c.normalize_here-answer.result fits)

pub returns-clause-answer : goal.returns-clause-answer
returns-clause-answer c =
    let r = c.args.self.now in
    let m = c.start_with_term.new.self in
    let k = key_seen r.context.trees c.args.key in
    let start = c.in_ok-start.start in
    let item = c.args.alias.id.0 in
    let n = c.normalize_here-answer.new.self in
    let aside = c.suspend_state-aside.ensures in
    let x = suspend_state m start.inference in
    let answered = subst (λ (y : Evaluator). IsAnsweredBy rounds_shown (always None) tt (answers_rigid rounds_shown start.param_env start.goal) tt normalizes_kind y start.param_env start.goal c.args.way c.normalize_here-answer.result n) aside.out c.normalize_here-answer.ensures.answered in
    let goes = goes-stays r m c.recall_well_kept.ensures c.start_with_term.ensures.goes c.start_with_term.ensures.state in
    let same : judged_by x ≡ with_table (fixed r) (table_of r) = fixed-there r m goes.0 goes.1 in
    let begins : state x ≡ start_of r.mode (with_term k) = out-state m (with_term k) start.inference c.in_ok-start.ensures.inference ∙ ap (λ (y : TypingMode). start_of y (with_term k)) (ap (λ (S : State). S.mode) goes.0.state_same) in
    let well = subst IsWellFormedTable (ap (λ (y : Evaluator). y.context) c.self.view_is) c.recall_well_formed_table.ensures in
    let us = c.restore_state.new.self.context.trees in
    let trees : us ≡ n.context.trees = ap (λ (y : Evaluator). y.context.trees) c.restore_state.ensures in
    let there : IsNormalizedBy us r (table_of r) k item c.args.way c.normalize_here-answer.result = record {
      first = x;
      left = n;
      left_trees = sym trees;
      grows = goes.0.grows;
      fixed_same = same;
      begins = begins;
      env = start.param_env;
      goal = start.goal;
      says = c.in_ok-start.ensures.says;
      answered = answered;
      sure =
          subst (λ ts. IfOk c.normalize_here-answer.result (λ p. SureIsDerived r (table_of r) k item (response_of ts p))) (sym trees)
          (answer-sure r x n (table_of r) k item (parts c.recall_well_kept.ensures).given (parts c.recall_well_kept.ensures).derived goes.0.grows same begins start.param_env start.goal c.in_ok-start.ensures.says
          c.requires.key.asked well c.recall_trees_fit.ensures.counted (parts c.recall_well_kept-2.ensures).given c.args.way c.normalize_here-answer.result c.in_ok-start.ensures.goal c.in_ok-start.ensures.projection answered);
    } in
    subst (IsNormalizedAt c.restore_state.new.self.context.trees r (table_of r) k item c.args.way) (sym c.as_answer.ensures) (begun c.normalize_here-answer.result there)
