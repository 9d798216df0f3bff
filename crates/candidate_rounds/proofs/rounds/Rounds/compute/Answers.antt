use Rattle.std.proofs.Common.{◌≡◌, ◌⊎◌, inl, List, IfErr, IfOk, Option, Result, reverse, slice_get, sym, ◌∙◌, ap, subst, Some}
use Rattle.ir_trees.specs.declared.ir.stop.Stop.{Stop}
use Rattle.ir_trees.specs.Declarations.Context.{Context}
use Rattle.ir_trees.specs.Syntax.Nodes.{Extends}
use Rattle.ir_trees.proofs.Growth.Kept.{grows-refl}
use Rattle.ir_trees.specs.Syntax.Trees.{Tree}
use Rattle.ir_trees.specs.Validity.WellFormed.{IsWellFormedTable}
use Rattle.candidate_eval.specs.declared.eval.response.CanonicalResponse.{CanonicalResponse}
use Rattle.candidate_eval.specs.Interface.Noting.{IsNotingStop}
use Rattle.candidate_assembly.specs.Goals.Standing.{GoalIsValid}
use Rattle.candidate_assembly.specs.Answers.Backing.{AnswerIsBacked}
use Rattle.candidate_assembly.specs.Answers.TraitAnswers.{Computes}
use Rattle.candidate_assembly.specs.Goals.TraitGoals.{trait_goal}
use Rattle.candidate_assembly.specs.Goals.TraitRules.{trait_rules}
use Rattle.candidate_rounds.specs.Table.Entries.{GoalEntry}
use Rattle.candidate_rounds.specs.Table.Goals.{IsKeyOf, Via, key_seen}
use Rattle.candidate_rounds.specs.Evaluators.Interface.{fixed, judge_of}
use Rattle.candidate_rounds.specs.Evaluators.Known.{Evaluator, IsEvaluator, probes, state, table_of}
use Rattle.candidate_rounds.specs.Table.Running.{IsComputingStop, PutsOffOneAtMost, StaysBesideTable, computing, told}
use Rattle.candidate_rounds.specs.Calls.Starting.{started}
use Rattle.candidate_rounds.specs.Evaluators.Stopping.{accounts}
use Rattle.candidate_rounds.proofs.Table.Computing.{answer-is, answer-stopped, back-holds, back-stays, one-at-most, restore_state, out-holds, out-state}
use Rattle.candidate_rounds.proofs.Stops.ResponseStops.{passed-on}
use Rattle.candidate_rounds.proofs.Table.Running.{entry-at, key-get}
use Rattle.candidate_rounds.proofs.Table.Starting.{key-stands}
use Rattle.rounds_judge.specs.Table.GoalTable.{Entry}
use Rattle.rounds_judge.specs.Table.Keys.{Key, newest_of}
use Rattle.candidate_rounds.proofs.Table.Running.{stays-refl}
use Rattle.candidate_rounds.proofs.rounds.Rounds.compute.Goals as goal

pub start_of-requires : goal.start_of-requires
start_of-requires c =
    let r = c.args.self.now in
    let i = c.args.place in
    let e : GoalEntry = (c.entry_at.result.0.now, c.entry_at.result.1.now) in
    let there : slice_get r.goals.table i ≡ Some e =
    sym (ap (λ (x : Evaluator). slice_get x.goals.table i) c.self.view_is) ∙ c.entry_at.ensures in
    let cx = ap (λ (x : Evaluator). x.context) c.self.view_is in
    subst (λ (x : Context). IsKeyOf x.trees e.0) (sym cx) (entry-at r i e c.recall_well_kept.ensures there).key

pub returns-in_err-start-clause-stays : goal.returns-in_err-start-clause-stays
returns-in_err-start-clause-stays c = stays-refl c.args.self.now

pub returns-in_err-start-clause-cause : goal.returns-in_err-start-clause-cause
returns-in_err-start-clause-cause c = λ d g.
    let r = c.args.self.now in
    let cx = ap (λ (x : Evaluator). x.context) c.self.view_is in
    let stop = c.in_err-start.field-0.0 in
    passed-on (λ s. IsNotingStop r.context.trees s ⊎ IsComputingStop r.context.trees r (table_of r) d.key s) c.from_residual.result stop c.from_residual.ensures.1
    (inl (subst (λ (x : Context). IsNotingStop x.trees stop) cx c.in_err-start.ensures.cause))

pub suspend_state-aside-requires : goal.suspend_state-aside-requires
suspend_state-aside-requires c =
    let r = c.args.self.now in
    let i = c.args.place in
    let e : GoalEntry = (c.entry_at.result.0.now, c.entry_at.result.1.now) in
    let there : slice_get r.goals.table i ≡ Some e =
    sym (ap (λ (x : Evaluator). slice_get x.goals.table i) c.self.view_is) ∙ c.entry_at.ensures in
    let cx = ap (λ (x : Evaluator). x.context) c.self.view_is in
    let key = key_seen r.context.trees e.0 in
    let start = c.in_ok-start.start in
    let starts = subst (λ (x : Context). start.inference ≡ started (newest_of (key_seen x.trees e.0)) e.0.variables.items) cx c.in_ok-start.ensures.inference in
    let says = subst (λ (x : Context). trait_goal x.trees start.param_env start.predicate ≡ (key_seen x.trees e.0).goal) cx c.in_ok-start.ensures.says in
    out-holds r key start.inference c.recall_well_kept.ensures starts

pub compute_here-answer-requires-clause-stands : goal.compute_here-answer-requires-clause-stands
compute_here-answer-requires-clause-stands c =
    let r = c.args.self.now in
    let i = c.args.place in
    let e : GoalEntry = (c.entry_at.result.0.now, c.entry_at.result.1.now) in
    let there : slice_get r.goals.table i ≡ Some e =
    sym (ap (λ (x : Evaluator). slice_get x.goals.table i) c.self.view_is) ∙ c.entry_at.ensures in
    let cx = ap (λ (x : Evaluator). x.context) c.self.view_is in
    let key = key_seen r.context.trees e.0 in
    let start = c.in_ok-start.start in
    let starts = subst (λ (x : Context). start.inference ≡ started (newest_of (key_seen x.trees e.0)) e.0.variables.items) cx c.in_ok-start.ensures.inference in
    let says = subst (λ (x : Context). trait_goal x.trees start.param_env start.predicate ≡ (key_seen x.trees e.0).goal) cx c.in_ok-start.ensures.says in
    let g = trait_goal r.context.trees start.param_env start.predicate in
    subst (λ (x : Evaluator). GoalIsValid trait_rules (state x) (trait_goal x.context.trees start.param_env start.predicate)) (sym c.suspend_state-aside.ensures.out)
    (subst (λ S. GoalIsValid trait_rules S g) (sym (out-state r key start.inference starts)) (key-stands r.mode key g (entry-at r i e c.recall_well_kept.ensures there).key.asked says))

pub restore_state-requires : goal.restore_state-requires
restore_state-requires c =
    let r = c.args.self.now in
    let i = c.args.place in
    let e : GoalEntry = (c.entry_at.result.0.now, c.entry_at.result.1.now) in
    let there : slice_get r.goals.table i ≡ Some e =
    sym (ap (λ (x : Evaluator). slice_get x.goals.table i) c.self.view_is) ∙ c.entry_at.ensures in
    let cx = ap (λ (x : Evaluator). x.context) c.self.view_is in
    let key = key_seen r.context.trees e.0 in
    let start = c.in_ok-start.start in
    let starts = subst (λ (x : Context). start.inference ≡ started (newest_of (key_seen x.trees e.0)) e.0.variables.items) cx c.in_ok-start.ensures.inference in
    let says = subst (λ (x : Context). trait_goal x.trees start.param_env start.predicate ≡ (key_seen x.trees e.0).goal) cx c.in_ok-start.ensures.says in
    let n = c.compute_here-answer.new.self in
    let out = c.suspend_state-aside.ensures.out in
    let computes = subst (λ (x : Evaluator). Computes fixed judge_of state probes (λ y. y.context) accounts x n (trait_goal x.context.trees start.param_env start.predicate) c.compute_here-answer.result) out c.compute_here-answer.ensures.computes in
    let aside = c.suspend_state-aside.ensures in
    subst (λ x. IsEvaluator n.context x (reverse c.suspend_state-aside.result.probes.items) n.normal n.opaques n.goals) (sym aside.inference)
    (subst (λ x. IsEvaluator n.context r.inference x n.normal n.opaques n.goals) (sym aside.probes) (back-holds r n c.recall_well_kept.ensures computes.kept.grows c.recall_well_kept-2.ensures))

pub returns-clause-stays : goal.returns-clause-stays
returns-clause-stays c =
    let r = c.args.self.now in
    let i = c.args.place in
    let e : GoalEntry = (c.entry_at.result.0.now, c.entry_at.result.1.now) in
    let there : slice_get r.goals.table i ≡ Some e =
    sym (ap (λ (x : Evaluator). slice_get x.goals.table i) c.self.view_is) ∙ c.entry_at.ensures in
    let cx = ap (λ (x : Evaluator). x.context) c.self.view_is in
    let key = key_seen r.context.trees e.0 in
    let start = c.in_ok-start.start in
    let starts = subst (λ (x : Context). start.inference ≡ started (newest_of (key_seen x.trees e.0)) e.0.variables.items) cx c.in_ok-start.ensures.inference in
    let says = subst (λ (x : Context). trait_goal x.trees start.param_env start.predicate ≡ (key_seen x.trees e.0).goal) cx c.in_ok-start.ensures.says in
    let n = c.compute_here-answer.new.self in
    let out = c.suspend_state-aside.ensures.out in
    let computes = subst (λ (x : Evaluator). Computes fixed judge_of state probes (λ y. y.context) accounts x n (trait_goal x.context.trees start.param_env start.predicate) c.compute_here-answer.result) out c.compute_here-answer.ensures.computes in
    let aside = c.suspend_state-aside.ensures in
    let back : c.restore_state.new.self ≡ restore_state r n = c.restore_state.ensures ∙ (λ j. record n { mode = aside.mode j; inference = aside.inference j; marks = aside.probes j }) in
    subst (StaysBesideTable r) (sym back) (back-stays r n start.inference c.recall_well_kept.ensures computes.kept)

pub returns-clause-once : goal.returns-clause-once
returns-clause-once c =
    let r = c.args.self.now in
    let i = c.args.place in
    let e : GoalEntry = (c.entry_at.result.0.now, c.entry_at.result.1.now) in
    let there : slice_get r.goals.table i ≡ Some e =
    sym (ap (λ (x : Evaluator). slice_get x.goals.table i) c.self.view_is) ∙ c.entry_at.ensures in
    let cx = ap (λ (x : Evaluator). x.context) c.self.view_is in
    let key = key_seen r.context.trees e.0 in
    let start = c.in_ok-start.start in
    let starts = subst (λ (x : Context). start.inference ≡ started (newest_of (key_seen x.trees e.0)) e.0.variables.items) cx c.in_ok-start.ensures.inference in
    let says = subst (λ (x : Context). trait_goal x.trees start.param_env start.predicate ≡ (key_seen x.trees e.0).goal) cx c.in_ok-start.ensures.says in
    let n = c.compute_here-answer.new.self in
    let out = c.suspend_state-aside.ensures.out in
    let computes = subst (λ (x : Evaluator). Computes fixed judge_of state probes (λ y. y.context) accounts x n (trait_goal x.context.trees start.param_env start.predicate) c.compute_here-answer.result) out c.compute_here-answer.ensures.computes in
    let aside = c.suspend_state-aside.ensures in
    let back : c.restore_state.new.self ≡ restore_state r n = c.restore_state.ensures ∙ (λ j. record n { mode = aside.mode j; inference = aside.inference j; marks = aside.probes j }) in
    subst (PutsOffOneAtMost r) (sym back) (one-at-most computes.kept.faults)

pub returns-clause-answer : goal.returns-clause-answer
returns-clause-answer c = λ d g.
    let r = c.args.self.now in
    let i = c.args.place in
    let e : GoalEntry = (c.entry_at.result.0.now, c.entry_at.result.1.now) in
    let there : slice_get r.goals.table i ≡ Some e =
    sym (ap (λ (x : Evaluator). slice_get x.goals.table i) c.self.view_is) ∙ c.entry_at.ensures in
    let cx = ap (λ (x : Evaluator). x.context) c.self.view_is in
    let key = key_seen r.context.trees e.0 in
    let start = c.in_ok-start.start in
    let starts = subst (λ (x : Context). start.inference ≡ started (newest_of (key_seen x.trees e.0)) e.0.variables.items) cx c.in_ok-start.ensures.inference in
    let says = subst (λ (x : Context). trait_goal x.trees start.param_env start.predicate ≡ (key_seen x.trees e.0).goal) cx c.in_ok-start.ensures.says in
    let n = c.compute_here-answer.new.self in
    let out = c.suspend_state-aside.ensures.out in
    let computes = subst (λ (x : Evaluator). Computes fixed judge_of state probes (λ y. y.context) accounts x n (trait_goal x.context.trees start.param_env start.predicate) c.compute_here-answer.result) out c.compute_here-answer.ensures.computes in
    let backed = subst (λ (x : Evaluator). AnswerIsBacked (judge_of (fixed x)) x.context (state x) (trait_goal x.context.trees start.param_env start.predicate) n.context.trees c.compute_here-answer.result) out c.compute_here-answer.ensures.backed in
    let aside = c.suspend_state-aside.ensures in
    let back : c.restore_state.new.self ≡ restore_state r n = c.restore_state.ensures ∙ (λ j. record n { mode = aside.mode j; inference = aside.inference j; marks = aside.probes j }) in
    let q = sym (ap (λ (x : Entry Via). x.key) (key-get r i e d there g)) in
    let u = sym (ap (λ (x : Evaluator). x.context.trees) back) in
    let z = sym c.answered.ensures in
    subst (λ (x : Result (Option (CanonicalResponse × Option Via)) Stop × Key × List Tree). IfOk x.0 (λ a. computing r (table_of r) x.1 (told x.2 a))) (λ j. (z j, q j, u j))
    (answer-is r n start.inference key (trait_goal r.context.trees start.param_env start.predicate) starts says (subst IsWellFormedTable cx c.recall_well_formed_table.ensures) c.compute_here-answer.result computes backed)

pub returns-clause-cause : goal.returns-clause-cause
returns-clause-cause c = λ d g.
    let r = c.args.self.now in
    let i = c.args.place in
    let e : GoalEntry = (c.entry_at.result.0.now, c.entry_at.result.1.now) in
    let there : slice_get r.goals.table i ≡ Some e =
    sym (ap (λ (x : Evaluator). slice_get x.goals.table i) c.self.view_is) ∙ c.entry_at.ensures in
    let cx = ap (λ (x : Evaluator). x.context) c.self.view_is in
    let key = key_seen r.context.trees e.0 in
    let start = c.in_ok-start.start in
    let starts = subst (λ (x : Context). start.inference ≡ started (newest_of (key_seen x.trees e.0)) e.0.variables.items) cx c.in_ok-start.ensures.inference in
    let says = subst (λ (x : Context). trait_goal x.trees start.param_env start.predicate ≡ (key_seen x.trees e.0).goal) cx c.in_ok-start.ensures.says in
    let n = c.compute_here-answer.new.self in
    let out = c.suspend_state-aside.ensures.out in
    let computes = subst (λ (x : Evaluator). Computes fixed judge_of state probes (λ y. y.context) accounts x n (trait_goal x.context.trees start.param_env start.predicate) c.compute_here-answer.result) out c.compute_here-answer.ensures.computes in
    let aside = c.suspend_state-aside.ensures in
    let q = sym (ap (λ (x : Entry Via). x.key) (key-get r i e d there g)) in
    let z = sym c.answered.ensures in
    let ts = c.restore_state.new.self.context.trees in
    subst (λ (x : Result (Option (CanonicalResponse × Option Via)) Stop × Key). IfErr x.0 (λ s. IsNotingStop ts s ⊎ IsComputingStop ts r (table_of r) x.1 s)) (λ j. (z j, q j))
    (answer-stopped r n start.inference key (trait_goal r.context.trees start.param_env start.predicate) starts says ts c.compute_here-answer.result
    (subst (Extends n.context.trees) (sym (ap (λ (x : Evaluator). x.context.trees) c.restore_state.ensures)) (grows-refl n.context).kept) computes)
