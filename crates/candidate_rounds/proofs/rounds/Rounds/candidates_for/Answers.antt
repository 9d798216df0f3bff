use Rattle.std.proofs.Common.{◌≡◌, reverse, sym, ◌∙◌, ap, subst}
use Rattle.ir_trees.specs.Declarations.Context.{Context}
use Rattle.ir_trees.specs.Syntax.Nodes.{Extends}
use Rattle.ir_trees.proofs.Growth.Kept.{grows-refl}
use Rattle.ir_trees.specs.Validity.WellFormed.{IsWellFormedTable}
use Rattle.candidate_assembly.specs.Goals.Standing.{GoalIsValid}
use Rattle.candidate_assembly.specs.Goals.TraitGoals.{trait_goal}
use Rattle.candidate_assembly.specs.Goals.TraitRules.{trait_rules}
use Rattle.candidate_rounds.specs.Table.Goals.{IsKeyOf, key_seen}
use Rattle.candidate_rounds.specs.Evaluators.Known.{Evaluator, IsEvaluator, state, table_of}
use Rattle.candidate_rounds.specs.Table.Steps.{IsListed}
use Rattle.candidate_eval.specs.Outcomes.ResponseTrees.{candidates_of}
use Rattle.candidate_rounds.specs.Calls.Starting.{started}
use Rattle.candidate_rounds.proofs.Table.Computing.{back-holds, out-holds, out-state, restore_state}
use Rattle.candidate_rounds.proofs.Table.Running.{stays-refl}
use Rattle.candidate_rounds.proofs.Table.Starting.{key-stands}
use Rattle.candidate_rounds.proofs.Table.Steps.{got-ok, list-grows, list-is, list-stays, when-suspended}
use Rattle.rounds_judge.specs.Table.Keys.{newest_of}
use Rattle.candidate_rounds.specs.Table.StepStops.{IsKeyListStop, list_looking}
use Rattle.candidate_rounds.proofs.Table.StepStops.{got-err, list-stopped}
use Rattle.candidate_rounds.proofs.Stops.ResponseStops.{passed-on}
use Rattle.candidate_eval.specs.Interface.Noting.{IsNotingStop}
use Rattle.candidate_rounds.proofs.rounds.Rounds.candidates_for.Goals as goal

pub start_of-requires : goal.start_of-requires
start_of-requires c = subst (λ (x : Evaluator). IsKeyOf x.context.trees c.args.key.now) (sym c.self.view_is) c.requires.key

pub returns-in_err-start-clause-stays : goal.returns-in_err-start-clause-stays
returns-in_err-start-clause-stays c = stays-refl c.args.self.now

pub suspend_state-aside-requires : goal.suspend_state-aside-requires
suspend_state-aside-requires c =
    let r = c.args.self.now in
    let cx = ap (λ (x : Evaluator). x.context) c.self.view_is in
    let start = c.in_ok-start.start in
    let starts = subst (λ (x : Context). start.inference ≡ started (newest_of (key_seen x.trees c.args.key.now)) c.args.key.now.variables.items) cx c.in_ok-start.ensures.inference in
    out-holds r (key_seen r.context.trees c.args.key.now) start.inference c.recall_well_kept.ensures starts

pub list_here-answer-requires-clause-stands : goal.list_here-answer-requires-clause-stands
list_here-answer-requires-clause-stands c =
    let r = c.args.self.now in
    let cx = ap (λ (x : Evaluator). x.context) c.self.view_is in
    let key = key_seen r.context.trees c.args.key.now in
    let start = c.in_ok-start.start in
    let starts = subst (λ (x : Context). start.inference ≡ started (newest_of (key_seen x.trees c.args.key.now)) c.args.key.now.variables.items) cx c.in_ok-start.ensures.inference in
    let says = subst (λ (x : Context). trait_goal x.trees start.param_env start.predicate ≡ (key_seen x.trees c.args.key.now).goal) cx c.in_ok-start.ensures.says in
    let g = trait_goal r.context.trees start.param_env start.predicate in
    subst (λ (x : Evaluator). GoalIsValid trait_rules (state x) (trait_goal x.context.trees start.param_env start.predicate)) (sym c.suspend_state-aside.ensures.out)
    (subst (λ S. GoalIsValid trait_rules S g) (sym (out-state r key start.inference starts)) (key-stands r.mode key g c.requires.key.asked says))

pub restore_state-requires : goal.restore_state-requires
restore_state-requires c =
    let r = c.args.self.now in
    let n = c.list_here-answer.new.self in
    let start = c.in_ok-start.start in
    let aside = c.suspend_state-aside.ensures in
    let grows = list-grows r c.suspend_state-aside.new.self n start.inference aside.out _ _ _ c.list_here-answer.ensures in
    subst (λ x. IsEvaluator n.context x (reverse c.suspend_state-aside.result.probes.items) n.normal n.opaques n.goals) (sym aside.inference)
    (subst (λ x. IsEvaluator n.context r.inference x n.normal n.opaques n.goals) (sym aside.probes) (back-holds r n c.recall_well_kept.ensures grows c.recall_well_kept-2.ensures))

pub returns-in_err-candidates-clause-stays : goal.returns-in_err-candidates-clause-stays
returns-in_err-candidates-clause-stays c =
    let r = c.args.self.now in
    let n = c.list_here-answer.new.self in
    let aside = c.suspend_state-aside.ensures in
    let back : c.restore_state.new.self ≡ restore_state r n = c.restore_state.ensures ∙ (λ j. record n { mode = aside.mode j; inference = aside.inference j; marks = aside.probes j }) in
    list-stays r c.suspend_state-aside.new.self n c.in_ok-start.start.inference aside.out _ _ _ c.list_here-answer.ensures c.recall_well_kept.ensures c.restore_state.new.self back

pub returns-clause-stays : goal.returns-clause-stays
returns-clause-stays c =
    let r = c.args.self.now in
    let n = c.list_here-answer.new.self in
    let aside = c.suspend_state-aside.ensures in
    let back : c.restore_state.new.self ≡ restore_state r n = c.restore_state.ensures ∙ (λ j. record n { mode = aside.mode j; inference = aside.inference j; marks = aside.probes j }) in
    list-stays r c.suspend_state-aside.new.self n c.in_ok-start.start.inference aside.out _ _ _ c.list_here-answer.ensures c.recall_well_kept.ensures c.restore_state.new.self back

pub returns-clause-listed : goal.returns-clause-listed
returns-clause-listed c =
    let r = c.args.self.now in
    let m = c.suspend_state-aside.new.self in
    let n = c.list_here-answer.new.self in
    let cx = ap (λ (x : Evaluator). x.context) c.self.view_is in
    let key = key_seen r.context.trees c.args.key.now in
    let start = c.in_ok-start.start in
    let starts = subst (λ (x : Context). start.inference ≡ started (newest_of (key_seen x.trees c.args.key.now)) c.args.key.now.variables.items) cx c.in_ok-start.ensures.inference in
    let says = subst (λ (x : Context). trait_goal x.trees start.param_env start.predicate ≡ (key_seen x.trees c.args.key.now).goal) cx c.in_ok-start.ensures.says in
    let aside = c.suspend_state-aside.ensures in
    let goal = ap (λ (x : Evaluator). trait_goal x.context.trees start.param_env start.predicate) aside.out ∙ says in
    let back : c.restore_state.new.self ≡ restore_state r n = c.restore_state.ensures ∙ (λ j. record n { mode = aside.mode j; inference = aside.inference j; marks = aside.probes j }) in
    let listed = list-is r n start.inference key _ starts goal (subst IsWellFormedTable cx c.recall_well_formed_table.ensures) _ _ (when-suspended r m n start.inference aside.out _ _ _ c.list_here-answer.ensures) in
    subst (λ ts. IsListed r (table_of r) key (candidates_of ts c.in_ok-candidates.candidates.items)) (sym (ap (λ (x : Evaluator). x.context.trees) back)) (got-ok _ _ c.in_ok-candidates.was _ listed)

pub returns-in_err-start-clause-cause : goal.returns-in_err-start-clause-cause
returns-in_err-start-clause-cause c =
    let r = c.args.self.now in
    let cx = ap (λ (x : Evaluator). x.context) c.self.view_is in
    let key = key_seen r.context.trees c.args.key.now in
    let stop = c.in_err-start.field-0.0 in
    passed-on (IsKeyListStop r.context.trees r (table_of r) key) c.from_residual.result stop c.from_residual.ensures.1 (list_looking (subst (λ (x : Context). IsNotingStop x.trees stop) cx c.in_err-start.ensures.cause))

pub returns-in_err-candidates-clause-cause : goal.returns-in_err-candidates-clause-cause
returns-in_err-candidates-clause-cause c =
    let r = c.args.self.now in
    let m = c.suspend_state-aside.new.self in
    let n = c.list_here-answer.new.self in
    let cx = ap (λ (x : Evaluator). x.context) c.self.view_is in
    let key = key_seen r.context.trees c.args.key.now in
    let start = c.in_ok-start.start in
    let starts = subst (λ (x : Context). start.inference ≡ started (newest_of (key_seen x.trees c.args.key.now)) c.args.key.now.variables.items) cx c.in_ok-start.ensures.inference in
    let says = subst (λ (x : Context). trait_goal x.trees start.param_env start.predicate ≡ (key_seen x.trees c.args.key.now).goal) cx c.in_ok-start.ensures.says in
    let aside = c.suspend_state-aside.ensures in
    let goal = ap (λ (x : Evaluator). trait_goal x.context.trees start.param_env start.predicate) aside.out ∙ says in
    let ts = c.restore_state.new.self.context.trees in
    let among = subst (Extends n.context.trees) (sym (ap (λ (x : Evaluator). x.context.trees) c.restore_state.ensures)) (grows-refl n.context).kept in
    let stopped = list-stopped r n start.inference key _ starts goal ts _ _ among (when-suspended r m n start.inference aside.out _ _ _ c.list_here-answer.ensures) in
    passed-on (IsKeyListStop ts r (table_of r) key) c.from_residual-in_err-candidates.result _ c.from_residual-in_err-candidates.ensures.1 (got-err _ _ c.in_err-candidates.was _ stopped)
