use Rattle.std.proofs.Common.{◌≡◌, List, ◌++◌, ◌∷◌, [], length, IfOk, OnOk, ℕ, sym, ◌∙◌, ap, subst}
use Rattle.ir_trees.specs.declared.ir.kinds.TraitPredicate.{TraitPredicate}
use Rattle.ir_trees.specs.Declarations.Context.{Context}
use Rattle.candidate_eval.specs.Judges.States.{State}
use Rattle.candidate_assembly.specs.Goals.KindShown.{IsGoal, trait_kind}
use Rattle.candidate_assembly.specs.Goals.TraitGoals.{trait_goal}
use Rattle.rounds_judge.specs.Table.Keys.{Key, key_at, numbers_at}
use Rattle.rounds_judge.specs.Table.TableSettling.{with_open}
use Rattle.candidate_rounds.specs.Evaluators.Known.{Evaluator, state}
use Rattle.candidate_rounds.specs.Evaluators.Stopping.{IsGoalKeyStop}
use Rattle.candidate_rounds.specs.Table.Goals.{key_seen}
use Rattle.candidate_rounds.specs.Table.Normalizing.{goal_of_trait, term_variable, trait_predicate, with_term}
use Rattle.candidate_rounds.specs.Table.Projected.{IsOpenTermStop, IsTermKeyStop, term_key, term_key_then}
use Rattle.candidate_rounds.proofs.Evaluators.Going.{goes-trans}
use Rattle.candidate_rounds.proofs.Stops.ResponseStops.{passed-on}
use Rattle.candidate_rounds.proofs.Stops.SettlingStops.{cause-then}
use Rattle.candidate_rounds.proofs.rounds.Rounds.key_with_term.Goals as goal

pub asked_for-requires : goal.asked_for-requires
asked_for-requires c =
    let r = c.args.self.now in
    let predicate = c.trait_predicate-predicate.ensures ∙ ap (λ (x : Evaluator). trait_predicate x.context c.args.alias) c.self.view_is in
    subst (IsGoal trait_kind r.context c.args.param_env) (sym predicate) c.requires.goal

pub returns-in_err-asked-clause-cause : goal.returns-in_err-asked-clause-cause
returns-in_err-asked-clause-cause c =
    let r = c.args.self.now in
    let ts = c.asked_for.new.self.context.trees in
    let s = c.in_err-asked.field-0.0 in
    let predicate = c.trait_predicate-predicate.ensures ∙ ap (λ (x : Evaluator). trait_predicate x.context c.args.alias) c.self.view_is in
    let cause = subst (λ (p : TraitPredicate). IsGoalKeyStop ts (state r) (trait_goal r.context.trees c.args.param_env p) s) predicate c.in_err-asked.ensures.cause in
    passed-on (IsTermKeyStop ts (state r) (goal_of_trait r.context c.args.param_env c.args.alias)) c.from_residual.result s c.from_residual.ensures.1 (term_key cause)

pub returns-clause-goes : goal.returns-clause-goes
returns-clause-goes c = goes-trans c.args.self.now c.asked_for.new.self c.open_term.new.self c.asked_for.ensures.goes c.open_term.ensures.goes

pub returns-clause-key : goal.returns-clause-key
returns-clause-key c =
    let r = c.args.self.now in
    let predicate = c.trait_predicate-predicate.ensures ∙ ap (λ (x : Evaluator). trait_predicate x.context c.args.alias) c.self.view_is in
    let key = c.in_ok-asked.ensures.key ∙ ap (λ (p : TraitPredicate). key_at (state r) (trait_goal r.context.trees c.args.param_env p)) predicate in
    let same = c.open_term.ensures.context in
    subst (λ (p : Context × Key). IfOk c.open_term.result (λ x. key_seen p.0.trees x.key ≡ with_term p.1)) (λ i. (sym same i, key i)) c.open_term.ensures.key

pub returns-clause-numbers : goal.returns-clause-numbers
returns-clause-numbers c =
    let r = c.args.self.now in
    let predicate = c.trait_predicate-predicate.ensures ∙ ap (λ (x : Evaluator). trait_predicate x.context c.args.alias) c.self.view_is in
    let numbers = c.in_ok-asked.ensures.numbers ∙ ap (λ (p : TraitPredicate). numbers_at (state r) (trait_goal r.context.trees c.args.param_env p)) predicate in
    let same = c.asked_for.ensures.state in
    subst (λ (p : List ℕ × State). IfOk c.open_term.result (λ x. x.numbers.items ≡ p.0 ++ length p.1.variables ∷ [])) (λ i. (numbers i, same i)) c.open_term.ensures.numbers

pub returns-clause-term : goal.returns-clause-term
returns-clause-term c = subst (λ (S : State). IfOk c.open_term.result (λ x. x.term ≡ length S.variables)) c.asked_for.ensures.state c.open_term.ensures.term

pub returns-clause-made : goal.returns-clause-made
returns-clause-made c =
    let r = c.args.self.now in
    let predicate = c.trait_predicate-predicate.ensures ∙ ap (λ (x : Evaluator). trait_predicate x.context c.args.alias) c.self.view_is in
    let key = c.in_ok-asked.ensures.key ∙ ap (λ (p : TraitPredicate). key_at (state r) (trait_goal r.context.trees c.args.param_env p)) predicate in
    let same = c.asked_for.ensures.state in
    subst (λ (p : State × Key). OnOk c.open_term.result (state c.open_term.new.self ≡ with_open p.0 (term_variable p.1))) (λ i. (same i, key i)) c.open_term.ensures.made

pub returns-clause-cause : goal.returns-clause-cause
returns-clause-cause c =
    let r = c.args.self.now in
    let mid = c.asked_for.new.self in
    let ts = c.open_term.new.self.context.trees in
    let predicate = c.trait_predicate-predicate.ensures ∙ ap (λ (x : Evaluator). trait_predicate x.context c.args.alias) c.self.view_is in
    let key = c.in_ok-asked.ensures.key ∙ ap (λ (p : TraitPredicate). key_at (state r) (trait_goal r.context.trees c.args.param_env p)) predicate in
    let same = c.asked_for.ensures.state in
    cause-then (IsTermKeyStop ts (state r) (goal_of_trait r.context c.args.param_env c.args.alias)) (IsOpenTermStop ts (state mid) (key_seen mid.context.trees c.in_ok-asked.asked.key)) c.open_term.result c.open_term.ensures.cause
    (λ s k. term_key_then (subst (λ (p : State × Key). IsOpenTermStop ts p.0 p.1 s) (λ i. (same i, key i)) k))
