use Rattle.std.proofs.Common.{Some, sym, ◌∙◌, ap}
use Rattle.std.proofs.lemmas.Result.{err_from_is_err_and}
use Rattle.ir_trees.specs.declared.ir.heads.VariableSort.TheVariants.{General}
use Rattle.candidate_eval.specs.declared.eval.variable.VariableKind.TheVariants.{Term}
use Rattle.candidate_eval.specs.Judges.States.{variable}
use Rattle.candidate_eval.specs.Outcomes.ResponseTrees.{response_of}
use Rattle.rounds_judge.specs.Table.Keys.{Key}
use Rattle.candidate_rounds.specs.Evaluators.Known.{listing, state}
use Rattle.candidate_rounds.specs.Evaluators.Stopping.{IsGivingStop}
use Rattle.candidate_rounds.specs.Table.Goals.{key_seen}
use Rattle.candidate_rounds.specs.Table.Normalizing.{goal_of_trait}
use Rattle.candidate_rounds.specs.Table.Projected.{IsGivingNormalStop, normal_key, normal_type}
use Rattle.candidate_rounds.proofs.Evaluators.Between.{parts}
use Rattle.candidate_rounds.proofs.Evaluators.Exits.{not-refused}
use Rattle.candidate_rounds.proofs.Evaluators.Going.{goes-listing, goes-table, goes-trans}
use Rattle.candidate_rounds.proofs.Evaluators.Interface.{keeps-going}
use Rattle.candidate_rounds.proofs.Stops.SettlingStops.{refusal-passed, stop-becomes}
use Rattle.candidate_rounds.proofs.Table.Projected.{normal-given, normal-stop, term-numbers}
use Rattle.candidate_rounds.proofs.Table.Tabled.{response-sees, response-stays}
use Rattle.candidate_rounds.proofs.rounds.Rounds.give_normal.Goals as goal

-- What is required of the call that gives the response.

pub give-requires-clause-response : goal.give-requires-clause-response
give-requires-clause-response c =
    response-stays c.args.self.now.context.trees c.key_with_term.new.self.context.trees c.key_with_term.ensures.goes.0.kept c.args.response.now c.requires.response

pub give-requires-clause-many : goal.give-requires-clause-many
give-requires-clause-many c =
    let r = c.args.self.now in
    let made = c.in_ok-asked.ensures in
    term-numbers (state r) (goal_of_trait r.context c.args.param_env c.args.alias) c.as_slice.result.now c.in_ok-asked.asked.key.variables.items (c.as_slice.ensures.value ∙ made.numbers) (ap (λ (k : Key). k.variables) made.key)

-- It goes on.

pub returns-in_err-asked-clause-kept : goal.returns-in_err-asked-clause-kept
returns-in_err-asked-clause-kept c = keeps-going c.args.self.now c.key_with_term.new.self c.key_with_term.ensures.goes c.recall_well_kept.ensures

pub returns-in_err-asked-clause-table : goal.returns-in_err-asked-clause-table
returns-in_err-asked-clause-table c = goes-table c.args.self.now c.key_with_term.new.self c.key_with_term.ensures.goes (parts c.recall_well_kept.ensures).tabled

pub returns-in_err-give-clause-goes : goal.returns-in_err-give-clause-goes
returns-in_err-give-clause-goes c = goes-trans c.args.self.now c.key_with_term.new.self c.give.new.self c.key_with_term.ensures.goes c.give.ensures.goes

pub returns-in_err-give-clause-kept : goal.returns-in_err-give-clause-kept
returns-in_err-give-clause-kept c =
    let r = c.args.self.now in
    let goes = goes-trans r c.key_with_term.new.self c.give.new.self c.key_with_term.ensures.goes c.give.ensures.goes in
    keeps-going r c.give.new.self goes c.recall_well_kept.ensures

pub returns-in_err-give-clause-table : goal.returns-in_err-give-clause-table
returns-in_err-give-clause-table c =
    let r = c.args.self.now in
    let goes = goes-trans r c.key_with_term.new.self c.give.new.self c.key_with_term.ensures.goes c.give.ensures.goes in
    goes-table r c.give.new.self goes (parts c.recall_well_kept.ensures).tabled

pub returns-in_err-term_at-clause-goes : goal.returns-in_err-term_at-clause-goes
returns-in_err-term_at-clause-goes c =
    let r = c.args.self.now in
    let goes = goes-trans r c.key_with_term.new.self c.give.new.self c.key_with_term.ensures.goes c.give.ensures.goes in
    goes-trans r c.give.new.self c.term_at.new.self goes c.term_at.ensures.goes

pub returns-in_err-term_at-clause-kept : goal.returns-in_err-term_at-clause-kept
returns-in_err-term_at-clause-kept c =
    let r = c.args.self.now in
    let goes = goes-trans r c.key_with_term.new.self c.give.new.self c.key_with_term.ensures.goes c.give.ensures.goes in
    keeps-going r c.term_at.new.self (goes-trans r c.give.new.self c.term_at.new.self goes c.term_at.ensures.goes) c.recall_well_kept.ensures

pub returns-in_err-term_at-clause-table : goal.returns-in_err-term_at-clause-table
returns-in_err-term_at-clause-table c =
    let r = c.args.self.now in
    let goes = goes-trans r c.key_with_term.new.self c.give.new.self c.key_with_term.ensures.goes c.give.ensures.goes in
    goes-table r c.term_at.new.self (goes-trans r c.give.new.self c.term_at.new.self goes c.term_at.ensures.goes) (parts c.recall_well_kept.ensures).tabled

pub returns-clause-goes : goal.returns-clause-goes
returns-clause-goes c =
    let r = c.args.self.now in
    let goes = goes-trans r c.key_with_term.new.self c.give.new.self c.key_with_term.ensures.goes c.give.ensures.goes in
    goes-trans r c.give.new.self c.term_at.new.self goes c.term_at.ensures.goes

pub returns-clause-kept : goal.returns-clause-kept
returns-clause-kept c =
    let r = c.args.self.now in
    let goes = goes-trans r c.key_with_term.new.self c.give.new.self c.key_with_term.ensures.goes c.give.ensures.goes in
    keeps-going r c.term_at.new.self (goes-trans r c.give.new.self c.term_at.new.self goes c.term_at.ensures.goes) c.recall_well_kept.ensures

pub returns-clause-table : goal.returns-clause-table
returns-clause-table c =
    let r = c.args.self.now in
    let goes = goes-trans r c.key_with_term.new.self c.give.new.self c.key_with_term.ensures.goes c.give.ensures.goes in
    goes-table r c.term_at.new.self (goes-trans r c.give.new.self c.term_at.new.self goes c.term_at.ensures.goes) (parts c.recall_well_kept.ensures).tabled

-- The type, and what is known then.

pub returns-clause-tree : goal.returns-clause-tree
returns-clause-tree c = c.in_ok-term_at.ensures.tree ∙ ap (λ n. variable (Term General) n) c.in_ok-asked.ensures.term

pub returns-clause-ok : goal.returns-clause-ok
returns-clause-ok c =
    let r = c.args.self.now in
    let mid = c.key_with_term.new.self in
    let made = c.in_ok-asked.ensures in
    let g = goal_of_trait r.context c.args.param_env c.args.alias in
    let same = response-sees r.context.trees mid.context.trees c.key_with_term.ensures.goes.0.kept c.args.response.now c.requires.response in
    let listed = goes-listing r mid c.key_with_term.ensures.goes (parts c.recall_well_kept.ensures).given in
    sym (normal-given (listing r) (listing mid) (state r) (state mid) g (key_seen mid.context.trees c.in_ok-asked.asked.key) c.as_slice.result.now (response_of r.context.trees c.args.response.now) (response_of mid.context.trees c.args.response.now)
    listed made.made made.key (c.as_slice.ensures.value ∙ made.numbers) same)
    ∙ (c.in_ok-give.ensures.ok ∙ ap Some (sym c.term_at.ensures.state))

pub returns-in_err-give-clause-refused : goal.returns-in_err-give-clause-refused
returns-in_err-give-clause-refused c =
    let r = c.args.self.now in
    let mid = c.key_with_term.new.self in
    let made = c.in_ok-asked.ensures in
    let g = goal_of_trait r.context c.args.param_env c.args.alias in
    let same = response-sees r.context.trees mid.context.trees c.key_with_term.ensures.goes.0.kept c.args.response.now c.requires.response in
    let listed = goes-listing r mid c.key_with_term.ensures.goes (parts c.recall_well_kept.ensures).given in
    let is = normal-given (listing r) (listing mid) (state r) (state mid) g (key_seen mid.context.trees c.in_ok-asked.asked.key) c.as_slice.result.now (response_of r.context.trees c.args.response.now) (response_of mid.context.trees c.args.response.now)
    listed made.made made.key (c.as_slice.ensures.value ∙ made.numbers) same in
    let p = err_from_is_err_and c.from_residual-in_err-give.result c.from_residual-in_err-give.ensures.1 in
    rw p.1
    (λ n. sym is ∙ c.in_err-give.ensures.refused (sym p.2 ∙ n))

pub returns-in_err-asked-clause-refused : goal.returns-in_err-asked-clause-refused
returns-in_err-asked-clause-refused c = not-refused _ c.from_residual.result _ c.from_residual.ensures.1

pub returns-in_err-term_at-clause-refused : goal.returns-in_err-term_at-clause-refused
returns-in_err-term_at-clause-refused c = not-refused _ c.from_residual-in_err-term_at.result _ c.from_residual-in_err-term_at.ensures.1

-- Why it stops.

pub returns-in_err-asked-clause-cause : goal.returns-in_err-asked-clause-cause
returns-in_err-asked-clause-cause c =
    let r = c.args.self.now in
    stop-becomes (IsGivingNormalStop c.key_with_term.new.self.context.trees (listing r) (state r) (goal_of_trait r.context c.args.param_env c.args.alias) (response_of r.context.trees c.args.response.now)) c.from_residual.result
    c.in_err-asked.field-0.0 c.from_residual.ensures.1 (normal_key c.in_err-asked.ensures.cause)

pub returns-in_err-give-clause-cause : goal.returns-in_err-give-clause-cause
returns-in_err-give-clause-cause c =
    let r = c.args.self.now in
    let mid = c.key_with_term.new.self in
    let made = c.in_ok-asked.ensures in
    let ts = c.give.new.self.context.trees in
    let g = goal_of_trait r.context c.args.param_env c.args.alias in
    let k = key_seen mid.context.trees c.in_ok-asked.asked.key in
    let a = response_of r.context.trees c.args.response.now in
    let b = response_of mid.context.trees c.args.response.now in
    let same = response-sees r.context.trees mid.context.trees c.key_with_term.ensures.goes.0.kept c.args.response.now c.requires.response in
    let listed = goes-listing r mid c.key_with_term.ensures.goes (parts c.recall_well_kept.ensures).given in
    refusal-passed (IsGivingNormalStop ts (listing r) (state r) g a) (IsGivingStop ts (listing mid) (state mid) k c.as_slice.result.now b) c.from_residual-in_err-give.result c.in_err-give.field-0.0 c.from_residual-in_err-give.ensures.1
    c.in_err-give.ensures.cause
    (λ s h. normal-stop (listing r) (listing mid) (state r) (state mid) g k c.as_slice.result.now a b listed made.made made.key (c.as_slice.ensures.value ∙ made.numbers) same ts s h)

pub returns-in_err-term_at-clause-cause : goal.returns-in_err-term_at-clause-cause
returns-in_err-term_at-clause-cause c =
    let r = c.args.self.now in
    stop-becomes (IsGivingNormalStop c.term_at.new.self.context.trees (listing r) (state r) (goal_of_trait r.context c.args.param_env c.args.alias) (response_of r.context.trees c.args.response.now)) c.from_residual-in_err-term_at.result
    c.in_err-term_at.field-0.0 c.from_residual-in_err-term_at.ensures.1 (normal_type c.in_err-term_at.ensures.cause)
