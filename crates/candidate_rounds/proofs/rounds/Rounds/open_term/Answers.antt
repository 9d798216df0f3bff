use Rattle.std.proofs.Common.{◌≡◌, inl, ◌++◌, ◌∷◌, [], refl, sym, ◌∙◌, ap, subst}
use Rattle.ir_trees.specs.declared.ir.heads.VariableSort.TheVariants.{General}
use Rattle.ir_trees.specs.declared.ir.kinds.Clause.{Clause}
use Rattle.ir_trees.specs.declared.ir.kinds.Goal.{Goal}
use Rattle.ir_trees.specs.declared.ir.stop.Stop.TheVariants.{Memory}
use Rattle.ir_trees.specs.Declarations.Context.{Context}
use Rattle.candidate_eval.specs.declared.eval.variable.VariableKind.TheVariants.{Term}
use Rattle.candidate_eval.specs.Interface.Noting.{IsNotingStop}
use Rattle.rounds_judge.specs.Table.Keys.{newest_of}
use Rattle.rounds_judge.specs.Table.TableSettling.{with_open}
use Rattle.candidate_rounds.specs.Evaluators.Known.{Evaluator, state}
use Rattle.candidate_rounds.specs.Table.Goals.{IsTraitGoal, key_seen}
use Rattle.candidate_rounds.specs.Table.Normalized.{by_counting, by_variables}
use Rattle.candidate_rounds.specs.Table.Projected.{IsOpenTermStop, term_not_begun, term_not_open}
use Rattle.candidate_rounds.proofs.Evaluators.Going.{goes-refl}
use Rattle.candidate_rounds.proofs.Stops.ResponseStops.{passed-on}
use Rattle.candidate_rounds.proofs.Table.Projected.{term-seen}
use Rattle.candidate_rounds.proofs.rounds.Rounds.open_term.Goals as goal

pub returns-in_err-newest-clause-goes : goal.returns-in_err-newest-clause-goes
returns-in_err-newest-clause-goes c = goes-refl c.args.self.now

pub returns-in_err-newest-clause-cause : goal.returns-in_err-newest-clause-cause
returns-in_err-newest-clause-cause c =
    let r = c.args.self.now in
    let s = c.in_err-newest.field-0.0 in
    let counting = subst (λ (e : Evaluator). IsNotingStop e.context.trees s) c.self.view_is c.in_err-newest.ensures.cause in
    passed-on (IsOpenTermStop r.context.trees (state r) (key_seen r.context.trees c.args.key)) c.from_residual.result s c.from_residual.ensures.1 (term_not_begun (by_counting counting))

pub returns-in_err-add_term-clause-goes : goal.returns-in_err-add_term-clause-goes
returns-in_err-add_term-clause-goes c = goes-refl c.args.self.now

pub returns-in_err-add_term-clause-cause : goal.returns-in_err-add_term-clause-cause
returns-in_err-add_term-clause-cause c =
    let r = c.args.self.now in
    passed-on (IsOpenTermStop r.context.trees (state r) (key_seen r.context.trees c.args.key)) c.from_residual-in_err-add_term.result c.in_err-add_term.field-0.0 c.from_residual-in_err-add_term.ensures.1
    (term_not_begun (by_variables c.in_err-add_term.ensures.cause))

pub returns-in_err-term-clause-cause : goal.returns-in_err-term-clause-cause
returns-in_err-term-clause-cause c =
    let r = c.args.self.now in
    passed-on (IsOpenTermStop c.open_variable.new.self.context.trees (state r) (key_seen r.context.trees c.args.key)) c.from_residual-in_err-term.result c.in_err-term.field-0.0 c.from_residual-in_err-term.ensures.1
    (term_not_open c.in_err-term.ensures.cause)

pub returns-in_err-push-clause-cause : goal.returns-in_err-push-clause-cause
returns-in_err-push-clause-cause c =
    let r = c.args.self.now in
    passed-on (IsOpenTermStop c.open_variable.new.self.context.trees (state r) (key_seen r.context.trees c.args.key)) c.from_residual-in_err-push.result Memory c.from_residual-in_err-push.ensures.1 (term_not_open (inl refl))

pub returns-clause-sort : goal.returns-clause-sort
returns-clause-sort c =
    let same = c.open_variable.ensures.context in
    let goal = c.add_term.ensures.goal in
    subst (λ (p : Context × Goal Clause). IsTraitGoal p.0.trees p.1) (λ i. (sym same i, sym goal i)) c.requires

pub returns-clause-key : goal.returns-clause-key
returns-clause-key c =
    let r = c.args.self.now in
    let newest = subst (λ (e : Evaluator). c.in_ok-newest.newest ≡ newest_of (key_seen e.context.trees c.args.key)) c.self.view_is c.in_ok-newest.ensures.newest in
    term-seen r.context.trees c.args.key c.add_term.new.key c.in_ok-newest.newest newest c.add_term.ensures.goal c.in_ok-add_term.ensures.variables

pub returns-clause-numbers : goal.returns-clause-numbers
returns-clause-numbers c = c.in_ok-push.ensures.items ∙ ap (λ n. c.args.numbers.items ++ n ∷ []) c.in_ok-term.ensures.number

pub returns-clause-made : goal.returns-clause-made
returns-clause-made c =
    let r = c.args.self.now in
    let newest = subst (λ (e : Evaluator). c.in_ok-newest.newest ≡ newest_of (key_seen e.context.trees c.args.key)) c.self.view_is c.in_ok-newest.ensures.newest in
    c.in_ok-term.ensures.made ∙ ap (λ u. with_open (state r) (record { kind = Term General; universe = u })) newest
