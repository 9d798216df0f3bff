use Rattle.std.proofs.Common.{Some, ap, sym, ◌∙◌}
use Rattle.std.proofs.lemmas.Result.{err_from_is_err_and}
use Rattle.ir_trees.specs.Syntax.Words.{args_forest, env_forest}
use Rattle.candidate_eval.proofs.Dynamic.Objects.{env-kept}
use Rattle.candidate_eval.specs.Interface.Evaluators.{pendings_of}
use Rattle.candidate_rounds.specs.Evaluators.Known.{listing, state}
use Rattle.candidate_rounds.specs.Evaluators.Stopping.{IsEquationStop, IsOpeningStop}
use Rattle.candidate_rounds.proofs.Equations.OpenSides.{asked_cause, asked_ok, asked_refused, list-kept, open_still, rigid_is, rigid_stops}
use Rattle.candidate_rounds.proofs.Evaluators.Between.{parts}
use Rattle.candidate_rounds.proofs.Evaluators.Going.{goes-trans}
use Rattle.candidate_rounds.proofs.Stops.SettlingStops.{refusal-passed}
use Rattle.candidate_rounds.proofs.rounds.Rounds.equation_below.Goals as goal

pub equate_openly-requires-clause-open : goal.equate_openly-requires-clause-open
equate_openly-requires-clause-open c =
    open_still c.args.self.now c.asks_openly.new.self c.args.env c.args.a c.args.b (parts c.recall_well_kept.ensures).given c.requires.env c.requires.left c.requires.right c.asks_openly.ensures.goes c.asks_openly.ensures.state (sym c.in_ok-asks_openly.ensures.is ∙ c.if-branch.true)

pub equate_openly-requires-clause-env : goal.equate_openly-requires-clause-env
equate_openly-requires-clause-env c = (env-kept c.args.self.now.context c.asks_openly.new.self.context c.args.env c.asks_openly.ensures.goes.0 c.requires.env).0

pub equate_openly-requires-clause-left : goal.equate_openly-requires-clause-left
equate_openly-requires-clause-left c = (list-kept c.args.self.now.context c.asks_openly.new.self.context c.args.a c.asks_openly.ensures.goes.0 c.requires.left).0

pub equate_openly-requires-clause-right : goal.equate_openly-requires-clause-right
equate_openly-requires-clause-right c = (list-kept c.args.self.now.context c.asks_openly.new.self.context c.args.b c.asks_openly.ensures.goes.0 c.requires.right).0

pub equate_args-requires-clause-left : goal.equate_args-requires-clause-left
equate_args-requires-clause-left c = (list-kept c.args.self.now.context c.asks_openly.new.self.context c.args.a c.asks_openly.ensures.goes.0 c.requires.left).0

pub equate_args-requires-clause-right : goal.equate_args-requires-clause-right
equate_args-requires-clause-right c = (list-kept c.args.self.now.context c.asks_openly.new.self.context c.args.b c.asks_openly.ensures.goes.0 c.requires.right).0

pub returns-then-branch-clause-goes : goal.returns-then-branch-clause-goes
returns-then-branch-clause-goes c = goes-trans c.args.self.now c.asks_openly.new.self c.equate_openly.new.self c.asks_openly.ensures.goes c.equate_openly.ensures.goes

pub returns-then-branch-clause-ok : goal.returns-then-branch-clause-ok
returns-then-branch-clause-ok c =
    let new = c.equate_openly.new.self in
    asked_ok c.args.self.now c.asks_openly.new.self c.args.env c.args.a c.args.b (parts c.recall_well_kept.ensures).given c.requires.env c.requires.left c.requires.right c.asks_openly.ensures.goes c.asks_openly.ensures.state c.equate_openly.result (λ v. pendings_of new.context.trees v.items) (state new) (sym c.in_ok-asks_openly.ensures.is ∙ c.if-branch.true) c.equate_openly.ensures.ok

pub returns-then-branch-clause-refused : goal.returns-then-branch-clause-refused
returns-then-branch-clause-refused c =
    asked_refused c.args.self.now c.asks_openly.new.self c.args.env c.args.a c.args.b (parts c.recall_well_kept.ensures).given c.requires.env c.requires.left c.requires.right c.asks_openly.ensures.goes c.asks_openly.ensures.state c.equate_openly.result (sym c.in_ok-asks_openly.ensures.is ∙ c.if-branch.true) c.equate_openly.ensures.refused

pub returns-then-branch-clause-cause : goal.returns-then-branch-clause-cause
returns-then-branch-clause-cause c =
    asked_cause c.args.self.now c.asks_openly.new.self c.args.env c.args.a c.args.b (parts c.recall_well_kept.ensures).given c.requires.env c.requires.left c.requires.right c.asks_openly.ensures.goes c.asks_openly.ensures.state c.equate_openly.result c.equate_openly.new.self.context.trees c.equate_openly.ensures.cause

pub returns-in_err-equate_args-clause-goes : goal.returns-in_err-equate_args-clause-goes
returns-in_err-equate_args-clause-goes c = goes-trans c.args.self.now c.asks_openly.new.self c.equate_args.new.self c.asks_openly.ensures.goes c.equate_args.ensures.goes

pub returns-in_err-equate_args-clause-refused : goal.returns-in_err-equate_args-clause-refused
returns-in_err-equate_args-clause-refused c =
    let p = err_from_is_err_and c.from_residual-in_err-equate_args.result c.from_residual-in_err-equate_args.ensures.1 in
    rw p.1 (λ n. rigid_is c.args.self.now c.asks_openly.new.self c.args.env c.args.a c.args.b (parts c.recall_well_kept.ensures).given c.requires.env c.requires.left c.requires.right c.asks_openly.ensures.goes c.asks_openly.ensures.state _ (sym c.in_ok-asks_openly.ensures.is ∙ c.if-branch.false) (c.in_err-equate_args.ensures.refused (sym p.2 ∙ n)))

pub returns-in_err-equate_args-clause-cause : goal.returns-in_err-equate_args-clause-cause
returns-in_err-equate_args-clause-cause c =
    let old = c.args.self.now in
    let mid = c.asks_openly.new.self in
    let us = c.equate_args.new.self.context.trees in
    refusal-passed (IsOpeningStop us (listing old) (state old) (env_forest old.context.trees c.args.env) (args_forest old.context.trees c.args.a) (args_forest old.context.trees c.args.b))
    (IsEquationStop us (listing mid) (state mid) (args_forest mid.context.trees c.args.a) (args_forest mid.context.trees c.args.b)) c.from_residual-in_err-equate_args.result
    c.in_err-equate_args.field-0.0 c.from_residual-in_err-equate_args.ensures.1 c.in_err-equate_args.ensures.cause
    (λ s k. rigid_stops c.args.self.now c.asks_openly.new.self c.args.env c.args.a c.args.b (parts c.recall_well_kept.ensures).given c.requires.env c.requires.left c.requires.right c.asks_openly.ensures.goes c.asks_openly.ensures.state us s k)

pub returns-clause-goes : goal.returns-clause-goes
returns-clause-goes c = goes-trans c.args.self.now c.asks_openly.new.self c.equate_args.new.self c.asks_openly.ensures.goes c.equate_args.ensures.goes

pub returns-clause-ok : goal.returns-clause-ok
returns-clause-ok c =
    let new = c.equate_args.new.self in
    rigid_is c.args.self.now c.asks_openly.new.self c.args.env c.args.a c.args.b (parts c.recall_well_kept.ensures).given c.requires.env c.requires.left c.requires.right c.asks_openly.ensures.goes c.asks_openly.ensures.state _ (sym c.in_ok-asks_openly.ensures.is ∙ c.if-branch.false) c.in_ok-equate_args.ensures.ok
    ∙ ap (λ gs. Some (pendings_of new.context.trees gs, state new)) (sym c.new.ensures.items)
