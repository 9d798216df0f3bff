use Rattle.std.proofs.Common.{sym, ◌∙◌}
use Rattle.std.proofs.lemmas.Result.{err_from_is_err_and}
use Rattle.ir_trees.specs.Syntax.Words.{args_forest, env_forest}
use Rattle.candidate_eval.proofs.Dynamic.Objects.{env-kept}
use Rattle.candidate_rounds.specs.Evaluators.Known.{listing, state}
use Rattle.candidate_rounds.specs.Evaluators.Stopping.{IsEquationStop, IsOpeningStop, sides_readied}
use Rattle.candidate_rounds.proofs.Equations.OpenSides.{opened_stops, openly_none, openly_some, openly_stops}
use Rattle.candidate_rounds.proofs.Evaluators.Between.{parts}
use Rattle.candidate_rounds.proofs.Evaluators.Going.{goes-trans}
use Rattle.candidate_rounds.proofs.Obligations.Evaluating.{goals-kept, pendings-kept}
use Rattle.candidate_rounds.proofs.Stops.SettlingStops.{stop-becomes}
use Rattle.candidate_rounds.proofs.Stops.SettlingStops.{refusal-passed}
use Rattle.candidate_rounds.proofs.rounds.Rounds.equate_openly.Goals as goal

pub returns-in_err-a-clause-cause : goal.returns-in_err-a-clause-cause
returns-in_err-a-clause-cause c =
    let old = c.args.self.now in
    let ts = old.context.trees in
    stop-becomes (IsOpeningStop c.both_readied.new.self.context.trees (listing old) (state old) (env_forest ts c.args.env) (args_forest ts c.args.a) (args_forest ts c.args.b)) c.from_residual.result c.in_err-a.field-0.0
    c.from_residual.ensures.1 (sides_readied c.requires.open c.in_err-a.ensures.cause)

pub open_sides-requires-clause-env : goal.open_sides-requires-clause-env
open_sides-requires-clause-env c = (env-kept c.args.self.now.context c.both_readied.new.self.context c.args.env c.both_readied.ensures.goes.0 c.requires.env).0

pub returns-in_err-sides-clause-cause : goal.returns-in_err-sides-clause-cause
returns-in_err-sides-clause-cause c =
    let old = c.args.self.now in
    let mid = c.both_readied.new.self in
    let ts = old.context.trees in
    stop-becomes (IsOpeningStop c.open_sides.new.self.context.trees (listing old) (state old) (env_forest ts c.args.env) (args_forest ts c.args.a) (args_forest ts c.args.b)) c.from_residual-in_err-sides.result c.in_err-sides.field-0.0
    c.from_residual-in_err-sides.ensures.1
    (opened_stops old mid c.args.env c.args.a c.args.b c.in_ok-a.a c.in_ok-a.b c.both_readied.ensures.goes c.both_readied.ensures.state c.in_ok-a.ensures.left.1 c.in_ok-a.ensures.right.1 c.open_sides.new.self.context.trees
    c.in_err-sides.field-0.0 c.requires.open c.in_err-sides.ensures.cause)

pub returns-in_err-equate_args-clause-goes : goal.returns-in_err-equate_args-clause-goes
returns-in_err-equate_args-clause-goes c =
    goes-trans c.args.self.now c.open_sides.new.self c.equate_args.new.self (goes-trans c.args.self.now c.both_readied.new.self c.open_sides.new.self c.both_readied.ensures.goes c.open_sides.ensures.goes) c.equate_args.ensures.goes

pub returns-in_err-equate_args-clause-refused : goal.returns-in_err-equate_args-clause-refused
returns-in_err-equate_args-clause-refused c =
    let old = c.args.self.now in
    let mid = c.both_readied.new.self in
    let now = c.open_sides.new.self in
    let p = err_from_is_err_and c.from_residual-in_err-equate_args.result c.from_residual-in_err-equate_args.ensures.1 in
    rw p.1
    (λ e. openly_none old mid now c.args.env c.args.a c.args.b c.in_ok-a.a c.in_ok-a.b c.in_ok-sides.sides (parts c.recall_well_kept.ensures).given c.requires.env c.both_readied.ensures.goes c.both_readied.ensures.state c.in_ok-a.ensures.left.1 c.in_ok-a.ensures.right.1
    c.open_sides.ensures.goes c.in_ok-sides.ensures.are c.in_ok-sides.ensures.state
    (c.in_err-equate_args.ensures.refused (sym p.2 ∙ e)))

pub returns-in_err-equate_args-clause-cause : goal.returns-in_err-equate_args-clause-cause
returns-in_err-equate_args-clause-cause c =
    let old = c.args.self.now in
    let mid = c.both_readied.new.self in
    let now = c.open_sides.new.self in
    let ts = old.context.trees in
    let us = c.equate_args.new.self.context.trees in
    refusal-passed (IsOpeningStop us (listing old) (state old) (env_forest ts c.args.env) (args_forest ts c.args.a) (args_forest ts c.args.b))
    (IsEquationStop us (listing now) (state now) (args_forest now.context.trees c.in_ok-sides.sides.left) (args_forest now.context.trees c.in_ok-sides.sides.right))
    c.from_residual-in_err-equate_args.result c.in_err-equate_args.field-0.0 c.from_residual-in_err-equate_args.ensures.1 c.in_err-equate_args.ensures.cause
    (λ s k. openly_stops old mid now c.args.env c.args.a c.args.b c.in_ok-a.a c.in_ok-a.b c.in_ok-sides.sides (parts c.recall_well_kept.ensures).given c.requires.env c.both_readied.ensures.goes c.both_readied.ensures.state c.in_ok-a.ensures.left.1 c.in_ok-a.ensures.right.1
    c.open_sides.ensures.goes c.in_ok-sides.ensures.are c.in_ok-sides.ensures.state
    us s c.requires.open k)

pub returns-clause-goes : goal.returns-clause-goes
returns-clause-goes c =
    goes-trans c.args.self.now c.open_sides.new.self c.equate_args.new.self (goes-trans c.args.self.now c.both_readied.new.self c.open_sides.new.self c.both_readied.ensures.goes c.open_sides.ensures.goes) c.equate_args.ensures.goes

pub returns-clause-sort : goal.returns-clause-sort
returns-clause-sort c = goals-kept c.open_sides.new.self.context c.equate_args.new.self.context c.in_ok-sides.sides.goals.items c.equate_args.ensures.goes.0 c.in_ok-sides.ensures.fit.goals

pub returns-clause-ok : goal.returns-clause-ok
returns-clause-ok c =
    let old = c.args.self.now in
    let mid = c.both_readied.new.self in
    let now = c.open_sides.new.self in
    openly_some old mid now c.args.env c.args.a c.args.b c.in_ok-a.a c.in_ok-a.b c.in_ok-sides.sides (parts c.recall_well_kept.ensures).given c.requires.env c.both_readied.ensures.goes c.both_readied.ensures.state c.in_ok-a.ensures.left.1 c.in_ok-a.ensures.right.1
    c.open_sides.ensures.goes c.in_ok-sides.ensures.are c.in_ok-sides.ensures.state
    (state c.equate_args.new.self) _ c.in_ok-equate_args.ensures.ok (pendings-kept now.context c.equate_args.new.self.context c.in_ok-sides.sides.goals.items c.equate_args.ensures.goes.0 c.in_ok-sides.ensures.fit.goals)
