use Rattle.ir_folds.proofs.Hierarchy.Implying.{arg-kept}
use Rattle.candidate_rounds.proofs.Equations.Renewing.{lowered-after}
use Rattle.std.proofs.lemmas.Result.{err_from_is_err_and, IfErr-weaker}
use Rattle.std.proofs.Common.{subst}
use Rattle.ir_trees.specs.Instantiation.Folds.{arg_tree}
use Rattle.candidate_rounds.specs.Evaluators.Known.{state_of}
use Rattle.candidate_rounds.specs.Evaluators.Stopping.{IsBindingStop}
use Rattle.candidate_rounds.proofs.Stops.BindingStops.{as-many, full-binding, number-below}
use Rattle.candidate_rounds.proofs.rounds.binding.renew_all.Goals as goal

pub renew_universes-requires-clause-value : goal.renew_universes-requires-clause-value
renew_universes-requires-clause-value c = (arg-kept c.args.cx.now c.renew_values.new.cx c.args.value c.renew_values.ensures.grows c.requires.value).0

pub returns-clause-renewed : goal.returns-clause-renewed
returns-clause-renewed c = λ m.
    lowered-after c.args.cx.now c.renew_values.new.cx m c.args.inference.now c.make_room.new.inference c.renew_values.new.inference c.renew_universes.new.inference c.args.variable c.args.value c.args.universe c.renew_universes.result
    c.renew_values.ensures.grows c.requires.value (c.make_room.ensures.state m) (c.in_ok-renew_values.ensures.renewed m) (c.renew_universes.ensures.renewed m)

pub returns-in_err-make_room-clause-cause : goal.returns-in_err-make_room-clause-cause
returns-in_err-make_room-clause-cause c = λ m.
    let p = err_from_is_err_and c.from_residual.result c.from_residual.ensures.1 in
    let there = number-below c.args.cx.now.trees m c.args.inference.now _ c.args.variable.number c.requires.kind in
    rw (p.1, p.2) (full-binding _ _ c.args.variable _ c.args.variable.number _ there c.in_err-make_room.ensures.cause)

pub returns-in_err-renew_values-clause-cause : goal.returns-in_err-renew_values-clause-cause
returns-in_err-renew_values-clause-cause c = λ m.
    let p = err_from_is_err_and c.from_residual-in_err-renew_values.result c.from_residual-in_err-renew_values.ensures.1 in
    rw (p.1, p.2)
    (subst (λ S. IsBindingStop c.renew_values.new.cx.trees S c.args.variable (arg_tree c.args.cx.now.trees c.args.value) c.in_err-renew_values.field-0.0) (c.make_room.ensures.state m)
    (c.in_err-renew_values.ensures.cause m))

pub returns-clause-cause : goal.returns-clause-cause
returns-clause-cause c = λ m.
    let there =
    as-many c.args.cx.now.trees c.renew_values.new.cx.trees m c.args.inference.now c.renew_values.new.inference c.args.variable (arg_tree c.args.cx.now.trees c.args.value)
    (state_of c.args.cx.now.trees m c.make_room.new.inference) (c.in_ok-renew_values.ensures.renewed m) (c.make_room.ensures.state m) in
    IfErr-weaker c.renew_universes.result _ _ (λ s k. full-binding _ _ c.args.variable _ _ s there k) c.renew_universes.ensures.cause
