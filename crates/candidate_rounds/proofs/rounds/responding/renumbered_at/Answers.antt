use Rattle.std.proofs.Common.{◌≡◌, rules, length}
use Rattle.ir_trees.specs.Instantiation.Folds.{arg_tree}
use Rattle.candidate_eval.specs.Judges.States.{variable}
use Rattle.candidate_rounds.specs.Evaluators.Stopping.{IsNewNumberStop}
use Rattle.candidate_rounds.specs.Calls.Gathered.{renumbered_at}
use Rattle.candidate_rounds.proofs.Obligations.Anew.{anew-kind}
use Rattle.candidate_rounds.proofs.Stops.ResponseStops.{number-too-large, number-unmade, passed-on}
use Rattle.candidate_rounds.proofs.rounds.responding.renumbered_at.Goals as goal

pub returns-clause-kind : goal.returns-clause-kind
returns-clause-kind c =
    let e : arg_tree c.args.cx.now.trees c.args.arg ≡ variable c.in-Some.kind c.in-Some.number = search rules in
    anew-kind c.args.cx.now.trees c.variable.new.cx.trees c.args.arg c.in_ok-variable.field-0 c.in-Some.kind c.in-Some.number _ c.requires e c.in_ok-variable.ensures.sort c.in_ok-variable.ensures.tree

pub returns-then-place-clause-cause : goal.returns-then-place-clause-cause
returns-then-place-clause-cause c =
    let e : arg_tree c.args.cx.now.trees c.args.arg ≡ variable c.in-Some.kind c.in-Some.number = search rules in
    number-too-large c.args.numbers.now (length c.args.cx.now.trees) c.place_of-place.result (arg_tree c.args.cx.now.trees c.args.arg) c.in-Some.kind c.in-Some.number e c.place_of-place.ensures c.if-place.true

pub returns-in_err-variable-clause-cause : goal.returns-in_err-variable-clause-cause
returns-in_err-variable-clause-cause c =
    let e : arg_tree c.args.cx.now.trees c.args.arg ≡ variable c.in-Some.kind c.in-Some.number = search rules in
    passed-on (IsNewNumberStop (length c.args.numbers.now) (length c.variable.new.cx.trees) (renumbered_at c.args.numbers.now (arg_tree c.args.cx.now.trees c.args.arg))) c.from_residual.result c.in_err-variable.field-0.0
    c.from_residual.ensures.1
    (number-unmade c.args.numbers.now (length c.variable.new.cx.trees) (arg_tree c.args.cx.now.trees c.args.arg) c.in-Some.kind c.in-Some.number c.in_err-variable.field-0.0 e c.in_err-variable.ensures.cause)
