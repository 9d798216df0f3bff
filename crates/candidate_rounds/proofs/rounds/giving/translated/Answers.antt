use Rattle.std.proofs.Common.{◌≡◌, rules, length}
use Rattle.ir_trees.specs.Instantiation.Folding.{IsAnswerStop}
use Rattle.ir_trees.specs.Instantiation.Folds.{arg_tree}
use Rattle.candidate_eval.specs.Judges.States.{variable}
use Rattle.candidate_rounds.specs.Calls.Giving.{lift_of, translation_of}
use Rattle.candidate_rounds.proofs.Obligations.Anew.{anew-kind}
use Rattle.candidate_rounds.proofs.Table.Naming.{name-unmade}
use Rattle.candidate_rounds.proofs.Stops.ResponseStops.{passed-on}
use Rattle.candidate_rounds.proofs.rounds.giving.translated.Goals as goal

pub returns-clause-kind : goal.returns-clause-kind
returns-clause-kind c =
    let e : arg_tree c.args.cx.now.trees c.args.arg ≡ variable c.in-Some.kind c.in-Some.number = search rules in
    anew-kind c.args.cx.now.trees c.variable.new.cx.trees c.args.arg c.in_ok-variable.field-0 c.in-Some.kind c.in-Some.number _ c.requires e c.in_ok-variable.ensures.sort c.in_ok-variable.ensures.tree

pub returns-in_err-variable-clause-cause : goal.returns-in_err-variable-clause-cause
returns-in_err-variable-clause-cause c =
    let e : arg_tree c.args.cx.now.trees c.args.arg ≡ variable c.in-Some.kind c.in-Some.number = search rules in
    let t = c.args.translation.now in
    passed-on (IsAnswerStop (length c.variable.new.cx.trees) (translation_of t (arg_tree c.args.cx.now.trees c.args.arg).head)) c.from_residual.result c.in_err-variable.field-0.0 c.from_residual.ensures.1
    (name-unmade (lift_of t.lift) t.names.now (length c.variable.new.cx.trees) (arg_tree c.args.cx.now.trees c.args.arg) c.in-Some.kind c.in-Some.number c.in_err-variable.field-0.0 e c.in_err-variable.ensures.cause)
