use Rattle.ir_trees.proofs.Traversal.Asking.{arg-below}
use Rattle.candidate_eval.specs.Interface.Noting.{IsNotingStop, refused_note}
use Rattle.candidate_rounds.proofs.Obligations.Again.{gathered-call, gathered-later}
use Rattle.candidate_rounds.proofs.Stops.ResponseStops.{passed-growth, refused-growth}
use Rattle.candidate_rounds.proofs.rounds.responding.note_arg.Goals as goal

pub note_below-requires-clause-number : goal.note_below-requires-clause-number
note_below-requires-clause-number c = rw c.number-2.ensures (arg-below c.args.cx.now.trees c.args.arg c.requires.arg)

pub note_below-requires-clause-walked : goal.note_below-requires-clause-walked
note_below-requires-clause-walked c =
    gathered-later c.args.cx.now.trees c.args.numbers.now.items c.note_number-2.new.numbers.items c.args.walked.now c.variable_number.result c.in_ok-note_number.ensures.noted c.requires.walked

pub returns-in-Some-clause-walked : goal.returns-in-Some-clause-walked
returns-in-Some-clause-walked c =
    gathered-call c.args.cx.now.trees c.args.numbers.now.items c.note_number.new.numbers.items c.args.walked.now c.number.result c.note_number.result c.note_number.ensures.noted c.requires.walked

pub returns-in-Some-clause-cause : goal.returns-in-Some-clause-cause
returns-in-Some-clause-cause c = refused-growth (IsNotingStop c.args.cx.now.trees) c.note_number.result c.note_number.ensures.cause refused_note

pub returns-in_err-note_number-clause-cause : goal.returns-in_err-note_number-clause-cause
returns-in_err-note_number-clause-cause c =
    passed-growth (IsNotingStop c.args.cx.now.trees) c.from_residual.result c.in_err-note_number.field-0.0 c.from_residual.ensures.1 c.in_err-note_number.ensures.cause refused_note
