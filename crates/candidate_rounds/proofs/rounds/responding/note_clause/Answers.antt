use Rattle.std.proofs.Common.{refl}
use Rattle.ir_trees.specs.Syntax.Trees.{ClauseKind}
use Rattle.ir_trees.proofs.Syntax.Lists.{below_kind}
use Rattle.candidate_eval.specs.Interface.Noting.{IsNotingStop, refused_note}
use Rattle.candidate_rounds.proofs.Obligations.Again.{gathered-later}
use Rattle.candidate_rounds.proofs.Stops.ResponseStops.{passed-growth}
use Rattle.candidate_rounds.proofs.rounds.responding.note_clause.Goals as goal

pub head-requires : goal.head-requires
head-requires c = below_kind c.args.cx.now.trees c.args.clause.0 ClauseKind refl c.requires.clause

pub note_below-requires-clause-number : goal.note_below-requires-clause-number
note_below-requires-clause-number c = below_kind c.args.cx.now.trees c.args.clause.0 ClauseKind refl c.requires.clause

pub note_below-requires-clause-walked : goal.note_below-requires-clause-walked
note_below-requires-clause-walked c =
    gathered-later c.args.cx.now.trees c.args.numbers.now.items c.note_number.new.numbers.items c.args.walked.now c.variable_number.result c.in_ok-note_number.ensures.noted c.requires.walked

pub returns-in_err-note_number-clause-cause : goal.returns-in_err-note_number-clause-cause
returns-in_err-note_number-clause-cause c =
    passed-growth (IsNotingStop c.args.cx.now.trees) c.from_residual.result c.in_err-note_number.field-0.0 c.from_residual.ensures.1 c.in_err-note_number.ensures.cause refused_note
