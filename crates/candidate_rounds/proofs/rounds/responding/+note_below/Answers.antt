use Rattle.std.proofs.Common.{◌∙◌, ap, sym, rules}
use Rattle.rounds_judge.specs.Table.TableSettling.{are_bare}
use Rattle.ir_trees.specs.Syntax.Nodes.{tree_at}
use Rattle.ir_trees.specs.Syntax.Trees.{variable_number}
use Rattle.candidate_eval.specs.Interface.Noting.{IsNotingStop, refused_note}
use Rattle.rounds_judge.specs.Obligations.Responding.{with_number, with_numbers}
use Rattle.candidate_eval.proofs.Interface.StopKinds.{wide-node}
use Rattle.candidate_rounds.specs.Calls.Walking.{AreGathered, IsGathered}
use Rattle.candidate_rounds.proofs.Stops.ResponseStops.{one-more-noted-below, passed-growth}
use Rattle.candidate_rounds.proofs.Obligations.Again.{gathered, gathered-later}
use Rattle.candidate_rounds.proofs.Resolution.Unmarked.{bare-quiet, noted-quiet, unsolved-below}
use Rattle.candidate_rounds.proofs.Resolution.Walking.{each-noted, noted-is}
use Rattle.ir_trees.proofs.Instantiation.Quiet.{variable-kept}
use Rattle.candidate_rounds.proofs.rounds.responding.+note_below.Goals as goal

pub returns-in_err-note_number-clause-cause : goal.returns-in_err-note_number-clause-cause
returns-in_err-note_number-clause-cause t c = passed-growth (IsNotingStop c.args.cx.now.trees) c.from_residual.result c.in_err-note_number.field-0.0 c.from_residual.ensures.1 c.in_err-note_number.ensures.cause refused_note

pub note_below-requires : goal.note_below-requires
note_below-requires t c =
    let walked : AreGathered c.note_number.new.numbers.items c.args.cx.now.trees c.loop-place.walked =
    gathered-later c.args.cx.now.trees c.loop-place.numbers.items c.note_number.new.numbers.items c.loop-place.walked c.variable_number.result c.in_ok-note_number.ensures.noted c.loop-place.invariant.1 in
    search (rules, walked)

pub loop-place-preserved : goal.loop-place-preserved
loop-place-preserved t c =
    let ns = c.loop-place.numbers.items in (
      one-more-noted-below c.args.cx.now.trees c.args.numbers.now.items ns c.note_number.new.numbers.items c.note_below.new.numbers.items (tree_at c.args.cx.now.trees c.args.number).children c.loop-place.place c.in-Some.child
          c.loop-place.invariant.0 c.in-Some.ensures.1 (c.in_ok-note_number.ensures.noted ∙ ap (with_number ns) (c.variable_number.ensures ∙ ap variable_number c.head.ensures)) c.in_ok-note_below.ensures.noted
          c.stands_bare.ensures c.in_ok-note_below.ensures.bare,
      c.in_ok-note_below.ensures.walked,
    )

pub returns-clause-cause : goal.returns-clause-cause
returns-clause-cause t c = wide-node c.args.cx.now.trees c.args.number c.loop-place.place c.requires.number c.loop-place.invariant.0.fewer c.loop-place-test.false

pub returns-in_default-clause-noted : goal.returns-in_default-clause-noted
returns-in_default-clause-noted t c = sym (ap (with_numbers c.loop-place.numbers.items) c.in_default.ensures) ∙ c.loop-place.invariant.0.noted

pub returns-in_default-clause-bare : goal.returns-in_default-clause-bare
returns-in_default-clause-bare t c = sym c.loop-place.invariant.0.bare ∙ ap are_bare c.in_default.ensures

pub returns-in_default-clause-walked : goal.returns-in_default-clause-walked
returns-in_default-clause-walked t c =
    let ns = c.loop-place.numbers.items in
    each-noted (IsGathered ns c.args.cx.now.trees) c.loop-place.walked c.note.new.self c.args.number c.note.ensures c.loop-place.invariant.1
    (gathered c.args.cx.now.trees c.args.numbers.now.items ns c.args.number (sym (ap (with_numbers ns) c.in_default.ensures) ∙ c.loop-place.invariant.0.noted) (sym c.loop-place.invariant.0.bare ∙ ap are_bare c.in_default.ensures))

pub returns-then-not-has_infer-clause-noted : goal.returns-then-not-has_infer-clause-noted
returns-then-not-has_infer-clause-noted t c = noted-quiet c.args.numbers.now.items (tree_at c.args.cx.now.trees c.args.number).children (unsolved-below (tree_at c.args.cx.now.trees c.args.number) (variable-kept c.marks.result (tree_at c.args.cx.now.trees c.args.number) c.has_infer.result c.marks.ensures c.has_infer.ensures c.if-not-has_infer.true))

pub returns-then-not-has_infer-clause-bare : goal.returns-then-not-has_infer-clause-bare
returns-then-not-has_infer-clause-bare t c = bare-quiet (tree_at c.args.cx.now.trees c.args.number).children (unsolved-below (tree_at c.args.cx.now.trees c.args.number) (variable-kept c.marks.result (tree_at c.args.cx.now.trees c.args.number) c.has_infer.result c.marks.ensures c.has_infer.ensures c.if-not-has_infer.true))

pub returns-then-has-clause-noted : goal.returns-then-has-clause-noted
returns-then-has-clause-noted t c =
    let is = noted-is (IsGathered c.args.numbers.now.items c.args.cx.now.trees) c.args.walked.now c.args.number c.has.result c.requires.walked c.has.ensures c.if-has.true in
    sym is.none_new

pub returns-then-has-clause-bare : goal.returns-then-has-clause-bare
returns-then-has-clause-bare t c =
    let is = noted-is (IsGathered c.args.numbers.now.items c.args.cx.now.trees) c.args.walked.now c.args.number c.has.result c.requires.walked c.has.ensures c.if-has.true in
    is.bare
