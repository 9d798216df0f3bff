use Rattle.std.proofs.Common.{◌≡◌, ap, sym, subst, ◌∙◌}
use Rattle.ir_trees.specs.Instantiation.Folds.{arg_tree}
use Rattle.ir_trees.specs.Syntax.Nodes.{tree_at}
use Rattle.candidate_eval.specs.Interface.Noting.{IsNotingStop, refused_note}
use Rattle.candidate_eval.proofs.Interface.StopKinds.{wide-node}
use Rattle.rounds_judge.specs.Aliases.OpenParts.{with_part, with_parts}
use Rattle.candidate_rounds.specs.Calls.Opening.{trees_of}
use Rattle.candidate_rounds.proofs.Equations.OpenParts.{IsPart, next-closed, next-open, no-parts, noted-below, noted-later, unmarked-below}
use Rattle.candidate_rounds.proofs.Resolution.Walking.{each-noted, noted-is}
use Rattle.candidate_rounds.proofs.Stops.ResponseStops.{passed-growth}
use Rattle.candidate_rounds.proofs.rounds.opening.+note_parts.Goals as goal

pub returns-then-not-has-clause-noted : goal.returns-then-not-has-clause-noted
returns-then-not-has-clause-noted t c =
    let ts = c.args.cx.now.trees in
    let x = tree_at ts c.args.number in
    no-parts (trees_of ts c.args.parts.now.items) x.children (unmarked-below c.marks.result x c.has.result c.marks.ensures c.has.ensures c.if-not-has.true)

pub returns-then-has-clause-noted : goal.returns-then-has-clause-noted
returns-then-has-clause-noted t c =
    let ts = c.args.cx.now.trees in
    let ps = trees_of ts c.args.parts.now.items in
    sym (noted-is (λ n. with_parts ps (tree_at ts n).children ≡ ps) c.args.walked.now c.args.number c.has-2.result c.requires.walked c.has-2.ensures c.if-has.true)

pub returns-in_default-clause-walked : goal.returns-in_default-clause-walked
returns-in_default-clause-walked t c =
    let ts = c.args.cx.now.trees in
    let ps = trees_of ts c.loop-place.parts.items in
    each-noted (λ n. with_parts ps (tree_at ts n).children ≡ ps) c.loop-place.walked c.note.new.self c.args.number c.note.ensures c.loop-place.invariant.2
    (noted-below ts (trees_of ts c.args.parts.now.items) ps c.args.number (sym (ap (with_parts ps) c.in_default.ensures) ∙ c.loop-place.invariant.0.noted))

pub returns-clause-cause : goal.returns-clause-cause
returns-clause-cause t c = wide-node c.args.cx.now.trees c.args.number c.loop-place.place c.requires.number c.loop-place.invariant.0.fewer c.loop-place-test.false

pub returns-in_err-note_part-clause-cause : goal.returns-in_err-note_part-clause-cause
returns-in_err-note_part-clause-cause t c =
    passed-growth (IsNotingStop c.args.cx.now.trees) c.from_residual-in_err-note_part.result c.in_err-note_part.field-0.0 c.from_residual-in_err-note_part.ensures.1 c.in_err-note_part.ensures.cause refused_note

pub loop-place-preserved-in-Some-2 : goal.loop-place-preserved-in-Some-2
loop-place-preserved-in-Some-2 t c =
    let ts = c.args.cx.now.trees in
    let x = tree_at ts c.in-Some.child in
    let ps = trees_of ts c.loop-place.parts.items in
    let qs = trees_of ts c.note_part.new.parts.items in
    let part = subst (IsPart ts x) c.in-Some-2.is c.in_ok-part.ensures.is in (
      next-open ts (trees_of ts c.args.parts.now.items) ps qs (tree_at ts c.args.number).children c.loop-place.place c.in-Some.child c.loop-place.invariant.0 c.in-Some.ensures.1 part.2
          (c.in_ok-note_part.ensures.noted ∙ ap (with_part ps) part.1),
      c.open_part.ensures.tight,
      noted-later ts ps qs (arg_tree ts c.in-Some-2.part) c.loop-place.walked c.in_ok-note_part.ensures.noted c.loop-place.invariant.2,
      c.in_ok-note_part.ensures.fit,
    )

pub loop-place-preserved : goal.loop-place-preserved
loop-place-preserved t c =
    let ts = c.args.cx.now.trees in
    let x = tree_at ts c.in-Some.child in
    let ps = trees_of ts c.loop-place.parts.items in
    let qs = trees_of ts c.note_parts.new.parts.items in (
      next-closed ts (trees_of ts c.args.parts.now.items) ps qs (tree_at ts c.args.number).children c.loop-place.place c.in-Some.child c.loop-place.invariant.0 c.in-Some.ensures.1
          (subst (IsPart ts x) c.in_default-2.is c.in_ok-part.ensures.is) c.in_ok-note_parts.ensures.noted,
      c.note_parts.ensures.tight,
      c.in_ok-note_parts.ensures.walked,
      c.in_ok-note_parts.ensures.fit,
    )
