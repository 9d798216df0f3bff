use Rattle.std.proofs.Common.{◌≤◌, max, ◌∙◌, ap, arith, rules}
use Rattle.ir_trees.specs.Syntax.Nodes.{tree_at}
use Rattle.candidate_eval.proofs.Interface.StopKinds.{wide-node}
use Rattle.rounds_judge.specs.Table.Keys.{greatest_named}
use Rattle.candidate_rounds.specs.Calls.Walking.{AreUpTo}
use Rattle.candidate_rounds.proofs.Table.Keying.{all-below, greater-child, up-to-greater}
use Rattle.candidate_rounds.proofs.Resolution.Unmarked.{greatest-quiet}
use Rattle.candidate_rounds.proofs.Resolution.Walking.{each-noted, noted-is}
use Rattle.candidate_rounds.proofs.rounds.keys.+greatest_below.Goals as goal

pub greatest_below-requires : goal.greatest_below-requires
greatest_below-requires t c =
    let walked : AreUpTo c.greater-with_child.result c.args.cx.now.trees c.loop-place.walked =
    up-to-greater c.args.cx.now.trees c.loop-place.greatest c.greater-with_child.result c.loop-place.walked (omega (arith, c.greater-with_child.ensures)) c.loop-place.invariant.1 in
    search (rules, walked)

pub loop-place-preserved : goal.loop-place-preserved
loop-place-preserved t c = (
  greater-child c.args.cx.now.trees c.args.universe (tree_at c.args.cx.now.trees c.args.number).children c.loop-place.place c.in-Some.child c.loop-place.greatest c.greater-with_child.result _
      c.loop-place.invariant.0 c.in-Some.ensures.1 (c.greater-with_child.ensures ∙ ap (max c.loop-place.greatest) c.universe_at.ensures) c.in_ok-greatest.ensures.greatest,
  c.in_ok-greatest.ensures.walked,
)

pub returns-in_default-clause-greatest : goal.returns-in_default-clause-greatest
returns-in_default-clause-greatest t c =
    all-below c.args.universe (tree_at c.args.cx.now.trees c.args.number).children c.loop-place.place c.loop-place.greatest c.loop-place.invariant.0 c.in_default.ensures

pub returns-in_default-clause-walked : goal.returns-in_default-clause-walked
returns-in_default-clause-walked t c =
    let is = all-below c.args.universe (tree_at c.args.cx.now.trees c.args.number).children c.loop-place.place c.loop-place.greatest c.loop-place.invariant.0 c.in_default.ensures in
    each-noted (λ n. greatest_named (tree_at c.args.cx.now.trees n).children ≤ c.loop-place.greatest) c.loop-place.walked c.note.new.self c.args.number c.note.ensures c.loop-place.invariant.1 (omega (arith, is))

pub returns-clause-cause : goal.returns-clause-cause
returns-clause-cause t c = wide-node c.args.cx.now.trees c.args.number c.loop-place.place c.requires.number c.loop-place.invariant.0.fewer c.loop-place-test.false

pub returns-then-not-has_placeholder-clause-greatest : goal.returns-then-not-has_placeholder-clause-greatest
returns-then-not-has_placeholder-clause-greatest t c =
    let none = greatest-quiet c.marks.result (tree_at c.args.cx.now.trees c.args.number) c.has_placeholder.result c.marks.ensures c.has_placeholder.ensures c.if-not-has_placeholder.true in
    omega (arith, none)

pub returns-then-has-clause-greatest : goal.returns-then-has-clause-greatest
returns-then-has-clause-greatest t c =
    let few = noted-is (λ n. greatest_named (tree_at c.args.cx.now.trees n).children ≤ c.args.universe) c.args.walked.now c.args.number c.has.result c.requires.walked c.has.ensures c.if-has.true in
    omega (arith, few)
