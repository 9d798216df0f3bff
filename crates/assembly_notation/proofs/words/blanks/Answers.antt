use Rattle.std.proofs.Common.{arith, sym, ◌∙◌}
use Rattle.assembly_notation.specs.Lines.{is_blank}
use Rattle.assembly_notation.proofs.Lines.{prefix-all, prefix-ends, prefix-more}
use Rattle.assembly_notation.proofs.words.blanks.Goals as goal

pub returns-then-not-is_blank : goal.returns-then-not-is_blank
returns-then-not-is_blank c =
    prefix-ends is_blank c.args.bytes.now c.loop-place.place 0 c.loop-place-test.true (sym c.is_blank.ensures ∙ c.if-not-is_blank.true) c.loop-place.invariant

pub loop-place-preserved : goal.loop-place-preserved
loop-place-preserved c =
    prefix-more is_blank c.args.bytes.now c.loop-place.place 0 c.loop-place-test.true (sym c.is_blank.ensures ∙ c.if-not-is_blank.false) c.loop-place.invariant

pub returns : goal.returns
returns c = omega (arith, prefix-all is_blank c.args.bytes.now c.loop-place.place c.loop-place-test.false c.loop-place.invariant, c.loop-place-test.false, c.loop-place.auto.place-end)
