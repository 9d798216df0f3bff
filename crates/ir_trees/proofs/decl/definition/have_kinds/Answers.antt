use Rattle.std.proofs.Common.{arith}
use Rattle.ir_trees.proofs.Kinding.Parameters.{lengths-differ, place-differs, one-more-place, all-places}
use Rattle.ir_trees.proofs.decl.definition.have_kinds.Goals as goal

pub returns-then-list-kinds : goal.returns-then-list-kinds
returns-then-list-kinds c = lengths-differ _ _ c.if-list-kinds.true

pub loop-i-init : goal.loop-i-init
loop-i-init c = λ k h. absurd (omega (arith, h))

pub returns-then-not-is_of : goal.returns-then-not-is_of
returns-then-not-is_of c = place-differs _ _ _ _ _ _ c.loop-i-test.true c.is_of.ensures c.if-not-is_of.true

pub loop-i-preserved : goal.loop-i-preserved
loop-i-preserved c = one-more-place c.args.kinds.now c.args.list.now _ _ c.loop-i.i c.loop-i.invariant (c.is_of.ensures.0 c.if-not-is_of.false)

pub returns : goal.returns
returns c = all-places _ _ _ _ _ c.if-list-kinds.false c.loop-i-test.false c.loop-i.invariant
