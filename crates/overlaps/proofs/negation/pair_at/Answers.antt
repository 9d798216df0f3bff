use Rattle.ir_trees.specs.declared.ir.kinds.GenericArg.TheVariants as A
use Rattle.overlaps.proofs.Listed.{arg-there}
use Rattle.overlaps.proofs.Negated.{tree-in-place}
use Rattle.overlaps.proofs.negation.pair_at.Goals as goal

pub returns-then-place-others-clause-sorts : goal.returns-then-place-others-clause-sorts
returns-then-place-others-clause-sorts c =
    let d = A.Ty (record { 0 = 0 }) in
    let ts = c.args.cx.now.trees in (
      arg-there ts c.args-ones.result.now d c.args.place c.args-ones.ensures.fits c.if-place-ones.true,
      arg-there ts c.args-others.result.now d c.args.place c.args-others.ensures.fits c.if-place-others.true,
    )

pub returns-then-place-others-clause-one : goal.returns-then-place-others-clause-one
returns-then-place-others-clause-one c =
    tree-in-place c.args.cx.now.trees c.args.first c.args-ones.result.now (A.Ty (record { 0 = 0 })) c.args.place c.args-ones.ensures.fits c.args-ones.ensures.tree c.if-place-ones.true

pub returns-then-place-others-clause-other : goal.returns-then-place-others-clause-other
returns-then-place-others-clause-other c =
    tree-in-place c.args.cx.now.trees c.args.second c.args-others.result.now (A.Ty (record { 0 = 0 })) c.args.place c.args-others.ensures.fits c.args-others.ensures.tree c.if-place-others.true
