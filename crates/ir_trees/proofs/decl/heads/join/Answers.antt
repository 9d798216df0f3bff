use Rattle.std.proofs.Common.{◌<◌, length, arith, refl, rules, sym, ◌∙◌, subst}
use Rattle.ir_trees.proofs.Unification.JoinedLists.{JoinedSoFar, first-joined, second-joined, second-there}
use Rattle.ir_trees.proofs.decl.heads.join.Goals.{then-taken-first, else-taken-first+then-passed-second}
use Rattle.ir_trees.proofs.decl.heads.join.Goals as goal

pub loop-taken-preserved-then-comes_first : goal.loop-taken-preserved-then-comes_first
loop-taken-preserved-then-comes_first c =
    let e = sym c.comes_first.ensures ∙ c.if-comes_first.true in
    let s = first-joined c.args.first.now c.args.second.now c.loop-taken.taken c.loop-taken.passed c.loop-taken.joined.items _ _ c.loop-taken.invariant.0 e refl in
    (subst (JoinedSoFar c.args.first.now c.args.second.now _ _) (sym c.push_reserved.ensures.items) s, omega (arith, c.push_reserved.ensures.capacity, c.loop-taken.invariant.1))

pub bounds-second-passed : goal.bounds-second-passed
bounds-second-passed c =
    let e = sym c.comes_first.ensures ∙ c.if-comes_first.false in
    elim c.if-taken-first.branch [
      | then-taken-first w ↦ second-there c.args.first.now c.args.second.now c.loop-taken.taken c.loop-taken.passed e (search rules)
      | else-taken-first+then-passed-second w ↦ search rules
    ]

pub loop-taken-preserved : goal.loop-taken-preserved
loop-taken-preserved c =
    let e = sym c.comes_first.ensures ∙ c.if-comes_first.false in
    let there : c.loop-taken.passed < length c.args.second.now = elim c.if-taken-first.branch [
      | then-taken-first w ↦ second-there c.args.first.now c.args.second.now c.loop-taken.taken c.loop-taken.passed e (search rules)
      | else-taken-first+then-passed-second w ↦ search rules
    ] in
    let s = second-joined c.args.first.now c.args.second.now c.loop-taken.taken c.loop-taken.passed c.loop-taken.joined.items _ _ c.loop-taken.invariant.0 e there refl in (
      subst (JoinedSoFar c.args.first.now c.args.second.now _ _) (sym c.push_reserved-else-comes_first.ensures.items) s,
      omega (arith, c.push_reserved-else-comes_first.ensures.capacity, c.loop-taken.invariant.1),
    )
