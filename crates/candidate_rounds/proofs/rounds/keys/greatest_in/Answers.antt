use Rattle.std.proofs.Common.{◌∙◌, ap, arith, max, refl}
use Rattle.ir_trees.specs.Syntax.Words.{clause_tree}
use Rattle.ir_trees.proofs.Growth.Made.{IsClause-listed}
use Rattle.ir_trees.proofs.Syntax.Lists.{below_kind}
use Rattle.candidate_rounds.proofs.Table.Keying.{all-greatest-in, one-greater-in, up-to-greater}
use Rattle.candidate_rounds.proofs.rounds.keys.greatest_in.Goals as goal

pub universe_at-requires : goal.universe_at-requires
universe_at-requires c = below_kind c.args.cx.now.trees _ _ refl (IsClause-listed c.args.cx.now.trees c.args.clauses.now c.loop-i.i _ c.loop-i-test.true c.requires.clauses)

pub greatest_below-requires-clause-number : goal.greatest_below-requires-clause-number
greatest_below-requires-clause-number c = below_kind c.args.cx.now.trees _ _ refl (IsClause-listed c.args.cx.now.trees c.args.clauses.now c.loop-i.i _ c.loop-i-test.true c.requires.clauses)

pub greatest_below-requires-clause-walked : goal.greatest_below-requires-clause-walked
greatest_below-requires-clause-walked c =
    up-to-greater c.args.cx.now.trees c.loop-i.greatest c.greater-with_root.result c.loop-i.walked (omega (arith, c.greater-with_root.ensures)) c.loop-i.invariant.1

pub loop-i-preserved : goal.loop-i-preserved
loop-i-preserved c = (
  one-greater-in (clause_tree c.args.cx.now.trees) c.args.universe c.args.clauses.now c.loop-i.i _ c.loop-i.greatest c.greater-with_root.result _ c.loop-i.invariant.0 c.loop-i-test.true
      (c.greater-with_root.ensures ∙ ap (max c.loop-i.greatest) c.universe_at.ensures) c.in_ok-greatest.ensures.greatest,
  c.in_ok-greatest.ensures.walked,
)

pub returns-clause-greatest : goal.returns-clause-greatest
returns-clause-greatest c = all-greatest-in (clause_tree c.args.cx.now.trees) c.args.universe c.args.clauses.now c.loop-i.i c.loop-i.greatest c.loop-i.invariant.0 c.loop-i-test.false
