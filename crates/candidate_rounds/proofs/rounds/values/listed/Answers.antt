use Rattle.std.proofs.Common.{rules}
use Rattle.ir_trees.specs.Syntax.Words.{ty_tree}
use Rattle.candidate_rounds.proofs.Resolution.Listing.{none-left, not-this, this-one}
use Rattle.candidate_rounds.proofs.rounds.values.listed.Goals as goal

pub returns-then-same : goal.returns-then-same
returns-then-same c = this-one c.args.cx.now.trees c.args.normal.now (ty_tree c.args.cx.now.trees c.args.ty) c.loop-i.i _ c.loop-i.invariant c.loop-i-test.true c.same.result c.requires.types c.same.ensures c.if-same.true

pub loop-i-preserved : goal.loop-i-preserved
loop-i-preserved c = not-this c.args.cx.now.trees c.args.normal.now (ty_tree c.args.cx.now.trees c.args.ty) c.loop-i.i _ c.loop-i.invariant c.loop-i-test.true c.same.result c.same.ensures c.if-same.false

pub returns : goal.returns
returns c = none-left c.args.cx.now.trees c.args.normal.now (ty_tree c.args.cx.now.trees c.args.ty) c.loop-i.i c.loop-i.invariant (search rules)
