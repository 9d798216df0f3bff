use Rattle.std.proofs.Common.{arith, refl}
use Rattle.ir_trees.specs.Syntax.Nodes.{head_of}
use Rattle.ir_trees.specs.Declarations.Names.{names_unknown}
use Rattle.ir_trees.proofs.Kinding.Fitting.{one-more-lacks, none-has, one-has, head-at}
use Rattle.ir_trees.proofs.decl.arity.any_names_unknown.Goals as goal

pub loop-number-init : goal.loop-number-init
loop-number-init c = λ k h. absurd (omega (arith, h))

pub returns : goal.returns
returns c =
    none-has (names_unknown c.args.definitions) c.args.nodes.now c.loop-number.number (omega (arith, c.len-number-end.ensures.is, c.loop-number-test.false)) c.loop-number.invariant

pub returns-then-names_unknown : goal.returns-then-names_unknown
returns-then-names_unknown c =
    one-has (names_unknown c.args.definitions) c.args.nodes.now c.loop-number.number (omega (arith, c.len-number-end.ensures.is, c.loop-number-test.true))
    (head-at (names_unknown c.args.definitions) c.args.nodes.now c.loop-number.number c.node.result.now (head_of c.node.result.now) c.names_unknown.result _ c.node.ensures refl c.names_unknown.ensures c.if-names_unknown.true)

pub loop-number-preserved : goal.loop-number-preserved
loop-number-preserved c =
    one-more-lacks (names_unknown c.args.definitions) c.args.nodes.now c.loop-number.number c.loop-number.invariant
    (head-at (names_unknown c.args.definitions) c.args.nodes.now c.loop-number.number c.node.result.now (head_of c.node.result.now) c.names_unknown.result _ c.node.ensures refl c.names_unknown.ensures c.if-names_unknown.false)
