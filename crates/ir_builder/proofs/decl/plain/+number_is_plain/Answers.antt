use Rattle.std.proofs.Common.{arith, sym, ◌∙◌}
use Rattle.ir_trees.specs.Validity.Misplaced.{with_self}
use Rattle.ir_builder.specs.Calls.Plain.{is_doubtful}
use Rattle.ir_trees.specs.Declarations.Parameters.{kinds_of}
use Rattle.ir_trees.specs.Syntax.Kinds.{numbers}
use Rattle.ir_trees.specs.Syntax.Nodes.{children_of}
use Rattle.ir_trees.proofs.Syntax.Children.{Below-get, any-on, any-none, walk_end}
use Rattle.ir_builder.proofs.Validity.Plain.{plain-list, plain-node}
use Rattle.ir_builder.proofs.decl.plain.+number_is_plain.Goals as goal

pub number_is_plain-requires : goal.number_is_plain-requires
number_is_plain-requires t c =
    let b = Below-get _ (numbers (children_of c.node-node.result.now)) c.loop-i.i c.child.result c.node-node.ensures.below c.child.ensures in
    (omega arith, omega arith)

pub loop-i-preserved : goal.loop-i-preserved
loop-i-preserved t c =
    any-on (is_doubtful (with_self c.args.after_self (kinds_of c.args.parameters.now))) c.args.nodes.now c.node-node.result.now c.loop-i.i c.child.result c.child.ensures
    c.loop-i.invariant (c.number_is_plain.ensures c.if-not-number_is_plain.false)

pub returns : goal.returns
returns t c = λ _.
    let ks = with_self c.args.after_self (kinds_of c.args.parameters.now) in
    sym (any-none (is_doubtful ks) (plain-list ks) c.args.nodes.now c.args.number c.node-node.result.now c.loop-i.i c.node-node.ensures
    (plain-node ks c.node-node.result.now (sym c.node_is_plain.ensures ∙ c.if-not-node_is_plain.false)) c.loop-i.invariant
    (walk_end c.args.nodes.now (children_of c.node-node.result.now) c.loop-i.i _ c.child_count-i-end.ensures c.loop-i.auto.i-end c.loop-i-test.false))
