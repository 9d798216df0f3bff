use Rattle.std.proofs.Common.{arith, sym, ◌∙◌, ap}
use Rattle.ir_trees.specs.Validity.Misplaced.{is_misplaced, with_self}
use Rattle.ir_trees.specs.Declarations.Parameters.{kinds_of}
use Rattle.ir_trees.specs.Syntax.Kinds.{numbers}
use Rattle.ir_trees.specs.Syntax.Nodes.{children_of}
use Rattle.ir_trees.proofs.Validity.Misplacing.{misplaced-list}
use Rattle.ir_trees.proofs.Syntax.Children.{Below-get, any-found, any-on, any-none, walk_end}
use Rattle.ir_trees.proofs.decl.misplaced.+number_misplaces.Goals as goal

pub number_misplaces-requires : goal.number_misplaces-requires
number_misplaces-requires t c =
    let b = Below-get _ (numbers (children_of c.node-node.result.now)) c.loop-i.i c.child.result c.node-node.ensures.below c.child.ensures in
    (omega arith, omega arith)

pub returns-then-number_misplaces : goal.returns-then-number_misplaces
returns-then-number_misplaces t c =
    let ks = with_self c.args.after_self (kinds_of c.args.parameters.now) in
    any-found (is_misplaced c.args.what ks) (misplaced-list c.args.what ks) c.args.nodes.now c.args.number c.node-node.result.now c.loop-i.i c.child.result c.node-node.ensures c.child.ensures
    c.loop-i.invariant (sym c.number_misplaces.ensures ∙ c.if-number_misplaces.true)

pub loop-i-preserved : goal.loop-i-preserved
loop-i-preserved t c =
    any-on (is_misplaced c.args.what (with_self c.args.after_self (kinds_of c.args.parameters.now))) c.args.nodes.now c.node-node.result.now c.loop-i.i c.child.result c.child.ensures
    c.loop-i.invariant (sym c.number_misplaces.ensures ∙ c.if-number_misplaces.false)

pub returns : goal.returns
returns t c =
    let ks = with_self c.args.after_self (kinds_of c.args.parameters.now) in
    any-none (is_misplaced c.args.what ks) (misplaced-list c.args.what ks) c.args.nodes.now c.args.number c.node-node.result.now c.loop-i.i c.node-node.ensures
    (sym (c.head_is_misplaced.ensures ∙ ap (is_misplaced c.args.what ks) c.head.ensures) ∙ c.if-head_is_misplaced.false) c.loop-i.invariant
    (walk_end c.args.nodes.now (children_of c.node-node.result.now) c.loop-i.i _ c.child_count-i-end.ensures c.loop-i.auto.i-end c.loop-i-test.false)
