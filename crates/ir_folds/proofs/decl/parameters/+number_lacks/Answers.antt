use Rattle.std.proofs.Common.{◌≡◌, arith, false, rules, sym, ◌∙◌, ap}
use Rattle.ir_trees.specs.Instantiation.Folding.{lacks_argument}
use Rattle.ir_trees.specs.Syntax.Kinds.{numbers}
use Rattle.ir_trees.specs.Syntax.Nodes.{children_of, tree_at}
use Rattle.ir_trees.specs.Syntax.Words.{args_forest}
use Rattle.ir_folds.proofs.Instantiation.Arguments.{lacks-list}
use Rattle.ir_trees.proofs.Syntax.Children.{Below-get, any-found, any-on, any-none, walk_end}
use Rattle.ir_trees.proofs.Instantiation.Quiet.{lacks-quiet}
use Rattle.ir_folds.proofs.decl.parameters.+number_lacks.Goals as goal

pub number_lacks-requires : goal.number_lacks-requires
number_lacks-requires t c =
    let b = Below-get _ (numbers (children_of c.node-node.result.now)) c.loop-i.i c.child.result c.node-node.ensures.below c.child.ensures in
    (omega arith, (omega arith, c.requires.args))

pub returns-then-number_lacks : goal.returns-then-number_lacks
returns-then-number_lacks t c =
    let args = args_forest c.args.cx.now.trees c.args.args in
    any-found (lacks_argument args) (lacks-list args) c.args.cx.now.trees c.args.number c.node-node.result.now c.loop-i.i c.child.result c.node-node.ensures c.child.ensures c.loop-i.invariant
    (sym c.number_lacks.ensures ∙ c.if-number_lacks.true)

pub loop-i-preserved : goal.loop-i-preserved
loop-i-preserved t c =
    any-on (lacks_argument (args_forest c.args.cx.now.trees c.args.args)) c.args.cx.now.trees c.node-node.result.now c.loop-i.i c.child.result c.child.ensures c.loop-i.invariant
    (sym c.number_lacks.ensures ∙ c.if-number_lacks.false)

pub returns : goal.returns
returns t c =
    let args = args_forest c.args.cx.now.trees c.args.args in
    any-none (lacks_argument args) (lacks-list args) c.args.cx.now.trees c.args.number c.node-node.result.now c.loop-i.i c.node-node.ensures
    (sym (c.head_lacks.ensures ∙ ap (lacks_argument args) c.head.ensures) ∙ c.if-head_lacks.false) c.loop-i.invariant
    (walk_end c.args.cx.now.trees (children_of c.node-node.result.now) c.loop-i.i _ c.child_count-i-end.ensures c.loop-i.auto.i-end c.loop-i-test.false)

pub returns-then-not-holds_param : goal.returns-then-not-holds_param
returns-then-not-holds_param t c =
    let off : c.holds_param.result ≡ false = search rules in
    sym (lacks-quiet (args_forest c.args.cx.now.trees c.args.args) (tree_at c.args.cx.now.trees c.args.number) (sym c.holds_param.ensures ∙ off))
