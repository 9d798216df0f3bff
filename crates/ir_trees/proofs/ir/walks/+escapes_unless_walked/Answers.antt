use Rattle.std.proofs.Common.{◌≡◌, ℕ, ◌+◌, arith, false, rules, sym, ◌∙◌, ap}
use Rattle.ir_trees.specs.Instantiation.Opening.{is_bound_variable}
use Rattle.ir_trees.specs.Syntax.Trees.{binders_of, tree_holds}
use Rattle.ir_trees.specs.Syntax.Binders.{is_beyond, tree_escapes}
use Rattle.ir_trees.specs.Syntax.Kinds.{numbers}
use Rattle.ir_trees.proofs.Syntax.Children.{Below-get, walk_end}
use Rattle.ir_trees.proofs.Syntax.Escapes.{escape-found, escape-on, escape-none}
use Rattle.ir_trees.specs.Syntax.Nodes.{children_of, tree_at}
use Rattle.ir_trees.proofs.Instantiation.Quiet.{escapes-quiet}
use Rattle.ir_trees.proofs.Traversal.Noted.{each-noted, pair-noted}
use Rattle.ir_trees.proofs.ir.walks.+escapes_unless_walked.Goals as goal

pub escapes_unless_walked-requires : goal.escapes_unless_walked-requires
escapes_unless_walked-requires g t c =
    let b = Below-get _ (numbers (children_of c.node-node.result.now)) c.loop-i.i c.child.result c.node-node.ensures.below c.child.ensures in
    λ _ o. (omega arith, (o, (omega (arith, c.requires.inside), (omega (arith, c.requires.room, c.binders-more.ensures.most), c.loop-i.invariant.1))))

pub returns-then-has-clause-is : goal.returns-then-has-clause-is
returns-then-has-clause-is g t c =
    let P : ℕ × ℕ → Type 0 = λ p. tree_escapes p.1 (tree_at (g.T.Trees.trees c.args.trees.now) p.0) ≡ false in
    sym (pair-noted P c.args.walked.now (c.args.number, c.args.passed) c.has.result c.requires.walked c.has.ensures c.if-has.true)

pub returns-then-escapes_unless_walked-clause-is : goal.returns-then-escapes_unless_walked-clause-is
returns-then-escapes_unless_walked-clause-is g t c =
    escape-found c.args.passed (g.T.Trees.trees c.args.trees.now) c.args.number c.node-node.result.now c.loop-i.i c.child.result _ c.node-node.ensures
    (ap (λ (n : ℕ). c.args.passed + n) (c.binders-more.ensures.is ∙ ap binders_of c.head-head.ensures)) c.child.ensures c.loop-i.invariant.0
    (sym c.escapes_unless_walked.ensures.is ∙ c.if-escapes_unless_walked.true)

pub loop-i-preserved : goal.loop-i-preserved
loop-i-preserved g t c = (
  escape-on _ (g.T.Trees.trees c.args.trees.now) c.node-node.result.now c.loop-i.i c.child.result c.child.ensures c.loop-i.invariant.0
      (sym c.escapes_unless_walked.ensures.is ∙ c.if-escapes_unless_walked.false),
  c.escapes_unless_walked.ensures.walked,
)

pub returns-clause-is : goal.returns-clause-is
returns-clause-is g t c =
    escape-none c.args.passed (g.T.Trees.trees c.args.trees.now) c.args.number c.node-node.result.now c.loop-i.i _ c.node-node.ensures
    (ap (λ (n : ℕ). c.args.passed + n) (c.binders-more.ensures.is ∙ ap binders_of c.head-head.ensures))
    (sym (c.is_bound_beyond.ensures ∙ ap (is_beyond c.args.passed) c.head-head.ensures) ∙ c.if-is_bound_beyond.false) c.loop-i.invariant.0
    (walk_end (g.T.Trees.trees c.args.trees.now) (children_of c.node-node.result.now) c.loop-i.i _ c.child_count-i-end.ensures c.loop-i.auto.i-end c.loop-i-test.false)

pub returns-clause-walked : goal.returns-clause-walked
returns-clause-walked g t c =
    let P : ℕ × ℕ → Type 0 = λ p. tree_escapes p.1 (tree_at (g.T.Trees.trees c.args.trees.now) p.0) ≡ false in
    each-noted P c.loop-i.walked c.note.new.self (c.args.number, c.args.passed) c.note.ensures c.loop-i.invariant.1
    (sym (escape-none c.args.passed (g.T.Trees.trees c.args.trees.now) c.args.number c.node-node.result.now c.loop-i.i _ c.node-node.ensures
    (ap (λ (n : ℕ). c.args.passed + n) (c.binders-more.ensures.is ∙ ap binders_of c.head-head.ensures))
    (sym (c.is_bound_beyond.ensures ∙ ap (is_beyond c.args.passed) c.head-head.ensures) ∙ c.if-is_bound_beyond.false) c.loop-i.invariant.0
    (walk_end (g.T.Trees.trees c.args.trees.now) (children_of c.node-node.result.now) c.loop-i.i _ c.child_count-i-end.ensures c.loop-i.auto.i-end c.loop-i-test.false)))

pub returns-then-not-holds_bound-clause-is : goal.returns-then-not-holds_bound-clause-is
returns-then-not-holds_bound-clause-is g t c =
    let off : c.holds_bound.result ≡ false = search rules in
    let t = tree_at (g.T.Trees.trees c.args.trees.now) c.args.number in
    let none : tree_holds is_bound_variable t ≡ false = sym c.holds_bound.ensures ∙ off in
    sym (escapes-quiet c.args.passed t none)
