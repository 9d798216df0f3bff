use Rattle.std.proofs.Common.{◌≡◌, true, arith, sym, ◌∙◌, ap, ℕ}
use Rattle.ir_trees.specs.Syntax.Kinds.{numbers}
use Rattle.ir_trees.specs.Syntax.Nodes.{tree_at, children_of, head_of}
use Rattle.ir_trees.specs.Unification.Unify.{trees_may_unify}
use Rattle.ir_trees.proofs.Syntax.Children.{Below-get, walk_end}
use Rattle.ir_trees.proofs.Traversal.Noted.{each-noted, pair-noted}
use Rattle.ir_trees.proofs.Unification.Pairs.{tree_itself, is_left, not_as_many, all_did, one_not, next_may}
use Rattle.ir_trees.proofs.ir.unify.+pair_may_unify.Goals as goal

pub returns-then-a-b-clause-is : goal.returns-then-a-b-clause-is
returns-then-a-b-clause-is g t c =
    sym (ap (λ (n : ℕ). trees_may_unify c.args.right (tree_at (g.T.Trees.trees c.args.trees.now) c.args.a) (tree_at (g.T.Trees.trees c.args.trees.now) n)) (sym c.if-a-b.true)
    ∙ tree_itself c.args.right (tree_at (g.T.Trees.trees c.args.trees.now) c.args.a))

pub returns-then-count-child_count-clause-is : goal.returns-then-count-child_count-clause-is
returns-then-count-child_count-clause-is g t c =
    let l = is_left c.args.right (head_of c.node-first.result.now) (head_of c.node-second.result.now) c.head.result c.head-2.result c.may_unify.result
    c.head.ensures c.head-2.ensures c.in_default.is c.may_unify.ensures.said c.may_unify.ensures.same in
    not_as_many c.args.right (g.T.Trees.trees c.args.trees.now) c.args.a c.args.b c.node-first.result.now c.node-second.result.now c.node-first.ensures c.node-second.ensures l
    (λ e. c.if-count-child_count.true (c.child_count-count.ensures ∙ (e ∙ sym c.child_count.ensures)))

pub returns-then-has-clause-is : goal.returns-then-has-clause-is
returns-then-has-clause-is g t c =
    let P : ℕ × ℕ → Type 0 = λ p. trees_may_unify c.args.right (tree_at (g.T.Trees.trees c.args.trees.now) p.0) (tree_at (g.T.Trees.trees c.args.trees.now) p.1) ≡ true in
    sym (pair-noted P c.args.walked.now (c.args.a, c.args.b) c.has.result c.requires.walked c.has.ensures c.if-has.true)

pub pair_may_unify-requires : goal.pair_may_unify-requires
pair_may_unify-requires g t c =
    let b = Below-get _ (numbers (children_of c.node-first.result.now)) c.loop-i.i c.child.result c.node-first.ensures.below c.child.ensures in
    let d = Below-get _ (numbers (children_of c.node-second.result.now)) c.loop-i.i c.child-in-loop-i.result c.node-second.ensures.below c.child-in-loop-i.ensures in
    λ _ o. (omega arith, (o, (omega (arith, c.requires.a), (omega (arith, c.requires.b), c.loop-i.invariant.1))))

pub returns-then-not-pair_may_unify-clause-is : goal.returns-then-not-pair_may_unify-clause-is
returns-then-not-pair_may_unify-clause-is g t c =
    let l = is_left c.args.right (head_of c.node-first.result.now) (head_of c.node-second.result.now) c.head.result c.head-2.result c.may_unify.result
    c.head.ensures c.head-2.ensures c.in_default.is c.may_unify.ensures.said c.may_unify.ensures.same in
    one_not c.args.right (g.T.Trees.trees c.args.trees.now) c.args.a c.args.b c.node-first.result.now c.node-second.result.now c.node-first.ensures c.node-second.ensures l
    (sym c.child_count-count.ensures ∙ (c.if-count-child_count.false ∙ c.child_count.ensures)) c.loop-i.i c.loop-i.invariant.0
    c.child.result c.child-in-loop-i.result c.child.ensures c.child-in-loop-i.ensures (sym c.pair_may_unify.ensures.is ∙ c.if-not-pair_may_unify.true)

pub loop-i-preserved : goal.loop-i-preserved
loop-i-preserved g t c = (
  next_may c.args.right (g.T.Trees.trees c.args.trees.now) (numbers (children_of c.node-first.result.now)) (numbers (children_of c.node-second.result.now)) c.loop-i.i c.child.result c.child-in-loop-i.result
      c.child.ensures c.child-in-loop-i.ensures (sym c.pair_may_unify.ensures.is ∙ c.if-not-pair_may_unify.false) c.loop-i.invariant.0,
  c.pair_may_unify.ensures.walked,
)

pub returns-clause-is : goal.returns-clause-is
returns-clause-is g t c =
    let l = is_left c.args.right (head_of c.node-first.result.now) (head_of c.node-second.result.now) c.head.result c.head-2.result c.may_unify.result
    c.head.ensures c.head-2.ensures c.in_default.is c.may_unify.ensures.said c.may_unify.ensures.same in
    let n = (sym c.child_count-count.ensures ∙ (c.if-count-child_count.false ∙ c.child_count.ensures)) in
    all_did c.args.right (g.T.Trees.trees c.args.trees.now) c.args.a c.args.b c.node-first.result.now c.node-second.result.now c.node-first.ensures c.node-second.ensures l
    n c.loop-i.i c.loop-i.invariant.0
    (walk_end (g.T.Trees.trees c.args.trees.now) (children_of c.node-first.result.now) c.loop-i.i _ c.child_count-count.ensures c.loop-i.auto.i-end c.loop-i-test.false)
    (walk_end (g.T.Trees.trees c.args.trees.now) (children_of c.node-second.result.now) c.loop-i.i _ (c.child_count-count.ensures ∙ n) c.loop-i.auto.i-end c.loop-i-test.false)

pub returns-clause-walked : goal.returns-clause-walked
returns-clause-walked g t c =
    let l = is_left c.args.right (head_of c.node-first.result.now) (head_of c.node-second.result.now) c.head.result c.head-2.result c.may_unify.result
    c.head.ensures c.head-2.ensures c.in_default.is c.may_unify.ensures.said c.may_unify.ensures.same in
    let n = (sym c.child_count-count.ensures ∙ (c.if-count-child_count.false ∙ c.child_count.ensures)) in
    let P : ℕ × ℕ → Type 0 = λ p. trees_may_unify c.args.right (tree_at (g.T.Trees.trees c.args.trees.now) p.0) (tree_at (g.T.Trees.trees c.args.trees.now) p.1) ≡ true in
    each-noted P c.loop-i.walked c.note.new.self (c.args.a, c.args.b) c.note.ensures c.loop-i.invariant.1
    (sym (all_did c.args.right (g.T.Trees.trees c.args.trees.now) c.args.a c.args.b c.node-first.result.now c.node-second.result.now c.node-first.ensures c.node-second.ensures l
    n c.loop-i.i c.loop-i.invariant.0
    (walk_end (g.T.Trees.trees c.args.trees.now) (children_of c.node-first.result.now) c.loop-i.i _ c.child_count-count.ensures c.loop-i.auto.i-end c.loop-i-test.false)
    (walk_end (g.T.Trees.trees c.args.trees.now) (children_of c.node-second.result.now) c.loop-i.i _ (c.child_count-count.ensures ∙ n) c.loop-i.auto.i-end c.loop-i-test.false)))
