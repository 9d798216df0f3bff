use Rattle.std.proofs.Common.{◌≡◌, ℕ, arith, false, rules, sym, ◌∙◌}
use Rattle.ir_trees.specs.Syntax.Kinds.{numbers}
use Rattle.ir_trees.specs.Syntax.Nodes.{children_of, tree_at}
use Rattle.ir_trees.specs.Syntax.Trees.{tree_holds}
use Rattle.ir_trees.proofs.Syntax.Children.{Below-get, any-found, any-on, any-none, walk_end}
use Rattle.ir_trees.proofs.Traversal.Noted.{each-noted, number-noted}
use Rattle.ir_trees.proofs.ir.marks.+number_holds.Goals as goal

pub number_holds-requires : goal.number_holds-requires
number_holds-requires g t c =
    let b = Below-get _ (numbers (children_of c.node-node.result.now)) c.loop-i.i c.child.result c.node-node.ensures.below c.child.ensures in
    λ _ o. (omega arith, (o.0, (o.1, (omega (arith, c.requires.number), c.loop-i.invariant.1))))

pub returns-then-not-may_stand-clause-is : goal.returns-then-not-may_stand-clause-is
returns-then-not-may_stand-clause-is g t c =
    let off : c.may_stand.result ≡ false = search rules in
    let none = c.may_stand.ensures (tree_at (g.T.Trees.trees c.args.trees.now) c.args.number) c.marks.ensures off in
    sym none

pub returns-then-has-clause-is : goal.returns-then-has-clause-is
returns-then-has-clause-is g t c =
    let P : ℕ → Type 0 = λ n. tree_holds (g.M.Mark.marks c.args.mark.now) (tree_at (g.T.Trees.trees c.args.trees.now) n) ≡ false in
    sym (number-noted P c.args.walked.now c.args.number c.has.result c.requires.walked c.has.ensures c.if-has.true)

pub returns-then-number_holds-clause-is : goal.returns-then-number_holds-clause-is
returns-then-number_holds-clause-is g t c =
    any-found (g.M.Mark.marks c.args.mark.now) (g.met.M.Mark.no_list c.args.mark.now) (g.T.Trees.trees c.args.trees.now) c.args.number c.node-node.result.now c.loop-i.i c.child.result c.node-node.ensures c.child.ensures c.loop-i.invariant.0
    (sym c.number_holds.ensures.is ∙ c.if-number_holds.true)

pub loop-i-preserved : goal.loop-i-preserved
loop-i-preserved g t c = (
  any-on (g.M.Mark.marks c.args.mark.now) (g.T.Trees.trees c.args.trees.now) c.node-node.result.now c.loop-i.i c.child.result c.child.ensures c.loop-i.invariant.0
      (sym c.number_holds.ensures.is ∙ c.if-number_holds.false),
  c.number_holds.ensures.walked,
)

pub returns-clause-is : goal.returns-clause-is
returns-clause-is g t c =
    any-none (g.M.Mark.marks c.args.mark.now) (g.met.M.Mark.no_list c.args.mark.now) (g.T.Trees.trees c.args.trees.now) c.args.number c.node-node.result.now c.loop-i.i c.node-node.ensures
    (sym (c.is_on.ensures) ∙ c.if-is_on.false) c.loop-i.invariant.0
    (walk_end (g.T.Trees.trees c.args.trees.now) (children_of c.node-node.result.now) c.loop-i.i _ c.child_count-i-end.ensures c.loop-i.auto.i-end c.loop-i-test.false)

pub returns-clause-walked : goal.returns-clause-walked
returns-clause-walked g t c =
    let P : ℕ → Type 0 = λ n. tree_holds (g.M.Mark.marks c.args.mark.now) (tree_at (g.T.Trees.trees c.args.trees.now) n) ≡ false in
    each-noted P c.loop-i.walked c.note.new.self c.args.number c.note.ensures c.loop-i.invariant.1
    (sym (any-none (g.M.Mark.marks c.args.mark.now) (g.met.M.Mark.no_list c.args.mark.now) (g.T.Trees.trees c.args.trees.now) c.args.number c.node-node.result.now c.loop-i.i c.node-node.ensures
    (sym (c.is_on.ensures) ∙ c.if-is_on.false) c.loop-i.invariant.0
    (walk_end (g.T.Trees.trees c.args.trees.now) (children_of c.node-node.result.now) c.loop-i.i _ c.child_count-i-end.ensures c.loop-i.auto.i-end c.loop-i-test.false)))
