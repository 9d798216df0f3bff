use Rattle.std.proofs.Common.{ℕ, Result, IfOk, ap, sym, subst, ◌≡◌, ◌∙◌}
use Rattle.ir_trees.specs.Syntax.Nodes.{node_tree}
use Rattle.ir_trees.specs.Syntax.Trees.{Tree, kind_of}
use Rattle.ir_trees.proofs.Syntax.Lists.{kind_of-tree_at}
use Rattle.ir_trees.proofs.Growth.Putting.{put-extends, put-fits, put-kind, put-most, put-tree}
use Rattle.ir_trees.specs.declared.ir.stop.Stop.{Stop}
use Rattle.ir_trees.specs.Syntax.Nodes.{head_of, kind_at}
use Rattle.ir_trees.proofs.ir.nodes.Nodes.add.Goals as goal
use Rattle.ir_trees.proofs.ir.nodes.Nodes.add.Goals.{in-Some, in-None}

pub returns-clause-kept : goal.returns-clause-kept
returns-clause-kept c = put-extends c.args.self.now c.put.new.self (node_tree c.args.self.now c.args.node) c.put.result c.put.ensures.number c.put.ensures.unchanged

pub returns-clause-fit : goal.returns-clause-fit
returns-clause-fit c = λ w f t. put-fits w c.args.self.now c.put.new.self c.args.node c.put.result c.put.ensures.number c.put.ensures.unchanged f t

pub returns-clause-most : goal.returns-clause-most
returns-clause-most c = put-most c.args.self.now c.put.new.self (node_tree c.args.self.now c.args.node) c.put.result c.put.ensures.number

pub returns-clause-sort : goal.returns-clause-sort
returns-clause-sort c = put-kind c.args.self.now c.put.new.self (node_tree c.args.self.now c.args.node) c.put.result c.put.ensures.number

pub returns-clause-tree : goal.returns-clause-tree
returns-clause-tree c = put-tree c.args.self.now c.put.new.self (node_tree c.args.self.now c.args.node) c.put.result c.put.ensures.number

pub returns-then-len-ge-MAX_NODES-clause-sort : goal.returns-then-len-ge-MAX_NODES-clause-sort
returns-then-len-ge-MAX_NODES-clause-sort c =
    let P : Result ℕ Stop → Type 0 = λ r. IfOk r (λ n. kind_at c.args.self.now n ≡ kind_of (head_of c.args.node)) in
    elim c.match-find.branch [
      | in-Some w ↦ subst P (sym w.result-is) (kind_of-tree_at c.args.self.now _ w.in-Some.ensures.0 ∙ ap (λ (t : Tree). kind_of t.head) w.in-Some.ensures.1)
      | in-None w ↦ subst P (sym w.result-is) tt
    ]
