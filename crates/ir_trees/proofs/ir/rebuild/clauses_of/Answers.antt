use Rattle.std.proofs.Common.{◌∙◌, arith, refl}
use Rattle.std.proofs.lemmas.List.{take_all}
use Rattle.ir_trees.specs.Syntax.Nodes.{clause_child}
use Rattle.ir_trees.proofs.Traversal.Rebuild.{numbers-next}
use Rattle.ir_trees.proofs.ir.rebuild.clauses_of.Goals as goal

pub loop-i-preserved : goal.loop-i-preserved
loop-i-preserved c =
    numbers-next clause_child _ _ _ c.args.numbers.now c.loop-i.i c.in_ok-push.ensures.items c.loop-i.invariant (omega arith) refl

pub returns : goal.returns
returns c = c.loop-i.invariant ∙ take_all c.loop-i.i c.args.numbers.now (omega arith)
