use Rattle.std.proofs.Common.{◌<◌, ◌∙◌, length, arith}
use Rattle.std.proofs.lemmas.List.{take_all}
use Rattle.ir_trees.specs.Syntax.Kinds.{arg_child}
use Rattle.ir_trees.proofs.Traversal.Rebuild.{numbers-next, sorts-next, sorts-length}
use Rattle.ir_trees.proofs.ir.rebuild.renumbered.Goals as goal

pub loop-i-preserved : goal.loop-i-preserved
loop-i-preserved c =
    let e = c.in_ok-push.ensures.items in
    let h : c.loop-i.i < length c.args.list.now = omega arith in
    record {
      numbers = numbers-next arg_child _ _ _ c.args.numbers.now c.loop-i.i e c.loop-i.invariant.numbers (omega (arith, h, c.requires)) c.with_number.ensures.number;
      sorts = sorts-next arg_child _ _ _ c.args.list.now c.loop-i.i _ e c.loop-i.invariant.sorts h c.with_number.ensures.kind;
    }

pub returns-clause-numbers : goal.returns-clause-numbers
returns-clause-numbers c = c.loop-i.invariant.numbers ∙ take_all c.loop-i.i c.args.numbers.now (omega arith)

pub returns-clause-sorts : goal.returns-clause-sorts
returns-clause-sorts c = c.loop-i.invariant.sorts ∙ take_all c.loop-i.i _ (omega (arith, sorts-length arg_child c.args.list.now))
