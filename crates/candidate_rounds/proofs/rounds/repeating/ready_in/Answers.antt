use Rattle.std.proofs.Common.{◌∙◌}
use Rattle.ir_trees.specs.Instantiation.Folds.{arg_tree}
use Rattle.ir_trees.specs.Syntax.Nodes.{tree_at}
use Rattle.ir_folds.proofs.Hierarchy.Implying.{arg-kept}
use Rattle.candidate_rounds.specs.Evaluators.Known.{pairs_of}
use Rattle.candidate_rounds.proofs.Equations.Repeating.{ready-at}
use Rattle.candidate_rounds.proofs.rounds.repeating.ready_in.Goals as goal

pub keeps_state-requires-clause-arg : goal.keeps_state-requires-clause-arg
keeps_state-requires-clause-arg c = (arg-kept c.args.cx.now c.put_in.new.cx c.in_ok-arg.arg c.put_in.ensures.grows c.in_ok-arg.ensures.0).0

pub returns-clause-ready : goal.returns-clause-ready
returns-clause-ready c = λ m.
    let ts = c.args.cx.now.trees in
    let us = c.put_in.new.cx.trees in
    let x = c.in_ok-arg.arg in
    let is = c.in_ok-arg.ensures.1 in
    ready-at ts us m c.args.inference.now (pairs_of ts c.args.normal.now) (tree_at ts c.args.number) (arg_tree ts x) (arg_tree us x) (c.in_ok-resolved.resolved, c.in_ok-resolved.listed)
    is ((arg-kept c.args.cx.now c.put_in.new.cx x c.put_in.ensures.grows c.in_ok-arg.ensures.0).1 ∙ is) c.in_ok-arg.ensures.2 (c.in_ok-resolved.ensures.put m) (c.keeps_state.ensures c.if-not-keeps_state.false)
