use Rattle.ir_trees.specs.Syntax.Words.{args_forest}
use Rattle.candidate_eval.specs.Interface.Evaluators.{Keeps}
use Rattle.candidate_rounds.specs.Evaluators.Interface.{fixed, judge_of}
use Rattle.candidate_rounds.specs.Evaluators.Known.{probes, state}
use Rattle.overlaps.specs.Negated.{ArePlugged}
use Rattle.overlaps.proofs.Staying.{context_of}
use Rattle.overlaps.proofs.negation.plug.Given as goal

-- variables have become placeholders from the first state on
abbrev pub invariant-loop-place : goal.invariant-loop-place
invariant-loop-place l =
    let r = l.fn.rounds in
    let f = args_forest r.context.trees in Keeps fixed probes context_of r l.rounds × ArePlugged (judge_of (fixed r)) (state r) (f l.fn.locals) (f l.fn.placeholders) (state l.rounds)
