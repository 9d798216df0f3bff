use Rattle.std.proofs.Common.{◌≡◌}
use Rattle.ir_trees.specs.Syntax.Words.{ty_tree}
use Rattle.candidate_eval.proofs.Frontier.Descent.{ComesDown}
use Rattle.candidate_eval.proofs.coherence.walk.visit_type.Given as goal

abbrev pub invariant-loop-left : goal.invariant-loop-left
invariant-loop-left g l = record {
  same : l.walk ≡ l.fn.walk;
  comes : ComesDown g.C.Build.context g.C.InferCtxtLike.seen g.C.InferCtxtLike.resolved g.F.FnMut (ty_tree (g.C.Build.context l.fn.infcx).trees l.fn.ty) l.fn.levels l.fn.normalize l.fn.infcx l.fn.walk l.normalize l.infcx l.target l.left;
}

abbrev pub decreases-loop-left : goal.decreases-loop-left
decreases-loop-left g l = l.left
