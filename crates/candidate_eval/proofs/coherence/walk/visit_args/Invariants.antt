use Rattle.std.proofs.Common.{◌+◌}
use Rattle.ir_trees.specs.Syntax.Words.{args_forest}
use Rattle.candidate_eval.specs.Calls.Visits.{Visits, the_list}
use Rattle.candidate_eval.proofs.Frontier.Waiting.{AreVisitedWithin, left_of, left_of_all}
use Rattle.candidate_eval.proofs.coherence.walk.visit_args.Given as goal

abbrev pub invariant-loop-list : goal.invariant-loop-list
invariant-loop-list g l =
    AreVisitedWithin g.C.Build.context g.C.InferCtxtLike.seen g.C.InferCtxtLike.resolved g.F.FnMut
    (λ f c w r. Visits g.C.Build.context g.C.InferCtxtLike.seen g.C.InferCtxtLike.resolved g.F.FnMut (the_list (args_forest (g.C.Build.context l.fn.infcx).trees l.fn.args)) l.fn.levels l.fn.normalize l.fn.infcx l.fn.walk f c w r)
    l.outer.items l.list l.normalize l.infcx l.walk

abbrev pub decreases-loop-list : goal.decreases-loop-list
decreases-loop-list g l = left_of l.list + left_of_all l.outer.items
