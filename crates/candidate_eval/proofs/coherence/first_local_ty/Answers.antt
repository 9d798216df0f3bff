use Rattle.std.proofs.Common.{ap, refl}
use Rattle.ir_trees.specs.Syntax.Words.{args_forest}
use Rattle.candidate_eval.specs.Calls.Exits.{local_ty_of}
use Rattle.candidate_eval.specs.Knowability.Orphan.{view}
use Rattle.candidate_eval.specs.Calls.Walk.{setting}
use Rattle.candidate_eval.proofs.Frontier.Causes.{left-same}
use Rattle.candidate_eval.proofs.Frontier.Checks.{second-answered, stop-of-local, local-type}
use Rattle.candidate_eval.proofs.coherence.first_local_ty.Goals as goal

pub returns-clause-calls : goal.returns-clause-calls
returns-clause-calls g c =
    rw c.local_ty_of.ensures
    (left-same g.C.Build.context g.F.FnMut c.args.levels _ _ _ _ _ _ (λ s e. ap local_ty_of e) (stop-of-local c.visit_args.result) c.visit_args.ensures.calls)

pub returns-clause-types : goal.returns-clause-types
returns-clause-types g c = rw c.local_ty_of.ensures (local-type _ c.visit_args.result c.visit_args.ensures.exit)

pub returns-clause-answer : goal.returns-clause-answer
returns-clause-answer g c =
    rw c.local_ty_of.ensures
    (λ d h told t.
    let c0 = g.C.Build.context c.args.infcx.now in
    second-answered (setting c0 c.args.in_crate) (view (λ s u. g.C.InferCtxtLike.resolved s.1 u) d.normal) c.args.levels (args_forest c0.trees c.args.args)
    (d.stands (c.args.normalize.now, c.args.infcx.now)) (d.stands (c.visit_args.new.normalize, c.visit_args.new.infcx)) (g.C.Build.context c.visit_args.new.infcx).trees d.untold
    _ _ c.visit_args.result refl (c.visit_args.ensures.outcome d h) told t)
