use Rattle.std.proofs.Common.{arith}
use Rattle.candidate_eval.proofs.Frontier.Calls.{call-keeps, call-shows, normalizes}
use Rattle.candidate_eval.proofs.coherence.walk.normalized.Goals as goal

pub returns-clause-grows : goal.returns-clause-grows
returns-clause-grows g c =
    (call-keeps g.C.Build.context g.F.FnMut _ _ c.args.ty _ _ _ c.requires.normaliser.keeps c.requires.ty (omega arith) c.normalize.ensures).0

pub returns-clause-sort : goal.returns-clause-sort
returns-clause-sort g c =
    (call-keeps g.C.Build.context g.F.FnMut _ _ c.args.ty _ _ _ c.requires.normaliser.keeps c.requires.ty (omega arith) c.normalize.ensures).1

pub returns-clause-answer : goal.returns-clause-answer
returns-clause-answer g c = call-shows g.C.Build.context g.F.FnMut _ _ c.args.ty _ _ _ c.requires.ty (omega arith) c.normalize.ensures g.C.InferCtxtLike.seen g.C.InferCtxtLike.resolved

pub returns-clause-call : goal.returns-clause-call
returns-clause-call g c = normalizes g.C.Build.context g.F.FnMut _ _ c.args.ty _ _ _ c.normalize.ensures
