use Rattle.candidate_eval.proofs.Interface.Probing.{made}
use Rattle.candidate_eval.proofs.eval.clauses.substitute.Goals as goal

pub returns-clause-kept : goal.returns-clause-kept
returns-clause-kept g c = made (g.met.E.EvalCtxt.by_rest c.args.ecx.now c.subst.new.make c.subst.ensures.rest) c.subst.ensures.grows

pub returns-clause-same : goal.returns-clause-same
returns-clause-same g c = (g.met.E.EvalCtxt.by_rest c.args.ecx.now c.subst.new.make c.subst.ensures.rest).1
