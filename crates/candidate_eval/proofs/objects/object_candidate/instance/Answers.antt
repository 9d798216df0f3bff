use Rattle.candidate_eval.proofs.Interface.Probing.{keeps-trans}
use Rattle.std.proofs.lemmas.Result.{err_from_is_err_and}
use Rattle.candidate_eval.specs.Interface.Accounts.StopsSomehow.{making}
use Rattle.candidate_eval.proofs.Interface.Accounts.{instance-made, reaches, somehow, somehow-later}
use Rattle.candidate_eval.proofs.objects.object_candidate.instance.Goals as goal

pub returns-in_err-instance-clause-kept : goal.returns-in_err-instance-clause-kept
returns-in_err-instance-clause-kept g c =
    let E = g.E.EvalCtxt in
    keeps-trans E.fixed E.probes g.E.Build.context c.args.ecx.now c.trait_clause.new.ecx c.instantiate_clause_with_infer.new.ecx c.trait_clause.ensures.kept c.instantiate_clause_with_infer.ensures.kept

pub returns-clause-kept : goal.returns-clause-kept
returns-clause-kept g c =
    let E = g.E.EvalCtxt in
    keeps-trans E.fixed E.probes g.E.Build.context c.args.ecx.now c.trait_clause.new.ecx c.instantiate_clause_with_infer.new.ecx c.trait_clause.ensures.kept c.instantiate_clause_with_infer.ensures.kept

pub returns-in_err-clause-clause-cause : goal.returns-in_err-clause-clause-cause
returns-in_err-clause-clause-cause g c =
    let p = err_from_is_err_and c.from_residual.result c.from_residual.ensures.1 in
    rw (p.1, p.2) (making c.in_err-clause.ensures.cause)

pub returns-in_err-instance-clause-cause : goal.returns-in_err-instance-clause-cause
returns-in_err-instance-clause-cause g c =
    let p = err_from_is_err_and c.from_residual-in_err-instance.result c.from_residual-in_err-instance.ensures.1 in
    rw (p.1, p.2) (somehow-later (reaches c.trait_clause.ensures.kept) (somehow (reaches c.in_err-instance.ensures.kept) (λ ts i. instance-made _ _ i) c.in_err-instance.ensures.cause))
