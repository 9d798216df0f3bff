use Rattle.std.proofs.lemmas.Result.{IfErr-weaker}
use Rattle.candidate_eval.specs.Dynamic.ObjectRequirements.{trait_fact}
use Rattle.candidate_eval.proofs.Interface.Unmade.{clause-unmade}
use Rattle.candidate_eval.proofs.eval.clauses.trait_clause.Goals as goal

pub returns-clause-cause : goal.returns-clause-cause
returns-clause-cause g c = IfErr-weaker c.mk_clause.result _ _ (λ s x. clause-unmade (trait_fact c.args.vars c.args.predicate) c.mk_clause.ensures.made.kept x) c.mk_clause.ensures.made.cause
