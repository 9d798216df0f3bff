use Rattle.candidate_eval.proofs.Dynamic.ObjectCandidates.{predicate-read}
use Rattle.candidate_eval.proofs.eval.clauses.predicate_in.Goals as goal

pub returns-in-Trait-clause-fits : goal.returns-in-Trait-clause-fits
returns-in-Trait-clause-fits c =
    predicate-read c.args.cx.now c.args.clause c.clause.result c.in-Trait.predicate c.recall_well_formed.ensures c.clause.ensures.fits c.clause.ensures.tree c.in-Trait.is
