use Rattle.candidate_assembly.proofs.Upcasting.UpcastRows.{reference-read}
use Rattle.candidate_assembly.proofs.trait_goals.bounds_met.principal_of.Goals as goal

pub returns-in-Trait : goal.returns-in-Trait
returns-in-Trait c =
    rw c.in_ok-principal.was
    (reference-read c.args.cx.now.trees c.in_ok-principal.field-0 c.clause-clause.result c.in-Trait.predicate c.args.of.0 c.clause-clause.ensures.fits c.clause-clause.ensures.tree c.in-Trait.is c.if-predicate-of.true)
