use Rattle.overlaps.specs.Asked.{was_tried}
use Rattle.overlaps.specs.Stopping.{IsOverlapStop}
use Rattle.overlaps.proofs.Staying.{known-beside}
use Rattle.overlaps.proofs.Stopping.{passed-on}
use Rattle.overlaps.proofs.clauses.is_predicate_refused.Goals as goal

pub returns-in_err-run_where_it_stands-clause-stays : goal.returns-in_err-run_where_it_stands-clause-stays
returns-in_err-run_where_it_stands-clause-stays c = known-beside c.run_where_it_stands.ensures.stays

pub returns-then-not-is_in_coherence-clause-stays : goal.returns-then-not-is_in_coherence-clause-stays
returns-then-not-is_in_coherence-clause-stays c = known-beside c.run_where_it_stands.ensures.stays

pub returns-then-not-is_in_coherence-clause-asked : goal.returns-then-not-is_in_coherence-clause-asked
returns-then-not-is_in_coherence-clause-asked c = λ no. was_tried (c.is_in_coherence.ensures.no c.if-not-is_in_coherence.true) c.in_ok-run_where_it_stands.ensures.tried

pub returns-in_err-run_where_it_stands-clause-cause : goal.returns-in_err-run_where_it_stands-clause-cause
returns-in_err-run_where_it_stands-clause-cause c =
    passed-on (IsOverlapStop c.args.rounds.now c.run_where_it_stands.new.rounds) c.from_residual.result c.in_err-run_where_it_stands.field-0.0 c.from_residual.ensures.1 c.in_err-run_where_it_stands.ensures.cause

pub is_refused_in_coherence-requires-clause-coherence : goal.is_refused_in_coherence-requires-clause-coherence
is_refused_in_coherence-requires-clause-coherence c = c.is_in_coherence.ensures.yes c.if-not-is_in_coherence.false
