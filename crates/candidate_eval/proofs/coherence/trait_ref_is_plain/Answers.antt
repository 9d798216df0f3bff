use Rattle.std.proofs.Common.{refl}
use Rattle.candidate_eval.proofs.Marks.Plain.{plain-unflagged}
use Rattle.candidate_eval.proofs.coherence.trait_ref_is_plain.Goals as goal

pub returns-then-not-has-clause-plain : goal.returns-then-not-has-clause-plain
returns-then-not-has-clause-plain c = λ t. plain-unflagged _ _ _ (c.has.ensures.list refl) (c.has-then-not-has.ensures.list refl) c.if-not-has.true t
