use Rattle.std.proofs.Common.{refl, rules}
use Rattle.candidate_eval.proofs.coherence.walk.Walk.take.Goals as goal

pub returns-else-is_err-clause-taken : goal.returns-else-is_err-clause-taken
returns-else-is_err-clause-taken g c =
    rw c.in-NonLocal.is (refl, record { first = c.from-is_first.result; is_first = c.from-is_first.ensures; added = search rules })

pub returns-else-self-clause-taken : goal.returns-else-self-clause-taken
returns-else-self-clause-taken g c = search rules
