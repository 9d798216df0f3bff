use Rattle.examples.proofs.refused.is_refused.Goals as goal
use Rattle.examples.proofs.refused.is_refused.Goals.{in-Ok, in-Err-NoSolution, in-Err-Stop}

pub returns-clause-refused : goal.returns-clause-refused
returns-clause-refused g c =
    elim c.match-compute_trait_goal.branch [
      | in-Ok w ↦ rw w.result-is (λ e. absurd cc)
      | in-Err-NoSolution w ↦
          rw w.result-is
          (λ e. record {
            plain = c.requires.plain;
            reason = w.in-Err-NoSolution.ensures.refused w.in-Err-NoSolution.field-0-is c.requires.plain;
            known = w.in-Err-NoSolution.ensures.impls w.in-Err-NoSolution.field-0-is c.requires.plain;
          })
      | in-Err-Stop w ↦ rw w.result-is tt
    ]
