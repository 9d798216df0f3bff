use Rattle.overlaps.proofs.plain.is_refused.Goals as goal
use Rattle.overlaps.proofs.plain.is_refused.Goals.{in-Ok, in-Err-NoSolution, in-Err-Stop}

pub returns-clause-refused : goal.returns-clause-refused
returns-clause-refused g c =
    elim c.match-compute_trait_goal.branch [
      | in-Ok w ↦ rw w.result-is (λ e. absurd cc)
      | in-Err-NoSolution w ↦
          rw w.result-is
          (λ e. record {
            plain = c.requires.plain;
            reason = w.in-Err-NoSolution.ensures.refused w.in-Err-NoSolution.field-0-is c.requires.plain;
            known = w.in-Err-NoSolution.ensures.impls w.in-Err-NoSolution.field-0-is c.requires.plain;
          })
      | in-Err-Stop w ↦ rw w.result-is tt
    ]

pub returns-clause-cause : goal.returns-clause-cause
returns-clause-cause g c =
    elim c.match-compute_trait_goal.branch [
      | in-Ok w ↦ rw w.result-is tt
      | in-Err-NoSolution w ↦ rw w.result-is tt
      | in-Err-Stop w ↦
          rw w.result-is
          (record {
            comes = rw w.in-Err-Stop.field-0-is at w.in-Err-Stop.ensures.computes.stopped;
            own = rw w.in-Err-Stop.field-0-is at w.in-Err-Stop.ensures.computes.cause;
          })
    ]

pub returns-clause-answered : goal.returns-clause-answered
returns-clause-answered g c =
    elim c.match-compute_trait_goal.branch [
      | in-Ok w ↦ rw w.result-is (λ e. record { proved = _; left = _; comes = w.in-Ok.ensures.computes.ok })
      | in-Err-NoSolution w ↦ rw w.result-is (λ e. absurd cc)
      | in-Err-Stop w ↦ rw w.result-is tt
    ]
