use Rattle.std.proofs.Common.{◌≡◌, false, IfOk, subst}
use Rattle.candidate_rounds.specs.Evaluators.Known.{Evaluator, state}
use Rattle.candidate_rounds.specs.Evaluators.Leaking.{Leaks}
use Rattle.candidate_rounds.proofs.Evaluators.Between.{parts}
use Rattle.candidate_rounds.proofs.rounds.Rounds.leaks_above.Goals as goal

pub leaks_in-requires : goal.leaks_in-requires
leaks_in-requires c = (parts c.self.invariant).consistent.known

pub returns-clause-no : goal.returns-clause-no
returns-clause-no c = subst (λ (e : Evaluator). IfOk c.leaks_in.result (λ b. b ≡ false → Leaks c.args.above (state e) → ⊥)) c.self.view_is (c.leaks_in.ensures.no c.self.inside.mode)
