use Rattle.std.proofs.Common.{subst}
use Rattle.candidate_rounds.specs.Evaluators.Known.{Evaluator, IsEvaluator}
use Rattle.candidate_rounds.proofs.rounds.Rounds.recall_well_kept.Goals as goal

pub returns : goal.returns
returns c = subst (λ (e : Evaluator). IsEvaluator e.context e.inference e.marks e.normal e.opaques e.goals) c.self.view_is c.self.invariant
