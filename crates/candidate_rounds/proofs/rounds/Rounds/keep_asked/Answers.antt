use Rattle.std.proofs.Common.{reverse, sym, subst}
use Rattle.candidate_rounds.specs.Evaluators.Known.{IsEvaluator}
use Rattle.candidate_rounds.proofs.Table.KeptAsked.{evaluator-kept}
use Rattle.candidate_rounds.proofs.rounds.Rounds.keep_asked.Goals as goal

pub invariant_of-self : goal.invariant_of-self
invariant_of-self c =
    let i = c.self.inside in
    subst (IsEvaluator i.cx i.inference (reverse i.probes.items) (record { pairs = i.normal.items; is_open = i.opens }) i.opaques.items) (sym c.keep_asked.ensures) (evaluator-kept _ _ _ _ _ _ c.self.invariant)
