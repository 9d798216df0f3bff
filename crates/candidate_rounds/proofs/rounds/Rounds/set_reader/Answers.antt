use Rattle.std.proofs.Common.{reverse, sym, subst}
use Rattle.candidate_rounds.specs.Evaluators.Known.{IsEvaluator}
use Rattle.candidate_rounds.proofs.rounds.Rounds.set_reader.Goals as goal

pub invariant_of-self : goal.invariant_of-self
invariant_of-self c =
    let i = c.self.inside in
    subst (IsEvaluator i.cx i.inference (reverse i.probes.items) (record { pairs = i.normal.items; is_open = i.opens }) i.opaques.items) (sym c.set_reader.ensures) c.self.invariant
