use Rattle.std.proofs.Common.{◌≡◌, reverse, subst}
use Rattle.candidate_rounds.specs.Evaluators.Interface.{rest}
use Rattle.candidate_rounds.specs.Evaluators.Known.{Evaluator}
use Rattle.candidate_rounds.proofs.Evaluators.Interface.{made-rest}
use Rattle.candidate_rounds.proofs.Snapshots.ResolvedValues.{evaluator-grown}
use Rattle.candidate_rounds.proofs.rounds.evaluator.RoundsBuild.make.Goals as goal

pub invariant_of-self : goal.invariant_of-self
invariant_of-self c =
    let i = c.self.inside in
    evaluator-grown i.cx c.make.new.self i.inference (reverse i.probes.items) (record { pairs = i.normal.items; is_open = i.opens }) i.opaques.items i.goals c.make.ensures.made.kept c.self.invariant

pub returns-clause-rest : goal.returns-clause-rest
returns-clause-rest c =
    let i = c.self.inside in
    let v : Evaluator = record { context = i.cx; mode = i.mode; normal = record { pairs = i.normal.items; is_open = i.opens }; opaques = i.opaques.items; goals = i.goals; inference = i.inference; marks = reverse i.probes.items } in
    subst (λ (e : Evaluator). rest (record v { context = c.make.new.self }) ≡ rest e) c.self.view_is (made-rest v c.make.new.self c.make.ensures.made.kept c.make.ensures.made.faults c.self.invariant)
