use Rattle.std.proofs.Common.{reverse, subst}
use Rattle.candidate_rounds.specs.Evaluators.Known.{Evaluator}
use Rattle.candidate_rounds.proofs.Resolution.Values.{IsValueOf}
use Rattle.candidate_rounds.proofs.Resolution.Resolving.{own-value}
use Rattle.candidate_rounds.proofs.Evaluators.Between.{parts}
use Rattle.candidate_rounds.proofs.rounds.Rounds.value.Goals as goal

pub returns : goal.returns
returns c =
    let i = c.self.inside in
    let r : Evaluator = record { context = i.cx; mode = i.mode; normal = record { pairs = i.normal.items; is_open = i.opens }; opaques = i.opaques.items; goals = i.goals; inference = i.inference; marks = reverse i.probes.items } in
    subst (λ (e : Evaluator). IsValueOf e c.args.kind c.args.number c.kept_value.result) c.self.view_is
    (own-value r c.args.kind c.args.number c.kept_value.result (parts c.self.invariant).consistent c.kept_value.ensures)
