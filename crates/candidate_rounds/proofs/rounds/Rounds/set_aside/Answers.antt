use Rattle.std.proofs.Common.{length, reverse, ◌∙◌, subst}
use Rattle.candidate_rounds.specs.Evaluators.Inferences.{begin_pending}
use Rattle.candidate_rounds.specs.Evaluators.Known.{Evaluator, GoesOn}
use Rattle.candidate_rounds.proofs.Obligations.Evaluating.{holds-aside}
use Rattle.candidate_rounds.proofs.Evaluators.Going.{further-call, further-pending, goes-further}
use Rattle.candidate_rounds.proofs.Snapshots.ResolvedValues.{evaluator-changed, resolved-pending}
use Rattle.candidate_rounds.proofs.Evaluators.Between.{parts}
use Rattle.candidate_rounds.proofs.Table.Rounding.{then-err}
use Rattle.candidate_rounds.proofs.rounds.Rounds.set_aside.Goals as goal

pub invariant_of-self : goal.invariant_of-self
invariant_of-self c =
    let i = c.self.inside in
    let ks = reverse i.probes.items in
    evaluator-changed i.cx i.inference c.set_aside.new.self (begin_pending i.inference (length i.inference.goals)) ks (record { pairs = i.normal.items; is_open = i.opens }) i.opaques.items i.goals c.set_aside.result c.self.invariant
    (further-pending i.inference (length i.inference.goals)) (holds-aside i.cx.trees i.inference ks (parts c.self.invariant).consistent) (resolved-pending i.cx.trees i.inference (length i.inference.goals) (parts c.self.invariant).resolved.now)
    c.set_aside.ensures.aside c.set_aside.ensures.unchanged

pub returns-clause-goes : goal.returns-clause-goes
returns-clause-goes c =
    let i = c.self.inside in
    let v : Evaluator = record { context = i.cx; mode = i.mode; normal = record { pairs = i.normal.items; is_open = i.opens }; opaques = i.opaques.items; goals = i.goals; inference = i.inference; marks = reverse i.probes.items } in
    subst (λ (e : Evaluator). GoesOn e (record v { inference = c.set_aside.new.self })) c.self.view_is
    (goes-further v c.set_aside.new.self
    (further-call i.inference c.set_aside.new.self (begin_pending i.inference (length i.inference.goals)) c.set_aside.result (further-pending i.inference (length i.inference.goals)) c.set_aside.ensures.aside c.set_aside.ensures.unchanged))

pub returns-clause-unchanged : goal.returns-clause-unchanged
returns-clause-unchanged c =
    let i = c.self.inside in
    let v : Evaluator = record { context = i.cx; mode = i.mode; normal = record { pairs = i.normal.items; is_open = i.opens }; opaques = i.opaques.items; goals = i.goals; inference = i.inference; marks = reverse i.probes.items } in
    then-err c.set_aside.result (λ e. (λ j. record v { inference = e j }) ∙ c.self.view_is) c.set_aside.ensures.unchanged
