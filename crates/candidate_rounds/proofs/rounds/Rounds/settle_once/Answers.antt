use Rattle.std.proofs.Common.{◌∙◌, ap}
use Rattle.candidate_eval.specs.Interface.Evaluators.{pendings_of}
use Rattle.candidate_rounds.specs.Evaluators.Stopping.{AreGoalsStop, IsPassStop, pass_memory, held}
use Rattle.candidate_rounds.specs.Evaluators.Known.{reads, state}
use Rattle.candidate_rounds.proofs.Stops.SettlingStops.{growth-becomes, pass-goals, refusal-passed}
use Rattle.candidate_rounds.proofs.Evaluators.Going.{goes-refl, goes-trans}
use Rattle.candidate_rounds.proofs.Evaluators.Exits.{not-refused}
use Rattle.candidate_rounds.proofs.rounds.Rounds.settle_once.Goals as goal

pub returns-in_err-goals-clause-cause : goal.returns-in_err-goals-clause-cause
returns-in_err-goals-clause-cause c =
    let old = c.args.self.now in
    growth-becomes (IsPassStop (held old) (reads old) (state old)) c.from_residual.result c.in_err-goals.field-0.0 c.from_residual.ensures.1 c.in_err-goals.ensures.cause pass_memory

pub returns-in_err-staying-clause-cause : goal.returns-in_err-staying-clause-cause
returns-in_err-staying-clause-cause c =
    let old = c.args.self.now in
    let h = held c.try_goals.new.self in
    let ps = pendings_of old.context.trees c.as_slice.result.now in
    refusal-passed (IsPassStop h (reads old) (state old)) (λ s. AreGoalsStop h (reads old) s (state old) ps) c.from_residual-in_err-staying.result c.in_err-staying.field-0.0
    c.from_residual-in_err-staying.ensures.1 c.in_err-staying.ensures.cause
    (λ s k. pass-goals h (reads old) (state old) ps s (ap (pendings_of old.context.trees) c.as_slice.ensures.value ∙ c.in_ok-goals.ensures.goals) k)

pub returns-in_err-set_pending-clause-cause : goal.returns-in_err-set_pending-clause-cause
returns-in_err-set_pending-clause-cause c =
    let old = c.args.self.now in
    growth-becomes (IsPassStop (held c.set_pending.new.self) (reads old) (state old)) c.from_residual-in_err-set_pending.result c.in_err-set_pending.field-0.0 c.from_residual-in_err-set_pending.ensures.1
    c.in_err-set_pending.ensures.cause pass_memory

pub returns-in_err-goals-clause-goes : goal.returns-in_err-goals-clause-goes
returns-in_err-goals-clause-goes c = goes-refl c.args.self.now

pub returns-in_err-goals-clause-refused : goal.returns-in_err-goals-clause-refused
returns-in_err-goals-clause-refused c = not-refused _ c.from_residual.result _ c.from_residual.ensures.1

pub returns-in_err-set_pending-clause-goes : goal.returns-in_err-set_pending-clause-goes
returns-in_err-set_pending-clause-goes c = goes-trans c.args.self.now c.try_goals.new.self c.set_pending.new.self c.try_goals.ensures.goes c.set_pending.ensures.goes

pub returns-in_err-set_pending-clause-refused : goal.returns-in_err-set_pending-clause-refused
returns-in_err-set_pending-clause-refused c = not-refused _ c.from_residual-in_err-set_pending.result _ c.from_residual-in_err-set_pending.ensures.1

pub returns-clause-goes : goal.returns-clause-goes
returns-clause-goes c = goes-trans c.args.self.now c.try_goals.new.self c.set_pending.new.self c.try_goals.ensures.goes c.set_pending.ensures.goes
