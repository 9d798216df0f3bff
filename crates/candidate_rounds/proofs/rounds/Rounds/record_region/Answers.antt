use Rattle.std.proofs.Common.{reverse, sym, ◌∙◌, ap, subst}
use Rattle.ir_trees.specs.Syntax.Words.{IsClause, clause_tree}
use Rattle.candidate_rounds.specs.Evaluators.Inferences.{record_region}
use Rattle.candidate_rounds.specs.Evaluators.Known.{Evaluator, GoesOn, state}
use Rattle.rounds_judge.specs.Obligations.Settling.{recorded}
use Rattle.candidate_rounds.proofs.Evaluators.Going.{further-call, further-region, goes-further}
use Rattle.candidate_rounds.proofs.Snapshots.Holding.{change-state}
use Rattle.candidate_rounds.proofs.Equations.Recording.{holds-region}
use Rattle.candidate_rounds.proofs.Snapshots.ResolvedValues.{evaluator-changed, resolved-region}
use Rattle.candidate_rounds.proofs.Obligations.Trying.{state-region}
use Rattle.candidate_rounds.proofs.Evaluators.Between.{parts}
use Rattle.candidate_rounds.proofs.rounds.Rounds.record_region.Goals as goal

pub invariant_of-self : goal.invariant_of-self
invariant_of-self c =
    let i = c.self.inside in
    let ks = reverse i.probes.items in
    let fits = subst (λ (e : Evaluator). IsClause e.context.trees c.args.region) (sym c.self.view_is) c.requires in
    evaluator-changed i.cx i.inference c.record_region.new.self (record_region i.inference c.args.region) ks (record { pairs = i.normal.items; is_open = i.opens }) i.opaques.items i.goals c.record_region.result c.self.invariant (further-region i.inference c.args.region)
    (holds-region i.cx.trees i.inference ks c.args.region (parts c.self.invariant).consistent fits) (resolved-region i.cx.trees i.inference c.args.region (parts c.self.invariant).resolved.now) c.record_region.ensures.recorded c.record_region.ensures.unchanged

pub returns-clause-goes : goal.returns-clause-goes
returns-clause-goes c =
    let i = c.self.inside in
    let v : Evaluator = record { context = i.cx; mode = i.mode; normal = record { pairs = i.normal.items; is_open = i.opens }; opaques = i.opaques.items; goals = i.goals; inference = i.inference; marks = reverse i.probes.items } in
    subst (λ (e : Evaluator). GoesOn e (record v { inference = c.record_region.new.self })) c.self.view_is
    (goes-further v c.record_region.new.self
    (further-call i.inference c.record_region.new.self (record_region i.inference c.args.region) c.record_region.result (further-region i.inference c.args.region) c.record_region.ensures.recorded c.record_region.ensures.unchanged))

pub returns-clause-made : goal.returns-clause-made
returns-clause-made c =
    let i = c.self.inside in
    change-state i.cx.trees i.mode c.record_region.new.self (record_region i.inference c.args.region) _ c.record_region.result
    (state-region i.cx.trees i.mode i.inference c.args.region ∙ ap (λ (e : Evaluator). recorded (state e) (clause_tree e.context.trees c.args.region)) c.self.view_is) c.record_region.ensures.recorded
