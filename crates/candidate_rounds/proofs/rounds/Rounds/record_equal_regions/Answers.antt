use Rattle.std.proofs.Common.{OnOk, reverse, sym, ◌∙◌, subst, ◌≡◌}
use Rattle.ir_trees.specs.Syntax.Words.{region_tree}
use Rattle.rounds_judge.specs.Equations.Equating.{with_equal_regions}
use Rattle.candidate_rounds.specs.Evaluators.Known.{Evaluator, GoesOn, state, state_of}
use Rattle.candidate_rounds.proofs.Evaluators.Going.{goes-both}
use Rattle.candidate_rounds.proofs.Equations.Recording.{further-both, equal-recorded}
use Rattle.candidate_rounds.proofs.Snapshots.ResolvedValues.{evaluator-changed, evaluator-grown, resolved-region}
use Rattle.candidate_rounds.proofs.Evaluators.Going.{further-region, further-trans}
use Rattle.candidate_rounds.proofs.Equations.Recording.{both, holds-region}
use Rattle.candidate_rounds.specs.Evaluators.Inferences.{record_region}
use Rattle.candidate_rounds.proofs.Stops.BindingStops.{unrecorded}
use Rattle.candidate_rounds.proofs.Evaluators.Between.{parts}
use Rattle.candidate_rounds.proofs.rounds.Rounds.record_equal_regions.Goals as goal

pub invariant_of-self : goal.invariant_of-self
invariant_of-self c =
    let i = c.self.inside in
    evaluator-grown i.cx c.equal_regions.new.cx i.inference (reverse i.probes.items) (record { pairs = i.normal.items; is_open = i.opens }) i.opaques.items i.goals c.equal_regions.ensures.grows c.self.invariant

pub invariant_of-self-2 : goal.invariant_of-self-2
invariant_of-self-2 c =
    let i = c.self.inside in
    let us = c.equal_regions.new.cx.trees in
    let ks = reverse i.probes.items in
    let one = c.in_ok-one.one in
    let other = c.in_ok-one.other in
    let grown = evaluator-grown i.cx c.equal_regions.new.cx i.inference ks (record { pairs = i.normal.items; is_open = i.opens }) i.opaques.items i.goals c.equal_regions.ensures.grows c.self.invariant in
    evaluator-changed c.equal_regions.new.cx i.inference c.record_both.new.inference (both i.inference one other) ks (record { pairs = i.normal.items; is_open = i.opens }) i.opaques.items i.goals c.record_both.result grown
    (further-trans i.inference (record_region i.inference one) (both i.inference one other) (further-region i.inference one) (further-region (record_region i.inference one) other))
    (holds-region us (record_region i.inference one) ks other (holds-region us i.inference ks one (parts grown).consistent c.in_ok-one.ensures.one.0) c.in_ok-one.ensures.other.0)
    (resolved-region us (record_region i.inference one) other (resolved-region us i.inference one (parts grown).resolved.now))
    c.record_both.ensures.recorded c.record_both.ensures.unchanged

pub returns-clause-goes : goal.returns-clause-goes
returns-clause-goes c =
    let i = c.self.inside in
    let v : Evaluator = record { context = i.cx; mode = i.mode; normal = record { pairs = i.normal.items; is_open = i.opens }; opaques = i.opaques.items; goals = i.goals; inference = i.inference; marks = reverse i.probes.items } in
    subst (λ (e : Evaluator). GoesOn e (record v { context = c.equal_regions.new.cx; inference = c.record_both.new.inference })) c.self.view_is
    (goes-both v c.equal_regions.new.cx c.record_both.new.inference c.equal_regions.ensures.grows c.equal_regions.ensures.faults
    (further-both i.inference c.record_both.new.inference c.in_ok-one.one c.in_ok-one.other c.record_both.result c.record_both.ensures.recorded c.record_both.ensures.unchanged))

pub returns-clause-recorded : goal.returns-clause-recorded
returns-clause-recorded c =
    let i = c.self.inside in
    let us = c.equal_regions.new.cx.trees in
    subst (λ (e : Evaluator). OnOk c.record_both.result (state_of us i.mode c.record_both.new.inference ≡ with_equal_regions (state e) (region_tree e.context.trees c.args.a) (region_tree e.context.trees c.args.b))) c.self.view_is
    (equal-recorded i.cx.trees us i.mode i.inference c.record_both.new.inference c.in_ok-one.one c.in_ok-one.other (region_tree i.cx.trees c.args.a) (region_tree i.cx.trees c.args.b) c.record_both.result
    c.equal_regions.ensures.grows.kept (parts c.self.invariant).consistent.known (sym c.is_same_region.ensures ∙ c.if-is_same_region.false) c.in_ok-one.ensures.one.1 c.in_ok-one.ensures.other.1 c.record_both.ensures.recorded)

pub returns-clause-cause : goal.returns-clause-cause
returns-clause-cause c = unrecorded _ _ _ c.record_both.result c.record_both.ensures.cause
