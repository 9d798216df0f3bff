use Rattle.std.proofs.Common.{sym, subst}
use Rattle.candidate_rounds.specs.Table.Goals.{Each}
use Rattle.candidate_rounds.specs.Table.Steps.{IsStep}
use Rattle.candidate_rounds.proofs.Table.Needed.{ends-at-place, up-to-fits}
use Rattle.candidate_rounds.proofs.Table.Running.{stays-refl, stays-trans}
use Rattle.candidate_rounds.specs.Table.Sources.{AreBySource}
use Rattle.candidate_rounds.proofs.Table.Sources.{were-by-source}
use Rattle.candidate_rounds.proofs.Table.Steps.{got-some}
use Rattle.candidate_rounds.specs.Table.StepStops.{IsSearchStop}
use Rattle.candidate_rounds.proofs.Table.StepStops.{checked-search, memory-search, search-before}
use Rattle.candidate_rounds.proofs.Stops.ResponseStops.{passed-on}
use Rattle.candidate_rounds.proofs.rounds.Rounds.derivation_of.Goals as goal

pub steps_hold-requires : goal.steps_hold-requires
steps_hold-requires c =
    let ts = c.find_steps.new.self.context.trees in
    let found = got-some _ _ c.in-Some-2.is _ c.in_ok-found.ensures.are in
    let up = up-to-fits ts _ _ _ _ c.in-Some-up_to.ensures (subst (Each (IsStep ts)) (sym c.as_slice.ensures.value) found) in
    subst (Each (IsStep ts)) (sym c.as_slice-2.ensures.value) (c.in_ok-steps.ensures.are ts up)

pub returns-in_default-clause-stays : goal.returns-in_default-clause-stays
returns-in_default-clause-stays c = stays-refl c.args.self.now

pub returns-in_err-steps_hold-clause-stays : goal.returns-in_err-steps_hold-clause-stays
returns-in_err-steps_hold-clause-stays c = stays-trans c.find_steps.ensures.stays c.steps_hold.ensures.stays

pub returns-then-branch-clause-stays : goal.returns-then-branch-clause-stays
returns-then-branch-clause-stays c = stays-trans c.find_steps.ensures.stays c.steps_hold.ensures.stays

pub returns-clause-stays : goal.returns-clause-stays
returns-clause-stays c = stays-trans c.find_steps.ensures.stays c.steps_hold.ensures.stays

pub returns-in_err-found-clause-cause : goal.returns-in_err-found-clause-cause
returns-in_err-found-clause-cause c = passed-on (IsSearchStop c.find_steps.new.self.context.trees c.args.self.now) c.from_residual.result c.in_err-found.field-0.0 c.from_residual.ensures.1 (c.in_err-found.ensures.cause)

pub returns-in_err-steps-clause-cause : goal.returns-in_err-steps-clause-cause
returns-in_err-steps-clause-cause c = passed-on (IsSearchStop c.find_steps.new.self.context.trees c.args.self.now) c.from_residual-in_err-steps.result c.in_err-steps.field-0.0 c.from_residual-in_err-steps.ensures.1 (memory-search c.in_err-steps.ensures.cause)

pub returns-in_err-steps_hold-clause-cause : goal.returns-in_err-steps_hold-clause-cause
returns-in_err-steps_hold-clause-cause c = passed-on (IsSearchStop c.steps_hold.new.self.context.trees c.args.self.now) c.from_residual-in_err-steps_hold.result c.in_err-steps_hold.field-0.0 c.from_residual-in_err-steps_hold.ensures.1 (search-before c.find_steps.ensures.stays (checked-search c.in_err-steps_hold.ensures.cause))

pub returns-then-branch-clause-sources : goal.returns-then-branch-clause-sources
returns-then-branch-clause-sources c =
    let m = c.find_steps.new.self in
    let ss = c.in_ok-steps.steps.items in
    let ts = m.context.trees in
    let found = got-some _ _ c.in-Some-2.is _ c.in_ok-found.ensures.are in
    let are = c.in_ok-steps.ensures.are ts (up-to-fits ts _ _ _ _ c.in-Some-up_to.ensures (subst (Each (IsStep ts)) (sym c.as_slice.ensures.value) found)) in
    were-by-source c.args.self.now m c.steps_hold.new.self ss c.find_steps.ensures.stays c.steps_hold.ensures.stays are (subst (AreBySource m) c.as_slice-2.ensures.value (c.in_ok-steps_hold.ensures.sources c.if-branch.true))

pub returns-then-branch-clause-whose : goal.returns-then-branch-clause-whose
returns-then-branch-clause-whose c =
    let ts = c.steps_hold.new.self.context.trees in
    ends-at-place ts c.args.goals.now.table c.args.place c.in-Some.key.now c.in-Some.response.now _ _ c.in_ok-steps.steps.items (c.in-Some.ensures.is ts) c.in-Some-up_to.ensures c.in_ok-steps.ensures.needed
