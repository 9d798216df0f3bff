use Rattle.std.proofs.Common.{sym, subst}
use Rattle.candidate_rounds.specs.Evaluators.Known.{listing}
use Rattle.candidate_rounds.specs.Table.Steps.{StepsHold}
use Rattle.candidate_rounds.proofs.Table.Running.{stays-refl, stays-trans}
use Rattle.candidate_rounds.proofs.Table.Steps.{none-hold}
use Rattle.candidate_rounds.proofs.Table.Tabled.{tabled-grown}
use Rattle.candidate_rounds.specs.Table.StepStops.{IsSearchStop}
use Rattle.candidate_rounds.proofs.Table.StepStops.{memory-search, search-before}
use Rattle.candidate_rounds.proofs.Stops.ResponseStops.{passed-on}
use Rattle.candidate_rounds.proofs.rounds.Rounds.find_steps.Goals as goal

pub returns-in_err-search-clause-stays : goal.returns-in_err-search-clause-stays
returns-in_err-search-clause-stays c = stays-refl c.args.self.now

pub loop-pass-init : goal.loop-pass-init
loop-pass-init c =
    let r = c.args.self.now in
    record { stays = stays-refl r; holds = subst (StepsHold r.context (listing r)) (sym c.new-steps.ensures.items) (none-hold r c.recall_well_kept.ensures) }

pub all_extended-requires-clause-tabled : goal.all_extended-requires-clause-tabled
all_extended-requires-clause-tabled c = tabled-grown c.args.self.now.context.trees c.loop-pass.self.context.trees c.loop-pass.invariant.stays.grows.kept c.args.goals.now c.requires.tabled

pub returns-in_err-steps-clause-stays : goal.returns-in_err-steps-clause-stays
returns-in_err-steps-clause-stays c = stays-trans c.loop-pass.invariant.stays c.all_extended.ensures.stays

pub returns-then-is_found-clause-stays : goal.returns-then-is_found-clause-stays
returns-then-is_found-clause-stays c = stays-trans c.loop-pass.invariant.stays c.all_extended.ensures.stays

pub returns-then-len-before-clause-stays : goal.returns-then-len-before-clause-stays
returns-then-len-before-clause-stays c = stays-trans c.loop-pass.invariant.stays c.all_extended.ensures.stays

pub loop-pass-preserved : goal.loop-pass-preserved
loop-pass-preserved c = record { stays = stays-trans c.loop-pass.invariant.stays c.all_extended.ensures.stays; holds = c.in_ok-steps.ensures.holds }

pub returns-in_err-search-clause-cause : goal.returns-in_err-search-clause-cause
returns-in_err-search-clause-cause c = passed-on (IsSearchStop c.args.self.now.context.trees c.args.self.now) c.from_residual.result c.in_err-search.field-0.0 c.from_residual.ensures.1 (memory-search c.in_err-search.ensures)

pub returns-in_err-steps-clause-cause : goal.returns-in_err-steps-clause-cause
returns-in_err-steps-clause-cause c = passed-on (IsSearchStop c.all_extended.new.self.context.trees c.args.self.now) c.from_residual-in_err-steps.result c.in_err-steps.field-0.0 c.from_residual-in_err-steps.ensures.1 (search-before c.loop-pass.invariant.stays c.in_err-steps.ensures.cause)
