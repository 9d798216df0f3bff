use Rattle.std.proofs.Common.{subst}
use Rattle.candidate_rounds.proofs.Table.Running.{stays-refl, stays-trans}
use Rattle.candidate_rounds.specs.Evaluators.Known.{listing}
use Rattle.candidate_rounds.specs.Table.Steps.{IsSureOfOne}
use Rattle.candidate_rounds.proofs.Table.Steps.{step-made, steps-beside, steps-stay, sure-of-one}
use Rattle.candidate_rounds.proofs.Table.Tabled.{response-stays, trait-goal-stays}
use Rattle.candidate_rounds.specs.Table.StepStops.{IsSearchStop, search_memory, search_step}
use Rattle.candidate_rounds.proofs.Table.StepStops.{memory-search, search-before}
use Rattle.candidate_rounds.proofs.Stops.ResponseStops.{passed-on}
use Rattle.ir_trees.specs.declared.ir.stop.Stop.TheVariants.{Memory}
use Rattle.candidate_rounds.proofs.rounds.Rounds.step_for.Goals as goal

pub loop-more-init : goal.loop-more-init
loop-more-init c = stays-refl c.args.self.now

pub candidates_by-requires-clause-holds : goal.candidates_by-requires-clause-holds
candidates_by-requires-clause-holds c = steps-beside c.args.self.now c.loop-more.self c.loop-more.invariant c.args.steps.now c.requires.holds

pub candidates_by-requires-clause-key : goal.candidates_by-requires-clause-key
candidates_by-requires-clause-key c = trait-goal-stays c.args.self.now.context.trees c.loop-more.self.context.trees c.loop-more.invariant.grows.kept c.args.key.now.goal c.requires.key

pub returns-in_err-candidates-clause-stays : goal.returns-in_err-candidates-clause-stays
returns-in_err-candidates-clause-stays c = stays-trans c.loop-more.invariant c.candidates_by.ensures.stays

pub returns-in_err-copied-clause-stays : goal.returns-in_err-copied-clause-stays
returns-in_err-copied-clause-stays c = stays-trans c.loop-more.invariant c.candidates_by.ensures.stays

pub returns-in_err-copied-2-clause-stays : goal.returns-in_err-copied-2-clause-stays
returns-in_err-copied-2-clause-stays c = stays-trans c.loop-more.invariant c.candidates_by.ensures.stays

pub returns-in-Some-clause-stays : goal.returns-in-Some-clause-stays
returns-in-Some-clause-stays c = stays-trans c.loop-more.invariant c.candidates_by.ensures.stays

pub returns-in_err-note_asked_in-clause-stays : goal.returns-in_err-note_asked_in-clause-stays
returns-in_err-note_asked_in-clause-stays c = stays-trans c.loop-more.invariant c.candidates_by.ensures.stays

pub returns-in_err-note_asked-clause-stays : goal.returns-in_err-note_asked-clause-stays
returns-in_err-note_asked-clause-stays c = stays-trans c.loop-more.invariant c.candidates_by.ensures.stays

pub returns-then-not-branch-clause-stays : goal.returns-then-not-branch-clause-stays
returns-then-not-branch-clause-stays c = stays-trans c.loop-more.invariant c.candidates_by.ensures.stays

pub loop-more-preserved : goal.loop-more-preserved
loop-more-preserved c = stays-trans c.loop-more.invariant c.candidates_by.ensures.stays

pub returns-in-Some-clause-holds : goal.returns-in-Some-clause-holds
returns-in-Some-clause-holds c =
    let r = c.args.self.now in
    let n = c.candidates_by.new.self in
    let ss = c.args.steps.now in
    let k = c.args.key.now in
    let x = c.args.response.now in
    let kept = (stays-trans c.loop-more.invariant c.candidates_by.ensures.stays).grows.kept in
    let one = subst (λ xs. IsSureOfOne xs c.in-Some.source x) c.as_slice-in-loop-more.ensures.value c.in-Some.ensures in
    let holds = sure-of-one n.context (listing n) ss k _ c.in-Some.source x c.in_ok-candidates.ensures.sure one in
    step-made n.context (listing n) ss k x _ c.in_ok-copied.ensures.goal c.in_ok-copied.ensures.is c.in_ok-copied-2.ensures (steps-stay r.context.trees n.context.trees kept ss c.requires.holds.are)
    (trait-goal-stays r.context.trees n.context.trees kept k.goal c.requires.key) (response-stays r.context.trees n.context.trees kept x c.requires.response) holds

pub returns-in_err-candidates-clause-cause : goal.returns-in_err-candidates-clause-cause
returns-in_err-candidates-clause-cause c = passed-on (IsSearchStop c.candidates_by.new.self.context.trees c.args.self.now) c.from_residual.result c.in_err-candidates.field-0.0 c.from_residual.ensures.1 (search-before c.loop-more.invariant (search_step _ _ _ c.in_err-candidates.ensures.cause))

pub returns-in_err-copied-clause-cause : goal.returns-in_err-copied-clause-cause
returns-in_err-copied-clause-cause c = passed-on (IsSearchStop c.candidates_by.new.self.context.trees c.args.self.now) c.from_residual-in_err-copied.result c.in_err-copied.field-0.0 c.from_residual-in_err-copied.ensures.1 (memory-search c.in_err-copied.ensures.cause)

pub returns-in_err-copied-2-clause-cause : goal.returns-in_err-copied-2-clause-cause
returns-in_err-copied-2-clause-cause c = passed-on (IsSearchStop c.candidates_by.new.self.context.trees c.args.self.now) c.from_residual-in_err-copied-2.result Memory c.from_residual-in_err-copied-2.ensures.1 search_memory

pub returns-in_err-note_asked_in-clause-cause : goal.returns-in_err-note_asked_in-clause-cause
returns-in_err-note_asked_in-clause-cause c = passed-on (IsSearchStop c.candidates_by.new.self.context.trees c.args.self.now) c.from_residual-in_err-note_asked_in.result c.in_err-note_asked_in.field-0.0 c.from_residual-in_err-note_asked_in.ensures.1 (memory-search c.in_err-note_asked_in.ensures)

pub returns-in_err-note_asked-clause-cause : goal.returns-in_err-note_asked-clause-cause
returns-in_err-note_asked-clause-cause c = passed-on (IsSearchStop c.candidates_by.new.self.context.trees c.args.self.now) c.from_residual-in_err-note_asked.result c.in_err-note_asked.field-0.0 c.from_residual-in_err-note_asked.ensures.1 (memory-search c.in_err-note_asked.ensures)
