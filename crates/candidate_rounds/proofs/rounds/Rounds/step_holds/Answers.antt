use Rattle.std.proofs.Common.{take, sym, subst}
use Rattle.ir_trees.specs.Syntax.Table.{AreDistinct}
use Rattle.candidate_rounds.specs.Evaluators.Known.{Evaluator, listing}
use Rattle.candidate_rounds.specs.Table.Sources.{AreFoundBy}
use Rattle.candidate_rounds.proofs.Table.Sources.{step-by-source, step-refused}
use Rattle.candidate_rounds.specs.Table.Steps.{IsStep, IsSureOfOne, StepsHold}
use Rattle.candidate_rounds.proofs.Snapshots.Knowing.{each-get}
use Rattle.candidate_rounds.proofs.Table.Running.{get-there}
use Rattle.candidate_rounds.proofs.Table.Steps.{each-take, one-more-holds, steps-stay, sure-of-one, take-more}
use Rattle.candidate_rounds.specs.Table.StepStops.{AreStepsStop, IsStepStop}
use Rattle.candidate_rounds.proofs.Table.StepStops.{step-there}
use Rattle.candidate_rounds.proofs.Stops.ResponseStops.{passed-on}
use Rattle.candidate_rounds.specs.Table.Goals.{key_seen}
use Rattle.candidate_rounds.proofs.rounds.Rounds.step_holds.Goals as goal

pub returns-clause-holds : goal.returns-clause-holds
returns-clause-holds c = λ yes.
    let r = c.args.self.now in
    let n = c.candidates_by.new.self in
    let ss = c.args.steps.now in
    let i = c.args.place in
    let s = c.index-steps-place.result in
    let there = get-there ss i s c.requires.place c.index-steps-place.is in
    let all = steps-stay r.context.trees n.context.trees c.candidates_by.ensures.stays.grows.kept ss c.requires.are in
    let before = each-take (IsStep n.context.trees) ss i all in
    let holds = sure-of-one n.context (listing n) (take i ss) s.key _ s.source s.response c.in_ok-candidates.ensures.sure (subst (λ xs. IsSureOfOne xs s.source s.response) c.as_slice.ensures.value (c.are_by.ensures.one yes)) in
    subst (StepsHold n.context (listing n)) (sym (take-more ss i s there)) (one-more-holds n.context (listing n) (take i ss) s before (each-get (IsStep n.context.trees) ss i s all there) holds)

pub returns-in_err-candidates-clause-cause : goal.returns-in_err-candidates-clause-cause
returns-in_err-candidates-clause-cause c =
    let r = c.args.self.now in
    let ts = c.candidates_by.new.self.context.trees in
    let ss = c.args.steps.now in
    let s = c.index-steps-place.result in
    let there = get-there ss c.args.place s c.requires.place c.index-steps-place.is in
    let stop = c.in_err-candidates.field-0.0 in
    passed-on (AreStepsStop ts r ss) c.from_residual.result stop c.from_residual.ensures.1
    (step-there c.args.place there (subst (λ places. IsStepStop ts r (take c.args.place ss) places (key_seen ts s.key) stop) c.as_slice-nested.ensures.value c.in_err-candidates.ensures.cause))

pub returns-clause-source : goal.returns-clause-source
returns-clause-source c = λ yes.
    let r = c.args.self.now in
    let n = c.candidates_by.new.self in
    let ss = c.args.steps.now in
    let i = c.args.place in
    let s = c.index-steps-place.result in
    let xs = c.in_ok-candidates.candidates.items in
    let there = get-there ss i s c.requires.place c.index-steps-place.is in
    let found = subst (λ places. AreFoundBy r n (take i ss) places s.key xs) c.as_slice-nested.ensures.value c.in_ok-candidates.ensures.found in
    let one = subst (λ ys. IsSureOfOne ys s.source s.response) c.as_slice.ensures.value (c.are_by.ensures.one yes) in
    step-by-source r n c.candidates_by.ensures.stays ss i s there c.requires.are xs found one

pub returns-clause-refused : goal.returns-clause-refused
returns-clause-refused c = λ no.
    let r = c.args.self.now in
    let n = c.candidates_by.new.self in
    let ss = c.args.steps.now in
    let i = c.args.place in
    let s = c.index-steps-place.result in
    let xs = c.in_ok-candidates.candidates.items in
    let there = get-there ss i s c.requires.place c.index-steps-place.is in
    let found = subst (λ places. AreFoundBy r n (take i ss) places s.key xs) c.as_slice-nested.ensures.value c.in_ok-candidates.ensures.found in
    let none = subst (λ ys. IsSureOfOne ys s.source s.response → ⊥) c.as_slice.ensures.value (c.are_by.ensures.none no) in
    let distinct = subst (λ (x : Evaluator). AreDistinct x.context.trees) c.self.view_is c.recall_distinct.ensures in
    step-refused r n c.candidates_by.ensures.stays distinct ss i s there c.requires.are xs c.in_ok-candidates.ensures.fit found none
