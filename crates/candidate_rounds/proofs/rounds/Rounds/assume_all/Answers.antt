use Rattle.std.proofs.Common.{sym, ap, subst, ◌≡◌, ◌⊎◌, ◌≤◌, ◌<◌, length, false, arith, rules}
use Rattle.ir_trees.specs.Declarations.Context.{Context}
use Rattle.candidate_rounds.specs.Evaluators.Known.{Evaluator, listing, table_of}
use Rattle.candidate_rounds.specs.Table.Steps.{IsStep}
use Rattle.candidate_rounds.proofs.Snapshots.Knowing.{each-get}
use Rattle.candidate_rounds.proofs.Table.Steps.{got-there, may-enter, one-more-entered}
use Rattle.candidate_rounds.specs.Table.StepStops.{IsAssumingStop}
use Rattle.candidate_rounds.specs.Table.Goals.{key_seen}
use Rattle.candidate_rounds.specs.Table.Sources.{IsTableAt, no_step, step_not_asked}
use Rattle.candidate_rounds.proofs.Table.Running.{take-all}
use Rattle.candidate_rounds.proofs.Table.Sources.{index-there, none-named, one-more-named}
use Rattle.candidate_rounds.proofs.Table.StepStops.{assuming-stop, none-assumed-yet, one-more-assumed}
use Rattle.candidate_rounds.proofs.Stops.ResponseStops.{passed-on}
use Rattle.ir_trees.specs.declared.ir.stop.Stop.TheVariants.{EvaluatorLimit}
use Rattle.candidate_eval.specs.Interface.Noting.{IsNotingStop}
use Rattle.rounds_judge.specs.Table.GoalTable.{may_be_asked, most_goals}
use Rattle.candidate_rounds.proofs.rounds.Rounds.assume_all.Goals as goal

pub assume-requires-clause-holds : goal.assume-requires-clause-holds
assume-requires-clause-holds c =
    let s = c.loop-i.self in
    may-enter s.context (listing s) (table_of s) c.args.steps.now _ c.in-Some.step.now c.in-Some.ensures c.loop-i.invariant.assumed.entered.derived

pub returns-in_err-assume-clause-holds : goal.returns-in_err-assume-clause-holds
returns-in_err-assume-clause-holds c =
    (one-more-entered c.args.self.now c.loop-i.self c.assume.new.self c.args.steps.now _ c.in-Some.step.now c.in-Some.ensures c.loop-i.invariant.assumed.entered c.assume.ensures.same c.assume.ensures.asked c.assume.ensures.entered).derived

pub returns-then-not-branch-clause-holds : goal.returns-then-not-branch-clause-holds
returns-then-not-branch-clause-holds c =
    (one-more-entered c.args.self.now c.loop-i.self c.assume.new.self c.args.steps.now _ c.in-Some.step.now c.in-Some.ensures c.loop-i.invariant.assumed.entered c.assume.ensures.same c.assume.ensures.asked c.assume.ensures.entered).derived

pub loop-i-preserved : goal.loop-i-preserved
loop-i-preserved c =
    let r = c.args.self.now in
    let s = c.loop-i.self in
    let n = c.assume.new.self in
    let ss = c.args.steps.now in
    let x = c.in-Some.step.now in
    let places = c.args.nested.now in
    let h = c.loop-i.invariant in
    let below : c.loop-i.i < length places = search rules in
    one-more-named r s n ss places c.loop-i.i _ x (index-there places c.loop-i.i _ below) c.in-Some.ensures h
    (one-more-assumed r s n ss _ c.loop-i.i x c.in-Some.ensures h.assumed c.assume.ensures.same c.assume.ensures.asked c.assume.ensures.entered) (c.in_ok-assume.ensures.table c.if-not-branch.false)

pub assume-requires-clause-step : goal.assume-requires-clause-step
assume-requires-clause-step c =
    let x = c.in-Some.step.now in
    subst (λ (y : Context). IsStep y.trees x) (sym (ap (λ (y : Evaluator). y.context) c.loop-i.invariant.assumed.entered.same)) (each-get (IsStep c.args.self.now.context.trees) c.args.steps.now _ x c.requires.holds.are c.in-Some.ensures)

pub loop-i-init : goal.loop-i-init
loop-i-init c =
    let r = c.args.self.now in
    let s = c.suspend_goals.new.self in
    let ss = c.args.steps.now in
    none-named r s ss c.args.nested.now c.suspend_goals.ensures.out (none-assumed-yet r s ss c.suspend_goals.ensures.out c.requires.holds)

pub returns-in_err-assume-clause-only : goal.returns-in_err-assume-clause-only
returns-in_err-assume-clause-only c =
    (one-more-assumed c.args.self.now c.loop-i.self c.assume.new.self c.args.steps.now _ c.loop-i.i c.in-Some.step.now c.in-Some.ensures c.loop-i.invariant.assumed c.assume.ensures.same c.assume.ensures.asked c.assume.ensures.entered).only

pub returns-then-not-branch-clause-only : goal.returns-then-not-branch-clause-only
returns-then-not-branch-clause-only c =
    (one-more-assumed c.args.self.now c.loop-i.self c.assume.new.self c.args.steps.now _ c.loop-i.i c.in-Some.step.now c.in-Some.ensures c.loop-i.invariant.assumed c.assume.ensures.same c.assume.ensures.asked c.assume.ensures.entered).only

pub returns-in_err-assume-clause-cause : goal.returns-in_err-assume-clause-cause
returns-in_err-assume-clause-cause c =
    let s = c.loop-i.self in
    let places = c.args.nested.now in
    let stop = c.in_err-assume.field-0.0 in
    let many = length s.goals.table in
    let below : c.loop-i.i < length places = search rules in
    let cx = ap (λ (x : Evaluator). x.context) c.loop-i.invariant.assumed.entered.same in
    let why = subst (λ (x : Context). IsNotingStop x.trees stop ⊎ ((stop ≡ EvaluatorLimit) × (most_goals ≤ many))) cx c.in_err-assume.ensures.cause in
    passed-on (IsAssumingStop c.args.self.now.context.trees places) c.from_residual.result stop c.from_residual.ensures.1 (assuming-stop many c.loop-i.i stop c.loop-i.invariant.assumed.few below why)

pub returns-clause-table : goal.returns-clause-table
returns-clause-table c = λ _.
    let r = c.args.self.now in
    let places = c.args.nested.now in
    let end : length places ≤ c.loop-i.i = (let a = c.loop-i-test.false in omega (arith, a)) in
    subst (λ ps. IsTableAt r.context.trees c.args.steps.now ps (table_of c.loop-i.self)) (take-all places c.loop-i.i end) c.loop-i.invariant.at

pub returns-in_default-clause-not_all : goal.returns-in_default-clause-not_all
returns-in_default-clause-not_all c = λ _ k.
    let places = c.args.nested.now in
    let below : c.loop-i.i < length places = search rules in
    no_step _ (got-there places c.loop-i.i _ (index-there places c.loop-i.i _ below)) c.in_default.ensures

pub returns-then-not-branch-clause-not_all : goal.returns-then-not-branch-clause-not_all
returns-then-not-branch-clause-not_all c = λ _ k.
    let x = c.in-Some.step.now in
    let places = c.args.nested.now in
    let below : c.loop-i.i < length places = search rules in
    let trees = ap (λ (y : Evaluator). y.context.trees) c.loop-i.invariant.assumed.entered.same in
    step_not_asked _ x (got-there places c.loop-i.i _ (index-there places c.loop-i.i _ below)) c.in-Some.ensures
    (subst (λ ts. may_be_asked (key_seen ts x.key) ≡ false) trees (c.in_ok-assume.ensures.not_asked c.if-not-branch.true))
