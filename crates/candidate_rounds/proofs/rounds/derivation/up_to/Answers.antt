use Rattle.std.proofs.Common.{◌<◌, ◌≤◌, length, refl, arith, rules}
use Rattle.candidate_rounds.proofs.Table.Needed.{none-before-all, none-before-first, none-before-next}
use Rattle.candidate_rounds.proofs.Table.Running.{get-there}
use Rattle.candidate_rounds.proofs.rounds.derivation.up_to.Goals as goal

pub returns-then-is_for : goal.returns-then-is_for
returns-then-is_for c =
    let ss = c.args.steps.now in
    let x = c.index-steps-i.result in
    let below : c.loop-i.i < length ss = search rules in
    record { place = c.loop-i.i; is = refl; step = x; there = get-there ss c.loop-i.i x below c.index-steps-i.is; is_for = c.is_for.ensures.yes c.if-is_for.true; first = c.loop-i.invariant }

pub loop-i-init : goal.loop-i-init
loop-i-init c = none-before-first c.args.steps.now c.args.key.now c.args.response.now

pub loop-i-preserved : goal.loop-i-preserved
loop-i-preserved c =
    let ss = c.args.steps.now in
    let x = c.index-steps-i.result in
    let below : c.loop-i.i < length ss = search rules in
    none-before-next ss c.args.key.now c.args.response.now c.loop-i.i x (get-there ss c.loop-i.i x below c.index-steps-i.is) (c.is_for.ensures.other c.if-is_for.false) c.loop-i.invariant

pub returns : goal.returns
returns c =
    let ss = c.args.steps.now in
    let end : length ss ≤ c.loop-i.i = (let a = c.loop-i-test.false in omega (arith, a)) in
    none-before-all ss c.args.key.now c.args.response.now c.loop-i.i end c.loop-i.invariant
