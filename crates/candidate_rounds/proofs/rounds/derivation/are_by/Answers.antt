use Rattle.std.proofs.Common.{◌<◌, ◌≤◌, length, arith, rules}
use Rattle.candidate_rounds.proofs.Table.Running.{get-there}
use Rattle.candidate_rounds.proofs.Table.Sources.{none-more, none-of-all, none-yet}
use Rattle.candidate_rounds.proofs.Table.Steps.{sure-there}
use Rattle.candidate_rounds.proofs.rounds.derivation.are_by.Goals as goal

pub returns-then-is_by-clause-one : goal.returns-then-is_by-clause-one
returns-then-is_by-clause-one c =
    let xs = c.args.candidates.now in
    let x = c.index-candidates-i.result in
    let below : c.loop-i.i < length xs = search rules in
    λ _. sure-there xs c.loop-i.i x c.args.source c.args.response.now (get-there xs c.loop-i.i x below c.index-candidates-i.is) (c.is_by.ensures.sure c.if-is_by.true)

pub loop-i-init : goal.loop-i-init
loop-i-init c = none-yet c.args.candidates.now c.args.source c.args.response.now

pub loop-i-preserved : goal.loop-i-preserved
loop-i-preserved c =
    let xs = c.args.candidates.now in
    let x = c.index-candidates-i.result in
    let below : c.loop-i.i < length xs = search rules in
    none-more xs c.args.source c.args.response.now c.loop-i.i x (get-there xs c.loop-i.i x below c.index-candidates-i.is) (c.is_by.ensures.other c.if-is_by.false) c.loop-i.invariant

pub returns-clause-none : goal.returns-clause-none
returns-clause-none c = λ _.
    let xs = c.args.candidates.now in
    let end : length xs ≤ c.loop-i.i = (let a = c.loop-i-test.false in omega (arith, a)) in
    none-of-all xs c.args.source c.args.response.now c.loop-i.i end c.loop-i.invariant
