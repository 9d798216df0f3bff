use Rattle.std.proofs.Common.{◌≡◌, ◌<◌, ◌+◌, suc, length, List, subst, arith}
use Rattle.ir_trees.specs.Syntax.Trees.{Tree}
use Rattle.candidate_rounds.specs.declared.rounds.goals.GoalKey.{GoalKey}
use Rattle.candidate_rounds.specs.Calls.Writing.{MakesOther}
use Rattle.candidate_rounds.specs.Table.Entries.{write_verdict}
use Rattle.candidate_rounds.specs.Table.Goals.{entry_seen}
use Rattle.candidate_rounds.proofs.Table.Changing.{changed-at}
use Rattle.candidate_rounds.proofs.Table.Writing.{AreTheSame, all-unchanged, none-changed, one-unchanged}
use Rattle.candidate_rounds.proofs.rounds.writing.are_there.Goals as goal

pub loop-i-init : goal.loop-i-init
loop-i-init c = none-changed c.args.entries.now.entries c.args.written.now

pub loop-i-preserved : goal.loop-i-preserved
loop-i-preserved c =
    let i = c.loop-i.i in
    let es = c.args.entries.now.entries in
    let ws = c.args.written.now in
    let slot = c.index.result.now in
    let next : suc i ≡ i + 1 = omega arith in
    let below : i < length es = omega (arith, c.loop-i-test.true, c.len-i-end.ensures.len) in
    let same = subst (λ w. (ts : List Tree) (k : GoalKey) → entry_seen ts (write_verdict (k, slot) w) ≡ entry_seen ts (k, slot)) c.index-written-i.is (c.is_there.ensures.same c.if-not-is_there.false) in
    subst (AreTheSame es ws) next (one-unchanged es ws i slot c.index-written-i.result below c.requires c.index.ensures same c.loop-i.invariant)

pub returns-then-not-is_there-clause-other : goal.returns-then-not-is_there-clause-other
returns-then-not-is_there-clause-other c = λ _.
    let i = c.loop-i.i in
    let es = c.args.entries.now.entries in
    let ws = c.args.written.now in
    let slot = c.index.result.now in
    let below : i < length es = omega (arith, c.loop-i-test.true, c.len-i-end.ensures.len) in
    let other = subst (λ w. (k : GoalKey) → MakesOther (k, slot) w) c.index-written-i.is (c.is_there.ensures.other c.if-not-is_there.true) in
    changed-at es ws i slot c.index-written-i.result below c.requires c.index.ensures other

pub returns-clause-same : goal.returns-clause-same
returns-clause-same c = λ _. all-unchanged c.args.entries.now.entries c.args.written.now c.loop-i.i (let end = c.loop-i-test.false in omega (arith, end, c.len-i-end.ensures.len)) c.loop-i.invariant
