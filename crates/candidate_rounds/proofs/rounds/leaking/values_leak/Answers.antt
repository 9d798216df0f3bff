use Rattle.std.proofs.Common.{◌<◌, ◌≤◌, length, arith, rules}
use Rattle.candidate_rounds.specs.declared.rounds.inference.Entry.{Entry}
use Rattle.candidate_rounds.specs.Evaluators.Known.{IsEntry, info_of}
use Rattle.candidate_rounds.specs.Evaluators.Leaking.{ValueLeaks}
use Rattle.candidate_rounds.proofs.Leaking.{among-get, each-all, each-next}
use Rattle.candidate_rounds.proofs.Snapshots.Knowing.{each-get}
use Rattle.candidate_rounds.proofs.Table.Sources.{index-there}
use Rattle.candidate_rounds.proofs.rounds.leaking.values_leak.Goals as goal

pub entry_leaks-requires : goal.entry_leaks-requires
entry_leaks-requires c =
    let xs = c.args.entries.now in
    let below : c.loop-i.i < length xs = search rules in
    each-get (IsEntry c.args.cx.now.trees) xs c.loop-i.i _ c.requires (index-there xs c.loop-i.i _ below)

pub loop-i-preserved : goal.loop-i-preserved
loop-i-preserved c =
    let xs = c.args.entries.now in
    let below : c.loop-i.i < length xs = search rules in
    each-next (λ (e : Entry). ValueLeaks c.args.above (info_of c.args.cx.now.trees e) → ⊥) xs c.loop-i.i _ (index-there xs c.loop-i.i _ below) c.loop-i.invariant (c.entry_leaks.ensures.no c.if-entry_leaks.false)

pub returns-then-entry_leaks-clause-yes : goal.returns-then-entry_leaks-clause-yes
returns-then-entry_leaks-clause-yes c = λ _.
    let xs = c.args.entries.now in
    let below : c.loop-i.i < length xs = search rules in
    (_, among-get xs c.loop-i.i _ (index-there xs c.loop-i.i _ below), c.entry_leaks.ensures.yes c.if-entry_leaks.true)

pub returns-clause-no : goal.returns-clause-no
returns-clause-no c = λ _.
    let xs = c.args.entries.now in
    let end : length xs ≤ c.loop-i.i = (let a = c.loop-i-test.false in omega (arith, a)) in
    each-all (λ (e : Entry). ValueLeaks c.args.above (info_of c.args.cx.now.trees e) → ⊥) xs c.loop-i.i end c.loop-i.invariant
