use Rattle.std.proofs.Common.{◌<◌, ◌≤◌, ◌+◌, length, map, take, subst, sym, arith, rules}
use Rattle.ir_trees.specs.Syntax.Words.{IsClause, clause_tree}
use Rattle.candidate_rounds.specs.declared.rounds.leaking.RegionOutlives.{RegionOutlives}
use Rattle.candidate_rounds.specs.Calls.Leaking.{AreSaid}
use Rattle.candidate_rounds.proofs.Leaking.{none-said, option-next}
use Rattle.candidate_rounds.proofs.Snapshots.Knowing.{each-get}
use Rattle.candidate_rounds.proofs.Table.Running.{take-all}
use Rattle.candidate_rounds.proofs.Table.Sources.{index-there}
use Rattle.candidate_rounds.proofs.rounds.leaking.all_outlives.Goals as goal

pub outlives_in-requires : goal.outlives_in-requires
outlives_in-requires c =
    let xs = c.args.clauses.now in
    let below : c.loop-i.i < length xs = search rules in
    each-get (IsClause c.args.cx.now.trees) xs c.loop-i.i _ c.requires (index-there xs c.loop-i.i _ below)

pub loop-i-preserved : goal.loop-i-preserved
loop-i-preserved c =
    let xs = c.args.clauses.now in
    let ts = c.args.cx.now.trees in
    let below : c.loop-i.i < length xs = search rules in
    subst (AreSaid (map (clause_tree ts) (take (c.loop-i.i + 1) xs))) (sym c.in_ok-push_said.ensures.pushed)
    (option-next (clause_tree ts) xs c.loop-i.i _ c.loop-i.list.items c.outlives_in.result (index-there xs c.loop-i.i _ below) c.loop-i.invariant c.outlives_in.ensures.says c.outlives_in.ensures.none)

pub returns-clause-said : goal.returns-clause-said
returns-clause-said c =
    let xs = c.args.clauses.now in
    let end : length xs ≤ c.loop-i.i = (let a = c.loop-i-test.false in omega (arith, a)) in
    subst (λ cs. AreSaid (map (clause_tree c.args.cx.now.trees) cs) c.loop-i.list.items) (take-all xs c.loop-i.i end) c.loop-i.invariant
