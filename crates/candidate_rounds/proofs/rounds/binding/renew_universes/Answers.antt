use Rattle.std.proofs.Common.{◌≡◌, ◌≤◌, [], length, sym, subst, arith}
use Rattle.ir_trees.specs.Instantiation.Folds.{arg_tree}
use Rattle.candidate_rounds.proofs.Equations.Assigning.{universes-stay}
use Rattle.candidate_rounds.proofs.Snapshots.Holding.{tidy-now}
use Rattle.candidate_rounds.proofs.Equations.Renewing.{one-more-lowered, all-lowered}
use Rattle.candidate_rounds.proofs.rounds.binding.renew_universes.Goals as goal

pub returns-then-newest_universe-universe-clause-renewed : goal.returns-then-newest_universe-universe-clause-renewed
returns-then-newest_universe-universe-clause-renewed c = λ m.
    sym (universes-stay c.args.cx.now.trees m c.args.inference.now c.args.universe (arg_tree c.args.cx.now.trees c.args.value) (tidy-now c.args.cx.now.trees c.args.inference.now [] c.requires.consistent)
    (subst (λ n. n ≤ c.args.universe) c.newest_universe.ensures c.if-newest_universe-universe.true))

pub loop-number-preserved : goal.loop-number-preserved
loop-number-preserved c =
    one-more-lowered c.args.cx.now.trees c.args.inference.now c.loop-number.inference c.renew_universe.new.inference c.args.universe (arg_tree c.args.cx.now.trees c.args.value) c.loop-number.number c.loop-number.invariant
    c.renew_universe.ensures.further c.renew_universe.ensures.consistent c.in_ok-renew_universe.ensures.renewed

pub returns-clause-renewed : goal.returns-clause-renewed
returns-clause-renewed c = λ m.
    let all : c.loop-number.number ≡ length c.args.inference.now.variables = omega (arith, c.loop-number.auto.number-end, c.loop-number-test.false, c.in_ok-count.ensures.number) in
    all-lowered c.args.cx.now.trees m c.args.inference.now c.loop-number.inference c.args.universe (arg_tree c.args.cx.now.trees c.args.value) c.loop-number.number c.loop-number.invariant all
