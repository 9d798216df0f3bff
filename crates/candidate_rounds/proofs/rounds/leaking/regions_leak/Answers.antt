use Rattle.std.proofs.Common.{◌≡◌, ◌<◌, ◌≤◌, length, map, refl, subst, arith}
use Rattle.ir_trees.specs.declared.ir.kinds.Placeholder.{Placeholder}
use Rattle.ir_trees.specs.declared.ir.kinds.RegionKind.TheVariants as R
use Rattle.ir_trees.specs.Syntax.Words.{clause_tree}
use Rattle.candidate_rounds.specs.declared.rounds.leaking.RegionOutlives.{RegionOutlives}
use Rattle.candidate_rounds.specs.Calls.Leaking.{IsSaid}
use Rattle.candidate_rounds.specs.Evaluators.Leaking.{IsRecorded, OutlivesTooMuch}
use Rattle.candidate_rounds.proofs.Leaking.{each-all, each-among, recorded-said, too-much-also, too-much-said}
use Rattle.candidate_rounds.proofs.rounds.leaking.regions_leak.Goals as goal

pub returns-then-branch-clause-yes : goal.returns-then-branch-clause-yes
returns-then-branch-clause-yes c = λ _.
    let xs = c.in_ok-said.said.items in
    let us = c.args.universes.now in
    let p = c.in-Placeholder.placeholder in
    let cs = map (clause_tree c.args.cx.now.trees) c.args.clauses.now in
    record {
      placeholder = p;
      newer = (let a = c.if-placeholder-above.true in omega (arith, a));
      too_much =
          too-much-also (IsSaid xs) (IsRecorded cs) us p (recorded-said cs xs c.in_ok-said.ensures.said)
          (subst (λ ys. OutlivesTooMuch (IsSaid ys) us p) c.as_slice.ensures.value (c.in_ok-outlives_too_much.ensures.yes c.if-branch.true));
    }

pub returns-clause-no : goal.returns-clause-no
returns-clause-no c = λ _ leak.
    let xs = c.in_ok-said.said.items in
    let us = c.args.universes.now in
    let p = leak.placeholder in
    let cs = map (clause_tree c.args.cx.now.trees) c.args.clauses.now in
    let end : length xs ≤ c.loop-i.i = (let a = c.loop-i-test.false in let b = c.len-i-end.ensures in omega (arith, a, b)) in
    let P = λ (x : RegionOutlives). (q : Placeholder) → x.longer ≡ R.Placeholder q → c.args.above < q.universe → OutlivesTooMuch (IsSaid xs) us q → ⊥ in
    let t = too-much-also (IsRecorded cs) (IsSaid xs) us p c.in_ok-said.ensures.said.all leak.too_much in
    let b = too-much-said (IsSaid xs) us p t in
    each-among P xs (record { longer = R.Placeholder p; shorter = b.0 }) (each-all P xs c.loop-i.i end c.loop-i.invariant) b.1 p refl leak.newer t
