use Rattle.std.proofs.Common.{◌≡◌, ◌<◌, ◌≤◌, Some, length, slice_get, sym, ◌∙◌, ap, arith, rules}
use Rattle.ir_trees.specs.declared.ir.kinds.RegionKind.{RegionKind}
use Rattle.ir_trees.specs.declared.ir.kinds.RegionKind.TheVariants as R
use Rattle.candidate_rounds.specs.Calls.Leaking.{IsSaid}
use Rattle.candidate_rounds.specs.Evaluators.Leaking.{CantName, Outlives}
use Rattle.candidate_rounds.proofs.Leaking.{each-all, each-among, each-next}
use Rattle.candidate_rounds.proofs.Snapshots.Knowing.{each-get}
use Rattle.candidate_rounds.proofs.Table.Sources.{index-there}
use Rattle.candidate_rounds.proofs.rounds.leaking.outlives_too_much.Goals as goal

pub loop-i-preserved : goal.loop-i-preserved
loop-i-preserved c =
    let xs = c.in_ok-list.list.items in
    let r = c.index.result.now in
    let below : c.loop-i.i < length xs = (let a = c.loop-i-test.true in let b = c.len-i-end.ensures in omega (arith, a, b)) in
    let there : slice_get xs c.loop-i.i ≡ Some r = index-there xs c.loop-i.i r below ∙ ap Some (sym c.index.ensures) in
    each-next (λ (x : RegionKind). CantName c.args.universes.now c.args.placeholder x → ⊥) xs c.loop-i.i r there c.loop-i.invariant (c.cant_name.ensures.no c.if-cant_name.false)

pub returns-then-cant_name-clause-yes : goal.returns-then-cant_name-clause-yes
returns-then-cant_name-clause-yes c = λ _.
    let xs = c.in_ok-list.list.items in
    let r = c.index.result.now in
    let below : c.loop-i.i < length xs = (let a = c.loop-i-test.true in let b = c.len-i-end.ensures in omega (arith, a, b)) in
    let there : slice_get xs c.loop-i.i ≡ Some r = index-there xs c.loop-i.i r below ∙ ap Some (sym c.index.ensures) in
    record {
      region = r;
      outlives = each-get (Outlives (IsSaid c.args.said.now) (R.Placeholder c.args.placeholder)) xs c.loop-i.i r c.in_ok-list.ensures.are.outlived there;
      cant_name = c.cant_name.ensures.yes c.if-cant_name.true;
    }

pub returns-clause-no : goal.returns-clause-no
returns-clause-no c = λ _ t.
    let xs = c.in_ok-list.list.items in
    let end : length xs ≤ c.loop-i.i = (let a = c.loop-i-test.false in let b = c.len-i-end.ensures in omega (arith, a, b)) in
    each-among (λ (x : RegionKind). CantName c.args.universes.now c.args.placeholder x → ⊥) xs t.region
    (each-all (λ (x : RegionKind). CantName c.args.universes.now c.args.placeholder x → ⊥) xs c.loop-i.i end c.loop-i.invariant) (c.in_ok-list.ensures.are.all t.region t.outlives) t.cant_name
