use Rattle.std.proofs.Common.{◌≡◌, ◌<◌, ◌≤◌, Some, length, slice_get, subst, sym, ◌∙◌, arith, rules}
use Rattle.candidate_rounds.specs.declared.rounds.leaking.RegionOutlives.{RegionOutlives}
use Rattle.candidate_rounds.specs.Evaluators.Leaking.{IsAmong}
use Rattle.candidate_rounds.proofs.Leaking.{each-all, each-next, got-same}
use Rattle.candidate_rounds.proofs.Table.Sources.{index-there}
use Rattle.candidate_rounds.proofs.rounds.leaking.first_said_of.Goals as goal

pub loop-place-preserved : goal.loop-place-preserved
loop-place-preserved c =
    let xs = c.args.said.now in
    let below : c.loop-place.place < length xs = search rules in
    each-next (λ (x : RegionOutlives). IsAmong c.args.list.now x.longer → ⊥) xs c.loop-place.place _ (index-there xs c.loop-place.place _ below) c.loop-place.invariant (c.is_among.ensures.no c.if-is_among.false)

pub returns-then-is_among-clause-said : goal.returns-then-is_among-clause-said
returns-then-is_among-clause-said c =
    let xs = c.args.said.now in
    let below : c.loop-place.place < length xs = search rules in
    record {
      within = below;
      of = λ x e. subst (λ (y : RegionOutlives). IsAmong c.args.list.now y.longer) (got-same xs c.loop-place.place _ x (index-there xs c.loop-place.place _ below) e) (c.is_among.ensures.yes c.if-is_among.true);
    }

pub returns-clause-none : goal.returns-clause-none
returns-clause-none c = λ _.
    let xs = c.args.said.now in
    let end : length xs ≤ c.loop-place.place = (let a = c.loop-place-test.false in omega (arith, a)) in
    each-all (λ (x : RegionOutlives). IsAmong c.args.list.now x.longer → ⊥) xs c.loop-place.place end c.loop-place.invariant
