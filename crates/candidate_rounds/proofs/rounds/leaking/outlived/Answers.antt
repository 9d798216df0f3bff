use Rattle.std.proofs.Common.{◌≡◌, ◌++◌, ◌∷◌, [], List, Some, slice_get, refl, subst, sym, ◌∙◌, ap}
use Rattle.std.specs.List.{remove}
use Rattle.ir_trees.specs.declared.ir.kinds.RegionKind.{RegionKind}
use Rattle.candidate_rounds.specs.declared.rounds.leaking.RegionOutlives.{RegionOutlives}
use Rattle.candidate_rounds.specs.Calls.Leaking.{IsSaidOf}
use Rattle.candidate_rounds.specs.Evaluators.Leaking.{IsAmong}
use Rattle.candidate_rounds.specs.Table.Goals.{Each}
use Rattle.candidate_rounds.proofs.Leaking.{Reached, reached-all, reached-first, reached-more}
use Rattle.candidate_rounds.proofs.Table.Sources.{index-there}
use Rattle.candidate_rounds.proofs.rounds.leaking.outlived.Goals as goal

pub loop-place-init : goal.loop-place-init
loop-place-init c =
    let said = c.args.said.now in
    let r = c.args.region in
    let e : c.in_ok-left.left.items ≡ said = c.in_ok-left.ensures.items in
    let f : c.push.new.self.items ≡ r ∷ [] = c.in_ok-push.ensures.items ∙ ap (λ ys. ys ++ r ∷ []) c.new-list.ensures.items in
    subst (λ (q : List RegionOutlives × List RegionKind). Reached said q.0 r q.1) (λ i. (sym e i, sym f i)) (reached-first said r)

pub loop-place-preserved : goal.loop-place-preserved
loop-place-preserved c =
    let said = c.args.said.now in
    let left = c.loop-place.left.items in
    let list = c.loop-place.list.items in
    let n = c.in-Some.place in
    let y = c.remove-next.result in
    let of = subst (λ (q : List RegionKind × List RegionOutlives). IsSaidOf q.0 q.1 n) (λ i. (c.as_slice.ensures.value i, c.as_slice-in-loop-place.ensures.value i)) c.in-Some.ensures.said in
    let there : slice_get left n ≡ Some y = index-there left n y of.within ∙ ap Some (sym c.remove-next.ensures.value) in
    subst (λ (q : List RegionOutlives × List RegionKind). Reached said q.0 c.args.region q.1) (λ i. (sym c.remove-next.ensures.items i, sym c.in_ok-push-2.ensures.items i))
    (reached-more said left c.args.region list n y c.loop-place.invariant there (of.of y there))

pub returns-clause-are : goal.returns-clause-are
returns-clause-are c =
    let left = c.loop-place.left.items in
    let list = c.loop-place.list.items in
    reached-all c.args.said.now left c.args.region list c.loop-place.invariant
    (subst (λ (q : List RegionKind × List RegionOutlives). Each (λ (x : RegionOutlives). IsAmong q.0 x.longer → ⊥) q.1) (λ i. (c.as_slice.ensures.value i, c.as_slice-in-loop-place.ensures.value i)) (c.in_default.ensures.none refl))
