use Rattle.std.proofs.Common.{◌≡◌, reverse, ◌∙◌, subst}
use Rattle.ir_trees.specs.Syntax.Nodes.{tree_at}
use Rattle.candidate_rounds.specs.Calls.Frames.{pairs_of}
use Rattle.candidate_rounds.specs.Evaluators.Known.{listing, state}
use Rattle.candidate_rounds.proofs.Equations.Framing.{frames-kept, pairs-kept}
use Rattle.candidate_rounds.proofs.Evaluators.Going.{goes-trans}
use Rattle.candidate_rounds.proofs.Equations.Visiting.{by-answer, left-takes, matched-on, neither-takes, offered-on, ok-from, refused-from, right-takes}
use Rattle.rounds_judge.specs.Equations.Equating.{matched, met}
use Rattle.candidate_rounds.specs.Evaluators.Stopping.{IsOfferStop, of_left_offer, of_right_offer, of_match}
use Rattle.candidate_rounds.proofs.Stops.EquatingStops.{each-stop, match-before, offer-before, question}
use Rattle.candidate_rounds.proofs.Evaluators.Between.{parts}
use Rattle.candidate_rounds.proofs.Evaluators.Exits.{below-goes, free-goes, not-refused}
use Rattle.candidate_rounds.proofs.rounds.Rounds.meet.Goals as goal

pub returns-then-branch-clause-frames : goal.returns-then-branch-clause-frames
returns-then-branch-clause-frames c =
    frames-kept c.args.self.now.context.trees c.offered.new.self.context.trees c.args.rest.now.universes.items c.args.rest.now.frames.items c.offered.ensures.goes.0.kept c.requires.frames

pub returns-then-branch-clause-ok : goal.returns-then-branch-clause-ok
returns-then-branch-clause-ok c =
    let old = c.args.self.now in
    let new = c.offered.new.self in
    let ts = old.context.trees in
    let us = c.args.rest.now.universes.items in
    let fs = c.args.rest.now.frames.items in
    let more = pairs_of ts us fs in
    let x = tree_at ts c.args.left in
    let y = tree_at ts c.args.right in
    left-takes (listing old) (state old) (state new) (reverse us) x y more (pairs_of new.context.trees us fs)
    (by-answer (listing old) (state old) (state new) us c.as_slice.result.now x.head y more _ _ c.as_slice.ensures.value c.if-branch.true (c.in_ok-offered.ensures.taken more))
    (pairs-kept ts new.context.trees us fs c.offered.ensures.goes.0.kept c.requires.frames)

pub returns-then-branch-2-clause-frames : goal.returns-then-branch-2-clause-frames
returns-then-branch-2-clause-frames c =
    let goes = goes-trans c.args.self.now c.offered.new.self c.offered-2.new.self c.offered.ensures.goes c.offered-2.ensures.goes in
    frames-kept c.args.self.now.context.trees c.offered-2.new.self.context.trees c.args.rest.now.universes.items c.args.rest.now.frames.items goes.0.kept c.requires.frames

pub returns-then-branch-2-clause-ok : goal.returns-then-branch-2-clause-ok
returns-then-branch-2-clause-ok c =
    let old = c.args.self.now in
    let mid = c.offered.new.self in
    let new = c.offered-2.new.self in
    let ts = old.context.trees in
    let us = c.args.rest.now.universes.items in
    let fs = c.args.rest.now.frames.items in
    let more = pairs_of ts us fs in
    let x = tree_at ts c.args.left in
    let y = tree_at ts c.args.right in
    let goes = goes-trans old mid new c.offered.ensures.goes c.offered-2.ensures.goes in
    let same = c.in_ok-offered.ensures.declined c.if-branch.false in
    right-takes (listing old) (state old) (state new) (reverse us) x y more (pairs_of new.context.trees us fs)
    (by-answer (listing old) (state old) (state mid) us c.as_slice.result.now x.head y more _ _ c.as_slice.ensures.value c.if-branch.false (c.in_ok-offered.ensures.taken more))
    (offered-on old mid c.offered.ensures.goes (parts c.recall_well_kept.ensures).given same (reverse us) c.args.right c.args.left more c.requires.right c.requires.left
    ∙ by-answer (listing mid) (state mid) (state new) us c.as_slice-2.result.now (tree_at mid.context.trees c.args.right).head (tree_at mid.context.trees c.args.left) more _ _ c.as_slice-2.ensures.value c.if-branch-2.true (c.in_ok-offered-2.ensures.taken more))
    (pairs-kept ts new.context.trees us fs goes.0.kept c.requires.frames)

pub matched-requires-clause-frames : goal.matched-requires-clause-frames
matched-requires-clause-frames c =
    let goes = goes-trans c.args.self.now c.offered.new.self c.offered-2.new.self c.offered.ensures.goes c.offered-2.ensures.goes in
    frames-kept c.args.self.now.context.trees c.offered-2.new.self.context.trees c.args.rest.now.universes.items c.args.rest.now.frames.items goes.0.kept c.requires.frames

-- where neither takes the other, it comes to what their match comes to
met-is : (c : goal.After-matched) →
    met (listing c.args.self.now) (state c.args.self.now) (reverse c.args.rest.now.universes.items) (tree_at c.args.self.now.context.trees c.args.left) (tree_at c.args.self.now.context.trees c.args.right)
    (pairs_of c.args.self.now.context.trees c.args.rest.now.universes.items c.args.rest.now.frames.items)
    ≡ matched (state c.offered-2.new.self) (reverse c.args.rest.now.universes.items) (tree_at c.offered-2.new.self.context.trees c.args.left) (tree_at c.offered-2.new.self.context.trees c.args.right)
    (pairs_of c.offered-2.new.self.context.trees c.args.rest.now.universes.items c.args.rest.now.frames.items)
met-is c =
    let old = c.args.self.now in
    let mid = c.offered.new.self in
    let new = c.offered-2.new.self in
    let ts = old.context.trees in
    let us = c.args.rest.now.universes.items in
    let fs = c.args.rest.now.frames.items in
    let more = pairs_of ts us fs in
    let x = tree_at ts c.args.left in
    let y = tree_at ts c.args.right in
    let goes = goes-trans old mid new c.offered.ensures.goes c.offered-2.ensures.goes in
    let first = c.in_ok-offered.ensures.declined c.if-branch.false in
    let second = c.in_ok-offered-2.ensures.declined c.if-branch-2.false in
    neither-takes (listing old) (state old) (reverse us) x y more
    (by-answer (listing old) (state old) (state mid) us c.as_slice.result.now x.head y more _ _ c.as_slice.ensures.value c.if-branch.false (c.in_ok-offered.ensures.taken more))
    (offered-on old mid c.offered.ensures.goes (parts c.recall_well_kept.ensures).given first (reverse us) c.args.right c.args.left more c.requires.right c.requires.left
    ∙ by-answer (listing mid) (state mid) (state new) us c.as_slice-2.result.now (tree_at mid.context.trees c.args.right).head (tree_at mid.context.trees c.args.left) more _ _ c.as_slice-2.ensures.value c.if-branch-2.false (c.in_ok-offered-2.ensures.taken more))
    ∙ matched-on old new goes (parts c.recall_well_kept.ensures).given (second ∙ first) (reverse us) c.args.left c.args.right more (pairs_of new.context.trees us fs) c.requires.left c.requires.right
    (pairs-kept ts new.context.trees us fs goes.0.kept c.requires.frames)

pub returns-clause-ok : goal.returns-clause-ok
returns-clause-ok c = ok-from c.matched.result _ _ _ (met-is c) c.matched.ensures.ok

pub returns-clause-refused : goal.returns-clause-refused
returns-clause-refused c = refused-from c.matched.result _ _ _ (met-is c) c.matched.ensures.refused

pub returns-clause-goes : goal.returns-clause-goes
returns-clause-goes c =
    goes-trans c.args.self.now c.offered.new.self c.matched.new.self c.offered.ensures.goes
    (goes-trans c.offered.new.self c.offered-2.new.self c.matched.new.self c.offered-2.ensures.goes c.matched.ensures.goes)

pub returns-in_err-offered-clause-cause : goal.returns-in_err-offered-clause-cause
returns-in_err-offered-clause-cause c =
    let old = c.args.self.now in
    let ts = old.context.trees in
    let s = c.in_err-offered.field-0.0 in
    question _ c.from_residual.result _ c.from_residual.ensures.1
    (of_left_offer
    (subst (λ us. IsOfferStop c.offered.new.self.context.trees (listing old) (state old) (reverse us) (tree_at ts c.args.left).head (tree_at ts c.args.right) s) c.as_slice.ensures.value c.in_err-offered.ensures.cause))

pub returns-in_err-offered-2-clause-cause : goal.returns-in_err-offered-2-clause-cause
returns-in_err-offered-2-clause-cause c =
    let old = c.args.self.now in
    let mid = c.offered.new.self in
    let ts = c.offered-2.new.self.context.trees in
    let us = c.args.rest.now.universes.items in
    let s = c.in_err-offered-2.field-0.0 in
    let same = c.in_ok-offered.ensures.declined c.if-branch.false in
    question _ c.from_residual-in_err-offered-2.result _ c.from_residual-in_err-offered-2.ensures.1
    (of_right_offer
    (offer-before old mid c.offered.ensures.goes (parts c.recall_well_kept.ensures).given same ts (reverse us) c.args.right c.args.left c.requires.right c.requires.left s
    (subst (λ us. IsOfferStop ts (listing mid) (state mid) (reverse us) (tree_at mid.context.trees c.args.right).head (tree_at mid.context.trees c.args.left) s) c.as_slice-2.ensures.value
    c.in_err-offered-2.ensures.cause)))

pub returns-clause-cause : goal.returns-clause-cause
returns-clause-cause c =
    let old = c.args.self.now in
    let mid = c.offered.new.self in
    let new = c.offered-2.new.self in
    let goes = goes-trans old mid new c.offered.ensures.goes c.offered-2.ensures.goes in
    let first = c.in_ok-offered.ensures.declined c.if-branch.false in
    let second = c.in_ok-offered-2.ensures.declined c.if-branch-2.false in
    each-stop _ _ c.matched.result
    (λ s k. of_match (match-before old new goes (parts c.recall_well_kept.ensures).given (second ∙ first) c.matched.new.self.context.trees (reverse c.args.rest.now.universes.items) c.args.left c.args.right c.requires.left c.requires.right s k))
    c.matched.ensures.cause

pub offered-requires-2-clause-to : goal.offered-requires-2-clause-to
offered-requires-2-clause-to c = below-goes c.args.self.now c.offered.new.self c.args.right c.offered.ensures.goes c.requires.right

pub offered-requires-2-clause-number : goal.offered-requires-2-clause-number
offered-requires-2-clause-number c = below-goes c.args.self.now c.offered.new.self c.args.left c.offered.ensures.goes c.requires.left

pub offered-requires-2-clause-free : goal.offered-requires-2-clause-free
offered-requires-2-clause-free c = free-goes c.args.self.now c.offered.new.self c.args.right c.offered.ensures.goes (c.in_ok-offered.ensures.declined c.if-branch.false) c.requires.right c.requires.right_free

pub returns-in_err-offered-clause-refused : goal.returns-in_err-offered-clause-refused
returns-in_err-offered-clause-refused c = not-refused _ c.from_residual.result _ c.from_residual.ensures.1

pub returns-in_err-offered-2-clause-goes : goal.returns-in_err-offered-2-clause-goes
returns-in_err-offered-2-clause-goes c = goes-trans c.args.self.now c.offered.new.self c.offered-2.new.self c.offered.ensures.goes c.offered-2.ensures.goes

pub returns-in_err-offered-2-clause-refused : goal.returns-in_err-offered-2-clause-refused
returns-in_err-offered-2-clause-refused c = not-refused _ c.from_residual-in_err-offered-2.result _ c.from_residual-in_err-offered-2.ensures.1

pub returns-then-branch-2-clause-goes : goal.returns-then-branch-2-clause-goes
returns-then-branch-2-clause-goes c = goes-trans c.args.self.now c.offered.new.self c.offered-2.new.self c.offered.ensures.goes c.offered-2.ensures.goes

pub matched-requires-clause-left : goal.matched-requires-clause-left
matched-requires-clause-left c = below-goes c.args.self.now c.offered-2.new.self c.args.left (goes-trans c.args.self.now c.offered.new.self c.offered-2.new.self c.offered.ensures.goes c.offered-2.ensures.goes) c.requires.left

pub matched-requires-clause-right : goal.matched-requires-clause-right
matched-requires-clause-right c = below-goes c.args.self.now c.offered-2.new.self c.args.right (goes-trans c.args.self.now c.offered.new.self c.offered-2.new.self c.offered.ensures.goes c.offered-2.ensures.goes) c.requires.right
