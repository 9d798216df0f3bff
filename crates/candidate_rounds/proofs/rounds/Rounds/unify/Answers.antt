use Rattle.std.proofs.Common.{◌≡◌, ◌++◌, ◌∷◌, [], rules, sym, ◌∙◌, ap, subst}
use Rattle.rounds_judge.specs.Equations.Equating.{unified}
use Rattle.candidate_rounds.specs.Calls.Frames.{pairs_of}
use Rattle.candidate_rounds.specs.Evaluators.Known.{listing, state}
use Rattle.candidate_rounds.specs.Evaluators.Stopping.{IsUnifyingStop}
use Rattle.candidate_rounds.proofs.Stops.EquatingStops.{nothing-left, through}
use Rattle.candidate_rounds.proofs.Evaluators.Going.{goes-trans}
use Rattle.candidate_rounds.proofs.rounds.Rounds.unify.Goals as goal

pub loop-frame-preserved : goal.loop-frame-preserved
loop-frame-preserved c =
    let mid = c.loop-frame.self in
    let new = c.look.new.self in
    let us = c.loop-frame.rest.universes.items in
    let popped : c.loop-frame.rest.frames.items ≡ c.pop.new.self.items ++ c.in-Some.frame ∷ [] = c.in-Some.ensures.items in
    let i = c.loop-frame.invariant in (
      goes-trans c.args.self.now mid new i.0 c.look.ensures.goes,
      c.in_ok-look.ensures.frames,
      i.2 ∙ (ap (λ fs. unified (listing mid) (state mid) (pairs_of mid.context.trees us fs)) popped ∙ c.in_ok-look.ensures.ok),
      λ ts s k. i.3 ts s (subst (λ fs. IsUnifyingStop ts (listing mid) s (state mid) (pairs_of mid.context.trees us fs)) (sym popped) (c.in_ok-look.ensures.later ts s k)),
    )

pub returns-in_err-look-clause-cause : goal.returns-in_err-look-clause-cause
returns-in_err-look-clause-cause c =
    let mid = c.loop-frame.self in
    let ts = c.look.new.self.context.trees in
    let us = c.loop-frame.rest.universes.items in
    let popped : c.loop-frame.rest.frames.items ≡ c.pop.new.self.items ++ c.in-Some.frame ∷ [] = c.in-Some.ensures.items in
    through _ c.from_residual.result _ c.from_residual.ensures.1
    (λ s n. c.loop-frame.invariant.3 ts s (subst (λ fs. IsUnifyingStop ts (listing mid) s (state mid) (pairs_of mid.context.trees us fs)) (sym popped) (c.in_err-look.ensures.cause s n)))

pub returns-clause-ok : goal.returns-clause-ok
returns-clause-ok c =
    let mid = c.loop-frame.self in
    let us = c.loop-frame.rest.universes.items in
    let nothing : c.loop-frame.rest.frames.items ≡ [] = search rules in
    c.loop-frame.invariant.2 ∙ (ap (λ fs. unified (listing mid) (state mid) (pairs_of mid.context.trees us fs)) nothing ∙ nothing-left (listing mid) (state mid))

pub returns-in_err-look-clause-goes : goal.returns-in_err-look-clause-goes
returns-in_err-look-clause-goes c = goes-trans c.args.self.now c.loop-frame.self c.look.new.self c.loop-frame.invariant.0 c.look.ensures.goes
