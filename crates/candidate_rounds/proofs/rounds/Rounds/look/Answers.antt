use Rattle.std.proofs.Common.{◌≡◌, ◌<◌, ◌++◌, ◌∷◌, [], ℕ, ◌∙◌, ap, subst, sym}
use Rattle.candidate_rounds.specs.Calls.Frames.{pair_of, pairs_left, pairs_of}
use Rattle.candidate_rounds.specs.Evaluators.Known.{listing, state}
use Rattle.candidate_rounds.proofs.Evaluators.Going.{goes-listing, goes-trans}
use Rattle.rounds_judge.proofs.Equations.Stepping.{look-less, look-on, look-refused}
use Rattle.rounds_judge.specs.Equations.Equating.{looks, unified, visited}
use Rattle.candidate_rounds.proofs.Equations.Visiting.{ok-from, refused-from}
use Rattle.candidate_rounds.specs.Evaluators.Known.{GoesOn}
use Rattle.candidate_rounds.proofs.Stops.EquatingStops.{each-stop, look-later}
use Rattle.candidate_rounds.proofs.Evaluators.Between.{parts}
use Rattle.candidate_rounds.proofs.Equations.Passing.{frames-cut, looks-cut, pass-later, pass-on}
use Rattle.candidate_rounds.proofs.Equations.Repeating.{all-again, binders-again, frame-again, frame-last, frames-again, judged-on, one-later, one-on, pairs-again, stop-on}
use Rattle.candidate_rounds.proofs.rounds.Rounds.look.Goals as goal

-- all that is left, from the frame on, also once nodes were made
whole : (c : goal.After-visit) → pair_of c.is_repeated.new.self.context.trees c.is_repeated.new.rest.universes.items c.args.frame ∷ pairs_left c.is_repeated.new.self c.is_repeated.new.rest
    ≡ pairs_of c.args.self.now.context.trees c.args.rest.now.universes.items (c.args.rest.now.frames.items ++ c.args.frame ∷ [])
whole c =
    let k = c.is_repeated.ensures in
    all-again c.args.self.now.context.trees c.is_repeated.new.self.context.trees c.args.rest.now.universes.items c.truncate.new.self.items c.is_repeated.new.rest.universes.items
    c.args.rest.now.frames.items c.is_repeated.new.rest.frames.items c.args.frame c.truncate.ensures.items c.requires k.goes.0.kept k.universes k.frames

goes : (c : goal.After-visit) → GoesOn c.args.self.now c.visit.new.self
goes c = goes-trans c.args.self.now c.is_repeated.new.self c.visit.new.self c.is_repeated.ensures.goes c.visit.ensures.goes

pub returns-clause-goes : goal.returns-clause-goes
returns-clause-goes c = goes c

pub may_pass_over-requires : goal.may_pass_over-requires
may_pass_over-requires c = frame-last c.args.self.now.context.trees c.args.rest.now.universes.items c.args.rest.now.frames.items c.args.frame c.requires

pub is_repeated-requires : goal.is_repeated-requires
is_repeated-requires c = frame-last c.args.self.now.context.trees c.args.rest.now.universes.items c.args.rest.now.frames.items c.args.frame c.requires

pub visit-requires-clause-binders : goal.visit-requires-clause-binders
visit-requires-clause-binders c =
    let k = c.is_repeated.ensures in
    binders-again c.args.self.now.context.trees c.is_repeated.new.self.context.trees c.args.rest.now.universes.items c.truncate.new.self.items c.is_repeated.new.rest.universes.items
    c.args.rest.now.frames.items c.is_repeated.new.rest.frames.items c.args.frame c.truncate.ensures.items c.requires k.goes.0.kept k.universes k.frames

-- the first look, said of the evaluator as it was
pub visit-requires-clause-frame : goal.visit-requires-clause-frame
visit-requires-clause-frame c =
    let k = c.is_repeated.ensures in
    frame-again c.args.self.now.context.trees c.is_repeated.new.self.context.trees c.args.rest.now.universes.items c.truncate.new.self.items c.is_repeated.new.rest.universes.items
    c.args.rest.now.frames.items c.is_repeated.new.rest.frames.items c.args.frame c.truncate.ensures.items c.requires k.goes.0.kept k.universes k.frames

pub visit-requires-clause-frames : goal.visit-requires-clause-frames
visit-requires-clause-frames c =
    let k = c.is_repeated.ensures in
    frames-again c.args.self.now.context.trees c.is_repeated.new.self.context.trees c.args.rest.now.universes.items c.truncate.new.self.items c.is_repeated.new.rest.universes.items
    c.args.rest.now.frames.items c.is_repeated.new.rest.frames.items c.args.frame c.truncate.ensures.items c.requires k.goes.0.kept k.universes k.frames

pub returns-clause-less : goal.returns-clause-less
returns-clause-less c =
    let old = c.args.self.now in
    let mid = c.is_repeated.new.self in
    let kept = parts c.recall_well_kept.ensures in
    let ps = pair_of mid.context.trees c.is_repeated.new.rest.universes.items c.args.frame ∷ pairs_left mid c.is_repeated.new.rest in
    look-less (listing old) kept.given.listing (state old) (kept.resolved.now old.mode) c.visit.result _ _ (listing c.visit.new.self) (state c.visit.new.self) _
    (goes-listing old c.visit.new.self (goes c) kept.given) (whole c)
    (ok-from c.visit.result _ _ _ (judged-on old mid c.is_repeated.ensures.goes kept.given c.is_repeated.ensures.state (λ l S. visited l S ps)) c.visit.ensures.ok)

pub returns-clause-ok : goal.returns-clause-ok
returns-clause-ok c =
    let old = c.args.self.now in
    let mid = c.is_repeated.new.self in
    let kept = parts c.recall_well_kept.ensures in
    let ps = pair_of mid.context.trees c.is_repeated.new.rest.universes.items c.args.frame ∷ pairs_left mid c.is_repeated.new.rest in
    look-on (listing old) kept.given.listing (state old) (kept.resolved.now old.mode) c.visit.result _ _ (listing c.visit.new.self) (state c.visit.new.self) _
    (goes-listing old c.visit.new.self (goes c) kept.given) (whole c)
    (ok-from c.visit.result _ _ _ (judged-on old mid c.is_repeated.ensures.goes kept.given c.is_repeated.ensures.state (λ l S. visited l S ps)) c.visit.ensures.ok)

pub returns-clause-refused : goal.returns-clause-refused
returns-clause-refused c =
    let old = c.args.self.now in
    let mid = c.is_repeated.new.self in
    let kept = parts c.recall_well_kept.ensures in
    let ps = pair_of mid.context.trees c.is_repeated.new.rest.universes.items c.args.frame ∷ pairs_left mid c.is_repeated.new.rest in
    look-refused (listing old) kept.given.listing (state old) (kept.resolved.now old.mode) c.visit.result _ _ (whole c)
    (refused-from c.visit.result _ _ _ (judged-on old mid c.is_repeated.ensures.goes kept.given c.is_repeated.ensures.state (λ l S. visited l S ps)) c.visit.ensures.refused)

pub returns-clause-later : goal.returns-clause-later
returns-clause-later c =
    let old = c.args.self.now in
    let mid = c.is_repeated.new.self in
    let new = c.visit.new.self in
    let given = (parts c.recall_well_kept.ensures).given in
    let ps = pair_of mid.context.trees c.is_repeated.new.rest.universes.items c.args.frame ∷ pairs_left mid c.is_repeated.new.rest in
    look-later c.visit.result (listing old) (listing new) (state old) (state new) _ _ _ (goes-listing old new (goes c) given) (whole c)
    (ok-from c.visit.result _ _ _ (judged-on old mid c.is_repeated.ensures.goes given c.is_repeated.ensures.state (λ l S. visited l S ps)) c.visit.ensures.ok)

pub returns-clause-cause : goal.returns-clause-cause
returns-clause-cause c =
    let old = c.args.self.now in
    let mid = c.is_repeated.new.self in
    let given = (parts c.recall_well_kept.ensures).given in
    each-stop _ _ c.visit.result (λ s k. stop-on old mid c.is_repeated.ensures.goes given c.is_repeated.ensures.state c.visit.new.self.context.trees s _ _ (whole c) k) c.visit.ensures.cause

-- A frame of numbers that met before.

pub returns-then-is_repeated-clause-goes : goal.returns-then-is_repeated-clause-goes
returns-then-is_repeated-clause-goes c = c.is_repeated.ensures.goes

pub returns-then-is_repeated-clause-frames : goal.returns-then-is_repeated-clause-frames
returns-then-is_repeated-clause-frames c =
    let k = c.is_repeated.ensures in
    frames-again c.args.self.now.context.trees c.is_repeated.new.self.context.trees c.args.rest.now.universes.items c.truncate.new.self.items c.is_repeated.new.rest.universes.items
    c.args.rest.now.frames.items c.is_repeated.new.rest.frames.items c.args.frame c.truncate.ensures.items c.requires k.goes.0.kept k.universes k.frames

-- what is left then is what was left
left : (c : goal.Then-is_repeated) → pairs_left c.is_repeated.new.self c.is_repeated.new.rest ≡ pairs_of c.args.self.now.context.trees c.truncate.new.self.items c.args.rest.now.frames.items
left c =
    let k = c.is_repeated.ensures in
    pairs-again c.args.self.now.context.trees c.is_repeated.new.self.context.trees c.args.rest.now.universes.items c.truncate.new.self.items c.is_repeated.new.rest.universes.items
    c.args.rest.now.frames.items c.is_repeated.new.rest.frames.items c.args.frame c.truncate.ensures.items c.requires k.goes.0.kept k.universes k.frames

pub returns-then-is_repeated-clause-less : goal.returns-then-is_repeated-clause-less
returns-then-is_repeated-clause-less c =
    let old = c.args.self.now in
    let us = c.args.rest.now.universes.items in
    let fs = c.args.rest.now.frames.items in
    let given = (parts c.recall_well_kept.ensures).given in
    let ps = pairs_left c.is_repeated.new.self c.is_repeated.new.rest in
    subst (λ (n : ℕ). n < looks (listing old) (state old) (pairs_of old.context.trees us (fs ++ c.args.frame ∷ [])))
    (ap (looks (listing old) (state old)) (sym (left c)) ∙ judged-on old c.is_repeated.new.self c.is_repeated.ensures.goes given c.is_repeated.ensures.state (λ l S. looks l S ps))
    (looks-cut old.context.trees us c.truncate.new.self.items fs c.args.frame c.truncate.ensures.items c.requires (listing old) (state old))

pub returns-then-is_repeated-clause-ok : goal.returns-then-is_repeated-clause-ok
returns-then-is_repeated-clause-ok c =
    let old = c.args.self.now in
    let kept = parts c.recall_well_kept.ensures in
    let one = c.is_repeated.ensures.one c.if-is_repeated.true in
    let ps = pairs_left c.is_repeated.new.self c.is_repeated.new.rest in
    one-on old.context.trees c.args.rest.now.universes.items c.truncate.new.self.items c.args.rest.now.frames.items c.args.frame c.truncate.ensures.items c.requires
    (listing old) kept.given.listing (state old) (kept.resolved.now old.mode) one.0 one.1
    ∙ (ap (unified (listing old) (state old)) (sym (left c)) ∙ judged-on old c.is_repeated.new.self c.is_repeated.ensures.goes kept.given c.is_repeated.ensures.state (λ l S. unified l S ps))

pub returns-then-is_repeated-clause-later : goal.returns-then-is_repeated-clause-later
returns-then-is_repeated-clause-later c = λ zs s k.
    let old = c.args.self.now in
    let kept = parts c.recall_well_kept.ensures in
    let one = c.is_repeated.ensures.one c.if-is_repeated.true in
    one-later old.context.trees c.args.rest.now.universes.items c.truncate.new.self.items c.args.rest.now.frames.items c.args.frame c.truncate.ensures.items c.requires
    (listing old) kept.given.listing (state old) (kept.resolved.now old.mode) one.0 one.1 zs s
    (stop-on old c.is_repeated.new.self c.is_repeated.ensures.goes kept.given c.is_repeated.ensures.state zs s _ _ (left c) k)

-- A frame that is passed over.

pub returns-then-may_pass_over-clause-frames : goal.returns-then-may_pass_over-clause-frames
returns-then-may_pass_over-clause-frames c =
    frames-cut c.args.self.now.context.trees c.args.rest.now.universes.items c.truncate.new.self.items c.args.rest.now.frames.items c.args.frame c.truncate.ensures.items c.requires

pub returns-then-may_pass_over-clause-less : goal.returns-then-may_pass_over-clause-less
returns-then-may_pass_over-clause-less c =
    let old = c.args.self.now in
    looks-cut old.context.trees c.args.rest.now.universes.items c.truncate.new.self.items c.args.rest.now.frames.items c.args.frame c.truncate.ensures.items c.requires (listing old) (state old)

pub returns-then-may_pass_over-clause-ok : goal.returns-then-may_pass_over-clause-ok
returns-then-may_pass_over-clause-ok c =
    let old = c.args.self.now in
    let kept = parts c.recall_well_kept.ensures in
    let may = c.may_pass_over.ensures c.if-may_pass_over.true in
    pass-on old.context.trees c.args.rest.now.universes.items c.truncate.new.self.items c.args.rest.now.frames.items c.args.frame c.truncate.ensures.items c.requires
    (listing old) kept.given.listing (state old) may.0 may.1 may.2 (kept.resolved.now old.mode)

pub returns-then-may_pass_over-clause-later : goal.returns-then-may_pass_over-clause-later
returns-then-may_pass_over-clause-later c =
    let old = c.args.self.now in
    let kept = parts c.recall_well_kept.ensures in
    let may = c.may_pass_over.ensures c.if-may_pass_over.true in
    pass-later old.context.trees c.args.rest.now.universes.items c.truncate.new.self.items c.args.rest.now.frames.items c.args.frame c.truncate.ensures.items c.requires
    (listing old) kept.given.listing (state old) may.0 may.1 may.2
