use Rattle.std.proofs.Common.{◌≡◌, refl, reverse, ◌∙◌, ap, subst}
use Rattle.ir_trees.specs.Syntax.Nodes.{tree_at}
use Rattle.ir_trees.specs.Syntax.Trees.{Tree}
use Rattle.ir_trees.proofs.Growth.Kept.{number-kept}
use Rattle.candidate_eval.specs.Interface.Evaluators.{root_value, resolved_root}
use Rattle.rounds_judge.specs.Equations.Equating.{met}
use Rattle.candidate_rounds.specs.Calls.Frames.{pairs_of}
use Rattle.candidate_rounds.specs.Evaluators.Known.{listing, state}
use Rattle.rounds_judge.specs.Aliases.Listed.{current}
use Rattle.rounds_judge.proofs.Equations.Ending.{current_rests}
use Rattle.candidate_rounds.proofs.Equations.Framing.{frames-kept, pairs-kept}
use Rattle.candidate_rounds.proofs.Evaluators.Going.{goes-listing, goes-trans}
use Rattle.candidate_rounds.proofs.Equations.Visiting.{current-on, met-same, number-on, ok-from, refused-from}
use Rattle.candidate_eval.specs.Judges.States.{resolved_tree}
use Rattle.candidate_rounds.specs.Evaluators.Stopping.{IsTreeStop, of_left, of_right, of_meeting}
use Rattle.candidate_rounds.proofs.Stops.EquatingStops.{each-stop, meeting-same, question}
use Rattle.candidate_rounds.proofs.Evaluators.Between.{parts}
use Rattle.candidate_rounds.proofs.Evaluators.Exits.{below-goes, not-refused}
use Rattle.candidate_rounds.proofs.rounds.Rounds.meet_current.Goals as goal

pub meet-requires-clause-left_free : goal.meet-requires-clause-left_free
meet-requires-clause-left_free c =
    let old = c.args.self.now in
    let mid = c.current_number.new.self in
    let new = c.current_number-2.new.self in
    let S = state old in
    let x = tree_at old.context.trees c.args.left in
    let is = (number-kept mid.context.trees new.context.trees c.in_ok-left.left c.current_number-2.ensures.goes.0.kept c.in_ok-left.ensures.inside).1 ∙ c.in_ok-left.ensures.tree in
    ap (λ T. root_value T (tree_at new.context.trees c.in_ok-left.left).head) (c.current_number-2.ensures.state ∙ c.current_number.ensures.state)
    ∙ (ap (λ (t : Tree). root_value S t.head) is ∙ current_rests (listing old) (parts c.recall_well_kept.ensures).given.listing S ((parts c.recall_well_kept.ensures).resolved.now old.mode) x)

pub meet-requires-clause-right_free : goal.meet-requires-clause-right_free
meet-requires-clause-right_free c =
    let old = c.args.self.now in
    let mid = c.current_number.new.self in
    let new = c.current_number-2.new.self in
    let S = state old in
    let y = tree_at old.context.trees c.args.right in
    let is =
    c.in_ok-right.ensures.tree
    ∙ current-on old mid c.current_number.ensures.goes (parts c.recall_well_kept.ensures).given c.current_number.ensures.state (tree_at mid.context.trees c.args.right) y
    (number-on old mid c.current_number.ensures.goes (parts c.recall_well_kept.ensures).given c.current_number.ensures.state c.args.right c.requires.right) in
    ap (λ T. root_value T (tree_at new.context.trees c.in_ok-right.right).head) (c.current_number-2.ensures.state ∙ c.current_number.ensures.state)
    ∙ (ap (λ (t : Tree). root_value S t.head) is ∙ current_rests (listing old) (parts c.recall_well_kept.ensures).given.listing S ((parts c.recall_well_kept.ensures).resolved.now old.mode) y)

pub meet-requires-clause-frames : goal.meet-requires-clause-frames
meet-requires-clause-frames c =
    let goes = goes-trans c.args.self.now c.current_number.new.self c.current_number-2.new.self c.current_number.ensures.goes c.current_number-2.ensures.goes in
    frames-kept c.args.self.now.context.trees c.current_number-2.new.self.context.trees c.args.rest.now.universes.items c.args.rest.now.frames.items goes.0.kept c.requires.frames

pub returns-clause-goes : goal.returns-clause-goes
returns-clause-goes c =
    goes-trans c.args.self.now c.current_number.new.self c.meet.new.self c.current_number.ensures.goes
    (goes-trans c.current_number.new.self c.current_number-2.new.self c.meet.new.self c.current_number-2.ensures.goes c.meet.ensures.goes)

-- what both are then meets
met-is : (c : goal.After-meet) →
    met (listing c.args.self.now) (state c.args.self.now) (reverse c.args.rest.now.universes.items)
    (current (listing c.args.self.now) (state c.args.self.now) (tree_at c.args.self.now.context.trees c.args.left)) (current (listing c.args.self.now) (state c.args.self.now) (tree_at c.args.self.now.context.trees c.args.right))
    (pairs_of c.args.self.now.context.trees c.args.rest.now.universes.items c.args.rest.now.frames.items)
    ≡ met (listing c.current_number-2.new.self) (state c.current_number-2.new.self) (reverse c.args.rest.now.universes.items)
    (tree_at c.current_number-2.new.self.context.trees c.in_ok-left.left) (tree_at c.current_number-2.new.self.context.trees c.in_ok-right.right)
    (pairs_of c.current_number-2.new.self.context.trees c.args.rest.now.universes.items c.args.rest.now.frames.items)
met-is c =
    let old = c.args.self.now in
    let mid = c.current_number.new.self in
    let new = c.current_number-2.new.self in
    let ts = old.context.trees in
    let us = c.args.rest.now.universes.items in
    let fs = c.args.rest.now.frames.items in
    let goes = goes-trans old mid new c.current_number.ensures.goes c.current_number-2.ensures.goes in
    let given = (parts c.recall_well_kept.ensures).given in
    met-same (listing old) (listing new) (state old) (state new) (reverse us) (reverse us)
    (current (listing old) (state old) (tree_at ts c.args.left)) (current (listing old) (state old) (tree_at ts c.args.right))
    (tree_at new.context.trees c.in_ok-left.left) (tree_at new.context.trees c.in_ok-right.right)
    (pairs_of ts us fs) (pairs_of new.context.trees us fs)
    (goes-listing old new goes given) (c.current_number-2.ensures.state ∙ c.current_number.ensures.state) refl
    ((number-kept mid.context.trees new.context.trees c.in_ok-left.left c.current_number-2.ensures.goes.0.kept c.in_ok-left.ensures.inside).1 ∙ c.in_ok-left.ensures.tree)
    (c.in_ok-right.ensures.tree
    ∙ current-on old mid c.current_number.ensures.goes given c.current_number.ensures.state (tree_at mid.context.trees c.args.right) (tree_at ts c.args.right)
    (number-on old mid c.current_number.ensures.goes given c.current_number.ensures.state c.args.right c.requires.right))
    (pairs-kept ts new.context.trees us fs goes.0.kept c.requires.frames)

pub returns-clause-ok : goal.returns-clause-ok
returns-clause-ok c = ok-from c.meet.result _ _ _ (met-is c) c.meet.ensures.ok

pub returns-clause-refused : goal.returns-clause-refused
returns-clause-refused c = refused-from c.meet.result _ _ _ (met-is c) c.meet.ensures.refused

pub returns-in_err-left-clause-cause : goal.returns-in_err-left-clause-cause
returns-in_err-left-clause-cause c = question _ c.from_residual.result _ c.from_residual.ensures.1 (of_left c.in_err-left.ensures.cause)

pub returns-in_err-right-clause-cause : goal.returns-in_err-right-clause-cause
returns-in_err-right-clause-cause c =
    let old = c.args.self.now in
    let mid = c.current_number.new.self in
    let ts = c.current_number-2.new.self.context.trees in
    let s = c.in_err-right.field-0.0 in
    let same = number-on old mid c.current_number.ensures.goes (parts c.recall_well_kept.ensures).given c.current_number.ensures.state c.args.right c.requires.right in
    question _ c.from_residual-in_err-right.result _ c.from_residual-in_err-right.ensures.1
    (of_right
    (subst (λ t. IsTreeStop ts (resolved_tree (state old) (resolved_root (state old) t)) s) same
    (subst (λ S. IsTreeStop ts (resolved_tree S (resolved_root S (tree_at mid.context.trees c.args.right))) s) c.current_number.ensures.state c.in_err-right.ensures.cause)))

pub returns-clause-cause : goal.returns-clause-cause
returns-clause-cause c =
    let old = c.args.self.now in
    let mid = c.current_number.new.self in
    let new = c.current_number-2.new.self in
    let ts = old.context.trees in
    let goes = goes-trans old mid new c.current_number.ensures.goes c.current_number-2.ensures.goes in
    let given = (parts c.recall_well_kept.ensures).given in
    each-stop _ _ c.meet.result
    (λ s k. of_meeting
    (meeting-same c.meet.new.self.context.trees (listing old) (listing new) (state old) (state new) (reverse c.args.rest.now.universes.items)
    (current (listing old) (state old) (tree_at ts c.args.left)) (current (listing old) (state old) (tree_at ts c.args.right))
    (tree_at new.context.trees c.in_ok-left.left) (tree_at new.context.trees c.in_ok-right.right) s
    (goes-listing old new goes given) (c.current_number-2.ensures.state ∙ c.current_number.ensures.state)
    ((number-kept mid.context.trees new.context.trees c.in_ok-left.left c.current_number-2.ensures.goes.0.kept c.in_ok-left.ensures.inside).1 ∙ c.in_ok-left.ensures.tree)
    (c.in_ok-right.ensures.tree
    ∙ current-on old mid c.current_number.ensures.goes given c.current_number.ensures.state (tree_at mid.context.trees c.args.right) (tree_at ts c.args.right)
    (number-on old mid c.current_number.ensures.goes given c.current_number.ensures.state c.args.right c.requires.right)) k))
    c.meet.ensures.cause

pub returns-in_err-left-clause-refused : goal.returns-in_err-left-clause-refused
returns-in_err-left-clause-refused c = not-refused _ c.from_residual.result _ c.from_residual.ensures.1

pub current_number-requires-2 : goal.current_number-requires-2
current_number-requires-2 c = below-goes c.args.self.now c.current_number.new.self c.args.right c.current_number.ensures.goes c.requires.right

pub returns-in_err-right-clause-goes : goal.returns-in_err-right-clause-goes
returns-in_err-right-clause-goes c = goes-trans c.args.self.now c.current_number.new.self c.current_number-2.new.self c.current_number.ensures.goes c.current_number-2.ensures.goes

pub returns-in_err-right-clause-refused : goal.returns-in_err-right-clause-refused
returns-in_err-right-clause-refused c = not-refused _ c.from_residual-in_err-right.result _ c.from_residual-in_err-right.ensures.1

pub meet-requires-clause-left : goal.meet-requires-clause-left
meet-requires-clause-left c = below-goes c.current_number.new.self c.current_number-2.new.self c.in_ok-left.left c.current_number-2.ensures.goes c.in_ok-left.ensures.inside
