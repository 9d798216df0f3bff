use Rattle.std.proofs.Common.{◌≡◌, ℕ, [], reverse, sym, ◌∙◌, ap, subst, ◌∷◌}
use Rattle.std.proofs.lemmas.Result.{err_from_is_err_and}
use Rattle.ir_trees.specs.Syntax.Nodes.{tree_at}
use Rattle.ir_trees.specs.Unification.Substitutions.{alone}
use Rattle.candidate_rounds.specs.declared.rounds.equating.Rest.{Rest}
use Rattle.rounds_judge.specs.Equations.Equating.{equated, met, unified}
use Rattle.candidate_rounds.specs.Calls.Frames.{pairs_of}
use Rattle.candidate_rounds.specs.Evaluators.Known.{Evaluator, listing, state}
use Rattle.rounds_judge.specs.Aliases.Listed.{current}
use Rattle.candidate_rounds.proofs.Evaluators.Going.{goes-listing, goes-trans}
use Rattle.rounds_judge.proofs.Equations.Stepping.{equated-left, equated-refused}
use Rattle.candidate_rounds.proofs.Equations.Visiting.{ok-from, refused-from}
use Rattle.ir_trees.specs.Syntax.Trees.{none}
use Rattle.candidate_rounds.specs.Evaluators.Stopping.{IsLookStop, IsUnifyingStop, begun, later, at_once}
use Rattle.candidate_rounds.proofs.Stops.EquatingStops.{each-stop, first-left, stops-onto, through}
use Rattle.candidate_rounds.proofs.Evaluators.Between.{parts}
use Rattle.candidate_rounds.proofs.rounds.Rounds.equate_numbers.Goals as goal

-- nothing else is left at the beginning
met-first : (old : Evaluator) (rest : Rest) (a b : ℕ) → rest.universes.items ≡ [] → rest.frames.items ≡ []
    → met (listing old) (state old) [] (current (listing old) (state old) (tree_at old.context.trees a)) (current (listing old) (state old) (tree_at old.context.trees b)) []
    ≡ met (listing old) (state old) (reverse rest.universes.items) (current (listing old) (state old) (tree_at old.context.trees a)) (current (listing old) (state old) (tree_at old.context.trees b))
    (pairs_of old.context.trees rest.universes.items rest.frames.items)
met-first old rest a b e f =
    let x = current (listing old) (state old) (tree_at old.context.trees a) in
    let y = current (listing old) (state old) (tree_at old.context.trees b) in
    sym (ap (λ us. met (listing old) (state old) (reverse us) x y (pairs_of old.context.trees us rest.frames.items)) e
    ∙ ap (λ fs. met (listing old) (state old) [] x y (pairs_of old.context.trees [] fs)) f)

pub returns-in_err-meet_current-clause-refused : goal.returns-in_err-meet_current-clause-refused
returns-in_err-meet_current-clause-refused c =
    let old = c.args.self.now in
    let kept = parts c.recall_well_kept.ensures in
    let r = err_from_is_err_and c.from_residual.result c.from_residual.ensures.1 in
    rw r.1
    (λ n. equated-refused (listing old) kept.given.listing (state old) (tree_at old.context.trees c.args.a) (tree_at old.context.trees c.args.b) (kept.resolved.now old.mode)
    (met-first old c.new-rest.result c.args.a c.args.b c.new-rest.ensures.universes c.new-rest.ensures.frames ∙ c.in_err-meet_current.ensures.refused (sym r.2 ∙ n)))

-- what comes after the first two trees have met
others-are : (c : goal.After-drop-rest-7) → equated (listing c.args.self.now) (state c.args.self.now) (alone (tree_at c.args.self.now.context.trees c.args.a)) (alone (tree_at c.args.self.now.context.trees c.args.b))
    ≡ unified (listing c.meet_current.new.self) (state c.meet_current.new.self) (pairs_of c.meet_current.new.self.context.trees c.meet_current.new.rest.universes.items c.meet_current.new.rest.frames.items)
others-are c =
    let old = c.args.self.now in
    let mid = c.meet_current.new.self in
    let kept = parts c.recall_well_kept.ensures in
    let left = pairs_of mid.context.trees c.meet_current.new.rest.universes.items c.meet_current.new.rest.frames.items in
    equated-left (listing old) kept.given.listing (state old) (tree_at old.context.trees c.args.a) (tree_at old.context.trees c.args.b) (kept.resolved.now old.mode) (state mid) left (met-first old c.new-rest.result c.args.a c.args.b c.new-rest.ensures.universes c.new-rest.ensures.frames ∙ c.in_ok-meet_current.ensures.ok)
    ∙ sym (ap (λ l. unified l (state mid) left) (goes-listing old mid c.meet_current.ensures.goes kept.given))

pub returns-clause-ok : goal.returns-clause-ok
returns-clause-ok c = ok-from c.unify.result _ _ _ (others-are c) c.unify.ensures.ok

pub returns-clause-refused : goal.returns-clause-refused
returns-clause-refused c = refused-from c.unify.result _ _ _ (others-are c) c.unify.ensures.refused

pub returns-in_err-meet_current-clause-cause : goal.returns-in_err-meet_current-clause-cause
returns-in_err-meet_current-clause-cause c =
    let old = c.args.self.now in
    let ts = old.context.trees in
    through _ c.from_residual.result _ c.from_residual.ensures.1
    (λ s n. begun
    (at_once (subst (λ us. IsLookStop c.meet_current.new.self.context.trees (listing old) (state old) (reverse us) (tree_at ts c.args.a) (tree_at ts c.args.b) s) c.new-rest.ensures.universes (c.in_err-meet_current.ensures.cause s n))))

pub returns-clause-cause : goal.returns-clause-cause
returns-clause-cause c =
    let old = c.args.self.now in
    let mid = c.meet_current.new.self in
    let kept = parts c.recall_well_kept.ensures in
    let ts = c.unify.new.self.context.trees in
    let left = pairs_of mid.context.trees c.meet_current.new.rest.universes.items c.meet_current.new.rest.frames.items in
    let first =
    first-left (listing old) (state old) (state mid) (tree_at old.context.trees c.args.a) (tree_at old.context.trees c.args.b) left
    (met-first old c.new-rest.result c.args.a c.args.b c.new-rest.ensures.universes c.new-rest.ensures.frames ∙ c.in_ok-meet_current.ensures.ok) in
    each-stop _ _ c.unify.result
    (λ s k. begun
    (later first
    (stops-onto ts (listing old) s (state mid) left (record { scope = []; left = none; right = none } ∷ [])
    (subst (λ l. IsUnifyingStop ts l s (state mid) left) (goes-listing old mid c.meet_current.ensures.goes kept.given) k))))
    c.unify.ensures.cause

pub returns-clause-goes : goal.returns-clause-goes
returns-clause-goes c = goes-trans c.args.self.now c.meet_current.new.self c.unify.new.self c.meet_current.ensures.goes c.unify.ensures.goes
