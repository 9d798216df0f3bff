use Rattle.std.proofs.Common.{◌≡◌, ◌∷◌, suc, reverse, refl, ◌∙◌, ap, subst, arith, ◌≤◌, sym}
use Rattle.ir_trees.specs.Syntax.Nodes.{tree_at}
use Rattle.ir_trees.specs.Syntax.Trees.{tree, skip}
use Rattle.rounds_judge.specs.Equations.Equating.{met, visited}
use Rattle.candidate_rounds.specs.Calls.Frames.{pair_of, pairs_of, scope_of}
use Rattle.candidate_rounds.specs.Evaluators.Known.{Evaluator, listing, state}
use Rattle.rounds_judge.specs.Aliases.Listed.{current}
use Rattle.candidate_rounds.proofs.Equations.Visiting.{child-row, frame-scope, met-same, next-pairs, ok-from, refused-from, rows-begin}
use Rattle.candidate_eval.proofs.Interface.StopKinds.{child-beyond}
use Rattle.candidate_rounds.proofs.Stops.EquatingStops.{question, child-of, each-stop, look-stops}
use Rattle.candidate_eval.specs.Interface.Noting.{HasWideNode}
use Rattle.candidate_rounds.specs.Evaluators.Stopping.{IsLookStop, IsUnifyingStop, refused_growth, wide_node}
use Rattle.ir_trees.specs.declared.ir.stop.Stop.TheVariants.{NodesFull}
use Rattle.candidate_rounds.proofs.Evaluators.Exits.{not-refused}
use Rattle.candidate_rounds.proofs.rounds.Rounds.visit.Goals as goal

-- both rows begin with trees, which meet
first-is : (c : goal.After-meet_current) →
    visited (listing c.args.self.now) (state c.args.self.now) (pair_of c.args.self.now.context.trees c.args.rest.now.universes.items c.args.frame ∷ pairs_of c.args.self.now.context.trees c.args.rest.now.universes.items c.args.rest.now.frames.items)
    ≡ met (listing c.args.self.now) (state c.args.self.now) (reverse c.push.new.self.universes.items)
    (current (listing c.args.self.now) (state c.args.self.now) (tree_at c.args.self.now.context.trees c.in-Some-Some.left)) (current (listing c.args.self.now) (state c.args.self.now) (tree_at c.args.self.now.context.trees c.in-Some-Some.right))
    (pairs_of c.args.self.now.context.trees c.push.new.self.universes.items c.push.new.self.frames.items)
first-is c =
    let old = c.args.self.now in
    let i = c.self.inside in
    let ts = old.context.trees in
    let us = c.args.rest.now.universes.items in
    let fs = c.args.rest.now.frames.items in
    let f = c.args.frame in
    let n = f.place in
    let x = tree_at ts c.in-Some-Some.left in
    let y = tree_at ts c.in-Some-Some.right in
    let left = subst (λ (e : Evaluator). skip n (tree_at e.context.trees f.left).children ≡ tree (tree_at e.context.trees c.in-Some-Some.left).head (tree_at e.context.trees c.in-Some-Some.left).children (skip (suc n) (tree_at e.context.trees f.left).children))
    c.self.view_is (child-row i.cx.trees f.left n c.child_at-left.result c.in-Some-Some.left c.in-Some-Some.is-0 c.child_at-left.ensures) in
    let right = subst (λ (e : Evaluator). skip n (tree_at e.context.trees f.right).children ≡ tree (tree_at e.context.trees c.in-Some-Some.right).head (tree_at e.context.trees c.in-Some-Some.right).children (skip (suc n) (tree_at e.context.trees f.right).children))
    c.self.view_is (child-row i.cx.trees f.right n c.child_at-right.result c.in-Some-Some.right c.in-Some-Some.is-1 c.child_at-right.ensures) in
    let next : c.in-Some.place ≡ suc n = let k = c.in-Some.ensures in omega (arith, k) in
    ap (λ sc. visited (listing old) (state old) (record { scope = sc; left = skip n (tree_at ts f.left).children; right = skip n (tree_at ts f.right).children } ∷ pairs_of ts us fs)) (frame-scope us f c.requires.binders)
    ∙ (rows-begin (listing old) (state old) (reverse us) (skip n (tree_at ts f.left).children) (skip n (tree_at ts f.right).children) (skip (suc n) (tree_at ts f.left).children) (skip (suc n) (tree_at ts f.right).children) x y (pairs_of ts us fs) left right
    ∙ met-same (listing old) (listing old) (state old) (state old) (reverse us) (reverse c.push.new.self.universes.items) (current (listing old) (state old) x) (current (listing old) (state old) y)
    (current (listing old) (state old) x) (current (listing old) (state old) y)
    (record { scope = reverse us; left = skip (suc n) (tree_at ts f.left).children; right = skip (suc n) (tree_at ts f.right).children } ∷ pairs_of ts us fs)
    (pairs_of ts c.push.new.self.universes.items c.push.new.self.frames.items) refl refl (ap reverse c.push.ensures.universes) refl refl
    (next-pairs ts us c.push.new.self.universes.items fs c.push.new.self.frames.items f c.in-Some.place c.push.ensures.universes c.in_ok-push-in-Some-Some.ensures.frames c.requires.binders
    ∙ ap (λ k. record { scope = reverse us; left = skip k (tree_at ts f.left).children; right = skip k (tree_at ts f.right).children } ∷ pairs_of ts us fs) next))

pub returns-in_ok-push-in-Some-Some-clause-ok : goal.returns-in_ok-push-in-Some-Some-clause-ok
returns-in_ok-push-in-Some-Some-clause-ok c = ok-from c.meet_current.result _ _ _ (first-is c) c.meet_current.ensures.ok

pub returns-in_ok-push-in-Some-Some-clause-refused : goal.returns-in_ok-push-in-Some-Some-clause-refused
returns-in_ok-push-in-Some-Some-clause-refused c = refused-from c.meet_current.result _ _ _ (first-is c) c.meet_current.ensures.refused

pub returns-in_default-checked_add-clause-cause : goal.returns-in_default-checked_add-clause-cause
returns-in_default-checked_add-clause-cause c = λ s n.
    let i = c.self.inside in
    let ts = c.args.self.now.context.trees in
    let f = c.args.frame in
    let same = ap (λ (e : Evaluator). e.context.trees) c.self.view_is in
    let left = child-of i.cx.trees ts f.left f.place c.child_at-left.result c.in-Some-Some.left same c.in-Some-Some.is-0 c.child_at-left.ensures in
    let right = child-of i.cx.trees ts f.right f.place c.child_at-right.result c.in-Some-Some.right same c.in-Some-Some.is-1 c.child_at-right.ensures in
    let far : 18446744073709551615 ≤ f.place = omega (arith, c.in_default-checked_add.ensures) in
    let many = child-beyond f.place (tree_at ts f.left).children _ _ _ left in
    let wide : HasWideNode ts = record { number = f.left; inside = c.requires.frame.0; wide = omega (arith, far, many) } in
    let full : NodesFull ≡ s = cc in
    subst (λ z. IsUnifyingStop ts (listing c.args.self.now) z (state c.args.self.now) (pair_of ts c.args.rest.now.universes.items f ∷ pairs_of ts c.args.rest.now.universes.items c.args.rest.now.frames.items)) full
    (look-stops ts (listing c.args.self.now) (state c.args.self.now) _ _ _ _ _ _ (tree_at ts c.in-Some-Some.left) (tree_at ts c.in-Some-Some.right) _ _ left right refl (wide_node wide))

pub returns-in_err-push-in-Some-Some-clause-cause : goal.returns-in_err-push-in-Some-Some-clause-cause
returns-in_err-push-in-Some-Some-clause-cause c =
    let i = c.self.inside in
    let ts = c.args.self.now.context.trees in
    let f = c.args.frame in
    let same = ap (λ (e : Evaluator). e.context.trees) c.self.view_is in
    let left = child-of i.cx.trees ts f.left f.place c.child_at-left.result c.in-Some-Some.left same c.in-Some-Some.is-0 c.child_at-left.ensures in
    let right = child-of i.cx.trees ts f.right f.place c.child_at-right.result c.in-Some-Some.right same c.in-Some-Some.is-1 c.child_at-right.ensures in
    let old = c.args.self.now in
    let x = tree_at ts c.in-Some-Some.left in
    let y = tree_at ts c.in-Some-Some.right in
    let us = scope_of c.args.rest.now.universes.items f.binders in
    question _ c.from_residual.result _ c.from_residual.ensures.1
    (look-stops ts (listing old) (state old) us us _ _ _ _ x y _ _ left right refl
    (subst (λ z. IsLookStop ts (listing old) (state old) us x y z) (sym c.in_err-push-in-Some-Some.ensures.cause) refused_growth))

pub returns-in_ok-push-in-Some-Some-clause-cause : goal.returns-in_ok-push-in-Some-Some-clause-cause
returns-in_ok-push-in-Some-Some-clause-cause c =
    let i = c.self.inside in
    let ts = c.args.self.now.context.trees in
    let f = c.args.frame in
    let same = ap (λ (e : Evaluator). e.context.trees) c.self.view_is in
    let left = child-of i.cx.trees ts f.left f.place c.child_at-left.result c.in-Some-Some.left same c.in-Some-Some.is-0 c.child_at-left.ensures in
    let right = child-of i.cx.trees ts f.right f.place c.child_at-right.result c.in-Some-Some.right same c.in-Some-Some.is-1 c.child_at-right.ensures in
    let old = c.args.self.now in
    each-stop _ _ c.meet_current.result
    (λ s k. look-stops c.meet_current.new.self.context.trees (listing old) (state old) _ _ _ _ _ _ (tree_at ts c.in-Some-Some.left) (tree_at ts c.in-Some-Some.right) _ s left right
    (ap reverse c.push.ensures.universes ∙ sym (frame-scope c.args.rest.now.universes.items f c.requires.binders)) k)
    c.meet_current.ensures.cause

pub returns-in_err-push-in-Some-Some-clause-refused : goal.returns-in_err-push-in-Some-Some-clause-refused
returns-in_err-push-in-Some-Some-clause-refused c = not-refused _ c.from_residual.result _ c.from_residual.ensures.1
