use Rattle.std.proofs.Common.{◌≡◌, false, [], ◌∷◌, reverse, sym, ◌∙◌, ap}
use Rattle.std.proofs.lemmas.Bool.{eq-eqb, ne_eqb}
use Rattle.std.proofs.lemmas.List.{append-nil}
use Rattle.ir_trees.specs.Syntax.Nodes.{tree_at}
use Rattle.ir_trees.specs.Syntax.Trees.{binders_of}
use Rattle.candidate_rounds.specs.declared.rounds.equating.Frame.{Frame}
use Rattle.candidate_rounds.specs.declared.rounds.equating.Rest.{Rest}
use Rattle.candidate_rounds.specs.Evaluators.Known.{Evaluator, state}
use Rattle.candidate_rounds.proofs.Equations.Framing.{below-frames, below-pairs, scope-else, scope-then}
use Rattle.candidate_rounds.proofs.rounds.Rounds.enter_below.Goals as goal
use Rattle.candidate_rounds.proofs.rounds.Rounds.enter_below.Goals.{then-binders-eq1+in_ok-universe+in_ok-push, else-binders-eq1}

abbrev frame : goal.After-push-2 → Frame
frame c = record { left = c.args.left; right = c.args.right; place = 0; binders = c.binders-binders.result; are_lists = false }

count-is : (c : goal.After-push-2) → c.binders.result ≡ binders_of (tree_at c.args.self.now.context.trees c.args.left).head
count-is c = c.binders.ensures.is ∙ ap binders_of (c.head.ensures ∙ ap (λ (e : Evaluator). (tree_at e.context.trees c.args.left).head) c.self.view_is)

pub returns-clause-frames : goal.returns-clause-frames
returns-clause-frames c =
    let ts = c.args.self.now.context.trees in
    let us = c.args.rest.now.universes.items in
    let fs = c.args.rest.now.frames.items in
    let vs = c.if-binders-eq1.rest.universes.items in
    let gs = c.if-binders-eq1.rest.frames.items in
    let new = c.push-2.new.self in
    elim c.if-binders-eq1.branch [
      | then-binders-eq1+in_ok-universe+in_ok-push w ↦
          below-frames c.push-2.result ts us (w.in_ok-universe.universe ∷ []) vs new.universes.items fs gs new.frames.items (frame c) (ap (λ (r : Rest). r.universes.items) w.rest-is ∙ w.in_ok-push.ensures.items)
          (ap (λ (r : Rest). r.frames.items) w.rest-is) c.push-2.ensures.universes c.binders-binders.ensures c.requires.frames c.push-2.ensures.frames (c.requires.left, c.requires.right, λ e. absurd cc)
      | else-binders-eq1 w ↦
          below-frames c.push-2.result ts us [] vs new.universes.items fs gs new.frames.items (frame c) (ap (λ (r : Rest). r.universes.items) w.rest-is ∙ sym (append-nil us))
          (ap (λ (r : Rest). r.frames.items) w.rest-is) c.push-2.ensures.universes c.binders-binders.ensures c.requires.frames c.push-2.ensures.frames (c.requires.left, c.requires.right, λ e. absurd cc)
    ]

pub returns-clause-below : goal.returns-clause-below
returns-clause-below c =
    let old = c.args.self.now in
    let ts = old.context.trees in
    let us = c.args.rest.now.universes.items in
    let fs = c.args.rest.now.frames.items in
    let vs = c.if-binders-eq1.rest.universes.items in
    let gs = c.if-binders-eq1.rest.frames.items in
    let new = c.push-2.new.self in
    let t = tree_at ts c.args.left in
    elim c.if-binders-eq1.branch [
      | then-binders-eq1+in_ok-universe+in_ok-push w ↦
          let u = w.in_ok-universe.universe in
          let v = ap (λ (r : Rest). r.universes.items) w.rest-is ∙ w.in_ok-push.ensures.items in
          below-pairs c.push-2.result ts us (u ∷ []) vs new.universes.items fs gs new.frames.items (frame c) v
          (ap (λ (r : Rest). r.frames.items) w.rest-is) c.push-2.ensures.universes c.binders-binders.ensures c.requires.frames c.push-2.ensures.frames _
          (scope-then (state old) (state w.enter_binder.new.self) us t.head t.children u (eq-eqb (binders_of t.head) 1 (sym (count-is c) ∙ w.if-binders-eq1.true)) w.in_ok-universe.ensures.entered w.in_ok-universe.ensures.universe
          ∙ sym (ap reverse v))
      | else-binders-eq1 w ↦
          let v = ap (λ (r : Rest). r.universes.items) w.rest-is in
          below-pairs c.push-2.result ts us [] vs new.universes.items fs gs new.frames.items (frame c) (v ∙ sym (append-nil us))
          (ap (λ (r : Rest). r.frames.items) w.rest-is) c.push-2.ensures.universes c.binders-binders.ensures c.requires.frames c.push-2.ensures.frames _
          (scope-else (state old) (reverse us) t.head t.children (ne_eqb (binders_of t.head) 1 (λ e. w.if-binders-eq1.false (count-is c ∙ e))) ∙ sym (ap reverse v))
    ]
