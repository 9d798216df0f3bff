use Rattle.std.proofs.Common.{rules, ◌≡◌, ◌++◌, ◌∷◌, [], None, sym, ◌∙◌, ap, arith, ◌+◌, ◌≤◌, suc, ℕ}
use Rattle.ir_trees.specs.declared.ir.heads.Flag.TheVariants as F
use Rattle.ir_trees.specs.Syntax.Nodes.{tree_at}
use Rattle.ir_trees.specs.Syntax.Trees.{count, holds, is_alias, skip, tree}
use Rattle.ir_trees.specs.Syntax.Words.{ty_tree}
use Rattle.ir_trees.proofs.Instantiation.Folding.{or-right}
use Rattle.candidate_eval.specs.Dynamic.Replacing.{AreProjections, clauses_at, finds_own, projections, projections_at}
use Rattle.candidate_eval.proofs.Dynamic.Replacing.{none-added, none-found, one-below, one-found}
use Rattle.candidate_eval.proofs.Interface.StopKinds.{child-beyond, growth_noted, wide-node}
use Rattle.candidate_eval.proofs.objects.replacing.+push_projections.Goals.{in-Some-own_projection_at+in_ok-push_own-in-Some-own_projection_at, in-None+in_ok-push_projections-in-None}
use Rattle.candidate_eval.proofs.objects.replacing.+push_projections.Goals as goal

pub loop-place-preserved : goal.loop-place-preserved
loop-place-preserved t c =
    let ts = c.args.cx.now.trees in
    let f = finds_own ts c.args.object c.args.bounds.now in
    let below = (tree_at ts c.args.number).children in
    let child = tree_at ts c.in-Some.child in
    let start = projections_at ts c.args.found.now.items ++ projections f below in
    let first : skip c.loop-place.place below ≡ tree child.head child.children (skip (suc c.loop-place.place) below) = search rules in
    let one : suc c.loop-place.place ≡ c.loop-place.place + 1 = omega arith in
    let now : skip c.loop-place.place below ≡ tree child.head child.children (skip (c.loop-place.place + 1) below) = first ∙ ap (λ (n : ℕ). tree child.head child.children (skip n below)) one in
    let over = child-beyond c.loop-place.place below child.head child.children (skip (suc c.loop-place.place) below) first in
    let within : c.loop-place.place + 1 ≤ count below = omega (arith, over) in
    let after = c.match-own_projection_at.found.items in
    let found : AreProjections ts after × (start ≡ projections_at ts after ++ projections f (skip (c.loop-place.place + 1) below)) = elim c.match-own_projection_at.branch [
      | in-Some-own_projection_at+in_ok-push_own-in-Some-own_projection_at w ↦
          let p = w.in-Some-own_projection_at.projection in
          let pushed : c.match-own_projection_at.found.items ≡ c.loop-place.found.items ++ p ∷ [] = search rules in
          one-found ts f start c.loop-place.found.items c.match-own_projection_at.found.items p child.head child.children (skip c.loop-place.place below) (skip (c.loop-place.place + 1) below)
          c.loop-place.invariant.1 c.loop-place.invariant.2 now w.in-Some-own_projection_at.ensures.0 w.in-Some-own_projection_at.ensures.1 pushed
      | in-None+in_ok-push_projections-in-None w ↦
          let none : f child.head child.children ≡ None = search rules in
          let fit : AreProjections ts c.match-own_projection_at.found.items = search rules in
          let more : projections_at ts c.match-own_projection_at.found.items ≡ projections_at ts c.loop-place.found.items ++ projections f child.children = search rules in
          one-below ts f start c.loop-place.found.items c.match-own_projection_at.found.items child.head child.children (skip c.loop-place.place below) (skip (c.loop-place.place + 1) below) fit c.loop-place.invariant.2 now none more
    ] in
    (within, found.0, found.1)

pub returns-clause-cause : goal.returns-clause-cause
returns-clause-cause t c = wide-node c.args.cx.now.trees c.args.number c.loop-place.place c.requires.number c.loop-place.invariant.0 c.loop-place-test.false

pub returns-in_err-push_own-in-Some-own_projection_at-clause-cause : goal.returns-in_err-push_own-in-Some-own_projection_at-clause-cause
returns-in_err-push_own-in-Some-own_projection_at-clause-cause t c =
    growth_noted c.args.cx.now.trees c.from_residual.result (rw c.in_err-push_own-in-Some-own_projection_at.ensures.cause at c.from_residual.ensures.1)

pub returns-then-not-has-clause-projections : goal.returns-then-not-has-clause-projections
returns-then-not-has-clause-projections t c =
    let ts = c.args.cx.now.trees in
    let whole = tree_at ts c.args.number in
    let off = sym (c.marks.ensures F.Alias) ∙ (sym c.has.ensures ∙ c.if-not-has.true) in
    none-added ts (finds_own ts c.args.object c.args.bounds.now) c.args.found.now.items whole.children
    (none-found (ty_tree ts c.args.object) (clauses_at ts c.args.bounds.now) whole.children (or-right (is_alias whole.head) (holds is_alias whole.children) off))
