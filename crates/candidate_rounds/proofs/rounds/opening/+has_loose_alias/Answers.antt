use Rattle.std.proofs.Common.{◌≡◌, ℕ, false, sym, ◌∙◌}
use Rattle.ir_trees.specs.Syntax.Nodes.{tree_at}
use Rattle.rounds_judge.specs.Aliases.OpenParts.{has_loose_alias}
use Rattle.candidate_rounds.proofs.Equations.OpenParts.{found-closed, next-loose, none-loose-in, not-loose-closed, not-loose-open, unmarked-below}
use Rattle.candidate_rounds.proofs.Resolution.Walking.{noted-is}
use Rattle.candidate_rounds.proofs.rounds.opening.+has_loose_alias.Goals as goal

pub returns-then-not-has-clause-is : goal.returns-then-not-has-clause-is
returns-then-not-has-clause-is t c =
    let x = tree_at c.args.cx.now.trees c.args.number in
    sym (none-loose-in x.children (unmarked-below c.marks.result x c.has.result c.marks.ensures c.has.ensures c.if-not-has.true))

pub returns-then-has-clause-is : goal.returns-then-has-clause-is
returns-then-has-clause-is t c =
    let P : ℕ → Type 0 = λ n. has_loose_alias (tree_at c.args.cx.now.trees n).children ≡ false in
    sym (noted-is P c.args.tight.now c.args.number c.has-2.result c.requires.tight c.has-2.ensures c.if-has.true)

pub loop-place-preserved-then-is_some : goal.loop-place-preserved-then-is_some
loop-place-preserved-then-is_some t c =
    let ts = c.args.cx.now.trees in
    let x = tree_at ts c.in-Some.child in (
      next-loose ts (tree_at ts c.args.number).children c.loop-place.place c.in-Some.child c.in-Some.ensures.1 c.loop-place.invariant.0
          (not-loose-closed x.head x.children (found-closed ts x c.closed_term.result c.is_some.result c.closed_term.ensures c.is_some.ensures c.if-is_some.true)),
      c.loop-place.invariant.1,
    )

pub loop-place-preserved : goal.loop-place-preserved
loop-place-preserved t c =
    let ts = c.args.cx.now.trees in
    let x = tree_at ts c.in-Some.child in (
      next-loose ts (tree_at ts c.args.number).children c.loop-place.place c.in-Some.child c.in-Some.ensures.1 c.loop-place.invariant.0
          (not-loose-open x.head x.children (sym c.is_alias_at.ensures ∙ c.if-is_alias_at.false) (sym c.in_ok-has_loose_alias.ensures.is ∙ c.if-branch.false)),
      c.has_loose_alias.ensures.tight,
    )
