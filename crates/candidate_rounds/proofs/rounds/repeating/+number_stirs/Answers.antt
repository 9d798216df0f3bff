use Rattle.std.proofs.Common.{◌≡◌, ℕ, false, sym, ◌∙◌}
use Rattle.ir_trees.specs.Syntax.Nodes.{tree_at}
use Rattle.candidate_rounds.specs.Calls.Repeating.{tree_stirs}
use Rattle.candidate_rounds.proofs.Resolution.Stirring.{next-still, none-stirs}
use Rattle.candidate_rounds.proofs.Resolution.Walking.{each-noted, noted-is}
use Rattle.candidate_rounds.proofs.rounds.repeating.+number_stirs.Goals as goal

pub returns-then-has-clause-is : goal.returns-then-has-clause-is
returns-then-has-clause-is t c = λ e.
    noted-is (λ (n : ℕ). tree_stirs c.args.inference.now (tree_at c.args.cx.now.trees n) ≡ false) c.args.walked.now c.args.number c.has.result c.requires.walked c.has.ensures c.if-has.true

pub loop-place-preserved : goal.loop-place-preserved
loop-place-preserved t c = (
  next-still c.args.inference.now c.args.cx.now.trees (tree_at c.args.cx.now.trees c.args.number).children c.loop-place.place c.in-Some.child
      c.loop-place.invariant.0 c.in-Some.ensures.1 (c.in_ok-number_stirs.ensures.is c.if-branch.false),
  c.number_stirs.ensures.walked,
)

pub returns-in_default-clause-is : goal.returns-in_default-clause-is
returns-in_default-clause-is t c = λ e.
    none-stirs c.args.inference.now (tree_at c.args.cx.now.trees c.args.number) c.loop-place.place c.loop-place.invariant.0 c.in_default.ensures (sym c.root_stirs.ensures ∙ c.if-root_stirs.false)

pub returns-in_default-clause-walked : goal.returns-in_default-clause-walked
returns-in_default-clause-walked t c =
    each-noted (λ (n : ℕ). tree_stirs c.args.inference.now (tree_at c.args.cx.now.trees n) ≡ false) c.loop-place.walked c.note.new.self c.args.number c.note.ensures c.loop-place.invariant.1
    (none-stirs c.args.inference.now (tree_at c.args.cx.now.trees c.args.number) c.loop-place.place c.loop-place.invariant.0 c.in_default.ensures (sym c.root_stirs.ensures ∙ c.if-root_stirs.false))
