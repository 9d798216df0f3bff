use Rattle.std.proofs.Common.{◌≡◌, false, true, sym, ◌∙◌, ap, subst}
use Rattle.ir_trees.specs.Syntax.Nodes.{tree_at}
use Rattle.ir_trees.specs.Unification.Unify.{same_head}
use Rattle.ir_trees.proofs.Syntax.Equal.{head_is}
use Rattle.ir_trees.proofs.Traversal.Asking.{arg-below}
use Rattle.candidate_rounds.specs.Calls.Repeating.{tree_stirs}
use Rattle.candidate_rounds.proofs.rounds.repeating.keeps_state.Goals as goal

pub head-requires : goal.head-requires
head-requires c = rw c.number.ensures (arg-below c.args.cx.now.trees c.args.listed c.requires.listed)

pub head-requires-2 : goal.head-requires-2
head-requires-2 c = rw c.number-2.ensures (arg-below c.args.cx.now.trees c.args.arg c.requires.arg)

pub nothing_stirs-requires : goal.nothing_stirs-requires
nothing_stirs-requires c = rw c.number-then-eq.ensures (arg-below c.args.cx.now.trees c.args.arg c.requires.arg)

pub nothing_stirs-requires-then-nothing_stirs : goal.nothing_stirs-requires-then-nothing_stirs
nothing_stirs-requires-then-nothing_stirs c = rw c.number-then-nothing_stirs.ensures (arg-below c.args.cx.now.trees c.args.resolved c.requires.resolved)

pub nothing_stirs-requires-then-nothing_stirs-2 : goal.nothing_stirs-requires-then-nothing_stirs-2
nothing_stirs-requires-then-nothing_stirs-2 c = rw c.number-then-nothing_stirs-2.ensures (arg-below c.args.cx.now.trees c.args.listed c.requires.listed)

pub returns-then-nothing_stirs-2 : goal.returns-then-nothing_stirs-2
returns-then-nothing_stirs-2 c = λ e.
    let ts = c.args.cx.now.trees in
    let s = c.args.inference.now in
    let same : same_head c.head.result c.head-2.result ≡ true = sym c.eq.ensures ∙ c.if-eq.true in
    record {
      root =
          sym (c.head.ensures ∙ ap (λ n. (tree_at ts n).head) c.number.ensures)
          ∙ (head_is c.head.result c.head-2.result same ∙ (c.head-2.ensures ∙ ap (λ n. (tree_at ts n).head) c.number-2.ensures));
      standing = subst (λ n. tree_stirs s (tree_at ts n) ≡ false) c.number-then-eq.ensures (c.nothing_stirs.ensures c.if-nothing_stirs.true);
      valued = subst (λ n. tree_stirs s (tree_at ts n) ≡ false) c.number-then-nothing_stirs.ensures (c.nothing_stirs-then-nothing_stirs.ensures c.if-nothing_stirs-2.true);
      listed = subst (λ n. tree_stirs s (tree_at ts n) ≡ false) c.number-then-nothing_stirs-2.ensures (c.nothing_stirs-then-nothing_stirs-2.ensures e);
    }
