use Rattle.std.proofs.Common.{◌≡◌, ◌+◌, ◌≤◌, length, take}
use Rattle.std.specs.Prelude.{vec_capacity}
use Rattle.std.specs.List.{filter}
use Rattle.ir_trees.specs.Unification.Impls.{is_relevant}
use Rattle.ir_trees.specs.Syntax.Words.{ty_tree}
use Rattle.ir_context.proofs.decl.context.Cx.relevant_among.Given as goal

-- those before are tested
abbrev pub invariant-loop-place : goal.invariant-loop-place
invariant-loop-place l =
    (l.relevant.items ≡ filter (is_relevant l.self (ty_tree l.self.trees l.self_ty)) (take l.place l.impls))
    × (l.count.tests ≡ l.fn.count.tests + l.place) × (length l.relevant.items ≤ l.place) × (length l.impls ≤ vec_capacity l.relevant)
