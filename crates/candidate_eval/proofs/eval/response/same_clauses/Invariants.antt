use Rattle.std.proofs.Common.{◌≡◌, ℕ, ◌<◌, slice_index_or}
use Rattle.ir_trees.specs.declared.ir.kinds.Clause.{Clause}
use Rattle.ir_trees.specs.Syntax.Words.{clause_tree}
use Rattle.candidate_eval.proofs.eval.response.same_clauses.Given as goal

-- the clauses before are equal in their places
abbrev pub invariant-loop-i : goal.invariant-loop-i
invariant-loop-i l =
    let past : Clause = record { 0 = 0 } in
    (k : ℕ) → k < l.i → clause_tree l.cx.trees (slice_index_or l.a k past) ≡ clause_tree l.cx.trees (slice_index_or l.b k past)
