use Rattle.std.proofs.Common.{◌≡◌, drop}
use Rattle.std.specs.List.{list_any}
use Rattle.ir_trees.specs.Syntax.Words.{clause_tree}
use Rattle.candidate_assembly.specs.Rules.BuiltinRules.{is_of_trait}
use Rattle.candidate_assembly.proofs.trait_goals.bounds_met.is_supertrait.Given as goal

-- none of the clauses before speaks of it
abbrev pub invariant-loop-clause : goal.invariant-loop-clause
invariant-loop-clause l = list_any (λ p. is_of_trait l.of.0 (clause_tree l.cx.trees p).head) l.supers ≡ list_any (λ p. is_of_trait l.of.0 (clause_tree l.cx.trees p).head) (drop l.clause-index l.supers)
