use Rattle.std.proofs.Common.{◌≡◌, List, map, take}
use Rattle.ir_trees.specs.declared.ir.kinds.Clause.{Clause}
use Rattle.ir_trees.specs.Instantiation.Folding.{substituted_tree}
use Rattle.ir_trees.specs.Syntax.Trees.{Tree}
use Rattle.ir_trees.specs.Syntax.Words.{ClauseListFits, args_forest, clause_tree}
use Rattle.candidate_assembly.specs.Rules.AliasBounds.{bounds_of_kind}
use Rattle.candidate_assembly.proofs.Aliases.BoundRules.{bound_rule}
use Rattle.candidate_assembly.proofs.Lists.Listing.{ListedSoFar}
use Rattle.candidate_assembly.proofs.assembly.alias_bounds.consider_alias_bounds.Given as goal

-- the candidates by the bounds before were listed, and all are still the alias's
abbrev pub invariant-loop-clause : goal.invariant-loop-clause
invariant-loop-clause g l =
    let E = g.E.EvalCtxt in
    let G = g.G.GoalKind in
    let old = g.E.Build.context l.fn.ecx in
    let now = g.E.Build.context l.ecx in
    let bounds : List Tree = map (λ (w : Clause). substituted_tree (args_forest old.trees l.fn.alias.args) (clause_tree old.trees w)) (bounds_of_kind old l.fn.kind l.fn.alias.id.0) in
    ListedSoFar E.fixed E.judge E.state E.probes g.E.Build.context l.fn.ecx l.ecx l.fn.candidates.items l.candidates.items
    (map (bound_rule G.kind.rules old (G.kind.seen old.trees l.fn.env l.fn.predicate) l.fn.kind) (take l.clause-index bounds))
    × ClauseListFits now.trees l.clause-items × (map (clause_tree now.trees) l.clause-items ≡ bounds)
