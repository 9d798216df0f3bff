use Rattle.std.proofs.Common.{map, take}
use Rattle.ir_trees.specs.Syntax.Words.{clause_tree}
use Rattle.candidate_assembly.specs.Answers.Assembled.{where_rule}
use Rattle.candidate_assembly.proofs.Lists.Listing.{ListedSoFar}
use Rattle.candidate_assembly.proofs.assembly.listing.assemble_param_env_candidates.Given as goal

-- the candidates by the clauses before were listed
abbrev pub invariant-loop-clause : goal.invariant-loop-clause
invariant-loop-clause g l =
    let E = g.E.EvalCtxt in
    let K = g.G.GoalKind in
    let old = g.E.Build.context l.fn.ecx in
    ListedSoFar E.fixed E.judge E.state E.probes g.E.Build.context l.fn.ecx l.ecx l.fn.candidates.items l.candidates.items
    (map (λ x. where_rule K.kind.rules old (K.kind.seen old.trees l.fn.env l.fn.predicate) (clause_tree old.trees x)) (take l.clause-index l.clause-items))
