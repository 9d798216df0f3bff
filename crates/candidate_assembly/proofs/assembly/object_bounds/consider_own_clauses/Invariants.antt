use Rattle.std.proofs.Common.{map}
use Rattle.candidate_assembly.specs.Calls.ObjectCalls.{own_clause_of}
use Rattle.candidate_assembly.proofs.Objects.ObjectLists.{ObjectsSoFar}
use Rattle.candidate_assembly.proofs.assembly.object_bounds.consider_own_clauses.Given as goal

-- the candidates by the clauses before were listed
abbrev pub invariant-loop-clause : goal.invariant-loop-clause
invariant-loop-clause g l =
    let E = g.E.EvalCtxt in
    let K = g.G.GoalKind in
    let old = g.E.Build.context l.fn.ecx in
    ObjectsSoFar E.fixed E.judge E.state E.probes g.E.Build.context K.kind.rules l.fn.ecx l.ecx (K.kind.seen old.trees l.fn.env l.fn.predicate) l.fn.candidates.items l.candidates.items (map (own_clause_of old.trees) l.fn.clauses) l.clause-index
