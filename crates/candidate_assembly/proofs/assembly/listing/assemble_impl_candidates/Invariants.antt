use Rattle.std.proofs.Common.{map, take}
use Rattle.candidate_assembly.specs.Answers.Assembled.{impl_rule}
use Rattle.candidate_assembly.proofs.Lists.Listing.{ListedSoFar}
use Rattle.candidate_assembly.proofs.assembly.listing.assemble_impl_candidates.Given as goal

-- the candidates by the impls before were listed
abbrev pub invariant-loop-of : goal.invariant-loop-of
invariant-loop-of g l =
    let E = g.E.EvalCtxt in
    let K = g.G.GoalKind in
    let old = g.E.Build.context l.fn.ecx in
    ListedSoFar E.fixed E.judge E.state E.probes g.E.Build.context l.fn.ecx l.ecx l.fn.candidates.items l.candidates.items
    (map (impl_rule K.kind.rules old (E.state l.fn.ecx).mode (K.kind.seen old.trees l.fn.env l.fn.predicate)) (take l.of-index l.of-items))
