use Rattle.candidate_assembly.proofs.Aliases.AliasWalks.{ChainSoFar}
use Rattle.candidate_assembly.proofs.assembly.alias_chain.walk_chain.Given as goal

-- what is left of the chain comes to what the whole comes to
abbrev pub invariant-loop-alias : goal.invariant-loop-alias
invariant-loop-alias g l =
    let E = g.E.EvalCtxt in
    let K = g.G.GoalKind in
    ChainSoFar E.fixed E.judge E.state E.probes g.E.Build.context K.kind.rules K.kind.bounds K.kind.arguments K.kind.types K.kind.seen l.fn.env l.fn.predicate l.fn.ecx l.ecx l.fn.candidates.items l.candidates.items l.ty l.kind l.left

-- one alias less is left each time
abbrev pub decreases-loop-alias : goal.decreases-loop-alias
decreases-loop-alias g l = l.left
