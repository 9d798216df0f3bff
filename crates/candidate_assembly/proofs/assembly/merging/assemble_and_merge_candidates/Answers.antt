use Rattle.std.proofs.Common.{Option, subst, sym}
use Rattle.candidate_eval.specs.Judges.States.{Env}
use Rattle.candidate_assembly.specs.declared.assembly.merging.TraitGoalProvenVia.{TraitGoalProvenVia}
use Rattle.candidate_assembly.specs.Answers.MergedKinds.{IsAnsweredBy, IsUnproved}
use Rattle.candidate_assembly.proofs.Answers.MergedKinds.{any-kept}
use Rattle.candidate_assembly.proofs.assembly.merging.assemble_and_merge_candidates.Goals as goal

pub returns-in-None-clause-kept : goal.returns-in-None-clause-kept
returns-in-None-clause-kept g c = any-kept c.respond_unproved.ensures.considers.kept

pub returns-in-None-clause-answered : goal.returns-in-None-clause-answered
returns-in-None-clause-answered g c =
    let E = g.E.EvalCtxt in
    let K = g.G.GoalKind in
    let old = c.args.ecx.now in
    let ts = (g.E.Build.context old).trees in
    let ran = c.respond_unproved in
    subst (λ (v : Option TraitGoalProvenVia). IsAnsweredBy E.fixed E.judge E.state E.probes g.E.Build.context E.stops g.A.FnOnce c.args.inject_forced_ambiguity_candidate
    g.F.FnOnce c.args.inject_normalize_to_rigid_candidate K.kind.rules K.kind.bounds old (K.kind.seen ts c.args.env c.args.predicate) v ran.result ran.new.ecx) (sym c.in-None.is)
    (subst (λ (e : Env). IsUnproved E.fixed E.judge E.state E.probes g.E.Build.context E.stops old ran.new.ecx e ran.result) (sym (g.met.G.GoalKind.env_given ts c.args.env c.args.predicate)) ran.ensures)

pub returns-in-Some-Misc-clause-kept : goal.returns-in-Some-Misc-clause-kept
returns-in-Some-Misc-clause-kept g c = c.answer_by_all.ensures.kept
