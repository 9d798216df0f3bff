use Rattle.std.proofs.lemmas.Result.{err_from_is_err_and}
use Rattle.candidate_eval.specs.Outcomes.ResponseTrees.{candidates_of}
use Rattle.candidate_assembly.specs.declared.assembly.opaques.AssembleCandidatesFrom.TheVariants.{EnvAndBounds}
use Rattle.candidate_assembly.specs.Answers.MergedKinds.{AfterAssumptions}
use Rattle.candidate_assembly.specs.Answers.MergedKinds.AfterList.{assembled}
use Rattle.candidate_assembly.proofs.Answers.TraitAnswers.{left-alike}
use Rattle.candidate_assembly.proofs.Calls.Causes.{answered-stop}
use Rattle.candidate_assembly.proofs.Answers.MergedKinds.{any-kept, any-then, keeps-later, list-stopped}
use Rattle.candidate_assembly.proofs.assembly.merging.answer_by_assumptions.Goals as goal

pub returns-in_err-candidates-clause-kept : goal.returns-in_err-candidates-clause-kept
returns-in_err-candidates-clause-kept g c = any-kept c.in_err-candidates.ensures.assembled.kept

pub returns-in_err-candidates-clause-answered : goal.returns-in_err-candidates-clause-answered
returns-in_err-candidates-clause-answered g c =
    let E = g.E.EvalCtxt in
    list-stopped c.args.ecx.now c.assemble_and_evaluate_candidates.new.ecx (g.G.GoalKind.kind.seen (g.E.Build.context c.args.ecx.now).trees c.args.env c.args.predicate) EnvAndBounds
    (AfterAssumptions E.fixed E.judge E.state E.probes g.E.Build.context E.stops g.A.FnOnce c.args.inject_forced_ambiguity_candidate g.F.FnOnce c.args.inject_normalize_to_rigid_candidate)
    c.in_err-candidates.field-0.0 c.from_residual.result
    (answered-stop c.from_residual.result c.in_err-candidates.field-0.0 (err_from_is_err_and c.from_residual.result c.from_residual.ensures.1)) c.in_err-candidates.ensures.assembled

pub respond_by_assumptions-requires-clause-fit : goal.respond_by_assumptions-requires-clause-fit
respond_by_assumptions-requires-clause-fit g c = c.in_ok-candidates.ensures.assembled.told.fits

pub respond_by_assumptions-requires-clause-ambiguity : goal.respond_by_assumptions-requires-clause-ambiguity
respond_by_assumptions-requires-clause-ambiguity g c =
    let list = c.in_ok-candidates.ensures.assembled in
    keeps-later list.kept (left-alike (g.E.EvalCtxt.state c.assemble_and_evaluate_candidates.new.ecx) list.told.ok.assembled list.told.ok.alike) c.requires.ambiguity

pub respond_by_assumptions-requires-clause-rigid : goal.respond_by_assumptions-requires-clause-rigid
respond_by_assumptions-requires-clause-rigid g c =
    let list = c.in_ok-candidates.ensures.assembled in
    keeps-later list.kept (left-alike (g.E.EvalCtxt.state c.assemble_and_evaluate_candidates.new.ecx) list.told.ok.assembled list.told.ok.alike) c.requires.rigid

pub returns-clause-kept : goal.returns-clause-kept
returns-clause-kept g c = any-then c.in_ok-candidates.ensures.assembled.kept c.respond_by_assumptions.ensures.kept

pub returns-clause-answered : goal.returns-clause-answered
returns-clause-answered g c =
    let list = c.in_ok-candidates.ensures.assembled in
    let mid = c.assemble_and_evaluate_candidates.new.ecx in
    assembled {xs = candidates_of (g.E.Build.context mid).trees c.in_ok-candidates.candidates.items} {x = mid} list.kept list.told.ok c.respond_by_assumptions.ensures.after
