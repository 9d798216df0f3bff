use Rattle.std.proofs.Common.{ap, ◌∙◌, subst}
use Rattle.std.proofs.lemmas.Result.{err_from_is_err_and}
use Rattle.ir_trees.specs.Declarations.Context.{Context}
use Rattle.ir_trees.specs.Validity.WellFormed.{IsWellFormedTable}
use Rattle.candidate_eval.specs.Outcomes.ResponseTrees.{candidates_of}
use Rattle.candidate_assembly.specs.Answers.Preference.{mode_of}
use Rattle.candidate_assembly.specs.Goals.TraitGoals.{trait_goal}
use Rattle.candidate_assembly.specs.Laws.Given.{IsCounted}
use Rattle.candidate_assembly.proofs.Sense.SenseGranted.{computes-granted}
use Rattle.candidate_assembly.proofs.Refusals.CoherentRefusals.{computes-refused}
use Rattle.candidate_assembly.proofs.Refusals.KnownImpls.{computes-known}
use Rattle.candidate_assembly.proofs.Calls.Causes.{answered-stop}
use Rattle.candidate_assembly.proofs.Answers.TraitAnswers.{computes-merged, computes-stopped}
use Rattle.candidate_assembly.proofs.trait_goals.compute.compute_trait_goal.Goals as goal

pub returns-in_err-candidates-clause-computes : goal.returns-in_err-candidates-clause-computes
returns-in_err-candidates-clause-computes g c =
    computes-stopped c.args.ecx.now c.assemble_and_evaluate_candidates.new.ecx (trait_goal (g.E.Build.context c.args.ecx.now).trees c.args.env c.args.predicate) c.in_err-candidates.field-0.0 c.from_residual.result
    (answered-stop c.from_residual.result c.in_err-candidates.field-0.0 (err_from_is_err_and c.from_residual.result c.from_residual.ensures.1)) c.in_err-candidates.ensures.assembled

pub returns-clause-computes : goal.returns-clause-computes
returns-clause-computes g c =
    let mid = c.assemble_and_evaluate_candidates.new.ecx in
    let list = c.in_ok-candidates.ensures.assembled in
    computes-merged g.met.E.EvalCtxt.stops_itself (λ f. (g.met.E.EvalCtxt.lawful f).alike_judged_alike) c.args.ecx.now mid c.merge_trait_candidates.new.ecx (trait_goal (g.E.Build.context c.args.ecx.now).trees c.args.env c.args.predicate)
    (candidates_of (g.E.Build.context mid).trees c.in_ok-candidates.candidates.items) c.compute-mode.result c.merge_trait_candidates.result list.kept list.told.ok
    (c.compute-mode.ensures ∙ ap (λ (x : Context). mode_of x c.args.predicate.trait_ref.def_id.0) c.cx-2.ensures) c.merge_trait_candidates.ensures.proves

pub returns-in_err-candidates-clause-proved : goal.returns-in_err-candidates-clause-proved
returns-in_err-candidates-clause-proved g c =
    computes-granted g.met.E.EvalCtxt.lawful c.args.ecx.now c.assemble_and_evaluate_candidates.new.ecx (trait_goal (g.E.Build.context c.args.ecx.now).trees c.args.env c.args.predicate) c.from_residual.result
    (subst IsWellFormedTable c.cx.ensures c.recall_declared.ensures.well_formed) (subst IsCounted c.cx.ensures c.recall_declared.ensures.counted) (returns-in_err-candidates-clause-computes g c)

pub returns-clause-proved : goal.returns-clause-proved
returns-clause-proved g c =
    computes-granted g.met.E.EvalCtxt.lawful c.args.ecx.now c.merge_trait_candidates.new.ecx (trait_goal (g.E.Build.context c.args.ecx.now).trees c.args.env c.args.predicate) c.merge_trait_candidates.result
    (subst IsWellFormedTable c.cx.ensures c.recall_declared.ensures.well_formed) (subst IsCounted c.cx.ensures c.recall_declared.ensures.counted) (returns-clause-computes g c)

pub returns-in_err-candidates-clause-refused : goal.returns-in_err-candidates-clause-refused
returns-in_err-candidates-clause-refused g c =
    computes-refused g.met.E.EvalCtxt.lawful c.args.ecx.now c.assemble_and_evaluate_candidates.new.ecx c.args.env c.args.predicate c.from_residual.result
    (g.met.E.EvalCtxt.declared c.args.ecx.now).0 (subst IsWellFormedTable c.cx.ensures c.recall_declared.ensures.well_formed) c.requires.goal (returns-in_err-candidates-clause-computes g c)

pub returns-clause-refused : goal.returns-clause-refused
returns-clause-refused g c =
    computes-refused g.met.E.EvalCtxt.lawful c.args.ecx.now c.merge_trait_candidates.new.ecx c.args.env c.args.predicate c.merge_trait_candidates.result
    (g.met.E.EvalCtxt.declared c.args.ecx.now).0 (subst IsWellFormedTable c.cx.ensures c.recall_declared.ensures.well_formed) c.requires.goal (returns-clause-computes g c)

pub returns-in_err-candidates-clause-impls : goal.returns-in_err-candidates-clause-impls
returns-in_err-candidates-clause-impls g c =
    computes-known g.met.E.EvalCtxt.lawful c.args.ecx.now c.assemble_and_evaluate_candidates.new.ecx c.args.env c.args.predicate c.from_residual.result
    (subst IsWellFormedTable c.cx.ensures c.recall_declared.ensures.well_formed) c.requires.goal c.requires.stands (returns-in_err-candidates-clause-computes g c)

pub returns-clause-impls : goal.returns-clause-impls
returns-clause-impls g c =
    computes-known g.met.E.EvalCtxt.lawful c.args.ecx.now c.merge_trait_candidates.new.ecx c.args.env c.args.predicate c.merge_trait_candidates.result
    (subst IsWellFormedTable c.cx.ensures c.recall_declared.ensures.well_formed) c.requires.goal c.requires.stands (returns-clause-computes g c)
