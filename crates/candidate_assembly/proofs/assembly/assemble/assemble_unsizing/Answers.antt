use Rattle.std.proofs.Common.{ap, subst, ◌∙◌, Err}
use Rattle.std.proofs.lemmas.Result.{err_from_is_err_and}
use Rattle.ir_trees.specs.Validity.WellFormed.{IsWellFormedTable}
use Rattle.candidate_eval.specs.Outcomes.ResponseTrees.{candidates_of}
use Rattle.candidate_assembly.proofs.Lists.AssembledLists.{first-stops, goal-later, impls-after, list-goes-on, moves-on, stands-later, stops-unsizing}
use Rattle.candidate_assembly.proofs.assembly.assemble.assemble_unsizing.Goals as goal

pub returns-in_err-assemble_unsize_candidates : goal.returns-in_err-assemble_unsize_candidates
returns-in_err-assemble_unsize_candidates g c =
    let first = c.args.ecx.now in
    let z = c.in_err-assemble_unsize_candidates.field-0.0 in
    let p = err_from_is_err_and c.from_residual.result c.from_residual.ensures.1 in
    first-stops (λ f. (g.met.E.EvalCtxt.lawful f).alike_judged_alike) first c.assemble_unsize_candidates.new.ecx z c.from_residual.result (p.1 ∙ ap Err p.2)
    (stops-unsizing (candidates_of (g.E.Build.context first).trees c.args.candidates.now.items) z) c.in_err-assemble_unsize_candidates.ensures

pub assemble_impls_and_objects-requires-clause-goal : goal.assemble_impls_and_objects-requires-clause-goal
assemble_impls_and_objects-requires-clause-goal g c =
    goal-later (λ f. (g.met.E.EvalCtxt.lawful f).alike_judged_alike) g.met.G.GoalKind.stays c.args.ecx.now c.assemble_unsize_candidates.new.ecx c.args.env c.args.predicate
    (record { table = subst IsWellFormedTable c.cx.ensures c.recall_well_formed_table.ensures; goal = c.requires.goal; stands = c.requires.stands }) c.in_ok-assemble_unsize_candidates.ensures

pub assemble_impls_and_objects-requires-clause-stands : goal.assemble_impls_and_objects-requires-clause-stands
assemble_impls_and_objects-requires-clause-stands g c =
    stands-later (λ f. (g.met.E.EvalCtxt.lawful f).alike_judged_alike) g.met.G.GoalKind.stays c.args.ecx.now c.assemble_unsize_candidates.new.ecx c.args.env c.args.predicate
    (record { table = subst IsWellFormedTable c.cx.ensures c.recall_well_formed_table.ensures; goal = c.requires.goal; stands = c.requires.stands }) c.in_ok-assemble_unsize_candidates.ensures

pub returns : goal.returns
returns g c =
    let E = g.E.EvalCtxt in
    let law = λ (f : g.E.EvalCtxt.Fixed). (g.met.E.EvalCtxt.lawful f).alike_judged_alike in
    let first = c.args.ecx.now in
    let mid = c.assemble_unsize_candidates.new.ecx in
    let old = g.E.Build.context first in
    let done = c.in_ok-assemble_unsize_candidates.ensures in
    let m = moves-on law g.met.G.GoalKind.stays first mid c.args.env c.args.predicate
    (record { table = subst IsWellFormedTable c.cx.ensures c.recall_well_formed_table.ensures; goal = c.requires.goal; stands = c.requires.stands }) done g.met.G.GoalKind.laws in
    let xs = c.assemble_unsize_candidates.new.candidates.items in
    list-goes-on law first mid c.assemble_impls_and_objects.new.ecx xs _ c.assemble_impls_and_objects.result done
    (impls-after g.met.G.GoalKind.laws m (E.judge (E.fixed mid)) (ap E.judge done.kept.fixed_same) (candidates_of old.trees c.args.candidates.now.items) xs done.told.ok) c.assemble_impls_and_objects.ensures
