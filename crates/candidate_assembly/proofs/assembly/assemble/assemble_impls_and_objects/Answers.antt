use Rattle.std.proofs.Common.{ap, subst, ◌∙◌, Err}
use Rattle.std.proofs.lemmas.Result.{err_from_is_err_and}
use Rattle.ir_trees.specs.Validity.WellFormed.{IsWellFormedTable}
use Rattle.candidate_eval.specs.Outcomes.ResponseTrees.{candidates_of}
use Rattle.candidate_assembly.specs.Answers.Assembled.{left_out}
use Rattle.candidate_assembly.proofs.Lists.AssembledLists.{below-here, first-stops, goal-later, impls-stop, left-out-said, list-goes-on, moves-on, nothing-added, objects-after}
use Rattle.candidate_assembly.proofs.assembly.assemble.assemble_impls_and_objects.Goals as goal

pub returns-then-leaves_out : goal.returns-then-leaves_out
returns-then-leaves_out g c =
    let E = g.E.EvalCtxt in
    let old = g.E.Build.context c.args.ecx.now in
    let before = c.args.candidates.now.items in
    nothing-added (λ f. (g.met.E.EvalCtxt.lawful f).alike_judged_alike) c.args.ecx.now before tt c.requires.candidates
    (left_out (left-out-said c.typing_mode.result (E.state c.args.ecx.now).mode old c.cx-2.result.now before c.as_slice.result.now c.leaves_out.result _ c.typing_mode.ensures c.cx-2.ensures c.as_slice.ensures.value c.leaves_out.ensures c.if-leaves_out.true))

pub assemble_impl_candidates-requires-clause-below : goal.assemble_impl_candidates-requires-clause-below
assemble_impl_candidates-requires-clause-below g c = below-here g.G.GoalKind.kind.rules c.requires.stands

pub returns-in_err-assemble_impl_candidates : goal.returns-in_err-assemble_impl_candidates
returns-in_err-assemble_impl_candidates g c =
    let E = g.E.EvalCtxt in
    let first = c.args.ecx.now in
    let old = g.E.Build.context first in
    let before = c.args.candidates.now.items in
    let z = c.in_err-assemble_impl_candidates.field-0.0 in
    let p = err_from_is_err_and c.from_residual.result c.from_residual.ensures.1 in
    let e = left-out-said c.typing_mode.result (E.state first).mode old c.cx-2.result.now before c.as_slice.result.now c.leaves_out.result _ c.typing_mode.ensures c.cx-2.ensures c.as_slice.ensures.value c.leaves_out.ensures c.if-leaves_out.false in
    first-stops (λ f. (g.met.E.EvalCtxt.lawful f).alike_judged_alike) first c.assemble_impl_candidates.new.ecx z c.from_residual.result (p.1 ∙ ap Err p.2) (impls-stop (candidates_of old.trees before) z e) c.in_err-assemble_impl_candidates.ensures

pub assemble_object_bound_candidates-requires-clause-goal : goal.assemble_object_bound_candidates-requires-clause-goal
assemble_object_bound_candidates-requires-clause-goal g c =
    goal-later (λ f. (g.met.E.EvalCtxt.lawful f).alike_judged_alike) g.met.G.GoalKind.stays c.args.ecx.now c.assemble_impl_candidates.new.ecx c.args.env c.args.predicate
    (record { table = subst IsWellFormedTable c.cx.ensures c.recall_well_formed_table.ensures; goal = c.requires.goal; stands = c.requires.stands }) c.in_ok-assemble_impl_candidates.ensures

pub returns : goal.returns
returns g c =
    let E = g.E.EvalCtxt in
    let law = λ (f : g.E.EvalCtxt.Fixed). (g.met.E.EvalCtxt.lawful f).alike_judged_alike in
    let first = c.args.ecx.now in
    let mid = c.assemble_impl_candidates.new.ecx in
    let old = g.E.Build.context first in
    let before = c.args.candidates.now.items in
    let done = c.in_ok-assemble_impl_candidates.ensures in
    let e = left-out-said c.typing_mode.result (E.state first).mode old c.cx-2.result.now before c.as_slice.result.now c.leaves_out.result _ c.typing_mode.ensures c.cx-2.ensures c.as_slice.ensures.value c.leaves_out.ensures c.if-leaves_out.false in
    let m = moves-on law g.met.G.GoalKind.stays first mid c.args.env c.args.predicate
    (record { table = subst IsWellFormedTable c.cx.ensures c.recall_well_formed_table.ensures; goal = c.requires.goal; stands = c.requires.stands }) done g.met.G.GoalKind.laws in
    let xs = c.assemble_impl_candidates.new.candidates.items in
    list-goes-on law first mid c.assemble_object_bound_candidates.new.ecx xs _ c.assemble_object_bound_candidates.result done
    (objects-after g.met.G.GoalKind.laws m (E.judge (E.fixed mid)) (ap E.judge done.kept.fixed_same) (candidates_of old.trees before) xs e done.told.ok) c.assemble_object_bound_candidates.ensures
