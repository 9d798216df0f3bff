use Rattle.std.proofs.Common.{ap, subst, sym, ◌∙◌, Err}
use Rattle.std.proofs.lemmas.Result.{err_from_is_err_and}
use Rattle.ir_trees.specs.Validity.WellFormed.{IsWellFormedTable}
use Rattle.candidate_eval.specs.Outcomes.ResponseTrees.{candidates_of}
use Rattle.candidate_assembly.specs.Answers.Assembled.{has_where_bound}
use Rattle.candidate_assembly.proofs.Aliases.AliasChains.{told-as}
use Rattle.candidate_assembly.proofs.Lists.AssembledLists.{clause-serves, first-stops, goal-later, language-stops, list-goes-on, moves-on, nothing-added, objects-alone, stands-later, typed-later, unsizing-after}
use Rattle.candidate_assembly.proofs.assembly.assemble.assemble_further.Goals as goal

pub returns-in_err-assemble_language_candidates-in-All : goal.returns-in_err-assemble_language_candidates-in-All
returns-in_err-assemble_language_candidates-in-All g c =
    let first = c.args.ecx.now in
    let z = c.in_err-assemble_language_candidates-in-All.field-0.0 in
    let p = err_from_is_err_and c.from_residual.result c.from_residual.ensures.1 in
    first-stops (λ f. (g.met.E.EvalCtxt.lawful f).alike_judged_alike) first c.assemble_language_candidates.new.ecx z c.from_residual.result (p.1 ∙ ap Err p.2)
    (language-stops (candidates_of (g.E.Build.context first).trees c.args.candidates.now.items) c.args.from z c.in-All.is) c.in_err-assemble_language_candidates-in-All.ensures

pub assemble_unsizing-requires-clause-goal : goal.assemble_unsizing-requires-clause-goal
assemble_unsizing-requires-clause-goal g c =
    goal-later (λ f. (g.met.E.EvalCtxt.lawful f).alike_judged_alike) g.met.G.GoalKind.stays c.args.ecx.now c.assemble_language_candidates.new.ecx c.args.env c.args.predicate
    (record { table = subst IsWellFormedTable c.cx.ensures c.recall_well_formed_table.ensures; goal = c.requires.goal; stands = c.requires.stands }) c.in_ok-assemble_language_candidates-in-All.ensures

pub assemble_unsizing-requires-clause-typed : goal.assemble_unsizing-requires-clause-typed
assemble_unsizing-requires-clause-typed g c =
    typed-later (λ f. (g.met.E.EvalCtxt.lawful f).alike_judged_alike) g.met.G.GoalKind.stays c.args.ecx.now c.assemble_language_candidates.new.ecx c.args.env c.args.predicate
    (record { table = subst IsWellFormedTable c.cx.ensures c.recall_well_formed_table.ensures; goal = c.requires.goal; stands = c.requires.stands }) c.in_ok-assemble_language_candidates-in-All.ensures c.requires.typed

pub assemble_unsizing-requires-clause-stands : goal.assemble_unsizing-requires-clause-stands
assemble_unsizing-requires-clause-stands g c =
    stands-later (λ f. (g.met.E.EvalCtxt.lawful f).alike_judged_alike) g.met.G.GoalKind.stays c.args.ecx.now c.assemble_language_candidates.new.ecx c.args.env c.args.predicate
    (record { table = subst IsWellFormedTable c.cx.ensures c.recall_well_formed_table.ensures; goal = c.requires.goal; stands = c.requires.stands }) c.in_ok-assemble_language_candidates-in-All.ensures

pub returns-in_ok-assemble_language_candidates-in-All : goal.returns-in_ok-assemble_language_candidates-in-All
returns-in_ok-assemble_language_candidates-in-All g c =
    let E = g.E.EvalCtxt in
    let law = λ (f : g.E.EvalCtxt.Fixed). (g.met.E.EvalCtxt.lawful f).alike_judged_alike in
    let first = c.args.ecx.now in
    let mid = c.assemble_language_candidates.new.ecx in
    let old = g.E.Build.context first in
    let done = c.in_ok-assemble_language_candidates-in-All.ensures in
    let m = moves-on law g.met.G.GoalKind.stays first mid c.args.env c.args.predicate
    (record { table = subst IsWellFormedTable c.cx.ensures c.recall_well_formed_table.ensures; goal = c.requires.goal; stands = c.requires.stands }) done g.met.G.GoalKind.laws in
    let xs = c.assemble_language_candidates.new.candidates.items in
    list-goes-on law first mid c.assemble_unsizing.new.ecx xs _ c.assemble_unsizing.result done
    (unsizing-after g.met.G.GoalKind.laws m (E.judge (E.fixed mid)) (ap E.judge done.kept.fixed_same) (candidates_of old.trees c.args.candidates.now.items) xs c.args.from c.in-All.is done.told.ok) c.assemble_unsizing.ensures

pub returns-then-has_where_bound : goal.returns-then-has_where_bound
returns-then-has_where_bound g c =
    let first = c.args.ecx.now in
    let ts = (g.E.Build.context first).trees in
    let before = c.args.candidates.now.items in
    let has = ap (λ xs. has_where_bound (candidates_of ts xs)) (sym c.as_slice.ensures.value) ∙ (sym (c.has_where_bound.ensures ts) ∙ c.if-has_where_bound.true) in
    nothing-added (λ f. (g.met.E.EvalCtxt.lawful f).alike_judged_alike) first before tt c.requires.candidates (clause-serves (candidates_of ts before) c.args.from c.in-EnvAndBounds.is has)

pub returns-else-has_where_bound : goal.returns-else-has_where_bound
returns-else-has_where_bound g c =
    let first = c.args.ecx.now in
    let ts = (g.E.Build.context first).trees in
    let before = c.args.candidates.now.items in
    let has = ap (λ xs. has_where_bound (candidates_of ts xs)) (sym c.as_slice.ensures.value) ∙ (sym (c.has_where_bound.ensures ts) ∙ c.if-has_where_bound.false) in
    told-as first c.assemble_object_bound_candidates.new.ecx (g.E.EvalCtxt.state first) c.assemble_object_bound_candidates.result (objects-alone before c.args.from c.in-EnvAndBounds.is has) c.assemble_object_bound_candidates.ensures
