use Rattle.std.proofs.Common.{ap, refl, subst, ◌∙◌, Err}
use Rattle.std.proofs.lemmas.Result.{err_from_is_err_and}
use Rattle.ir_trees.specs.Validity.WellFormed.{IsWellFormedTable}
use Rattle.candidate_assembly.proofs.Lists.AssembledLists.{below-here, first-stops, goal-later, stands-later, typed-later}
use Rattle.candidate_assembly.proofs.Lists.KnownLists.{both-there, env-free, from-nothing, known-chain-stops, known-clause-stops, known-further, list-handed-on}
use Rattle.candidate_assembly.proofs.assembly.assemble.assemble_known.Goals as goal

pub returns-in_err-assemble_alias_bound_candidates : goal.returns-in_err-assemble_alias_bound_candidates
returns-in_err-assemble_alias_bound_candidates g c =
    let E = g.E.EvalCtxt in
    let law = λ (f : g.E.EvalCtxt.Fixed). (g.met.E.EvalCtxt.lawful f).alike_judged_alike in
    let first = c.args.ecx.now in
    let table = subst IsWellFormedTable c.cx.ensures c.recall_well_formed_table.ensures in
    let mid = c.assemble_alias_bound_candidates.new.ecx in
    let xs = c.assemble_alias_bound_candidates.new.candidates.items in
    let z = c.in_err-assemble_alias_bound_candidates.field-0.0 in
    let p = err_from_is_err_and c.from_residual.result c.from_residual.ensures.1 in
    let chained = from-nothing E.fixed E.judge E.state E.probes g.E.Build.context E.stops law g.met.G.GoalKind.laws g.met.G.GoalKind.stays first c.args.env c.args.predicate c.args.from table c.requires.goal mid c.new-candidates.result.items xs _ c.new-candidates.ensures.items c.in_err-assemble_alias_bound_candidates.ensures in
    known-chain-stops E.fixed E.judge E.state E.probes g.E.Build.context E.stops law g.met.G.GoalKind.laws g.met.G.GoalKind.stays first c.args.env c.args.predicate c.args.from table c.requires.goal mid xs z c.from_residual.result (p.1 ∙ ap Err p.2) chained

pub assemble_param_env_candidates-requires-clause-goal : goal.assemble_param_env_candidates-requires-clause-goal
assemble_param_env_candidates-requires-clause-goal g c =
    let law = λ (f : g.E.EvalCtxt.Fixed). (g.met.E.EvalCtxt.lawful f).alike_judged_alike in
    let first = c.args.ecx.now in
    let mid = c.assemble_alias_bound_candidates.new.ecx in
    let table = subst IsWellFormedTable c.cx.ensures c.recall_well_formed_table.ensures in
    let walked = c.in_ok-assemble_alias_bound_candidates.ensures in
    goal-later law g.met.G.GoalKind.stays first mid c.args.env c.args.predicate (record { table = table; goal = c.requires.goal; stands = c.requires.stands }) walked

pub assemble_param_env_candidates-requires-clause-below : goal.assemble_param_env_candidates-requires-clause-below
assemble_param_env_candidates-requires-clause-below g c =
    let law = λ (f : g.E.EvalCtxt.Fixed). (g.met.E.EvalCtxt.lawful f).alike_judged_alike in
    let first = c.args.ecx.now in
    let mid = c.assemble_alias_bound_candidates.new.ecx in
    let table = subst IsWellFormedTable c.cx.ensures c.recall_well_formed_table.ensures in
    let walked = c.in_ok-assemble_alias_bound_candidates.ensures in
    below-here g.G.GoalKind.kind.rules (stands-later law g.met.G.GoalKind.stays first mid c.args.env c.args.predicate (record { table = table; goal = c.requires.goal; stands = c.requires.stands }) walked)

pub assemble_param_env_candidates-requires-clause-free : goal.assemble_param_env_candidates-requires-clause-free
assemble_param_env_candidates-requires-clause-free g c =
    let E = g.E.EvalCtxt in
    let law = λ (f : g.E.EvalCtxt.Fixed). (g.met.E.EvalCtxt.lawful f).alike_judged_alike in
    let first = c.args.ecx.now in
    let mid = c.assemble_alias_bound_candidates.new.ecx in
    let table = subst IsWellFormedTable c.cx.ensures c.recall_well_formed_table.ensures in
    let walked = c.in_ok-assemble_alias_bound_candidates.ensures in
    let ts = (g.E.Build.context mid).trees in
    env-free g.G.GoalKind.kind.rules g.G.GoalKind.kind.seen ts (E.state mid) c.args.env c.args.predicate (g.met.G.GoalKind.env_given ts c.args.env c.args.predicate)
    (stands-later law g.met.G.GoalKind.stays first mid c.args.env c.args.predicate (record { table = table; goal = c.requires.goal; stands = c.requires.stands }) walked)

pub assemble_param_env_candidates-requires-clause-candidates : goal.assemble_param_env_candidates-requires-clause-candidates
assemble_param_env_candidates-requires-clause-candidates g c =
    let walked = c.in_ok-assemble_alias_bound_candidates.ensures in
    walked.told.fits

pub returns-in_err-assemble_param_env_candidates : goal.returns-in_err-assemble_param_env_candidates
returns-in_err-assemble_param_env_candidates g c =
    let E = g.E.EvalCtxt in
    let law = λ (f : g.E.EvalCtxt.Fixed). (g.met.E.EvalCtxt.lawful f).alike_judged_alike in
    let first = c.args.ecx.now in
    let table = subst IsWellFormedTable c.cx.ensures c.recall_well_formed_table.ensures in
    let mid = c.assemble_alias_bound_candidates.new.ecx in
    let xs = c.assemble_alias_bound_candidates.new.candidates.items in
    let chained = from-nothing E.fixed E.judge E.state E.probes g.E.Build.context E.stops law g.met.G.GoalKind.laws g.met.G.GoalKind.stays first c.args.env c.args.predicate c.args.from table c.requires.goal mid c.new-candidates.result.items xs _ c.new-candidates.ensures.items c.in_ok-assemble_alias_bound_candidates.ensures in
    let z = c.in_err-assemble_param_env_candidates.field-0.0 in
    let p = err_from_is_err_and c.from_residual-in_err-assemble_param_env_candidates.result c.from_residual-in_err-assemble_param_env_candidates.ensures.1 in
    known-clause-stops E.fixed E.judge E.state E.probes g.E.Build.context E.stops law g.met.G.GoalKind.laws g.met.G.GoalKind.stays first c.args.env c.args.predicate c.args.from table c.requires.goal mid xs _ chained c.assemble_param_env_candidates.new.ecx z c.from_residual-in_err-assemble_param_env_candidates.result (p.1 ∙ ap Err p.2) c.in_err-assemble_param_env_candidates.ensures

pub assemble_further-requires-clause-goal : goal.assemble_further-requires-clause-goal
assemble_further-requires-clause-goal g c =
    let E = g.E.EvalCtxt in
    let law = λ (f : g.E.EvalCtxt.Fixed). (g.met.E.EvalCtxt.lawful f).alike_judged_alike in
    let first = c.args.ecx.now in
    let mid = c.assemble_alias_bound_candidates.new.ecx in
    let xs = c.assemble_alias_bound_candidates.new.candidates.items in
    let table = subst IsWellFormedTable c.cx.ensures c.recall_well_formed_table.ensures in
    let walked = c.in_ok-assemble_alias_bound_candidates.ensures in
    let next = c.assemble_param_env_candidates.new.ecx in
    let both = both-there E.fixed E.judge E.state E.probes g.E.Build.context E.stops law g.met.G.GoalKind.laws g.met.G.GoalKind.stays first c.args.env c.args.predicate c.args.from table c.requires.goal mid next xs _ _ walked c.in_ok-assemble_param_env_candidates.ensures in
    goal-later law g.met.G.GoalKind.stays first next c.args.env c.args.predicate (record { table = table; goal = c.requires.goal; stands = c.requires.stands }) both

pub assemble_further-requires-clause-typed : goal.assemble_further-requires-clause-typed
assemble_further-requires-clause-typed g c =
    let E = g.E.EvalCtxt in
    let law = λ (f : g.E.EvalCtxt.Fixed). (g.met.E.EvalCtxt.lawful f).alike_judged_alike in
    let first = c.args.ecx.now in
    let mid = c.assemble_alias_bound_candidates.new.ecx in
    let xs = c.assemble_alias_bound_candidates.new.candidates.items in
    let table = subst IsWellFormedTable c.cx.ensures c.recall_well_formed_table.ensures in
    let walked = c.in_ok-assemble_alias_bound_candidates.ensures in
    let next = c.assemble_param_env_candidates.new.ecx in
    let both = both-there E.fixed E.judge E.state E.probes g.E.Build.context E.stops law g.met.G.GoalKind.laws g.met.G.GoalKind.stays first c.args.env c.args.predicate c.args.from table c.requires.goal mid next xs _ _ walked c.in_ok-assemble_param_env_candidates.ensures in
    typed-later law g.met.G.GoalKind.stays first next c.args.env c.args.predicate (record { table = table; goal = c.requires.goal; stands = c.requires.stands }) both c.requires.typed

pub assemble_further-requires-clause-stands : goal.assemble_further-requires-clause-stands
assemble_further-requires-clause-stands g c =
    let E = g.E.EvalCtxt in
    let law = λ (f : g.E.EvalCtxt.Fixed). (g.met.E.EvalCtxt.lawful f).alike_judged_alike in
    let first = c.args.ecx.now in
    let mid = c.assemble_alias_bound_candidates.new.ecx in
    let xs = c.assemble_alias_bound_candidates.new.candidates.items in
    let table = subst IsWellFormedTable c.cx.ensures c.recall_well_formed_table.ensures in
    let walked = c.in_ok-assemble_alias_bound_candidates.ensures in
    let next = c.assemble_param_env_candidates.new.ecx in
    let both = both-there E.fixed E.judge E.state E.probes g.E.Build.context E.stops law g.met.G.GoalKind.laws g.met.G.GoalKind.stays first c.args.env c.args.predicate c.args.from table c.requires.goal mid next xs _ _ walked c.in_ok-assemble_param_env_candidates.ensures in
    stands-later law g.met.G.GoalKind.stays first next c.args.env c.args.predicate (record { table = table; goal = c.requires.goal; stands = c.requires.stands }) both

pub returns-in_err-assemble_further : goal.returns-in_err-assemble_further
returns-in_err-assemble_further g c =
    let E = g.E.EvalCtxt in
    let law = λ (f : g.E.EvalCtxt.Fixed). (g.met.E.EvalCtxt.lawful f).alike_judged_alike in
    let first = c.args.ecx.now in
    let table = subst IsWellFormedTable c.cx.ensures c.recall_well_formed_table.ensures in
    let mid = c.assemble_alias_bound_candidates.new.ecx in
    let xs = c.assemble_alias_bound_candidates.new.candidates.items in
    let chained = from-nothing E.fixed E.judge E.state E.probes g.E.Build.context E.stops law g.met.G.GoalKind.laws g.met.G.GoalKind.stays first c.args.env c.args.predicate c.args.from table c.requires.goal mid c.new-candidates.result.items xs _ c.new-candidates.ensures.items c.in_ok-assemble_alias_bound_candidates.ensures in
    let next = c.assemble_param_env_candidates.new.ecx in
    let ys = c.assemble_param_env_candidates.new.candidates.items in
    let z = c.in_err-assemble_further.field-0.0 in
    let p = err_from_is_err_and c.from_residual-in_err-assemble_further.result c.from_residual-in_err-assemble_further.ensures.1 in
    known-further E.fixed E.judge E.state E.probes g.E.Build.context E.stops law g.met.G.GoalKind.laws g.met.G.GoalKind.stays first c.args.env c.args.predicate c.args.from table c.requires.goal mid xs _ chained next c.assemble_further.new.ecx ys _ c.from_residual-in_err-assemble_further.result c.in_ok-assemble_param_env_candidates.ensures
    (first-stops law next c.assemble_further.new.ecx z c.from_residual-in_err-assemble_further.result (p.1 ∙ ap Err p.2) (λ r. r) c.in_err-assemble_further.ensures)

pub returns : goal.returns
returns g c =
    let E = g.E.EvalCtxt in
    let law = λ (f : g.E.EvalCtxt.Fixed). (g.met.E.EvalCtxt.lawful f).alike_judged_alike in
    let first = c.args.ecx.now in
    let table = subst IsWellFormedTable c.cx.ensures c.recall_well_formed_table.ensures in
    let mid = c.assemble_alias_bound_candidates.new.ecx in
    let xs = c.assemble_alias_bound_candidates.new.candidates.items in
    let chained = from-nothing E.fixed E.judge E.state E.probes g.E.Build.context E.stops law g.met.G.GoalKind.laws g.met.G.GoalKind.stays first c.args.env c.args.predicate c.args.from table c.requires.goal mid c.new-candidates.result.items xs _ c.new-candidates.ensures.items c.in_ok-assemble_alias_bound_candidates.ensures in
    let next = c.assemble_param_env_candidates.new.ecx in
    let ys = c.assemble_param_env_candidates.new.candidates.items in
    known-further E.fixed E.judge E.state E.probes g.E.Build.context E.stops law g.met.G.GoalKind.laws g.met.G.GoalKind.stays first c.args.env c.args.predicate c.args.from table c.requires.goal mid xs _ chained next c.assemble_further.new.ecx ys _ _ c.in_ok-assemble_param_env_candidates.ensures
    (list-handed-on next c.assemble_further.new.ecx c.assemble_further.new.candidates.items _ c.assemble_further.new.candidates refl c.in_ok-assemble_further.ensures)
