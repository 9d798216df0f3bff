use Rattle.std.proofs.Common.{ap, subst, sym, ◌∙◌, Err}
use Rattle.std.proofs.lemmas.Result.{err_from_is_err_and}
use Rattle.ir_trees.specs.Validity.WellFormed.{IsWellFormedTable}
use Rattle.candidate_eval.specs.declared.eval.context.ProbeKind.TheVariants.{Kept}
use Rattle.candidate_eval.specs.Judges.States.{State}
use Rattle.candidate_eval.specs.Interface.Accounts as question
use Rattle.candidate_assembly.specs.Goals.Standing.{GoalIsValid}
use Rattle.candidate_assembly.proofs.Aliases.AliasChains.{list-but}
use Rattle.candidate_assembly.proofs.Aliases.AliasWalks.{chain-listed, list-not-begun, nothing-at-end}
use Rattle.candidate_assembly.proofs.Objects.ObjectJudging.{self-kept}
use Rattle.candidate_assembly.proofs.Calls.Keeping.{goal-kept}
use Rattle.candidate_assembly.proofs.Lists.Listing.{candidates-kept}
use Rattle.candidate_assembly.proofs.assembly.alias_chain.assemble_alias_bound_candidates.Goals as goal

pub returns-in_err-probe : goal.returns-in_err-probe
returns-in_err-probe g c =
    let why = c.in_err-probe.ensures in
    let p = err_from_is_err_and c.from_residual.result c.from_residual.ensures.1 in
    list-but c.args.ecx.now c.begin_probe.new.self (g.E.EvalCtxt.state c.args.ecx.now) c.from_residual.result (nothing-at-end c.from_residual.result c.in_err-probe.field-0.0 (p.1 ∙ ap Err p.2))
    (list-not-begun g.met.E.EvalCtxt.stops_itself (λ f. (g.met.E.EvalCtxt.lawful f).alike_judged_alike) c.args.ecx.now c.begin_probe.new.self (question.begin_probe Kept) c.from_residual.result c.in_err-probe.field-0.0 (p.1 ∙ ap Err p.2) why.fixed why.grows why.faults why.stopped why.cause)

pub walk_chain-answer-requires-clause-goal : goal.walk_chain-answer-requires-clause-goal
walk_chain-answer-requires-clause-goal g c =
    let grows = c.begin_probe.ensures.grows in
    goal-kept grows (g.met.G.GoalKind.stays (g.E.Build.context c.args.ecx.now) (g.E.Build.context c.begin_probe.new.self) c.args.env c.args.predicate grows c.requires.goal) c.requires.goal

pub walk_chain-answer-requires-clause-stands : goal.walk_chain-answer-requires-clause-stands
walk_chain-answer-requires-clause-stands g c =
    let K = g.G.GoalKind in
    let E = g.E.EvalCtxt in
    let old = g.E.Build.context c.args.ecx.now in
    let began = g.E.Build.context c.begin_probe.new.self in
    let says = g.met.G.GoalKind.stays old began c.args.env c.args.predicate c.begin_probe.ensures.grows c.requires.goal in
    subst (λ (S : State). GoalIsValid K.kind.rules S (K.kind.seen began.trees c.args.env c.args.predicate)) (sym c.in_ok-probe.ensures.ok.0) (subst (λ x. GoalIsValid K.kind.rules (E.state c.args.ecx.now) x) (sym says.seen) c.requires.stands)

pub walk_chain-answer-requires-clause-candidates : goal.walk_chain-answer-requires-clause-candidates
walk_chain-answer-requires-clause-candidates g c =
    (candidates-kept (g.E.Build.context c.args.ecx.now) (g.E.Build.context c.begin_probe.new.self) c.args.candidates.now.items c.begin_probe.ensures.grows c.requires.candidates).0

pub returns : goal.returns
returns g c =
    let began = c.in_ok-probe.ensures in
    let ran = c.walk_chain-answer in
    let end = c.end_probe-usages.ensures in
    let says = g.met.G.GoalKind.stays (g.E.Build.context c.args.ecx.now) (g.E.Build.context c.begin_probe.new.self) c.args.env c.args.predicate began.grows c.requires.goal in
    chain-listed c.args.ecx.now c.begin_probe.new.self ran.new.ecx c.end_probe-usages.new.self c.args.env c.args.predicate c.args.candidates.now.items ran.new.candidates.items ran.result
    (subst IsWellFormedTable c.cx.ensures c.recall_well_formed_table.ensures) says.seen (self-kept g.G.GoalKind.kind.rules says) c.requires.candidates began.fixed began.ok.0 began.ok.1 began.grows began.faults ran.ensures end.fixed end.grows end.faults end.left end.closed
