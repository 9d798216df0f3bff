use Rattle.std.proofs.Common.{refl, sym, ap, subst, ◌∙◌, Err}
use Rattle.ir_trees.specs.Validity.WellFormed.{IsWellFormedTable}
use Rattle.ir_trees.specs.Declarations.Worlds.{Reference}
use Rattle.candidate_eval.specs.Builtins.Callable.{is_unknown}
use Rattle.candidate_eval.specs.Dynamic.ObjectRequirements.{first_tree}
use Rattle.candidate_eval.specs.declared.eval.refusal.NoSolutionOrStop.{NoSolutionOrStop}
use Rattle.candidate_assembly.specs.Answers.Assembled.{is_coherence}
use Rattle.candidate_assembly.specs.Answers.Telling.{ConsidersSome}
use Rattle.candidate_assembly.specs.Rules.Unknowable.{UnknowableJudged}
use Rattle.candidate_assembly.specs.Goals.Standing.{GoalIsValid}
use Rattle.candidate_assembly.proofs.Lists.AssembledSteps.{alone-listed, known-listed, outside-listed, unknowable-stopped}
use Rattle.candidate_assembly.proofs.Calls.Keeping.{goal-kept}
use Rattle.candidate_assembly.proofs.Goals.Standing.{stands-alike}
use Rattle.candidate_assembly.proofs.assembly.candidates.assemble_resolved.Goals as goal

pub returns-then-not-is_coherence : goal.returns-then-not-is_coherence
returns-then-not-is_coherence g c =
    outside-listed (λ f. (g.met.E.EvalCtxt.lawful f).alike_judged_alike) c.args.ecx.now c.assemble_known.new.ecx c.args.env c.args.predicate c.args.from c.assemble_known.result
    (subst IsWellFormedTable c.cx.ensures c.recall_well_formed_table.ensures) (sym (ap is_coherence c.typing_mode.ensures) ∙ (sym c.is_coherence.ensures ∙ c.if-not-is_coherence.true)) c.requires.stands c.assemble_known.ensures

pub assemble_known-requires-in-Err-NoSolution-clause-goal : goal.assemble_known-requires-in-Err-NoSolution-clause-goal
assemble_known-requires-in-Err-NoSolution-clause-goal g c =
    let grows = c.consider_coherence_unknowable_candidate.ensures.kept.grows in
    goal-kept grows (g.met.G.GoalKind.stays (g.E.Build.context c.args.ecx.now) (g.E.Build.context c.consider_coherence_unknowable_candidate.new.ecx) c.args.env c.args.predicate grows c.requires.goal) c.requires.goal

pub assemble_known-requires-in-Err-NoSolution-clause-typed : goal.assemble_known-requires-in-Err-NoSolution-clause-typed
assemble_known-requires-in-Err-NoSolution-clause-typed g c =
    let K = g.G.GoalKind in
    let grows = c.consider_coherence_unknowable_candidate.ensures.kept.grows in
    let says = g.met.G.GoalKind.stays (g.E.Build.context c.args.ecx.now) (g.E.Build.context c.consider_coherence_unknowable_candidate.new.ecx) c.args.env c.args.predicate grows c.requires.goal in
    ap (λ (r : Reference). is_unknown (first_tree r.arguments).head) (ap (K.kind.rules.reference_of (g.E.Build.context c.consider_coherence_unknowable_candidate.new.ecx)) says.seen ∙ says.reference) ∙ c.requires.typed

pub assemble_known-requires-in-Err-NoSolution-clause-stands : goal.assemble_known-requires-in-Err-NoSolution-clause-stands
assemble_known-requires-in-Err-NoSolution-clause-stands g c =
    let K = g.G.GoalKind in
    let E = g.E.EvalCtxt in
    let old = c.args.ecx.now in
    let mid = c.consider_coherence_unknowable_candidate.new.ecx in
    let h = c.consider_coherence_unknowable_candidate.ensures in
    let says = g.met.G.GoalKind.stays (g.E.Build.context old) (g.E.Build.context mid) c.args.env c.args.predicate h.kept.grows c.requires.goal in
    let d = K.kind.seen (g.E.Build.context old).trees c.args.env c.args.predicate in
    subst (λ x. GoalIsValid K.kind.rules (E.state mid) x) (sym says.seen) (stands-alike (E.judge (E.fixed old)) (g.met.E.EvalCtxt.lawful (E.fixed old)).alike_judged_alike (E.state old) (E.state mid) (K.kind.rules.env_of d) (K.kind.rules.trees_of d) h.alike c.requires.stands)

pub returns-in-Ok : goal.returns-in-Ok
returns-in-Ok g c =
    alone-listed (λ f. (g.met.E.EvalCtxt.lawful f).alike_judged_alike) g.met.G.GoalKind.laws c.args.ecx.now c.consider_coherence_unknowable_candidate.new.ecx c.args.env c.args.predicate c.args.from
    (subst IsWellFormedTable c.cx.ensures c.recall_well_formed_table.ensures) c.requires.goal (sym (ap is_coherence c.typing_mode.ensures) ∙ (sym c.is_coherence.ensures ∙ c.if-not-is_coherence.false)) c.in-Ok.candidate c.alone.result c.in-Ok.ensures c.alone.ensures.is c.alone.ensures.cause

pub returns-in-Err-NoSolution : goal.returns-in-Err-NoSolution
returns-in-Err-NoSolution g c =
    let E = g.E.EvalCtxt in
    let K = g.G.GoalKind in
    let seen = K.kind.seen (g.E.Build.context c.args.ecx.now).trees c.args.env c.args.predicate in
    let h = c.in-Err-NoSolution.ensures in
    let says = g.met.G.GoalKind.stays (g.E.Build.context c.args.ecx.now) (g.E.Build.context c.consider_coherence_unknowable_candidate.new.ecx) c.args.env c.args.predicate h.kept.grows c.requires.goal in
    known-listed (λ f. (g.met.E.EvalCtxt.lawful f).alike_judged_alike) g.met.G.GoalKind.laws c.args.ecx.now c.consider_coherence_unknowable_candidate.new.ecx c.args.env c.args.predicate c.args.from
    (subst IsWellFormedTable c.cx.ensures c.recall_well_formed_table.ensures) c.requires.goal (sym (ap is_coherence c.typing_mode.ensures) ∙ (sym c.is_coherence.ensures ∙ c.if-not-is_coherence.false)) c.assemble_known-in-Err-NoSolution.new.ecx c.assemble_known-in-Err-NoSolution.result (subst (λ (e : NoSolutionOrStop). ConsidersSome E.fixed E.judge E.state E.probes g.E.Build.context E.stops c.args.ecx.now c.consider_coherence_unknowable_candidate.new.ecx (UnknowableJudged (E.judge (E.fixed c.args.ecx.now)) (g.E.Build.context c.args.ecx.now) (E.state c.args.ecx.now) (K.kind.rules.env_of seen) (K.kind.rules.reference_of (g.E.Build.context c.args.ecx.now) seen)) (Err e)) c.in-Err-NoSolution.field-0-is h) says.seen c.requires.stands c.assemble_known-in-Err-NoSolution.ensures

pub returns-in-Err-Stop : goal.returns-in-Err-Stop
returns-in-Err-Stop g c =
    let E = g.E.EvalCtxt in
    let K = g.G.GoalKind in
    let seen = K.kind.seen (g.E.Build.context c.args.ecx.now).trees c.args.env c.args.predicate in
    unknowable-stopped (λ f. (g.met.E.EvalCtxt.lawful f).alike_judged_alike) g.met.G.GoalKind.laws c.args.ecx.now c.consider_coherence_unknowable_candidate.new.ecx c.args.env c.args.predicate c.args.from
    (subst IsWellFormedTable c.cx.ensures c.recall_well_formed_table.ensures) c.requires.goal (sym (ap is_coherence c.typing_mode.ensures) ∙ (sym c.is_coherence.ensures ∙ c.if-not-is_coherence.false)) c.in-Err-Stop.stop _ refl (subst (λ (e : NoSolutionOrStop). ConsidersSome E.fixed E.judge E.state E.probes g.E.Build.context E.stops c.args.ecx.now c.consider_coherence_unknowable_candidate.new.ecx (UnknowableJudged (E.judge (E.fixed c.args.ecx.now)) (g.E.Build.context c.args.ecx.now) (E.state c.args.ecx.now) (K.kind.rules.env_of seen) (K.kind.rules.reference_of (g.E.Build.context c.args.ecx.now) seen)) (Err e)) c.in-Err-Stop.field-0-is c.in-Err-Stop.ensures)
