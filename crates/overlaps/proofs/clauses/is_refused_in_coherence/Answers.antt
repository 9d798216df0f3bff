use Rattle.std.proofs.Common.{◌≡◌, true, false, IfOk, sym, subst, ◌∙◌}
use Rattle.std.proofs.lemmas.Result.{IfOk-weaker}
use Rattle.candidate_eval.specs.Derivations.ImplRules.{TraitGoal}
use Rattle.candidate_eval.specs.Judges.States.{State}
use Rattle.candidate_assembly.specs.Answers.CoherentRefusals.{IsPlainGoal}
use Rattle.candidate_assembly.specs.Goals.Standing.{GoalIsValid}
use Rattle.candidate_assembly.specs.Goals.TraitRules.{trait_rules}
use Rattle.ir_trees.specs.Declarations.Context.{Context}
use Rattle.ir_trees.specs.Syntax.Words.{IsArgs, args_forest}
use Rattle.ir_trees.proofs.Growth.Kept.{args-kept, grows-refl, grows-trans}
use Rattle.candidate_eval.proofs.Interface.Accounts.{memory-somehow}
use Rattle.candidate_assembly.proofs.Calls.Keeping.{trait-goal-kept}
use Rattle.overlaps.specs.PartTraits.{HaveVariable, MayRestOnPart, RestsOnPart}
use Rattle.overlaps.specs.Asked.{has_instances, was_answered}
use Rattle.overlaps.proofs.AskedClauses.{both-ok, predicate-run, predicate-undecided}
use Rattle.overlaps.proofs.Refusing.{instances-refused}
use Rattle.overlaps.proofs.Staying.{known-beside, known-computed, known-then, stays-run, stays-same, stays-trans}
use Rattle.overlaps.proofs.Stopping.{asking-stop, later-refl, later-steps, passed-on, step-stop, there}
use Rattle.overlaps.specs.Stopping.{IsOverlapStop, step_computing, step_key, step_run}
use Rattle.candidate_assembly.proofs.Calls.Causes.{so-err}
use Rattle.candidate_assembly.specs.Goals.TraitGoals.{trait_goal}
use Rattle.overlaps.proofs.clauses.is_refused_in_coherence.Goals as goal

pub returns-in_err-run_by-clause-stays : goal.returns-in_err-run_by-clause-stays
returns-in_err-run_by-clause-stays c = known-beside (stays-trans c.may_decide.ensures.stays (stays-trans (stays-same c.may_be_run.ensures.stays c.may_be_run.ensures.table) (stays-run _ _ c.args.effort c.run_by.result c.run_by.ensures.stays c.run_by.ensures.ran c.run_by.ensures.stopped)))

pub is_refused-requires-clause-goal : goal.is_refused-requires-clause-goal
is_refused-requires-clause-goal c =
    let mid = c.may_decide.new.rounds.context in
    let now = c.run_by.new.self.context in
    (trait-goal-kept mid now c.args.env c.args.predicate (stays-trans (stays-same c.may_be_run.ensures.stays c.may_be_run.ensures.table) (stays-run _ _ c.args.effort c.run_by.result c.run_by.ensures.stays c.run_by.ensures.ran c.run_by.ensures.stopped)).grows (c.in_ok-may_decide.ensures.goal c.if-not-branch.false)).0

pub is_refused-requires-clause-stands : goal.is_refused-requires-clause-stands
is_refused-requires-clause-stands c =
    let mid = c.may_decide.new.rounds.context in
    let now = c.run_by.new.self.context in
    let stays = stays-trans (stays-same c.may_be_run.ensures.stays c.may_be_run.ensures.table) (stays-run _ _ c.args.effort c.run_by.result c.run_by.ensures.stays c.run_by.ensures.ran c.run_by.ensures.stopped) in
    let s = sym stays.state_same in
    let g = sym (trait-goal-kept mid now c.args.env c.args.predicate stays.grows (c.in_ok-may_decide.ensures.goal c.if-not-branch.false)).1 in
    subst (λ (q : State × TraitGoal). GoalIsValid trait_rules q.0 q.1) (λ i. (s i, g i)) (c.in_ok-may_decide.ensures.stands c.if-not-branch.false)

pub is_refused-requires-clause-plain : goal.is_refused-requires-clause-plain
is_refused-requires-clause-plain c =
    let mid = c.may_decide.new.rounds.context in
    let now = c.run_by.new.self.context in
    let stays = stays-trans (stays-same c.may_be_run.ensures.stays c.may_be_run.ensures.table) (stays-run _ _ c.args.effort c.run_by.result c.run_by.ensures.stays c.run_by.ensures.ran c.run_by.ensures.stopped) in
    let s = sym stays.state_same in
    let g = sym (trait-goal-kept mid now c.args.env c.args.predicate stays.grows (c.in_ok-may_decide.ensures.goal c.if-not-branch.false)).1 in
    subst (λ (q : State × TraitGoal). IsPlainGoal q.0 q.1) (λ i. (s i, g i)) (c.in_ok-may_decide.ensures.plain c.if-not-branch.false)

pub returns-in_err-is_refused-clause-stays : goal.returns-in_err-is_refused-clause-stays
returns-in_err-is_refused-clause-stays c = known-then (known-beside (stays-trans c.may_decide.ensures.stays (stays-trans (stays-same c.may_be_run.ensures.stays c.may_be_run.ensures.table) (stays-run _ _ c.args.effort c.run_by.result c.run_by.ensures.stays c.run_by.ensures.ran c.run_by.ensures.stopped)))) (known-computed c.is_refused.ensures.kept)

pub returns-then-not-branch-3-clause-stays : goal.returns-then-not-branch-3-clause-stays
returns-then-not-branch-3-clause-stays c = known-then (known-beside (stays-trans c.may_decide.ensures.stays (stays-trans (stays-same c.may_be_run.ensures.stays c.may_be_run.ensures.table) (stays-run _ _ c.args.effort c.run_by.result c.run_by.ensures.stays c.run_by.ensures.ran c.run_by.ensures.stopped)))) (known-computed c.is_refused.ensures.kept)

pub refuses_instances-requires : goal.refuses_instances-requires
refuses_instances-requires c =
    let stays = stays-trans c.may_decide.ensures.stays (stays-trans (stays-same c.may_be_run.ensures.stays c.may_be_run.ensures.table) (stays-run _ _ c.args.effort c.run_by.result c.run_by.ensures.stays c.run_by.ensures.ran c.run_by.ensures.stopped)) in
    let grows = grows-trans _ _ _ stays.grows c.is_refused.ensures.kept.grows in
    subst (λ (x : Context). IsArgs x.trees c.args.predicate.trait_ref.args) (sym c.cx.ensures) (args-kept _ _ c.args.predicate.trait_ref.args grows c.requires.args).0

pub returns-clause-stays : goal.returns-clause-stays
returns-clause-stays c = known-then (known-beside (stays-trans c.may_decide.ensures.stays (stays-trans (stays-same c.may_be_run.ensures.stays c.may_be_run.ensures.table) (stays-run _ _ c.args.effort c.run_by.result c.run_by.ensures.stays c.run_by.ensures.ran c.run_by.ensures.stopped)))) (known-computed c.is_refused.ensures.kept)

pub returns-clause-refused : goal.returns-clause-refused
returns-clause-refused c =
    let p = c.args.predicate.trait_ref in
    let r = c.refuses_instances.result in
    let last = c.is_refused.new.ecx.context in
    let never : IfOk r (λ b. b ≡ true → HaveVariable (args_forest last.trees p.args) → RestsOnPart last p.def_id → ⊥)
    = subst (λ (x : Context). IfOk r (λ b. b ≡ true → HaveVariable (args_forest x.trees p.args) → RestsOnPart x p.def_id → ⊥)) c.cx.ensures c.refuses_instances.ensures.instances in
    IfOk-weaker r _ _
    (λ b h yes. instances-refused c.args.rounds.now c.run_by.new.self c.is_refused.new.ecx c.args.env c.args.predicate (stays-trans c.may_decide.ensures.stays (stays-trans (stays-same c.may_be_run.ensures.stays c.may_be_run.ensures.table) (stays-run _ _ c.args.effort c.run_by.result c.run_by.ensures.stays c.run_by.ensures.ran c.run_by.ensures.stopped)))
    c.is_refused.ensures.kept.grows c.is_refused.ensures.kept.fixed_same c.requires.env c.requires.args c.requires.empty (c.in_ok-is_refused.ensures.refused c.if-not-branch-3.false) (h yes))
    never

pub returns-in_err-may_decide-clause-cause : goal.returns-in_err-may_decide-clause-cause
returns-in_err-may_decide-clause-cause c = passed-on (IsOverlapStop c.args.rounds.now c.may_decide.new.rounds) c.from_residual.result c.in_err-may_decide.field-0.0 c.from_residual.ensures.1 (c.in_err-may_decide.ensures.cause)

pub returns-in_err-may_be_run-clause-cause : goal.returns-in_err-may_be_run-clause-cause
returns-in_err-may_be_run-clause-cause c = passed-on (IsOverlapStop c.args.rounds.now c.may_be_run.new.self) c.from_residual-in_err-may_be_run.result c.in_err-may_be_run.field-0.0 c.from_residual-in_err-may_be_run.ensures.1 (step-stop (later-steps c.may_decide.ensures.stays) (step_key c.args.env c.args.predicate (there c.args.env c.args.predicate (later-steps c.may_decide.ensures.stays) c.requires.env c.requires.args c.may_be_run.ensures.stays.grows.kept) c.in_err-may_be_run.ensures.cause))

pub returns-in_err-run_by-clause-cause : goal.returns-in_err-run_by-clause-cause
returns-in_err-run_by-clause-cause c = passed-on (IsOverlapStop c.args.rounds.now c.run_by.new.self) c.from_residual-in_err-run_by.result c.in_err-run_by.field-0.0 c.from_residual-in_err-run_by.ensures.1 (step-stop (later-steps (stays-trans c.may_decide.ensures.stays (stays-same c.may_be_run.ensures.stays c.may_be_run.ensures.table))) (step_run c.args.env c.args.predicate (there c.args.env c.args.predicate (later-steps (stays-trans c.may_decide.ensures.stays (stays-same c.may_be_run.ensures.stays c.may_be_run.ensures.table))) c.requires.env c.requires.args c.run_by.ensures.stays.grows.kept) c.in_err-run_by.ensures.cause))

pub returns-in_err-is_refused-clause-cause : goal.returns-in_err-is_refused-clause-cause
returns-in_err-is_refused-clause-cause c = passed-on (IsOverlapStop c.args.rounds.now c.is_refused.new.ecx) c.from_residual-in_err-is_refused.result c.in_err-is_refused.field-0.0 c.from_residual-in_err-is_refused.ensures.1 (step-stop (later-steps (stays-trans c.may_decide.ensures.stays (stays-trans (stays-same c.may_be_run.ensures.stays c.may_be_run.ensures.table) (stays-run _ _ c.args.effort c.run_by.result c.run_by.ensures.stays c.run_by.ensures.ran c.run_by.ensures.stopped)))) (step_computing c.args.env c.args.predicate c.is_refused.new.ecx (there c.args.env c.args.predicate (later-steps (stays-trans c.may_decide.ensures.stays (stays-trans (stays-same c.may_be_run.ensures.stays c.may_be_run.ensures.table) (stays-run _ _ c.args.effort c.run_by.result c.run_by.ensures.stays c.run_by.ensures.ran c.run_by.ensures.stopped)))) c.requires.env c.requires.args c.is_refused.ensures.kept.grows.kept) (grows-refl c.is_refused.new.ecx.context).kept c.in_err-is_refused.ensures.cause))

pub returns-clause-cause : goal.returns-clause-cause
returns-clause-cause c = so-err c.refuses_instances.result (λ s k. asking-stop (later-refl c.args.rounds.now) (memory-somehow k)) c.refuses_instances.ensures.cause

pub returns-then-not-branch-clause-asked : goal.returns-then-not-branch-clause-asked
returns-then-not-branch-clause-asked c = λ no.
    predicate-undecided c.args.rounds.now c.may_decide.new.rounds c.args.env c.args.predicate c.args.effort c.may_decide.ensures.table c.requires.env c.requires.args c.requires.empty c.requires.coherence
    (c.in_ok-may_decide.ensures.nothing c.if-not-branch.true c.requires.fit)

pub returns-then-not-branch-2-clause-asked : goal.returns-then-not-branch-2-clause-asked
returns-then-not-branch-2-clause-asked c =
    let yes = c.in_ok-may_be_run.ensures.standing (c.in_ok-may_decide.ensures.stands c.if-not-branch.false) in
    let no = c.if-not-branch-2.true in
    let clash : true ≡ false = sym yes ∙ no in
    absurd cc

pub returns-then-not-branch-3-clause-asked : goal.returns-then-not-branch-3-clause-asked
returns-then-not-branch-3-clause-asked c = λ no.
    predicate-run c.args.rounds.now c.may_be_run.new.self c.run_by.new.self c.is_refused.new.ecx c.args.env c.args.predicate c.args.effort (stays-trans c.may_decide.ensures.stays (stays-same c.may_be_run.ensures.stays c.may_be_run.ensures.table))
    (c.may_be_run.ensures.table ∙ c.may_decide.ensures.table) (stays-run _ _ c.args.effort c.run_by.result c.run_by.ensures.stays c.run_by.ensures.ran c.run_by.ensures.stopped) c.is_refused.ensures.kept.fixed_same c.requires.env c.requires.args c.requires.empty c.in_ok-run_by.ensures.ran
    (was_answered (c.in_ok-is_refused.ensures.answered c.if-not-branch-3.true))

pub returns-clause-asked : goal.returns-clause-asked
returns-clause-asked c =
    let ran = c.run_by.new.self in
    let last = c.is_refused.new.ecx.context in
    let p = c.args.predicate.trait_ref in
    let r = c.refuses_instances.result in
    let kept = c.is_refused.ensures.kept in
    let stays = stays-trans c.may_decide.ensures.stays (stays-same c.may_be_run.ensures.stays c.may_be_run.ensures.table) in
    let there = (args-kept c.args.rounds.now.context ran.context p.args (stays-trans stays (stays-run _ _ c.args.effort c.run_by.result c.run_by.ensures.stays c.run_by.ensures.ran c.run_by.ensures.stopped)).grows c.requires.args).0 in
    let variable : IfOk r (λ b. b ≡ false → HaveVariable (args_forest last.trees p.args))
    = subst (λ (x : Context). IfOk r (λ b. b ≡ false → HaveVariable (args_forest x.trees p.args))) c.cx.ensures c.refuses_instances.ensures.variable in
    let may : IfOk r (λ b. b ≡ false → MayRestOnPart last p.def_id)
    = subst (λ (x : Context). IfOk r (λ b. b ≡ false → MayRestOnPart x p.def_id)) c.cx.ensures c.refuses_instances.ensures.may in
    IfOk-weaker r _ _
    (λ b h no. predicate-run c.args.rounds.now c.may_be_run.new.self ran c.is_refused.new.ecx c.args.env c.args.predicate c.args.effort stays (c.may_be_run.ensures.table ∙ c.may_decide.ensures.table) (stays-run _ _ c.args.effort c.run_by.result c.run_by.ensures.stays c.run_by.ensures.ran c.run_by.ensures.stopped) kept.fixed_same
    c.requires.env c.requires.args c.requires.empty c.in_ok-run_by.ensures.ran
    (has_instances (c.in_ok-is_refused.ensures.refused c.if-not-branch-3.false) (subst HaveVariable (args-kept ran.context last p.args kept.grows there).1 (h.0 no)) last kept.grows (h.1 no)))
    (both-ok r _ _ variable may)

pub returns-in_err-may_decide-clause-stays : goal.returns-in_err-may_decide-clause-stays
returns-in_err-may_decide-clause-stays c = known-beside c.may_decide.ensures.stays

pub returns-then-not-branch-clause-stays : goal.returns-then-not-branch-clause-stays
returns-then-not-branch-clause-stays c = known-beside c.may_decide.ensures.stays

pub returns-in_err-may_be_run-clause-stays : goal.returns-in_err-may_be_run-clause-stays
returns-in_err-may_be_run-clause-stays c = known-beside (stays-trans c.may_decide.ensures.stays (stays-same c.may_be_run.ensures.stays c.may_be_run.ensures.table))

pub returns-then-not-branch-2-clause-stays : goal.returns-then-not-branch-2-clause-stays
returns-then-not-branch-2-clause-stays c = known-beside (stays-trans c.may_decide.ensures.stays (stays-same c.may_be_run.ensures.stays c.may_be_run.ensures.table))
