use Rattle.std.proofs.Common.{◌≡◌, true, Bool, Result, IfOk, refl, sym, subst, ◌∙◌}
use Rattle.ir_trees.specs.declared.ir.stop.Stop.{Stop}
use Rattle.ir_trees.proofs.Growth.Kept.{args-kept, grows-trans}
use Rattle.candidate_eval.specs.Derivations.ImplRules.{TraitGoal}
use Rattle.candidate_eval.specs.Judges.States.{State}
use Rattle.candidate_assembly.specs.Answers.CoherentRefusals.{IsPlainGoal}
use Rattle.candidate_assembly.specs.Goals.Standing.{GoalIsValid}
use Rattle.candidate_assembly.specs.Goals.TraitGoals.{trait_goal}
use Rattle.candidate_assembly.specs.Goals.TraitRules.{trait_rules}
use Rattle.candidate_assembly.proofs.Calls.Keeping.{trait-goal-kept}
use Rattle.candidate_rounds.specs.Evaluators.Interface.{fixed, judge_of}
use Rattle.candidate_rounds.specs.Evaluators.Known.{state}
use Rattle.candidate_rounds.proofs.Table.Running.{stays-trans}
use Rattle.overlaps.specs.Goals.{WasRefused}
use Rattle.overlaps.proofs.Refusing.{predicate-refused}
use Rattle.examples.proofs.Refusing.{refused-before, stays-made}
use Rattle.examples.proofs.refused.is_refused_by_all.Goals as goal

pub may_decide-requires-clause-args : goal.may_decide-requires-clause-args
may_decide-requires-clause-args c = (args-kept _ _ c.args.predicate.trait_ref.args c.mk_param_env.ensures.made.kept c.requires.sort).0

pub is_refused-requires-clause-goal : goal.is_refused-requires-clause-goal
is_refused-requires-clause-goal c =
    let mid = c.may_decide.new.rounds.context in
    let now = c.run.new.self.context in
    (trait-goal-kept mid now c.in_ok-env.env c.args.predicate (stays-trans c.may_be_run.ensures.stays c.run.ensures.stays).grows (c.in_ok-may_decide.ensures.goal c.if-not-branch.false)).0

pub is_refused-requires-clause-stands : goal.is_refused-requires-clause-stands
is_refused-requires-clause-stands c =
    let mid = c.may_decide.new.rounds.context in
    let now = c.run.new.self.context in
    let stays = stays-trans c.may_be_run.ensures.stays c.run.ensures.stays in
    let s = sym stays.state_same in
    let g = sym (trait-goal-kept mid now c.in_ok-env.env c.args.predicate stays.grows (c.in_ok-may_decide.ensures.goal c.if-not-branch.false)).1 in
    subst (λ (q : State × TraitGoal). GoalIsValid trait_rules q.0 q.1) (λ i. (s i, g i)) (c.in_ok-may_decide.ensures.stands c.if-not-branch.false)

pub is_refused-requires-clause-plain : goal.is_refused-requires-clause-plain
is_refused-requires-clause-plain c =
    let mid = c.may_decide.new.rounds.context in
    let now = c.run.new.self.context in
    let stays = stays-trans c.may_be_run.ensures.stays c.run.ensures.stays in
    let s = sym stays.state_same in
    let g = sym (trait-goal-kept mid now c.in_ok-env.env c.args.predicate stays.grows (c.in_ok-may_decide.ensures.goal c.if-not-branch.false)).1 in
    subst (λ (q : State × TraitGoal). IsPlainGoal q.0 q.1) (λ i. (s i, g i)) (c.in_ok-may_decide.ensures.plain c.if-not-branch.false)

pub returns : goal.returns
returns c = λ e.
    let old = c.args.rounds.now in
    let one = c.mk_param_env.new.self in
    let mid = c.run.new.self in
    let env = c.in_ok-env.env in
    let p = c.args.predicate in
    let begun = stays-made c.mk_param_env.ensures.made.kept c.mk_param_env.ensures.rest in
    let args = (args-kept old.context one.context p.trait_ref.args begun.grows c.requires.sort).0 in
    let ran = stays-trans c.may_be_run.ensures.stays c.run.ensures.stays in
    let grows = grows-trans one.context c.may_decide.new.rounds.context mid.context c.may_decide.ensures.stays.grows ran.grows in
    let same = ran.state_same ∙ c.may_decide.ensures.stays.state_same in
    let here = subst (λ (x : Result Bool Stop). IfOk x (λ b. b ≡ true → WasRefused (judge_of (fixed mid)) mid.context (state mid) (trait_goal mid.context.trees env p))) e c.is_refused.ensures.refused in
    refused-before old one c.is_refused.new.ecx p begun c.requires.sort
    (predicate-refused one mid c.is_refused.new.ecx env p grows same c.is_refused.ensures.kept.fixed_same c.in_ok-env.ensures.made.sort args c.in_ok-env.ensures.made.tree (here refl))
