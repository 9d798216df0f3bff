use Rattle.std.proofs.Common.{◌≡◌, Some, ap, subst, ◌∙◌}
use Rattle.candidate_assembly.specs.Goals.TraitGoals.{trait_goal}
use Rattle.candidate_assembly.proofs.Calls.Keeping.{trait-goal-kept}
use Rattle.candidate_eval.specs.Derivations.ImplRules.{TraitGoal}
use Rattle.candidate_eval.specs.Judges.States.{State}
use Rattle.candidate_eval.specs.Outcomes.ResponseTrees.{response_of}
use Rattle.candidate_rounds.specs.declared.rounds.goals.Verdict.{Verdict}
use Rattle.candidate_rounds.specs.Evaluators.Known.{state, sure_of, table_of}
use Rattle.candidate_rounds.specs.Table.Goals.{Via, unless_noted, verdict_seen}
use Rattle.rounds_judge.specs.Table.GoalTable.{GoalTable, verdict_in}
use Rattle.rounds_judge.specs.Table.Keys.{key_at}
use Rattle.overlaps.proofs.Stopping.{later-steps, passed-on, step-stop, there}
use Rattle.overlaps.proofs.Uncertainty.{no-then}
use Rattle.overlaps.specs.Stopping.{IsOverlapStop, step_key, step_run}
use Rattle.overlaps.proofs.Staying.{stays-refl, stays-run, stays-same, stays-trans}
use Rattle.overlaps.proofs.together.is_proved.Goals as goal

pub returns-in_err-run_by-clause-cause : goal.returns-in_err-run_by-clause-cause
returns-in_err-run_by-clause-cause c =
    let r = c.args.rounds.now in
    passed-on (IsOverlapStop r c.run_by.new.self) c.from_residual.result c.in_err-run_by.field-0.0 c.from_residual.ensures.1
    (step-stop (later-steps (stays-refl r)) (step_run c.args.env c.args.predicate (there c.args.env c.args.predicate (later-steps (stays-refl r)) c.requires.goal.env c.requires.goal.arguments c.run_by.ensures.stays.grows.kept) c.in_err-run_by.ensures.cause))

pub entry_leaks-requires : goal.entry_leaks-requires
entry_leaks-requires c = (trait-goal-kept _ _ _ _ c.run_by.ensures.stays.grows c.requires.goal).0

pub returns-in_err-leaks-in-Yes-clause-stays : goal.returns-in_err-leaks-in-Yes-clause-stays
returns-in_err-leaks-in-Yes-clause-stays c = stays-trans (stays-run _ _ c.args.effort c.run_by.result c.run_by.ensures.stays c.run_by.ensures.ran c.run_by.ensures.stopped) (stays-same c.entry_leaks.ensures.stays c.entry_leaks.ensures.table)

pub returns-in_err-leaks-in-Yes-clause-cause : goal.returns-in_err-leaks-in-Yes-clause-cause
returns-in_err-leaks-in-Yes-clause-cause c =
    passed-on (IsOverlapStop c.args.rounds.now c.entry_leaks.new.self) c.from_residual-in_err-leaks-in-Yes.result c.in_err-leaks-in-Yes.field-0.0 c.from_residual-in_err-leaks-in-Yes.ensures.1
    (step-stop (later-steps (stays-run _ _ c.args.effort c.run_by.result c.run_by.ensures.stays c.run_by.ensures.ran c.run_by.ensures.stopped)) (step_key c.args.env c.args.predicate (there c.args.env c.args.predicate (later-steps (stays-run _ _ c.args.effort c.run_by.result c.run_by.ensures.stays c.run_by.ensures.ran c.run_by.ensures.stopped)) c.requires.goal.env c.requires.goal.arguments c.entry_leaks.ensures.stays.grows.kept) c.in_err-leaks-in-Yes.ensures.cause))

pub returns-in-Yes-clause-stays : goal.returns-in-Yes-clause-stays
returns-in-Yes-clause-stays c = stays-trans (stays-run _ _ c.args.effort c.run_by.result c.run_by.ensures.stays c.run_by.ensures.ran c.run_by.ensures.stopped) (stays-same c.entry_leaks.ensures.stays c.entry_leaks.ensures.table)

pub returns-in-Yes-clause-yes : goal.returns-in-Yes-clause-yes
returns-in-Yes-clause-yes c = λ e.
    let r = c.args.rounds.now in
    let ran = c.run_by.new.self in
    let ts = ran.context.trees in
    let k = key_at (state r) (trait_goal r.context.trees c.args.env c.args.predicate) in
    let s = c.run_by.ensures.stays.state_same in
    let g = (trait-goal-kept r.context ran.context c.args.env c.args.predicate c.run_by.ensures.stays.grows c.requires.goal).1 in
    let noted = c.in_ok-leaks-in-Yes.leaks in
    let here : verdict_in (sure_of ran) k ≡ unless_noted noted (verdict_in (table_of ran) k)
    = subst (λ (q : State × TraitGoal). verdict_in (sure_of ran) (key_at q.0 q.1) ≡ unless_noted noted (verdict_in (table_of ran) (key_at q.0 q.1))) (λ i. (s i, g i)) c.in_ok-leaks-in-Yes.ensures.is in
    record {
      response = response_of ts c.in-Yes.field-0;
      way = c.in-Yes.field-1;
      yes =
          ap (λ (T : GoalTable Via). verdict_in T k) c.entry_leaks.ensures.sure
          ∙ (here ∙ (ap (λ b. unless_noted b (verdict_in (table_of ran) k)) (no-then noted e) ∙ (c.in_ok-run_by.ensures.answer ∙ ap (λ (v : Verdict). Some (verdict_seen ts v)) c.in-Yes.is)));
    }

pub returns-in_err-run_by-clause-stays : goal.returns-in_err-run_by-clause-stays
returns-in_err-run_by-clause-stays c = stays-run _ _ c.args.effort c.run_by.result c.run_by.ensures.stays c.run_by.ensures.ran c.run_by.ensures.stopped

pub returns-clause-stays : goal.returns-clause-stays
returns-clause-stays c = stays-run _ _ c.args.effort c.run_by.result c.run_by.ensures.stays c.run_by.ensures.ran c.run_by.ensures.stopped
