use Rattle.std.proofs.Common.{sym, subst, ap, ◌∙◌, List}
use Rattle.candidate_rounds.specs.Evaluators.Known.{Evaluator, IsEvaluator, table_of}
use Rattle.candidate_rounds.specs.Table.Goals.{Goals}
use Rattle.candidate_rounds.specs.Table.Running.{StaysBesideTable}
use Rattle.candidate_rounds.specs.Table.Steps.{no_goals}
use Rattle.candidate_rounds.specs.Table.Sources.{AreBySource, OneIsNotBySource}
use Rattle.candidate_rounds.proofs.Table.Sources.{refused-before, sources-before}
use Rattle.candidate_rounds.proofs.Table.Steps.{goals-back, stays-from, stays-with, table-back}
use Rattle.candidate_rounds.specs.Table.StepStops.{AreStepsStop}
use Rattle.candidate_rounds.proofs.Table.StepStops.{stays-aside, steps-stop-before}
use Rattle.candidate_assembly.proofs.Calls.Causes.{so-err, so-ok}
use Rattle.ir_trees.specs.Syntax.Trees.{Tree}
use Rattle.candidate_rounds.specs.declared.rounds.derivation.DerivationStep.{DerivationStep}
use Rattle.candidate_rounds.proofs.rounds.Rounds.check_derivation.Goals as goal

pub restore_goals-requires : goal.restore_goals-requires
restore_goals-requires c =
    let r = c.args.self.now in
    let n = c.steps_hold-answer.new.self in
    let stays = stays-from r n no_goals (subst (λ (x : Evaluator). StaysBesideTable x n) c.suspend_goals-goals.ensures.out c.steps_hold-answer.ensures.stays) in
    subst (IsEvaluator n.context n.inference n.marks n.normal n.opaques) (sym c.suspend_goals-goals.ensures.goals) (goals-back r n c.recall_well_kept.ensures stays c.recall_well_kept-2.ensures)

pub returns-clause-stays : goal.returns-clause-stays
returns-clause-stays c =
    let r = c.args.self.now in
    let n = c.steps_hold-answer.new.self in
    subst (StaysBesideTable r) (sym c.restore_goals.ensures)
    (stays-with r n no_goals c.suspend_goals-goals.result (subst (λ (x : Evaluator). StaysBesideTable x n) c.suspend_goals-goals.ensures.out c.steps_hold-answer.ensures.stays))

pub returns-clause-table : goal.returns-clause-table
returns-clause-table c =
    let r = c.args.self.now in
    let n = c.steps_hold-answer.new.self in
    let stays = stays-from r n no_goals (subst (λ (x : Evaluator). StaysBesideTable x n) c.suspend_goals-goals.ensures.out c.steps_hold-answer.ensures.stays) in
    ap table_of c.restore_goals.ensures ∙ (ap (λ (g : Goals). table_of (record n { goals = g })) c.suspend_goals-goals.ensures.goals ∙ table-back r n c.recall_well_kept.ensures stays)

pub returns-clause-cause : goal.returns-clause-cause
returns-clause-cause c =
    let r = c.args.self.now in
    let trees = sym (ap (λ (x : Evaluator). x.context.trees) c.restore_goals.ensures) in
    let steps = c.as_slice.ensures.value in
    so-err c.steps_hold-answer.result
    (λ e h. subst (λ (q : List Tree × List DerivationStep). AreStepsStop q.0 r q.1 e) (λ i. (trees i, steps i)) (steps-stop-before (stays-aside r _ c.suspend_goals-goals.ensures.out) h)) c.steps_hold-answer.ensures.cause

pub returns-clause-sources : goal.returns-clause-sources
returns-clause-sources c =
    let r = c.args.self.now in
    let m = c.suspend_goals-goals.new.self in
    let aside = stays-aside r m c.suspend_goals-goals.ensures.out in
    let steps = c.as_slice.ensures.value in
    so-ok c.steps_hold-answer.result (λ b h yes. sources-before r m aside c.args.tree.now.steps.items c.requires (subst (AreBySource m) steps (h yes))) c.steps_hold-answer.ensures.sources

pub returns-clause-refused : goal.returns-clause-refused
returns-clause-refused c =
    let r = c.args.self.now in
    let m = c.suspend_goals-goals.new.self in
    let aside = stays-aside r m c.suspend_goals-goals.ensures.out in
    let steps = c.as_slice.ensures.value in
    so-ok c.steps_hold-answer.result (λ b h no. refused-before r m aside c.args.tree.now.steps.items c.requires (subst (OneIsNotBySource m) steps (h no))) c.steps_hold-answer.ensures.refused
