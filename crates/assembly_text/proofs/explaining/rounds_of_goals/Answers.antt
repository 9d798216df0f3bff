use Rattle.ir_trees.proofs.Growth.Kept.{grows-refl, grows-trans}
use Rattle.candidate_assembly.proofs.Calls.Keeping.{trait-goal-kept}
use Rattle.assembly_text.proofs.explaining.rounds_of_goals.Goals as goal

pub loop-before-init : goal.loop-before-init
loop-before-init c = (grows-refl _, c.requires)

pub returns-in_err-step : goal.returns-in_err-step
returns-in_err-step c = grows-trans _ _ _ c.loop-before.invariant.0 c.step.ensures

pub returns-in_err-note_all : goal.returns-in_err-note_all
returns-in_err-note_all c = grows-trans _ _ _ c.loop-before.invariant.0 c.step.ensures

pub loop-before-preserved : goal.loop-before-preserved
loop-before-preserved c = (
  grows-trans _ _ _ c.loop-before.invariant.0 c.step.ensures,
  (trait-goal-kept c.loop-before.rounds.context c.step.new.rounds.context c.args.env c.args.predicate c.step.ensures c.loop-before.invariant.1).0,
)

pub returns-then-are_noted : goal.returns-then-are_noted
returns-then-are_noted c = grows-trans _ _ _ c.loop-before.invariant.0 c.step.ensures
