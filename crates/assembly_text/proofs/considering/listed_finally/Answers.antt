use Rattle.ir_trees.proofs.Growth.Kept.{grows-refl, grows-trans}
use Rattle.candidate_assembly.proofs.Calls.Keeping.{trait-goal-kept}
use Rattle.assembly_text.proofs.considering.listed_finally.Goals as goal

pub loop-before-init : goal.loop-before-init
loop-before-init c = (grows-refl _, c.requires)

pub returns-in_err-list : goal.returns-in_err-list
returns-in_err-list c = grows-trans _ _ _ c.loop-before.invariant.0 c.list_here.ensures

pub step-requires : goal.step-requires
step-requires c = (trait-goal-kept c.loop-before.rounds.context c.list_here.new.rounds.context c.args.env c.args.predicate c.list_here.ensures c.loop-before.invariant.1).0

pub returns-in_err-step : goal.returns-in_err-step
returns-in_err-step c = grows-trans _ _ _ (grows-trans _ _ _ c.loop-before.invariant.0 c.list_here.ensures) c.step.ensures

pub loop-before-preserved : goal.loop-before-preserved
loop-before-preserved c =
    let goes = grows-trans _ _ _ c.list_here.ensures c.step.ensures in (
      grows-trans _ _ _ c.loop-before.invariant.0 goes,
      (trait-goal-kept c.loop-before.rounds.context c.step.new.rounds.context c.args.env c.args.predicate goes c.loop-before.invariant.1).0,
    )

pub returns-then-branch : goal.returns-then-branch
returns-then-branch c = grows-trans _ _ _ (grows-trans _ _ _ c.loop-before.invariant.0 c.list_here.ensures) c.step.ensures

pub returns : goal.returns
returns c = grows-trans _ _ _ c.loop-before.invariant.0 c.list_here-2.ensures
