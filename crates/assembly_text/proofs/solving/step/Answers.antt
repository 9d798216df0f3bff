use Rattle.std.proofs.Common.{◌∙◌, sym}
use Rattle.ir_trees.proofs.Growth.Kept.{grows-trans}
use Rattle.assembly_text.proofs.solving.step.Goals as goal

pub returns-in_err-may_be_run : goal.returns-in_err-may_be_run
returns-in_err-may_be_run c = c.may_be_run.ensures.stays.grows

pub returns-then-not-branch : goal.returns-then-not-branch
returns-then-not-branch c = c.may_be_run.ensures.stays.grows

pub run_step-requires-clause-goal : goal.run_step-requires-clause-goal
run_step-requires-clause-goal c = c.may_be_run.ensures.goal

pub run_step-requires-clause-asked : goal.run_step-requires-clause-asked
run_step-requires-clause-asked c = sym c.in_ok-may_be_run.ensures.is ∙ c.if-not-branch.false

pub returns : goal.returns
returns c = grows-trans _ _ _ c.may_be_run.ensures.stays.grows c.run_step.ensures.stays.grows
