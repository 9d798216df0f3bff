use Rattle.std.proofs.Common.{◌∙◌, sym}
use Rattle.ir_trees.proofs.Growth.Kept.{grows-trans}
use Rattle.assembly_text.proofs.considering.list_here.Goals as goal

pub returns-in_err-may_be_run : goal.returns-in_err-may_be_run
returns-in_err-may_be_run c = c.may_be_run.ensures.stays.grows

pub returns-then-not-branch : goal.returns-then-not-branch
returns-then-not-branch c = c.may_be_run.ensures.stays.grows

pub candidates-requires-clause-goal : goal.candidates-requires-clause-goal
candidates-requires-clause-goal c = c.may_be_run.ensures.goal

pub candidates-requires-clause-asked : goal.candidates-requires-clause-asked
candidates-requires-clause-asked c = sym c.in_ok-may_be_run.ensures.is ∙ c.if-not-branch.false

pub returns-in_err-candidates : goal.returns-in_err-candidates
returns-in_err-candidates c = grows-trans _ _ _ c.may_be_run.ensures.stays.grows c.candidates.ensures.stays.grows

pub returns : goal.returns
returns c = grows-trans _ _ _ c.may_be_run.ensures.stays.grows c.candidates.ensures.stays.grows
