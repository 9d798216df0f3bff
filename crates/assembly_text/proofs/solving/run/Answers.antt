use Rattle.std.proofs.Common.{◌∙◌, sym}
use Rattle.ir_trees.proofs.Growth.Kept.{grows-trans}
use Rattle.assembly_text.specs.Solving.Comes.{not_asked, ran}
use Rattle.assembly_text.proofs.solving.run.Goals as goal

pub returns-in_err-may_be_run-clause-grows : goal.returns-in_err-may_be_run-clause-grows
returns-in_err-may_be_run-clause-grows c = c.may_be_run.ensures.stays.grows

pub returns-then-not-branch-clause-grows : goal.returns-then-not-branch-clause-grows
returns-then-not-branch-clause-grows c = c.may_be_run.ensures.stays.grows

pub returns-then-not-branch-clause-comes : goal.returns-then-not-branch-clause-comes
returns-then-not-branch-clause-comes c = not_asked c.may_be_run.new.self c.may_be_run.ensures.stays (sym c.in_ok-may_be_run.ensures.is ∙ c.if-not-branch.true)

pub run_by-requires-clause-goal : goal.run_by-requires-clause-goal
run_by-requires-clause-goal c = c.may_be_run.ensures.goal

pub run_by-requires-clause-asked : goal.run_by-requires-clause-asked
run_by-requires-clause-asked c = sym c.in_ok-may_be_run.ensures.is ∙ c.if-not-branch.false

pub returns-in_err-run_by-clause-grows : goal.returns-in_err-run_by-clause-grows
returns-in_err-run_by-clause-grows c = grows-trans _ _ _ c.may_be_run.ensures.stays.grows c.run_by.ensures.stays.grows

pub returns-clause-grows : goal.returns-clause-grows
returns-clause-grows c = grows-trans _ _ _ c.may_be_run.ensures.stays.grows c.run_by.ensures.stays.grows

pub returns-clause-comes : goal.returns-clause-comes
returns-clause-comes c =
    let looked = c.may_be_run.ensures in
    ran c.may_be_run.new.self _ looked.stays looked.table c.in_ok-run_by.ensures.ran c.in_ok-run_by.ensures.answer
