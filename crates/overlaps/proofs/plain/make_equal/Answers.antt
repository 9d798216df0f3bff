use Rattle.ir_trees.specs.Syntax.Words.{args_forest, env_forest}
use Rattle.candidate_eval.specs.Interface.Accounts.{equate}
use Rattle.candidate_assembly.proofs.Calls.Causes.{asked-somehow}
use Rattle.overlaps.proofs.plain.make_equal.Goals as goal

pub returns-in-Err-Stop-clause-cause : goal.returns-in-Err-Stop-clause-cause
returns-in-Err-Stop-clause-cause g c =
    let ts = (g.E.Build.context c.args.ecx.now).trees in
    let question = equate (env_forest ts c.args.env) (args_forest ts c.args.first) (args_forest ts c.args.second) in
    asked-somehow question c.eq_args.ensures.kept (rw c.in-Err-Stop.field-0-is at c.in-Err-Stop.ensures.cause)
