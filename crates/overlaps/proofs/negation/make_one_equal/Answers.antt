use Rattle.ir_trees.specs.Instantiation.Folds.{arg_tree}
use Rattle.ir_trees.specs.Syntax.Words.{env_forest}
use Rattle.ir_trees.specs.Unification.Substitutions.{alone}
use Rattle.candidate_eval.specs.Interface.Accounts.{equate}
use Rattle.candidate_assembly.proofs.Calls.Causes.{asked-somehow}
use Rattle.overlaps.proofs.negation.make_one_equal.Goals as goal

pub returns-in-Err-Stop-clause-cause : goal.returns-in-Err-Stop-clause-cause
returns-in-Err-Stop-clause-cause g c =
    let ts = (g.E.Build.context c.args.ecx.now).trees in
    let question = equate (env_forest ts c.args.env) (alone (arg_tree ts c.args.one)) (alone (arg_tree ts c.args.other)) in
    asked-somehow question c.eq.ensures.kept (rw c.in-Err-Stop.field-0-is at c.in-Err-Stop.ensures.cause)
