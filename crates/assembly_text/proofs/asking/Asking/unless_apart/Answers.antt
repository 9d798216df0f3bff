use Rattle.std.proofs.lemmas.Result.{IfOk-weaker}
use Rattle.ir_trees.proofs.Growth.Kept.{grows-refl}
use Rattle.assembly_text.proofs.Compared.{unless-before}
use Rattle.assembly_text.proofs.asking.Asking.unless_apart.Goals as goal

pub returns-then-leave_no_goal-clause-found : goal.returns-then-leave_no_goal-clause-found
returns-then-leave_no_goal-clause-found c =
    let first = c.args.self in
    IfOk-weaker c.unless_negated.result.1 _ _ (unless-before first.scope.maker first.scope.maker (grows-refl first.scope.maker) first.given c.args.first c.args.second c.args.instance) c.unless_negated.ensures.found
