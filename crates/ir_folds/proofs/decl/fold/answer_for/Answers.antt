use Rattle.std.proofs.lemmas.Result.{err_from_is_err_and}
use Rattle.ir_folds.proofs.Traversal.Folds.{said-stop}
use Rattle.ir_folds.proofs.decl.fold.answer_for.Goals as goal

pub returns-in_err-answer : goal.returns-in_err-answer
returns-in_err-answer g c =
    let p = err_from_is_err_and c.from_residual.result c.from_residual.ensures.1 in
    let found = rw c.cx.ensures at c.in-Some.ensures in
    rw (p.1, p.2) (said-stop g.M.Build.context g.M.Build.rest g.F.FnMut _ _ c.in-Some.arg c.args.binders c.args.number found.0 found.1 found.2 c.in_err-answer.ensures.grows _ c.in_err-answer.ensures.says)
