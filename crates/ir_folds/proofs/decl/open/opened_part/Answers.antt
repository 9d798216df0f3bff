use Rattle.std.proofs.Common.{sym, ◌∙◌}
use Rattle.ir_trees.proofs.Traversal.Asking.{arg-head, arg-below}
use Rattle.ir_folds.proofs.Instantiation.Opening.{answer-kind, bound-kind}
use Rattle.ir_folds.proofs.decl.open.opened_part.Goals as goal

pub head-head-requires : goal.head-head-requires
head-head-requires g c = rw (c.cx.ensures, c.number.ensures) (arg-below (g.M.Build.context c.args.make.now).trees c.args.arg c.requires.arg)

pub returns-in-Some-clause-kind : goal.returns-in-Some-clause-kind
returns-in-Some-clause-kind g c =
    answer-kind _ c.args.arg c.in-Some.kind c.opened_variable.result
    (sym (bound-kind c.in-Some.kind c.in-Some.var) ∙ arg-head _ _ c.args.arg _ _ c.cx.ensures c.number.ensures c.requires.arg (sym c.in-Some.ensures ∙ c.head-head.ensures))
    c.opened_variable.ensures.sort
