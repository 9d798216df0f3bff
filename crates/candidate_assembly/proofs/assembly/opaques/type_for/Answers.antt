use Rattle.std.proofs.Common.{true, false, sym, ap, ◌∙◌}
use Rattle.ir_trees.specs.Instantiation.Folds.{arg_tree}
use Rattle.ir_trees.specs.Syntax.Words.{ty_tree}
use Rattle.candidate_assembly.specs.Rules.Opaques.{type_for}
use Rattle.candidate_assembly.proofs.Opaques.TypesFor.{no-type-for, other-arg, type-for-tested}
use Rattle.candidate_assembly.proofs.assembly.opaques.type_for.Goals as goal

pub returns-then-same-clause-answer : goal.returns-then-same-clause-answer
returns-then-same-clause-answer c =
    let ts = c.args.cx.now.trees in
    sym (ap (λ x. type_for (ty_tree ts c.args.old) (ty_tree ts c.args.new) (arg_tree ts x)) c.in-Ty.is
    ∙ type-for-tested (ty_tree ts c.in-Ty.ty) (ty_tree ts c.args.old) (ty_tree ts c.args.new) c.same.result true c.same.ensures c.if-same.true)

pub returns-else-same-clause-answer : goal.returns-else-same-clause-answer
returns-else-same-clause-answer c =
    let ts = c.args.cx.now.trees in
    sym (ap (λ x. type_for (ty_tree ts c.args.old) (ty_tree ts c.args.new) (arg_tree ts x)) c.in-Ty.is
    ∙ type-for-tested (ty_tree ts c.in-Ty.ty) (ty_tree ts c.args.old) (ty_tree ts c.args.new) c.same.result false c.same.ensures c.if-same.false)

pub returns-in-Const : goal.returns-in-Const
returns-in-Const c = record { kind = tt; answer = no-type-for c.args.cx.now.trees c.args.old c.args.new c.args.arg c.requires.old c.requires.arg (other-arg c.args.arg c.in-Const.is) }
