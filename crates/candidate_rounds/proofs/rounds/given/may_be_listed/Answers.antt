use Rattle.std.proofs.Common.{sym, ◌∙◌}
use Rattle.ir_trees.specs.Syntax.Words.{ty_tree}
use Rattle.candidate_rounds.proofs.Evaluators.Given.{listed-so, type-head}
use Rattle.candidate_rounds.proofs.rounds.given.may_be_listed.Goals as goal

pub returns-then-not-has : goal.returns-then-not-has
returns-then-not-has c =
    let ts = c.args.cx.now.trees in
    listed-so (ty_tree ts c.args.alias) (ty_tree ts c.args.ty) c.has.result c.is_alias.result (sym c.is_fixed.ensures ∙ c.if-is_fixed.true) (sym c.is_fixed-then-is_fixed.ensures ∙ c.if-is_fixed-2.true)
    (type-head ts c.args.ty.0 c.requires.ty) c.has.ensures.is c.if-not-has.true c.is_alias.ensures
