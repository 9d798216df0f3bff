use Rattle.std.proofs.Common.{◌∙◌, ap, inr, subst}
use Rattle.std.proofs.lemmas.Result.{err_from_is_err_and}
use Rattle.ir_trees.specs.Syntax.Trees.{Tree}
use Rattle.ir_trees.specs.Unification.Substitutions.{alone}
use Rattle.ir_folds.proofs.Hierarchy.Implying.{arg-kept}
use Rattle.candidate_rounds.specs.Evaluators.Stopping.{IsTreeStop}
use Rattle.candidate_rounds.proofs.Equations.OpenSides.{list-kept}
use Rattle.candidate_rounds.proofs.rounds.Rounds.singles.Goals as goal

pub single-requires-2 : goal.single-requires-2
single-requires-2 c = (arg-kept c.args.self.now.context c.single.new.self.context c.args.b c.single.ensures.goes.0 c.requires.right).0

pub returns-clause-left : goal.returns-clause-left
returns-clause-left c =
    let k = list-kept c.single.new.self.context c.single-2.new.self.context c.in_ok-a.a c.single-2.ensures.goes.0 c.in_ok-a.ensures.sort in
    (k.0, k.1 ∙ c.in_ok-a.ensures.tree)

pub returns-clause-right : goal.returns-clause-right
returns-clause-right c =
    let b = (arg-kept c.args.self.now.context c.single.new.self.context c.args.b c.single.ensures.goes.0 c.requires.right).1 in
    (c.in_ok-b.ensures.sort, c.in_ok-b.ensures.tree ∙ ap alone b)

pub returns-in_err-b-clause-cause : goal.returns-in_err-b-clause-cause
returns-in_err-b-clause-cause c =
    let p = err_from_is_err_and c.from_residual-in_err-b.result c.from_residual-in_err-b.ensures.1 in
    let b = (arg-kept c.args.self.now.context c.single.new.self.context c.args.b c.single.ensures.goes.0 c.requires.right).1 in
    rw (p.1, p.2) (inr (subst (λ (t : Tree). IsTreeStop c.single-2.new.self.context.trees t c.in_err-b.field-0.0) b c.in_err-b.ensures.cause))
