use Rattle.ir_trees.specs.Declarations.Context.{world}
use Rattle.candidate_rounds.proofs.Evaluators.Going.{region-kept}
use Rattle.candidate_rounds.proofs.Equations.Recording.{outlives-fits, outlives-takes, outlives-made, outlives-before}
use Rattle.std.proofs.lemmas.Result.{err_from_is_err_and}
use Rattle.ir_folds.proofs.Instantiation.Joining.{clause-unmade}
use Rattle.ir_folds.proofs.Instantiation.Opening.{binder-stop}
use Rattle.candidate_rounds.proofs.rounds.binding.outlives.Goals as goal

pub mk_clause-requires-clause-fits : goal.mk_clause-requires-clause-fits
mk_clause-requires-clause-fits c =
    outlives-fits c.mk_vars.new.self.trees c.in_ok-vars.vars c.args.a c.args.b c.in_ok-vars.ensures.made.sort
    (region-kept c.args.cx.now c.mk_vars.new.self c.args.a c.mk_vars.ensures.made.kept c.requires.first).0
    (region-kept c.args.cx.now c.mk_vars.new.self c.args.b c.mk_vars.ensures.made.kept c.requires.second).0

pub mk_clause-requires-clause-takes : goal.mk_clause-requires-clause-takes
mk_clause-requires-clause-takes c = λ _.
    outlives-takes (world c.mk_vars.new.self) c.mk_vars.new.self.trees c.in_ok-vars.vars c.args.a c.args.b c.in_ok-vars.ensures.made.sort
    (region-kept c.args.cx.now c.mk_vars.new.self c.args.a c.mk_vars.ensures.made.kept c.requires.first).0
    (region-kept c.args.cx.now c.mk_vars.new.self c.args.b c.mk_vars.ensures.made.kept c.requires.second).0

pub returns-clause-tree : goal.returns-clause-tree
returns-clause-tree c =
    outlives-made c.args.cx.now c.mk_vars.new.self c.mk_clause.new.self.trees c.in_ok-vars.vars c.args.a c.args.b c.mk_clause.result c.mk_vars.ensures.made.kept c.in_ok-vars.ensures.made.sort c.requires.first c.requires.second c.in_ok-vars.ensures.made.tree c.mk_clause.ensures.made.tree

pub returns-in_err-vars-clause-cause : goal.returns-in_err-vars-clause-cause
returns-in_err-vars-clause-cause c =
    let p = err_from_is_err_and c.from_residual.result c.from_residual.ensures.1 in
    rw (p.1, p.2) (binder-stop _ _ _ _ c.in_err-vars.ensures.made.unchanged c.in_err-vars.ensures.made.cause)

pub returns-clause-cause : goal.returns-clause-cause
returns-clause-cause c =
    clause-unmade c.mk_vars.new.self c.mk_clause.new.self _ _ c.mk_clause.result
    (outlives-before c.args.cx.now c.mk_vars.new.self c.in_ok-vars.vars c.args.a c.args.b c.mk_vars.ensures.made.kept c.in_ok-vars.ensures.made.sort c.requires.first c.requires.second c.in_ok-vars.ensures.made.tree)
    c.mk_clause.ensures.made.unchanged c.mk_clause.ensures.made.cause
