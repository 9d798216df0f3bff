use Rattle.std.proofs.Common.{◌∙◌}
use Rattle.ir_trees.specs.Syntax.Words.{args_forest, ty_tree}
use Rattle.ir_trees.proofs.Growth.Kept.{args-kept}
use Rattle.candidate_assembly.proofs.Goals.TraitClauses.{fact-fits, fact-takes, fit-kept, made-for-type}
use Rattle.candidate_assembly.proofs.Calls.Causes.{so-err, so-ok}
use Rattle.std.proofs.lemmas.Result.{err_from_is_err_and}
use Rattle.candidate_eval.proofs.Interface.Unmade.{binder-unmade, clause-unmade}
use Rattle.candidate_eval.specs.Dynamic.ObjectRequirements.{trait_fact}
use Rattle.candidate_assembly.proofs.trait_goals.parts.for_type.Goals as goal

pub mk_clause-requires-clause-fits : goal.mk_clause-requires-clause-fits
mk_clause-requires-clause-fits g c =
    let q = c.in_ok-predicate.predicate in
    let kept = c.mk_vars.ensures.made.kept in
    fact-fits (g.M.Build.context c.mk_vars.new.self).trees c.in_ok-vars.vars q c.in_ok-vars.ensures.made.sort (args-kept _ _ q.trait_ref.args kept c.in_ok-predicate.ensures.sort).0

pub mk_clause-requires-clause-takes : goal.mk_clause-requires-clause-takes
mk_clause-requires-clause-takes g c = λ strict.
    let q = c.in_ok-predicate.predicate in
    let kept = c.mk_vars.ensures.made.kept in
    fact-takes (g.M.Build.context c.mk_vars.new.self) c.in_ok-vars.vars q c.in_ok-vars.ensures.made.sort (args-kept _ _ q.trait_ref.args kept c.in_ok-predicate.ensures.sort).0
    (fit-kept _ _ q.trait_ref kept c.in_ok-predicate.ensures.sort c.in_ok-predicate.ensures.fit)

pub returns-clause-tree : goal.returns-clause-tree
returns-clause-tree g c =
    let old = g.M.Build.context c.args.make.now in
    let mid = g.M.Build.context c.mk_vars.new.self in
    let q = c.in_ok-predicate.predicate in
    let kept = c.mk_vars.ensures.made.kept in
    let there = args-kept _ mid q.trait_ref.args kept c.in_ok-predicate.ensures.sort in
    let is = made-for-type mid c.in_ok-vars.vars c.args.predicate q (ty_tree old.trees c.args.ty) (args_forest old.trees c.args.predicate.trait_ref.args) c.in_ok-vars.ensures.made.tree c.in_ok-vars.ensures.made.sort there.0
    c.in_ok-predicate.ensures.id c.in_ok-predicate.ensures.polarity (there.1 ∙ c.in_ok-predicate.ensures.arguments) in
    so-ok c.mk_clause.result (λ x made. made ∙ is) c.mk_clause.ensures.made.tree

pub returns-in_err-vars-clause-cause : goal.returns-in_err-vars-clause-cause
returns-in_err-vars-clause-cause g c =
    let p = err_from_is_err_and c.from_residual-in_err-vars.result c.from_residual-in_err-vars.ensures.1 in
    rw (p.1, p.2) (binder-unmade c.mk_vars.ensures.made.kept c.in_err-vars.ensures.made.cause)

pub returns-clause-cause : goal.returns-clause-cause
returns-clause-cause g c = so-err c.mk_clause.result (λ s x. clause-unmade (trait_fact c.in_ok-vars.vars c.in_ok-predicate.predicate) c.mk_clause.ensures.made.kept x) c.mk_clause.ensures.made.cause
