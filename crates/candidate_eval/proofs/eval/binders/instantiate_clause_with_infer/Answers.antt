use Rattle.candidate_eval.proofs.Interface.Probing.{made, on-ok, then}
use Rattle.std.proofs.Common.{◌≡◌, ◌∙◌, ap, subst}
use Rattle.ir_trees.specs.Declarations.Context.{Context}
use Rattle.candidate_eval.specs.Derivations.Characterization.{bound_kinds}
use Rattle.std.proofs.lemmas.Result.{IfOk-weaker}
use Rattle.ir_trees.specs.Instantiation.Opening.{opened_clause}
use Rattle.ir_trees.specs.Syntax.Trees.{Forest}
use Rattle.ir_trees.specs.Syntax.Words.{clause_tree}
use Rattle.ir_folds.proofs.Instantiation.Joining.{clause-kept}
use Rattle.candidate_eval.specs.Interface.Evaluators.{kinds_listed}
use Rattle.candidate_eval.specs.Judges.States.{fresh_variables, with_fresh_variables}
use Rattle.candidate_eval.proofs.Dynamic.Objects.{kinds-read}
use Rattle.candidate_eval.proofs.Interface.Accounts.{accounted-here, an-instance, reaches, unmade-result}
use Rattle.candidate_eval.specs.Interface.Accounts.StopsBy.{accounted, no_memory}
use Rattle.std.proofs.lemmas.Result.{err_from_is_err_and}
use Rattle.ir_trees.specs.Unification.Substitutions.{alone}
use Rattle.candidate_eval.proofs.eval.binders.instantiate_clause_with_infer.Goals as goal

pub open_clause-requires-clause-clause : goal.open_clause-requires-clause-clause
open_clause-requires-clause-clause g c =
    (clause-kept (g.E.Build.context c.args.ecx.now) (g.E.Build.context c.fresh_args_for_item.new.self) c.args.clause c.fresh_args_for_item.ensures.kept.grows c.requires).0

pub returns-clause-tree : goal.returns-clause-tree
returns-clause-tree g c =
    let old = g.E.Build.context c.args.ecx.now in
    let mid = g.E.Build.context c.fresh_args_for_item.new.self in
    let S = g.E.EvalCtxt.state c.args.ecx.now in
    let bound = kinds-read c.in_ok-kinds.kinds.items (clause_tree c.cx.result.now.trees c.args.clause) c.in_ok-kinds.ensures in
    let read = subst (λ (x : Context). kinds_listed c.in_ok-kinds.kinds.items ≡ bound_kinds (clause_tree x.trees c.args.clause).children) c.cx.ensures bound in
    let kinds = ap kinds_listed c.as_slice.ensures.value ∙ read in
    let values = c.in_ok-values.ensures.trees ∙ ap (fresh_variables S) kinds in
    let same = (clause-kept old mid c.args.clause c.fresh_args_for_item.ensures.kept.grows c.requires).1 in
    IfOk-weaker c.open_clause.result _ _ (λ x e. e ∙ (ap (λ (f : Forest). opened_clause f (clause_tree mid.trees c.args.clause)) values ∙ ap (opened_clause (fresh_variables S _)) same)) c.open_clause.ensures.tree

pub returns-clause-kept : goal.returns-clause-kept
returns-clause-kept g c =
    then c.fresh_args_for_item.ensures.kept (made (g.met.E.EvalCtxt.by_rest c.fresh_args_for_item.new.self c.open_clause.new.make c.open_clause.ensures.rest) c.open_clause.ensures.grows)

pub returns-clause-state : goal.returns-clause-state
returns-clause-state g c =
    let S = g.E.EvalCtxt.state c.args.ecx.now in
    let bound = kinds-read c.in_ok-kinds.kinds.items (clause_tree c.cx.result.now.trees c.args.clause) c.in_ok-kinds.ensures in
    let read = subst (λ (x : Context). kinds_listed c.in_ok-kinds.kinds.items ≡ bound_kinds (clause_tree x.trees c.args.clause).children) c.cx.ensures bound in
    let same = (g.met.E.EvalCtxt.by_rest c.fresh_args_for_item.new.self c.open_clause.new.make c.open_clause.ensures.rest).1 in
    on-ok c.open_clause.result (same ∙ (c.in_ok-values.ensures.made ∙ ap (with_fresh_variables S) (ap kinds_listed c.as_slice.ensures.value ∙ read)))

pub returns-clause-cause : goal.returns-clause-cause
returns-clause-cause g c =
    let old = g.E.Build.context c.args.ecx.now in
    let mid = g.E.Build.context c.fresh_args_for_item.new.self in
    let S = g.E.EvalCtxt.state c.args.ecx.now in
    let bound = kinds-read c.in_ok-kinds.kinds.items (clause_tree c.cx.result.now.trees c.args.clause) c.in_ok-kinds.ensures in
    let read = subst (λ (x : Context). kinds_listed c.in_ok-kinds.kinds.items ≡ bound_kinds (clause_tree x.trees c.args.clause).children) c.cx.ensures bound in
    let kinds = ap kinds_listed c.as_slice.ensures.value ∙ read in
    let values = c.in_ok-values.ensures.trees ∙ ap (fresh_variables S) kinds in
    let same = (clause-kept old mid c.args.clause c.fresh_args_for_item.ensures.kept.grows c.requires).1 in
    unmade-result g.E.EvalCtxt.fixed g.E.Build.context g.E.EvalCtxt.state g.E.EvalCtxt.stops _ c.open_clause.result c.args.ecx.now c.open_clause.new.make _ _ (an-instance (clause_tree old.trees c.args.clause) S)
    (ap (λ (f : Forest). alone (opened_clause f (clause_tree mid.trees c.args.clause))) values ∙ ap (λ t. alone (opened_clause (fresh_variables S (bound_kinds (clause_tree old.trees c.args.clause).children)) t)) same)
    c.open_clause.ensures.cause

pub returns-in_err-kinds-clause-cause : goal.returns-in_err-kinds-clause-cause
returns-in_err-kinds-clause-cause g c =
    let p = err_from_is_err_and c.from_residual.result c.from_residual.ensures.1 in
    rw (p.1, p.2) no_memory

pub returns-in_err-values-clause-cause : goal.returns-in_err-values-clause-cause
returns-in_err-values-clause-cause g c =
    let p = err_from_is_err_and c.from_residual-in_err-values.result c.from_residual-in_err-values.ensures.1 in
    rw (p.1, p.2) (accounted (accounted-here _ (reaches c.fresh_args_for_item.ensures.kept) c.in_err-values.ensures.cause))
