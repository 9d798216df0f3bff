use Rattle.std.proofs.Common.{All, None, Some, List, [], ◌∷◌, ap, map, subst, sym, ◌∙◌}
use Rattle.std.proofs.lemmas.List.Elements.{All-cons, All-nil}
use Rattle.ir_trees.specs.Declarations.Context.{Context}
use Rattle.ir_trees.specs.Validity.WellFormed.{IsWellFormedTable}
use Rattle.ir_trees.specs.declared.ir.kinds.Clause.{Clause}
use Rattle.ir_trees.specs.Syntax.Words.{IsClause, clause_tree, pred_tree, ty_tree}
use Rattle.candidate_assembly.specs.Calls.Upcasting.{IsRuleClause, principal_said}
use Rattle.candidate_assembly.proofs.Unsizing.ToDyn.{no-some}
use Rattle.candidate_assembly.proofs.Upcasting.UpcastParts.{alone-stands, principal-found, principal-stands}
use Rattle.std.proofs.lemmas.Result.{err_from_is_err_and}
use Rattle.candidate_eval.specs.Interface.Unmade.IsUnmade.{no_memory}
use Rattle.candidate_assembly.proofs.trait_goals.upcasting.principal_alone.Goals as goal

pub returns-in_default-clause-are : goal.returns-in_default-clause-are
returns-in_default-clause-are g c =
    let old = g.M.Build.context c.args.make.now in
    let type = ty_tree old.trees c.args.ty in
    let found = principal-found c.cx.result.now old c.args.bounds.now type c.principal_among.result None c.cx.ensures c.requires.are c.principal_among.ensures.first (no-some c.principal_among.result c.in_default.not-Some) in
    ap (map (clause_tree old.trees)) c.new.ensures.items ∙ sym (ap (principal_said type) found)

pub returns-clause-are : goal.returns-clause-are
returns-clause-are g c =
    let old = g.M.Build.context c.args.make.now in
    let new = g.M.Build.context c.bound_clause.new.make in
    let type = ty_tree old.trees c.args.ty in
    let found = principal-found c.cx.result.now old c.args.bounds.now type c.principal_among.result (Some c.in-Some.principal) c.cx.ensures c.requires.are c.principal_among.ensures.first c.in-Some.is in
    ap (map (clause_tree new.trees)) c.in_ok-list.ensures.items ∙ (ap (λ t. t ∷ []) c.in_ok-clause.ensures.tree ∙ sym (ap (principal_said type) found))

pub returns-clause-may_stand : goal.returns-clause-may_stand
returns-clause-may_stand g c = λ n r.
    let old = g.M.Build.context c.args.make.now in
    let new = g.M.Build.context c.bound_clause.new.make in
    let type = ty_tree old.trees c.args.ty in
    let b = pred_tree old.trees c.in-Some.principal in
    let found = principal-found c.cx.result.now old c.args.bounds.now type c.principal_among.result (Some c.in-Some.principal) c.cx.ensures c.requires.are c.principal_among.ensures.first c.in-Some.is in
    let last : IsWellFormedTable new = subst (λ (x : Context). IsWellFormedTable x) c.cx-2.ensures c.recall_well_formed_table.ensures in
    let x = c.in_ok-clause.clause in
    let stands = alone-stands n new last type b x c.in_ok-clause.ensures.tree r (principal-stands n type b r found) c.in_ok-clause.ensures.sort in
    subst (λ (xs : List Clause). All (IsRuleClause new.trees n) xs) (sym c.in_ok-list.ensures.items) (All-cons (IsRuleClause new.trees n) x [] stands (All-nil (IsRuleClause new.trees n)))

pub returns-clause-sort : goal.returns-clause-sort
returns-clause-sort g c =
    let new = g.M.Build.context c.bound_clause.new.make in
    subst (λ (xs : List Clause). All (IsClause new.trees) xs) (sym c.in_ok-list.ensures.items) (All-cons (IsClause new.trees) c.in_ok-clause.clause [] c.in_ok-clause.ensures.sort (All-nil (IsClause new.trees)))

pub returns-in_err-list-clause-cause : goal.returns-in_err-list-clause-cause
returns-in_err-list-clause-cause g c =
    let p = err_from_is_err_and c.from_residual-in_err-list.result c.from_residual-in_err-list.ensures.1 in
    rw (p.1, p.2) no_memory
