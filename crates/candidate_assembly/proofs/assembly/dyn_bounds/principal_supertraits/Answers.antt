use Rattle.std.proofs.Common.{None, Some, [], ap, map, subst, ◌∷◌}
use Rattle.std.proofs.lemmas.Result.{err_from_is_err_and}
use Rattle.ir_trees.specs.Declarations.Context.{Context}
use Rattle.ir_trees.specs.Validity.WellFormed.{IsWellFormedTable}
use Rattle.ir_trees.specs.Syntax.Words.{clause_tree, pred_tree, ty_tree}
use Rattle.ir_trees.proofs.Growth.Kept.{grows-trans}
use Rattle.candidate_assembly.proofs.Unsizing.ToDyn.{no-some}
use Rattle.candidate_assembly.proofs.Upcasting.UpcastParts.{no-supers-are, principal-found, principal-stands, supers-are, supers-stand}
use Rattle.candidate_eval.specs.Interface.Unmade.IsUnmade.{of_elaboration}
use Rattle.candidate_assembly.proofs.assembly.dyn_bounds.principal_supertraits.Goals as goal

pub returns-in_default-clause-supers : goal.returns-in_default-clause-supers
returns-in_default-clause-supers g c =
    let old = g.M.Build.context c.args.make.now in
    let type = ty_tree old.trees c.args.ty in
    no-supers-are old type (map (clause_tree old.trees) c.new.result.items)
    (principal-found c.cx-2.result.now old c.args.bounds.now type c.principal_among.result None c.cx-2.ensures c.requires.are c.principal_among.ensures.first (no-some c.principal_among.result c.in_default.not-Some))
    (ap (map (clause_tree old.trees)) c.new.ensures.items)

pub returns-in_err-supers-clause-grows : goal.returns-in_err-supers-clause-grows
returns-in_err-supers-clause-grows g c = grows-trans (g.M.Build.context c.args.make.now) (g.M.Build.context c.bound_clause.new.make) (g.M.Build.context c.supertraits.new.make) c.bound_clause.ensures.grows c.supertraits.ensures.grows

pub returns-in_err-supers-clause-cause : goal.returns-in_err-supers-clause-cause
returns-in_err-supers-clause-cause g c =
    let p = err_from_is_err_and c.from_residual-in_err-supers.result c.from_residual-in_err-supers.ensures.1 in
    rw (p.1, p.2) (of_elaboration (g.M.Build.context c.bound_clause.new.make) (c.in_ok-clause.clause ∷ []) c.bound_clause.ensures.grows c.supertraits.ensures.grows c.in_err-supers.ensures.cause)

pub returns-clause-grows : goal.returns-clause-grows
returns-clause-grows g c = grows-trans (g.M.Build.context c.args.make.now) (g.M.Build.context c.bound_clause.new.make) (g.M.Build.context c.supertraits.new.make) c.bound_clause.ensures.grows c.supertraits.ensures.grows

pub returns-clause-supers : goal.returns-clause-supers
returns-clause-supers g c =
    let old = g.M.Build.context c.args.make.now in
    let mid = g.M.Build.context c.bound_clause.new.make in
    let new = g.M.Build.context c.supertraits.new.make in
    let type = ty_tree old.trees c.args.ty in
    let b = pred_tree old.trees c.in-Some.principal in
    let found = principal-found c.cx-2.result.now old c.args.bounds.now type c.principal_among.result (Some c.in-Some.principal) c.cx-2.ensures c.requires.are c.principal_among.ensures.first c.in-Some.is in
    let table : IsWellFormedTable old = subst (λ (x : Context). IsWellFormedTable x) c.cx.ensures c.recall_well_formed_table.ensures in
    supers-are old mid table c.bound_clause.ensures.grows c.args.ty b c.in_ok-clause.clause (map (clause_tree new.trees) c.in_ok-supers.supers.items) c.requires.dynamic c.in_ok-clause.ensures.tree found c.in_ok-supers.ensures.list

pub returns-clause-may_stand : goal.returns-clause-may_stand
returns-clause-may_stand g c = λ n r.
    let old = g.M.Build.context c.args.make.now in
    let mid = g.M.Build.context c.bound_clause.new.make in
    let new = g.M.Build.context c.supertraits.new.make in
    let type = ty_tree old.trees c.args.ty in
    let b = pred_tree old.trees c.in-Some.principal in
    let found = principal-found c.cx-2.result.now old c.args.bounds.now type c.principal_among.result (Some c.in-Some.principal) c.cx-2.ensures c.requires.are c.principal_among.ensures.first c.in-Some.is in
    let table : IsWellFormedTable mid = subst (λ (x : Context). IsWellFormedTable x) c.cx-3.ensures c.recall_well_formed_table-2.ensures in
    let last : IsWellFormedTable new = subst (λ (x : Context). IsWellFormedTable x) c.cx-4.ensures c.recall_well_formed_table-3.ensures in
    supers-stand n mid new table last type b c.in_ok-clause.clause c.in_ok-supers.supers.items c.in_ok-clause.ensures.tree r (principal-stands n type b r found) c.in_ok-supers.ensures.sort c.in_ok-supers.ensures.list
