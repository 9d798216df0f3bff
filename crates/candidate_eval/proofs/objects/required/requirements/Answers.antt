use Rattle.std.proofs.Common.{◌≡◌, ◌++◌, List, subst}
use Rattle.std.specs.Prelude.{map}
use Rattle.ir_trees.specs.declared.ir.kinds.Clause.{Clause}
use Rattle.ir_trees.specs.Hierarchy.Elaboration.{IsElaboration, super_clauses}
use Rattle.ir_trees.specs.Declarations.References.{IsWellFormed}
use Rattle.ir_trees.specs.Validity.WellFormed.{IsWellFormedTable}
use Rattle.ir_trees.specs.Syntax.Words.{args_forest, clause_tree}
use Rattle.ir_trees.proofs.Growth.Kept.{args-kept, grows-trans}
use Rattle.candidate_eval.specs.Dynamic.Required.{with_arguments}
use Rattle.candidate_eval.proofs.Dynamic.Requiring.{are_requirements}
use Rattle.std.proofs.lemmas.Result.{err_from_is_err_and}
use Rattle.candidate_eval.specs.Interface.Unmade.IsUnmade.{of_elaboration}
use Rattle.candidate_eval.proofs.Interface.Unmade.{unmade-before}
use Rattle.candidate_eval.proofs.objects.required.requirements.Goals as goal

pub push_required-requires-clause-args : goal.push_required-requires-clause-args
push_required-requires-clause-args g c = (args-kept _ _ c.args.trait_ref.args (grows-trans _ _ _ c.in_ok-push_declared.ensures.grows c.in_ok-list.ensures.grows) c.requires.args).0

pub returns-clause-requirements : goal.returns-clause-requirements
returns-clause-requirements g c =
    let start = g.M.Build.context c.args.make.now in
    let mid = g.M.Build.context c.push_declared.new.make in
    let last = g.M.Build.context c.elaborate.new.make in
    let i = c.args.trait_ref.def_id.0 in
    let f = with_arguments (args_forest start.trees c.args.trait_ref.args) in
    let all = c.in_ok-list.list.items in
    let supers = c.push_declared.new.list.items in
    let first =
    subst (λ (xs : List Clause). map (clause_tree mid.trees) supers ≡ map (clause_tree start.trees) xs ++ map f (super_clauses start i)) c.new-supers.ensures.items c.in_ok-push_declared.ensures.trees in
    let walk = subst (λ (xs : List Clause). IsElaboration mid (map (clause_tree mid.trees) xs) (map (clause_tree last.trees) all)) c.as_slice.ensures.value c.in_ok-list.ensures.list in
    are_requirements start mid last (g.M.Build.context c.push_required.new.make) i c.args.trait_ref.args supers all c.push_required.new.list.items
    (subst IsWellFormedTable c.cx.ensures c.recall_well_formed_table.ensures) (subst IsWellFormed c.cx-2.ensures c.recall_well_formed.ensures) c.in_ok-push_declared.ensures.grows c.in_ok-list.ensures.grows c.requires.args first walk
    c.in_ok-push_required.ensures.trees

pub returns-in_err-list-clause-grows : goal.returns-in_err-list-clause-grows
returns-in_err-list-clause-grows g c =
    grows-trans _ _ _ c.push_declared.ensures.grows c.elaborate.ensures.grows

pub returns-in_err-push_required-clause-grows : goal.returns-in_err-push_required-clause-grows
returns-in_err-push_required-clause-grows g c =
    grows-trans _ _ _ (grows-trans _ _ _ c.push_declared.ensures.grows c.elaborate.ensures.grows) c.push_required.ensures.grows

pub returns-clause-grows : goal.returns-clause-grows
returns-clause-grows g c =
    grows-trans _ _ _ (grows-trans _ _ _ c.push_declared.ensures.grows c.elaborate.ensures.grows) c.push_required.ensures.grows

pub returns-in_err-list-clause-cause : goal.returns-in_err-list-clause-cause
returns-in_err-list-clause-cause g c =
    let p = err_from_is_err_and c.from_residual-in_err-list.result c.from_residual-in_err-list.ensures.1 in
    rw (p.1, p.2) (of_elaboration (g.M.Build.context c.push_declared.new.make) c.as_slice.result.now c.push_declared.ensures.grows c.elaborate.ensures.grows c.in_err-list.ensures.cause)

pub returns-in_err-push_required-clause-cause : goal.returns-in_err-push_required-clause-cause
returns-in_err-push_required-clause-cause g c =
    let p = err_from_is_err_and c.from_residual-in_err-push_required.result c.from_residual-in_err-push_required.ensures.1 in
    rw (p.1, p.2) (unmade-before (grows-trans _ _ _ c.push_declared.ensures.grows c.elaborate.ensures.grows) c.in_err-push_required.ensures.cause)
