use Rattle.candidate_eval.proofs.Interface.Probing.{made, then}
use Rattle.std.proofs.Common.{◌≡◌, ◌∙◌, ap, subst}
use Rattle.ir_trees.specs.declared.ir.kinds.TraitId.{TraitId}
use Rattle.ir_trees.specs.Declarations.Context.{Context}
use Rattle.ir_trees.specs.Declarations.References.{IsWellFormed}
use Rattle.ir_trees.specs.Syntax.Trees.{Forest, Tree}
use Rattle.ir_trees.specs.Validity.WellFormed.{IsWellFormedTable}
use Rattle.ir_trees.specs.Syntax.Words.{IsTy, args_forest, clause_kind_tree, preds_forest, ty_tree}
use Rattle.ir_trees.proofs.Growth.Kept.{args-kept, grows-trans, preds-kept, ty-kept}
use Rattle.candidate_eval.specs.Dynamic.ObjectRequirements.{first_tree, fresh_arguments, reference_clause}
use Rattle.candidate_eval.specs.Dynamic.Replacing.{clauses_at}
use Rattle.candidate_eval.specs.Dynamic.Required.{AreRequirements, own_bounds}
use Rattle.candidate_eval.proofs.Dynamic.Requiring.{declared-parameters, requirements-back}
use Rattle.candidate_eval.proofs.Outcomes.Responding.{clauses-kept}
use Rattle.std.proofs.lemmas.Result.{err_from_is_err_and}
use Rattle.candidate_eval.specs.Interface.Accounts.StopsSomehow.{making}
use Rattle.candidate_eval.proofs.Interface.Unmade.{unmade-before}
use Rattle.candidate_eval.proofs.objects.object_candidate.prepare.Goals as goal

pub own_bounds-requires-clause-bounds : goal.own_bounds-requires-clause-bounds
own_bounds-requires-clause-bounds g c = (preds-kept (g.E.Build.context c.args.ecx.now) (g.E.Build.context c.instance.new.ecx) c.args.object_bounds c.instance.ensures.kept.grows c.requires.bounds).0

pub requirements-requires : goal.requirements-requires
requirements-requires g c = record {
  args = (args-kept (g.E.Build.context c.instance.new.ecx) (g.E.Build.context c.own_bounds.new.make) c.in_ok-reference.reference.args c.own_bounds.ensures.grows c.in_ok-reference.ensures.sort.0).0;
}

pub returns-clause-sort : goal.returns-clause-sort
returns-clause-sort g c =
    let b1 = g.E.Build.context c.instance.new.ecx in
    let b2 = g.E.Build.context c.own_bounds.new.make in
    let b3 = g.E.Build.context c.requirements.new.make in
    let object = c.self_ty-object.result in
    let is = subst (λ (y : Context). IsTy y.trees object) c.cx-2.ensures c.self_ty-object.ensures.sort in
    let later = grows-trans b1 b2 b3 c.own_bounds.ensures.grows c.requirements.ensures.grows in
    ((ty-kept b1 b3 object later is).0, (clauses-kept b2 b3 c.in_ok-bounds.bounds.items c.requirements.ensures.grows c.in_ok-bounds.ensures.sort).0, c.in_ok-required.ensures.sort)

pub returns-clause-object : goal.returns-clause-object
returns-clause-object g c =
    let b1 = g.E.Build.context c.instance.new.ecx in
    let b2 = g.E.Build.context c.own_bounds.new.make in
    let b3 = g.E.Build.context c.requirements.new.make in
    let object = c.self_ty-object.result in
    let is = subst (λ (y : Context). IsTy y.trees object) c.cx-2.ensures c.self_ty-object.ensures.sort in
    let tree = subst (λ (y : Context). ty_tree y.trees object ≡ first_tree (args_forest y.trees c.in_ok-reference.reference.args)) c.cx-2.ensures c.self_ty-object.ensures.tree in
    let later = grows-trans b1 b2 b3 c.own_bounds.ensures.grows c.requirements.ensures.grows in
    (ty-kept b1 b3 object later is).1 ∙ (tree ∙ ap first_tree c.in_ok-reference.ensures.arguments)

pub returns-clause-bounds : goal.returns-clause-bounds
returns-clause-bounds g c =
    let a = g.E.Build.context c.args.ecx.now in
    let b1 = g.E.Build.context c.instance.new.ecx in
    let b2 = g.E.Build.context c.own_bounds.new.make in
    let b3 = g.E.Build.context c.requirements.new.make in
    let object = c.self_ty-object.result in
    let fresh = fresh_arguments (g.E.EvalCtxt.state c.args.ecx.now) (clause_kind_tree a.trees (reference_clause c.args.trait_ref)) in
    let tree = subst (λ (y : Context). ty_tree y.trees object ≡ first_tree (args_forest y.trees c.in_ok-reference.reference.args)) c.cx-2.ensures c.self_ty-object.ensures.tree in
    (clauses-kept b2 b3 c.in_ok-bounds.bounds.items c.requirements.ensures.grows c.in_ok-bounds.ensures.sort).1
    ∙ (c.in_ok-bounds.ensures.trees
    ∙ (ap (λ (t : Tree). own_bounds t (preds_forest b1.trees c.args.object_bounds)) (tree ∙ ap first_tree c.in_ok-reference.ensures.arguments)
    ∙ ap (own_bounds (first_tree fresh)) (preds-kept a b1 c.args.object_bounds c.instance.ensures.kept.grows c.requires.bounds).1))

pub returns-clause-required : goal.returns-clause-required
returns-clause-required g c =
    let a = g.E.Build.context c.args.ecx.now in
    let b1 = g.E.Build.context c.instance.new.ecx in
    let b2 = g.E.Build.context c.own_bounds.new.make in
    let b3 = g.E.Build.context c.requirements.new.make in
    let r = c.in_ok-reference.reference in
    let items = c.in_ok-required.required.items in
    let fresh = fresh_arguments (g.E.EvalCtxt.state c.args.ecx.now) (clause_kind_tree a.trees (reference_clause c.args.trait_ref)) in
    let table = subst IsWellFormedTable c.cx.ensures c.recall_well_formed_table.ensures in
    let well = subst IsWellFormed c.cx-3.ensures c.recall_well_formed.ensures in
    let first = c.instance.ensures.kept.grows in
    let second = grows-trans a b1 b2 first c.own_bounds.ensures.grows in
    let third = grows-trans a b2 b3 second c.requirements.ensures.grows in
    let args = (args-kept b1 b2 r.args c.own_bounds.ensures.grows c.in_ok-reference.ensures.sort.0).1 ∙ c.in_ok-reference.ensures.arguments in
    let there = subst (λ (x : Forest). AreRequirements b2 r.def_id.0 x (clauses_at b3.trees items)) args c.in_ok-required.ensures.requirements in
    let back = requirements-back a b2 b3 r.def_id.0 fresh items table well second third (declared-parameters a b1 r first c.in_ok-reference.ensures.sort.1) there in
    subst (λ (i : TraitId). AreRequirements a i.0 fresh (clauses_at b3.trees items)) c.in_ok-reference.ensures.id back

pub returns-in_err-bounds-clause-kept : goal.returns-in_err-bounds-clause-kept
returns-in_err-bounds-clause-kept g c = then c.instance.ensures.kept (made (g.met.E.EvalCtxt.by_rest c.instance.new.ecx c.own_bounds.new.make c.own_bounds.ensures.rest) c.own_bounds.ensures.grows)

pub returns-in_err-required-clause-kept : goal.returns-in_err-required-clause-kept
returns-in_err-required-clause-kept g c =
    let law = g.met.E.EvalCtxt.by_rest in
    then (then c.instance.ensures.kept (made (law c.instance.new.ecx c.own_bounds.new.make c.own_bounds.ensures.rest) c.own_bounds.ensures.grows))
    (made (law c.own_bounds.new.make c.requirements.new.make c.requirements.ensures.rest) c.requirements.ensures.grows)

pub returns-clause-kept : goal.returns-clause-kept
returns-clause-kept g c =
    let law = g.met.E.EvalCtxt.by_rest in
    then (then c.instance.ensures.kept (made (law c.instance.new.ecx c.own_bounds.new.make c.own_bounds.ensures.rest) c.own_bounds.ensures.grows))
    (made (law c.own_bounds.new.make c.requirements.new.make c.requirements.ensures.rest) c.requirements.ensures.grows)

pub returns-clause-state : goal.returns-clause-state
returns-clause-state g c =
    let law = g.met.E.EvalCtxt.by_rest in
    (law c.own_bounds.new.make c.requirements.new.make c.requirements.ensures.rest).1 ∙ ((law c.instance.new.ecx c.own_bounds.new.make c.own_bounds.ensures.rest).1 ∙ c.in_ok-reference.ensures.state)

pub returns-in_err-bounds-clause-cause : goal.returns-in_err-bounds-clause-cause
returns-in_err-bounds-clause-cause g c =
    let p = err_from_is_err_and c.from_residual-in_err-bounds.result c.from_residual-in_err-bounds.ensures.1 in
    rw (p.1, p.2) (making (unmade-before c.instance.ensures.kept.grows c.in_err-bounds.ensures.cause))

pub returns-in_err-required-clause-cause : goal.returns-in_err-required-clause-cause
returns-in_err-required-clause-cause g c =
    let p = err_from_is_err_and c.from_residual-in_err-required.result c.from_residual-in_err-required.ensures.1 in
    rw (p.1, p.2) (making (unmade-before (grows-trans _ _ _ c.instance.ensures.kept.grows c.own_bounds.ensures.grows) c.in_err-required.ensures.cause))
