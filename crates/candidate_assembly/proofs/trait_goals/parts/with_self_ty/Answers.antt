use Rattle.std.proofs.Common.{rules, ◌≡◌, slice_set, refl, subst, ◌∙◌}
use Rattle.ir_trees.specs.declared.ir.kinds.GenericArg.TheVariants as G
use Rattle.ir_trees.specs.Declarations.Context.{Context}
use Rattle.ir_trees.specs.Syntax.Words.{ListFits, args_forest, list_forest}
use Rattle.candidate_assembly.proofs.Goals.SelfTypes.{first-set, fits-still}
use Rattle.std.proofs.lemmas.Result.{err_from_is_err_and}
use Rattle.candidate_eval.specs.Interface.Unmade.IsUnmade.{no_memory}
use Rattle.candidate_eval.proofs.Interface.Unmade.{members-unmade}
use Rattle.candidate_assembly.proofs.trait_goals.parts.with_self_ty.Goals as goal

pub returns-clause-arguments : goal.returns-clause-arguments
returns-clause-arguments g c =
    let old = g.M.Build.context c.args.make.now in
    let xs = c.args-2.result.now in
    let read = subst (λ (y : Context). ListFits y.trees xs × (list_forest y.trees xs ≡ args_forest y.trees c.args.predicate.trait_ref.args)) c.cx.ensures (c.args-2.ensures.fits, c.args-2.ensures.tree) in
    let items : c.as_slice.result.now ≡ slice_set xs 0 (G.Ty c.args.self_ty) = search rules in
    c.in_ok-args.ensures.made.tree ∙ first-set old c.args.predicate.trait_ref xs c.as_slice.result.now c.args.self_ty c.requires.fit read.0 read.1 c.requires.self_ty items

pub returns-clause-fit : goal.returns-clause-fit
returns-clause-fit g c =
    let old = g.M.Build.context c.args.make.now in
    let xs = c.args-2.result.now in
    let read = subst (λ (y : Context). ListFits y.trees xs × (list_forest y.trees xs ≡ args_forest y.trees c.args.predicate.trait_ref.args)) c.cx.ensures (c.args-2.ensures.fits, c.args-2.ensures.tree) in
    let items : c.as_slice.result.now ≡ slice_set xs 0 (G.Ty c.args.self_ty) = search rules in
    fits-still old (g.M.Build.context c.mk_args.new.self) c.args.predicate.trait_ref (record { def_id = c.args.predicate.trait_ref.def_id; args = c.in_ok-args.args }) c.args.self_ty c.mk_args.ensures.made.kept refl c.requires.self_ty c.requires.fit
    (c.in_ok-args.ensures.made.tree ∙ first-set old c.args.predicate.trait_ref xs c.as_slice.result.now c.args.self_ty c.requires.fit read.0 read.1 c.requires.self_ty items)

pub returns-in_err-list-clause-cause : goal.returns-in_err-list-clause-cause
returns-in_err-list-clause-cause g c =
    let p = err_from_is_err_and c.from_residual.result c.from_residual.ensures.1 in
    rw (p.1, p.2) no_memory

pub returns-in_err-args-clause-cause : goal.returns-in_err-args-clause-cause
returns-in_err-args-clause-cause g c =
    let p = err_from_is_err_and c.from_residual-in_err-args.result c.from_residual-in_err-args.ensures.1 in
    rw (p.1, p.2) (members-unmade _ c.mk_args.ensures.made.kept c.in_err-args.ensures.made.cause)
