use Rattle.std.proofs.Common.{◌≡◌, Some, List, sym, ap, subst, ◌∙◌}
use Rattle.ir_trees.specs.declared.ir.heads.Head.TheVariants as H
use Rattle.ir_trees.specs.declared.ir.kinds.Args.{Args}
use Rattle.ir_trees.specs.declared.ir.kinds.GenericArg.{GenericArg}
use Rattle.ir_trees.specs.Declarations.Context.{Context, world}
use Rattle.ir_trees.specs.Syntax.Trees.{Forest, Tree}
use Rattle.ir_trees.specs.Syntax.Words.{ListFits, args_forest, list_forest}
use Rattle.ir_trees.specs.Declarations.Worlds.{AdtSort, World, kinds_of, parameters}
use Rattle.ir_trees.proofs.Growth.Kept.{world-kept}
use Rattle.candidate_assembly.specs.Rules.Unsizing.{unsizing_parameters}
use Rattle.candidate_assembly.proofs.Calls.Causes.{so-err, so-ok}
use Rattle.candidate_assembly.proofs.Unsizing.MixedForests.{args-length, args-row, mixed-row}
use Rattle.std.proofs.lemmas.Result.{err_from_is_err_and}
use Rattle.candidate_eval.specs.Interface.Unmade.IsUnmade.{no_memory}
use Rattle.candidate_eval.proofs.Interface.Unmade.{members-unmade, type-unmade}
use Rattle.ir_trees.specs.declared.ir.kinds.TyKind.TheVariants as TK
use Rattle.candidate_assembly.proofs.trait_goals.unsizing.mixed_type.Goals as goal

abbrev Lists : Args → List GenericArg → Context → Type 0
Lists a xs y = ListFits y.trees xs × (list_forest y.trees xs ≡ args_forest y.trees a)

pub mixed_list-requires : goal.mixed_list-requires
mixed_list-requires g c =
    let old = g.M.Build.context c.args.make.now in
    args-length old.trees (parameters (world old) AdtSort c.args.adt.0) (args_forest old.trees c.args.first) (args_forest old.trees c.args.second) c.args-2.result.now c.args-3.result.now
    (subst (Lists c.args.first c.args-2.result.now) c.cx-cx.ensures (c.args-2.ensures.fits, c.args-2.ensures.tree))
    (subst (Lists c.args.second c.args-3.result.now) c.cx-cx.ensures (c.args-3.ensures.fits, c.args-3.ensures.tree)) c.requires.first_fit c.requires.second_fit

pub mk_args-requires : goal.mk_args-requires
mk_args-requires g c =
    let old = g.M.Build.context c.args.make.now in
    let n = c.args.adt.0 in
    let cs = c.unsizing_parameters-changed.result.now in
    (mixed-row old.trees (parameters (world old) AdtSort n) cs (unsizing_parameters old n) (args_forest old.trees c.args.first) (args_forest old.trees c.args.second) c.args-2.result.now c.args-3.result.now c.as_slice.result.now
    (subst (Lists c.args.first c.args-2.result.now) c.cx-cx.ensures (c.args-2.ensures.fits, c.args-2.ensures.tree))
    (subst (Lists c.args.second c.args-3.result.now) c.cx-cx.ensures (c.args-3.ensures.fits, c.args-3.ensures.tree)) c.requires.first_fit c.requires.second_fit
    (subst (λ (y : Context). cs ≡ unsizing_parameters y n) c.cx-cx.ensures c.unsizing_parameters-changed.ensures) (c.as_slice.ensures.value ∙ c.in_ok-list.ensures)).0

pub mk_ty-requires-clause-takes : goal.mk_ty-requires-clause-takes
mk_ty-requires-clause-takes g c = λ strict no.
    let old = g.M.Build.context c.args.make.now in
    let mid = g.M.Build.context c.mk_args.new.self in
    let n = c.args.adt.0 in
    let cs = c.unsizing_parameters-changed.result.now in
    let made = mixed-row old.trees (parameters (world old) AdtSort n) cs (unsizing_parameters old n) (args_forest old.trees c.args.first) (args_forest old.trees c.args.second) c.args-2.result.now c.args-3.result.now c.as_slice.result.now
    (subst (Lists c.args.first c.args-2.result.now) c.cx-cx.ensures (c.args-2.ensures.fits, c.args-2.ensures.tree))
    (subst (Lists c.args.second c.args-3.result.now) c.cx-cx.ensures (c.args-3.ensures.fits, c.args-3.ensures.tree)) c.requires.first_fit c.requires.second_fit
    (subst (λ (y : Context). cs ≡ unsizing_parameters y n) c.cx-cx.ensures c.unsizing_parameters-changed.ensures) (c.as_slice.ensures.value ∙ c.in_ok-list.ensures) in
    let below = args-row mid.trees c.in_ok-args.args c.in_ok-args.ensures.made.sort ∙ c.in_ok-args.ensures.made.tree in
    ap (λ (w : World). parameters w AdtSort n) (world-kept old mid c.mk_args.ensures.made.kept).0 ∙ (c.requires.first_fit ∙ ap Some (sym (ap kinds_of below ∙ made.2)))

pub returns-clause-tree : goal.returns-clause-tree
returns-clause-tree g c =
    let old = g.M.Build.context c.args.make.now in
    let mid = g.M.Build.context c.mk_args.new.self in
    let n = c.args.adt.0 in
    let cs = c.unsizing_parameters-changed.result.now in
    let made = mixed-row old.trees (parameters (world old) AdtSort n) cs (unsizing_parameters old n) (args_forest old.trees c.args.first) (args_forest old.trees c.args.second) c.args-2.result.now c.args-3.result.now c.as_slice.result.now
    (subst (Lists c.args.first c.args-2.result.now) c.cx-cx.ensures (c.args-2.ensures.fits, c.args-2.ensures.tree))
    (subst (Lists c.args.second c.args-3.result.now) c.cx-cx.ensures (c.args-3.ensures.fits, c.args-3.ensures.tree)) c.requires.first_fit c.requires.second_fit
    (subst (λ (y : Context). cs ≡ unsizing_parameters y n) c.cx-cx.ensures c.unsizing_parameters-changed.ensures) (c.as_slice.ensures.value ∙ c.in_ok-list.ensures) in
    let below = args-row mid.trees c.in_ok-args.args c.in_ok-args.ensures.made.sort ∙ c.in_ok-args.ensures.made.tree in
    so-ok c.mk_ty.result (λ x m. m ∙ ap (λ (f : Forest). let t : Tree = record { head = H.Adt c.args.adt; children = f } in t) (below ∙ made.1)) c.mk_ty.ensures.made.tree

pub returns-in_err-list-clause-cause : goal.returns-in_err-list-clause-cause
returns-in_err-list-clause-cause g c =
    let p = err_from_is_err_and c.from_residual.result c.from_residual.ensures.1 in
    rw (p.1, p.2) no_memory

pub returns-in_err-args-clause-cause : goal.returns-in_err-args-clause-cause
returns-in_err-args-clause-cause g c =
    let p = err_from_is_err_and c.from_residual-in_err-args.result c.from_residual-in_err-args.ensures.1 in
    rw (p.1, p.2) (members-unmade _ c.mk_args.ensures.made.kept c.in_err-args.ensures.made.cause)

pub returns-clause-cause : goal.returns-clause-cause
returns-clause-cause g c = so-err c.mk_ty.result (λ s x. type-unmade (TK.Adt c.args.adt c.in_ok-args.args) c.mk_ty.ensures.made.kept x) c.mk_ty.ensures.made.cause
