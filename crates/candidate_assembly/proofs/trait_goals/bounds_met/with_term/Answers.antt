use Rattle.std.proofs.Common.{◌≡◌, ◌++◌, ◌∷◌, [], List, ap, subst, ◌∙◌}
use Rattle.ir_trees.specs.declared.ir.kinds.GenericArg.{GenericArg}
use Rattle.ir_trees.specs.declared.ir.kinds.GenericArg.TheVariants.{Ty}
use Rattle.ir_trees.specs.Declarations.Context.{Context}
use Rattle.ir_trees.specs.Unification.Substitutions.{alone}
use Rattle.ir_trees.specs.Syntax.Trees.{Forest, join}
use Rattle.ir_trees.specs.Syntax.Words.{ListFits, args_forest, list_forest, ty_tree}
use Rattle.candidate_assembly.proofs.Calls.Causes.{so-err, so-ok}
use Rattle.candidate_assembly.proofs.Upcasting.UpcastRows.{pushed-fits, pushed-trees}
use Rattle.std.proofs.lemmas.Result.{err_from_is_err_and}
use Rattle.candidate_eval.specs.Interface.Unmade.IsUnmade.{no_memory}
use Rattle.candidate_eval.proofs.Interface.Unmade.{members-unmade}
use Rattle.candidate_assembly.proofs.trait_goals.bounds_met.with_term.Goals as goal

-- the list that was copied, and the type after it
listed : (g : _) (c : goal.After-as_slice g) → c.as_slice.result.now ≡ c.args-2.result.now ++ Ty c.args.term ∷ []
listed g c = c.as_slice.ensures.value ∙ (c.in_ok-push.ensures.items ∙ ap (λ (xs : List GenericArg). xs ++ Ty c.args.term ∷ []) c.in_ok-list.ensures.items)

pub mk_args-requires : goal.mk_args-requires
mk_args-requires g c =
    let old = g.M.Build.context c.args.make.now in
    pushed-fits old.trees c.args-2.result.now c.as_slice.result.now c.args.term (subst (λ (x : Context). ListFits x.trees c.args-2.result.now) c.cx.ensures c.args-2.ensures.fits) c.requires.term (listed g c)

pub returns-clause-trees : goal.returns-clause-trees
returns-clause-trees g c =
    let old = g.M.Build.context c.args.make.now in
    let read = subst (λ (x : Context). list_forest x.trees c.args-2.result.now ≡ args_forest x.trees c.args.args) c.cx.ensures c.args-2.ensures.tree in
    let items = c.as_slice.ensures.value ∙ (c.in_ok-push.ensures.items ∙ ap (λ (xs : List GenericArg). xs ++ Ty c.args.term ∷ []) c.in_ok-list.ensures.items) in
    let is = pushed-trees old.trees c.args-2.result.now c.as_slice.result.now c.args.term c.requires.term items in
    so-ok c.mk_args.result (λ a m. m ∙ (is ∙ ap (λ (f : Forest). join f (alone (ty_tree old.trees c.args.term))) read)) c.mk_args.ensures.made.tree

pub returns-in_err-list-clause-cause : goal.returns-in_err-list-clause-cause
returns-in_err-list-clause-cause g c =
    let p = err_from_is_err_and c.from_residual.result c.from_residual.ensures.1 in
    rw (p.1, p.2) no_memory

pub returns-in_err-push-clause-cause : goal.returns-in_err-push-clause-cause
returns-in_err-push-clause-cause g c =
    let p = err_from_is_err_and c.from_residual-in_err-push.result c.from_residual-in_err-push.ensures.1 in
    rw (p.1, p.2) no_memory

pub returns-clause-cause : goal.returns-clause-cause
returns-clause-cause g c = so-err c.mk_args.result (λ s x. members-unmade _ c.mk_args.ensures.made.kept x) c.mk_args.ensures.made.cause
