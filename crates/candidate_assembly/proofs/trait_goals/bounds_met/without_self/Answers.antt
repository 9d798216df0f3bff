use Rattle.std.proofs.Common.{◌≡◌, subst, ◌∙◌, ap, sym}
use Rattle.ir_trees.specs.Declarations.Context.{Context}
use Rattle.ir_trees.specs.Syntax.Words.{ListFits, args_forest, list_forest}
use Rattle.candidate_assembly.proofs.Calls.Causes.{so-err, so-ok}
use Rattle.candidate_assembly.proofs.Upcasting.UpcastRows.{rest-trees}
use Rattle.std.proofs.lemmas.Result.{err_from_is_err_and}
use Rattle.candidate_eval.specs.Interface.Unmade.IsUnmade.{no_memory}
use Rattle.candidate_eval.proofs.Interface.Unmade.{members-unmade}
use Rattle.candidate_assembly.proofs.trait_goals.bounds_met.without_self.Goals as goal

pub returns-in-len1-up-clause-trees : goal.returns-in-len1-up-clause-trees
returns-in-len1-up-clause-trees g c =
    let old = g.M.Build.context c.args.make.now in
    let xs = c.args-2.result.now in
    let is : c.as_slice.result.now ≡ xs = c.as_slice.ensures.value ∙ c.in_ok-list.ensures.items in
    let fits = subst (λ (x : Context). ListFits x.trees xs) c.cx.ensures c.args-2.ensures.fits in
    let read = subst (λ (x : Context). list_forest x.trees xs ≡ args_forest x.trees c.args.args) c.cx.ensures c.args-2.ensures.tree in
    let rest = rest-trees old.trees c.as_slice.result.now (args_forest old.trees c.args.args) c.in-len1-up.len_at_least (subst (ListFits old.trees) (sym is) fits) (ap (list_forest old.trees) is ∙ read) in
    so-ok c.mk_args.result (λ a m. m ∙ rest) c.mk_args.ensures.made.tree

pub returns-in_err-list-clause-cause : goal.returns-in_err-list-clause-cause
returns-in_err-list-clause-cause g c =
    let p = err_from_is_err_and c.from_residual.result c.from_residual.ensures.1 in
    rw (p.1, p.2) no_memory

pub returns-in-len1-up-clause-cause : goal.returns-in-len1-up-clause-cause
returns-in-len1-up-clause-cause g c = so-err c.mk_args.result (λ s x. members-unmade _ c.mk_args.ensures.made.kept x) c.mk_args.ensures.made.cause
