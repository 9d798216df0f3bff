use Rattle.std.proofs.Common.{◌≡◌, refl, Some, None, IfOk, IfErr}
use Rattle.std.proofs.lemmas.Result.{err_from_is_err_and}
use Rattle.ir_trees.specs.Instantiation.Folding.{substituted, substituted_tree}
use Rattle.ir_trees.specs.Syntax.Trees.{ArgumentsKind, TypeKind}
use Rattle.ir_trees.specs.Syntax.Words.{args_forest, env_forest, ty_tree}
use Rattle.ir_trees.specs.Unification.Substitutions.{alone}
use Rattle.ir_trees.proofs.Growth.Kept.{args-kept, grows-refl, ty-kept}
use Rattle.ir_trees.proofs.Instantiation.Folding.{substituted-nothing}
use Rattle.ir_folds.proofs.Instantiation.Substituting.{list-there}
use Rattle.candidate_eval.specs.declared.eval.refusal.NoSolutionOrStop.TheVariants.{NoSolution}
use Rattle.candidate_eval.specs.Interface.Accounts.StopsSomehow.{making}
use Rattle.candidate_eval.specs.Interface.Unmade.IsMade.{with_arguments}
use Rattle.candidate_eval.specs.Interface.Unmade.IsUnmade.{of_trees}
use Rattle.candidate_eval.proofs.Dynamic.Objects.{env-kept}
use Rattle.candidate_eval.proofs.Interface.Accounts.{reaches, somehow-later}
use Rattle.candidate_eval.proofs.Interface.Probing.{then}
use Rattle.candidate_assembly.specs.Answers.Telling.{standing}
use Rattle.candidate_assembly.proofs.Calls.Causes.{caused, so-ok, so-err}
use Rattle.projection_goals.specs.Equations.{both_accepted}
use Rattle.projection_goals.specs.NormalizingLaws.{term-is}
use Rattle.projection_goals.specs.Rows.{held-parts}
use Rattle.projection_goals.proofs.Clauses.{both-reach, both-refuse}
use Rattle.projection_goals.proofs.impls.equate_declared.Goals as goal

pub substitute-requires-clause-there : goal.substitute-requires-clause-there
substitute-requires-clause-there g c =
    let ts = (g.E.Build.context c.args.ecx.now).trees in
    list-there (args_forest ts c.args.locals) ts c.args.header.0 ArgumentsKind refl refl c.requires.header c.requires.there

pub returns-in_err-header-clause-cause : goal.returns-in_err-header-clause-cause
returns-in_err-header-clause-cause g c =
    let p = err_from_is_err_and c.from_residual.result c.from_residual.ensures.1 in
    rw (p.1, p.2) (making
    (of_trees (g.E.Build.context c.args.ecx.now) (grows-refl _) c.substitute.ensures.kept.grows (with_arguments ArgumentsKind c.args.header.0 c.args.locals.0) c.in_err-header.ensures.cause))

pub substitute-requires-2-clause-value : goal.substitute-requires-2-clause-value
substitute-requires-2-clause-value g c = (ty-kept _ _ c.args.value c.substitute.ensures.kept.grows c.requires.value).0

pub substitute-requires-2-clause-args : goal.substitute-requires-2-clause-args
substitute-requires-2-clause-args g c = (args-kept _ _ c.args.locals c.substitute.ensures.kept.grows c.requires.locals).0

pub substitute-requires-2-clause-there : goal.substitute-requires-2-clause-there
substitute-requires-2-clause-there g c =
    let grows = c.substitute.ensures.kept.grows in
    rw ((args-kept _ _ c.args.locals grows c.requires.locals).1, (ty-kept _ _ c.args.value grows c.requires.value).1) c.requires.value_there

pub returns-in_err-value-clause-kept : goal.returns-in_err-value-clause-kept
returns-in_err-value-clause-kept g c = then c.substitute.ensures.kept c.substitute-2.ensures.kept

pub returns-in_err-value-clause-cause : goal.returns-in_err-value-clause-cause
returns-in_err-value-clause-cause g c =
    let p = err_from_is_err_and c.from_residual-in_err-value.result c.from_residual-in_err-value.ensures.1 in
    rw (p.1, p.2) (making
    (of_trees (g.E.Build.context c.substitute.new.ecx) c.substitute.ensures.kept.grows c.substitute-2.ensures.kept.grows (with_arguments TypeKind c.args.value.0 c.args.locals.0) c.in_err-value.ensures.cause))

pub equate_both-requires-clause-env : goal.equate_both-requires-clause-env
equate_both-requires-clause-env g c = (env-kept _ _ c.args.env (then c.substitute.ensures.kept c.substitute-2.ensures.kept).grows c.requires.goal.env).0

pub equate_both-requires-clause-args : goal.equate_both-requires-clause-args
equate_both-requires-clause-args g c = (args-kept _ _ c.args.predicate.alias.args (then c.substitute.ensures.kept c.substitute-2.ensures.kept).grows c.requires.goal.arguments).0

pub equate_both-requires-clause-other_args : goal.equate_both-requires-clause-other_args
equate_both-requires-clause-other_args g c = (args-kept _ _ c.in_ok-header.header c.substitute-2.ensures.kept.grows c.in_ok-header.ensures.sort).0

pub equate_both-requires-clause-term : goal.equate_both-requires-clause-term
equate_both-requires-clause-term g c = c.in_ok-value.ensures.sort

pub equate_both-requires-clause-other_term : goal.equate_both-requires-clause-other_term
equate_both-requires-clause-other_term g c =
    (ty-kept _ _ c.args.predicate.term (then c.substitute.ensures.kept c.substitute-2.ensures.kept).grows (term-is _ c.args.env c.args.predicate c.requires.goal)).0

pub returns-clause-kept : goal.returns-clause-kept
returns-clause-kept g c = then (then c.substitute.ensures.kept c.substitute-2.ensures.kept) c.equate_both.ensures.kept

pub returns-clause-cause : goal.returns-clause-cause
returns-clause-cause g c = caused c.equate_both.result (λ s x. somehow-later (reaches (then c.substitute.ensures.kept c.substitute-2.ensures.kept)) x) c.equate_both.ensures.cause

pub returns-clause-ok : goal.returns-clause-ok
returns-clause-ok g c =
    let E = g.E.EvalCtxt in
    let ts = (g.E.Build.context c.args.ecx.now).trees in
    let J = E.judge (E.fixed c.args.ecx.now) in
    let S = E.state c.args.ecx.now in
    let e = env_forest ts c.args.env in
    let ls = args_forest ts c.args.locals in
    let p = c.args.predicate in
    let a = args_forest ts p.alias.args in
    let b = args_forest ts c.args.header in
    let v = ty_tree ts c.args.value in
    let t = alone (ty_tree ts p.term) in
    let first = c.substitute.ensures.kept in
    let second = c.substitute-2.ensures.kept in
    let both = then first second in
    let own = held-parts _ a t c.requires.goal.no_parameter in
    let ok : IfOk c.equate_both.result (λ _. both_accepted J S e a (substituted ls 0 b) (alone (substituted_tree ls v)) t ≡ Some (E.state c.equate_both.new.ecx))
    = rw (
      both.fixed_same,
      c.substitute-2.ensures.same,
      c.substitute.ensures.same,
      (env-kept _ _ c.args.env both.grows c.requires.goal.env).1,
      (args-kept _ _ p.alias.args both.grows c.requires.goal.arguments).1,
      (args-kept _ _ c.in_ok-header.header second.grows c.in_ok-header.ensures.sort).1,
      c.in_ok-header.ensures.list refl,
      c.in_ok-value.ensures.tree,
      (args-kept _ _ c.args.locals first.grows c.requires.locals).1,
      (ty-kept _ _ c.args.value first.grows c.requires.value).1,
      (ty-kept _ _ p.term both.grows (term-is _ c.args.env p c.requires.goal)).1,
    ) at c.equate_both.ensures.ok in
    so-ok c.equate_both.result
    (λ u h. both-reach J e (standing S ls) a b (alone v) t a (substituted ls 0 b) (alone (substituted_tree ls v)) t (substituted-nothing ls 0 a own.0) refl refl (substituted-nothing ls 0 t own.1) (E.state c.equate_both.new.ecx) h) ok

pub returns-clause-refused : goal.returns-clause-refused
returns-clause-refused g c =
    let E = g.E.EvalCtxt in
    let ts = (g.E.Build.context c.args.ecx.now).trees in
    let J = E.judge (E.fixed c.args.ecx.now) in
    let S = E.state c.args.ecx.now in
    let e = env_forest ts c.args.env in
    let ls = args_forest ts c.args.locals in
    let p = c.args.predicate in
    let a = args_forest ts p.alias.args in
    let b = args_forest ts c.args.header in
    let v = ty_tree ts c.args.value in
    let t = alone (ty_tree ts p.term) in
    let first = c.substitute.ensures.kept in
    let second = c.substitute-2.ensures.kept in
    let both = then first second in
    let own = held-parts _ a t c.requires.goal.no_parameter in
    let refused : IfErr c.equate_both.result (λ w. w ≡ NoSolution → both_accepted J S e a (substituted ls 0 b) (alone (substituted_tree ls v)) t ≡ None)
    = rw (
      both.fixed_same,
      c.substitute-2.ensures.same,
      c.substitute.ensures.same,
      (env-kept _ _ c.args.env both.grows c.requires.goal.env).1,
      (args-kept _ _ p.alias.args both.grows c.requires.goal.arguments).1,
      (args-kept _ _ c.in_ok-header.header second.grows c.in_ok-header.ensures.sort).1,
      c.in_ok-header.ensures.list refl,
      c.in_ok-value.ensures.tree,
      (args-kept _ _ c.args.locals first.grows c.requires.locals).1,
      (ty-kept _ _ c.args.value first.grows c.requires.value).1,
      (ty-kept _ _ p.term both.grows (term-is _ c.args.env p c.requires.goal)).1,
    ) at c.equate_both.ensures.refused in
    so-err c.equate_both.result
    (λ w h n. both-refuse J e (standing S ls) a b (alone v) t a (substituted ls 0 b) (alone (substituted_tree ls v)) t (substituted-nothing ls 0 a own.0) refl refl (substituted-nothing ls 0 t own.1) (h n)) refused
