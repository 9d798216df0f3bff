use Rattle.std.proofs.Common.{rules, ◌≡◌, true, false, length, refl, sym, ◌∙◌, ap, subst}
use Rattle.ir_trees.specs.Syntax.Words.{args_forest, clause_tree, env_forest}
use Rattle.ir_trees.specs.Syntax.Trees.{Tree}
use Rattle.ir_folds.proofs.Instantiation.Joining.{clause-kept}
use Rattle.ir_trees.proofs.Growth.Kept.{args-kept, grows-trans}
use Rattle.std.specs.Prelude.{map}
use Rattle.candidate_eval.specs.declared.eval.refusal.NoSolutionOrStop.TheVariants.{NoSolution}
use Rattle.candidate_eval.specs.Dynamic.Objects.{IsAmbiguous, projection_at, fresh_instance, term_in}
use Rattle.candidate_eval.specs.Judges.States.{is_some}
use Rattle.candidate_eval.proofs.Dynamic.Objects.{about-kept, env-kept}
use Rattle.candidate_eval.proofs.Interface.Probing.{of-error, then}
use Rattle.candidate_eval.proofs.Dynamic.Tries.{equated-then, not-one, only-fits, only-tried, picked-at-once, refused-is}
use Rattle.std.proofs.lemmas.Result.{err_from_is_err_and}
use Rattle.candidate_eval.proofs.Interface.Accounts.{at-stop, only-listed, reaches, same-bound, stops-later}
use Rattle.candidate_eval.proofs.objects.object.pick_bound.Goals as goal

pub returns-then-len-ne1-clause-ambiguous : goal.returns-then-len-ne1-clause-ambiguous
returns-then-len-ne1-clause-ambiguous g c =
    let mid = c.matching_bounds.new.ecx in
    let ts = (g.E.Build.context mid).trees in
    let e : c.len.result ≡ length c.in_ok-found.found.items = search rules in
    λ _. IsAmbiguous.not_one (map (clause_tree ts) c.in_ok-found.found.items) c.in_ok-found.ensures.tried (not-one ts c.in_ok-found.found.items c.len.result e c.if-len-ne1.true)

pub can_be_equated-requires-clause-env : goal.can_be_equated-requires-clause-env
can_be_equated-requires-clause-env g c = (env-kept (g.E.Build.context c.args.ecx.now) (g.E.Build.context c.matching_bounds.new.ecx) c.args.env c.matching_bounds.ensures.kept.grows c.requires.env).0

pub can_be_equated-requires-clause-args : goal.can_be_equated-requires-clause-args
can_be_equated-requires-clause-args g c =
    (args-kept (g.E.Build.context c.args.ecx.now) (g.E.Build.context c.matching_bounds.new.ecx) c.args.projection.args c.matching_bounds.ensures.kept.grows c.requires.args).0

pub can_be_equated-requires-clause-about : goal.can_be_equated-requires-clause-about
can_be_equated-requires-clause-about g c =
    let E = g.E.EvalCtxt in
    let old = c.args.ecx.now in
    let mid = c.matching_bounds.new.ecx in
    let start = g.E.Build.context old in
    let l : length c.in_ok-found.found.items ≡ 1 = search rules in
    (only-tried (E.judge (E.fixed old)) (env_forest start.trees c.args.env) (projection_at start.trees c.args.projection) (E.state old) (E.state mid) (map (clause_tree start.trees) c.args.bounds.now)
    (g.E.Build.context mid).trees c.in_ok-found.found.items c.index-only.result.now c.in_ok-found.ensures.tried l c.index-only.ensures).1

pub equate_bound-requires-clause-env : goal.equate_bound-requires-clause-env
equate_bound-requires-clause-env g c =
    let a = g.E.Build.context c.args.ecx.now in
    let b = g.E.Build.context c.matching_bounds.new.ecx in
    let d = g.E.Build.context c.can_be_equated.new.ecx in
    (env-kept a d c.args.env (grows-trans a b d c.matching_bounds.ensures.kept.grows c.can_be_equated.ensures.kept.grows) c.requires.env).0

pub equate_bound-requires-clause-bound : goal.equate_bound-requires-clause-bound
equate_bound-requires-clause-bound g c =
    let l : length c.in_ok-found.found.items ≡ 1 = search rules in
    let b = g.E.Build.context c.matching_bounds.new.ecx in
    (clause-kept b (g.E.Build.context c.can_be_equated.new.ecx) c.index-only.result.now c.can_be_equated.ensures.kept.grows (only-fits b.trees c.in_ok-found.found.items _ c.in_ok-found.ensures.sort l c.index-only.ensures)).0

pub equate_bound-requires-clause-args : goal.equate_bound-requires-clause-args
equate_bound-requires-clause-args g c =
    let a = g.E.Build.context c.args.ecx.now in
    let b = g.E.Build.context c.matching_bounds.new.ecx in
    let d = g.E.Build.context c.can_be_equated.new.ecx in
    (args-kept a d c.args.projection.args (grows-trans a b d c.matching_bounds.ensures.kept.grows c.can_be_equated.ensures.kept.grows) c.requires.args).0

pub equate_bound-requires-clause-about : goal.equate_bound-requires-clause-about
equate_bound-requires-clause-about g c =
    let E = g.E.EvalCtxt in
    let old = c.args.ecx.now in
    let start = g.E.Build.context old in
    let l : length c.in_ok-found.found.items ≡ 1 = search rules in
    let b = g.E.Build.context c.matching_bounds.new.ecx in
    about-kept b (g.E.Build.context c.can_be_equated.new.ecx) c.index-only.result.now c.args.projection.def_id.0 c.can_be_equated.ensures.kept.grows (only-fits b.trees c.in_ok-found.found.items _ c.in_ok-found.ensures.sort l c.index-only.ensures)
    (only-tried (E.judge (E.fixed old)) (env_forest start.trees c.args.env) (projection_at start.trees c.args.projection) (E.state old) (E.state c.matching_bounds.new.ecx) (map (clause_tree start.trees) c.args.bounds.now)
    b.trees c.in_ok-found.found.items c.index-only.result.now c.in_ok-found.ensures.tried l c.index-only.ensures).1

pub returns-then-not-branch-clause-ambiguous : goal.returns-then-not-branch-clause-ambiguous
returns-then-not-branch-clause-ambiguous g c =
    let E = g.E.EvalCtxt in
    let old = c.args.ecx.now in
    let mid = c.matching_bounds.new.ecx in
    let now = c.can_be_equated.new.ecx in
    let start = g.E.Build.context old in
    let after = g.E.Build.context mid in
    let kept = c.matching_bounds.ensures.kept in
    let x = c.index-only.result.now in
    let l : length c.in_ok-found.found.items ≡ 1 = search rules in
    let only = only-tried (E.judge (E.fixed old)) (env_forest start.trees c.args.env) (projection_at start.trees c.args.projection) (E.state old) (E.state mid) (map (clause_tree start.trees) c.args.bounds.now)
    after.trees c.in_ok-found.found.items x c.in_ok-found.ensures.tried l c.index-only.ensures in
    let comes = equated-then E.judge (E.fixed old) (E.fixed mid) (E.state mid) (env_forest start.trees c.args.env) (env_forest after.trees c.args.env) (clause_tree after.trees x) (clause_tree after.trees x)
    (args_forest start.trees c.args.projection.args) (args_forest after.trees c.args.projection.args) kept.fixed_same (env-kept start after c.args.env kept.grows c.requires.env).1 refl (args-kept start after c.args.projection.args kept.grows c.requires.args).1 in
    let no : c.in_ok-can_be_equated.field-0 ≡ false = search rules in
    λ _. IsAmbiguous.refused (E.state mid) (clause_tree after.trees x) only.0 (sym comes ∙ refused-is _ (c.in_ok-can_be_equated.ensures.answer ∙ no))
    (subst (λ f. (E.judge f).alike (E.state mid) (E.state now)) kept.fixed_same c.can_be_equated.ensures.alike)

pub returns-in-Ok-clause-picked : goal.returns-in-Ok-clause-picked
returns-in-Ok-clause-picked g c =
    let E = g.E.EvalCtxt in
    let old = c.args.ecx.now in
    let mid = c.matching_bounds.new.ecx in
    let now = c.can_be_equated.new.ecx in
    let start = g.E.Build.context old in
    let after = g.E.Build.context mid in
    let later = g.E.Build.context now in
    let kept = c.matching_bounds.ensures.kept in
    let more = c.can_be_equated.ensures.kept in
    let grows = grows-trans start after later kept.grows more.grows in
    let x = c.index-only.result.now in
    let l : length c.in_ok-found.found.items ≡ 1 = search rules in
    let only = only-tried (E.judge (E.fixed old)) (env_forest start.trees c.args.env) (projection_at start.trees c.args.projection) (E.state old) (E.state mid) (map (clause_tree start.trees) c.args.bounds.now)
    after.trees c.in_ok-found.found.items x c.in_ok-found.ensures.tried l c.index-only.ensures in
    let same = (clause-kept after later x more.grows (only-fits after.trees c.in_ok-found.found.items x c.in_ok-found.ensures.sort l c.index-only.ensures)).1 in
    let comes = equated-then E.judge (E.fixed old) (E.fixed now) (E.state now) (env_forest start.trees c.args.env) (env_forest later.trees c.args.env) (clause_tree after.trees x) (clause_tree later.trees x)
    (args_forest start.trees c.args.projection.args) (args_forest later.trees c.args.projection.args) (more.fixed_same ∙ kept.fixed_same) (env-kept start later c.args.env grows c.requires.env).1 same (args-kept start later c.args.projection.args grows c.requires.args).1 in
    record {
      last = E.state mid;
      now = E.state now;
      bound = clause_tree after.trees x;
      tried = only.0;
      alike = subst (λ f. (E.judge f).alike (E.state mid) (E.state now)) kept.fixed_same c.can_be_equated.ensures.alike;
      equated = sym comes ∙ c.in-Ok.ensures.ok;
      is = c.in-Ok.ensures.term ∙ ap (λ (t : Tree). term_in (fresh_instance (E.state now) t)) same;
    }

pub returns-in-Err-NoSolution-clause-ambiguous : goal.returns-in-Err-NoSolution-clause-ambiguous
returns-in-Err-NoSolution-clause-ambiguous g c =
    let E = g.E.EvalCtxt in
    let old = c.args.ecx.now in
    let mid = c.matching_bounds.new.ecx in
    let now = c.can_be_equated.new.ecx in
    let start = g.E.Build.context old in
    let after = g.E.Build.context mid in
    let later = g.E.Build.context now in
    let kept = c.matching_bounds.ensures.kept in
    let more = c.can_be_equated.ensures.kept in
    let grows = grows-trans start after later kept.grows more.grows in
    let x = c.index-only.result.now in
    let l : length c.in_ok-found.found.items ≡ 1 = search rules in
    let only = only-tried (E.judge (E.fixed old)) (env_forest start.trees c.args.env) (projection_at start.trees c.args.projection) (E.state old) (E.state mid) (map (clause_tree start.trees) c.args.bounds.now)
    after.trees c.in_ok-found.found.items x c.in_ok-found.ensures.tried l c.index-only.ensures in
    let same = (clause-kept after later x more.grows (only-fits after.trees c.in_ok-found.found.items x c.in_ok-found.ensures.sort l c.index-only.ensures)).1 in
    let before = equated-then E.judge (E.fixed old) (E.fixed mid) (E.state mid) (env_forest start.trees c.args.env) (env_forest after.trees c.args.env) (clause_tree after.trees x) (clause_tree after.trees x)
    (args_forest start.trees c.args.projection.args) (args_forest after.trees c.args.projection.args) kept.fixed_same (env-kept start after c.args.env kept.grows c.requires.env).1 refl (args-kept start after c.args.projection.args kept.grows c.requires.args).1 in
    let comes = equated-then E.judge (E.fixed old) (E.fixed now) (E.state now) (env_forest start.trees c.args.env) (env_forest later.trees c.args.env) (clause_tree after.trees x) (clause_tree later.trees x)
    (args_forest start.trees c.args.projection.args) (args_forest later.trees c.args.projection.args) (more.fixed_same ∙ kept.fixed_same) (env-kept start later c.args.env grows c.requires.env).1 same (args-kept start later c.args.projection.args grows c.requires.args).1 in
    let yes : c.in_ok-can_be_equated.field-0 ≡ true = search rules in
    let is : c.in-Err-NoSolution.field-0 ≡ NoSolution = search rules in
    λ _. IsAmbiguous.changed (E.state mid) (E.state now) (clause_tree after.trees x) only.0 (ap is_some (sym before) ∙ (c.in_ok-can_be_equated.ensures.answer ∙ yes))
    (subst (λ f. (E.judge f).alike (E.state mid) (E.state now)) kept.fixed_same c.can_be_equated.ensures.alike)
    (sym comes ∙ of-error c.equate_bound.result c.in-Err-NoSolution.field-0 _ c.in-Err-NoSolution.is c.equate_bound.ensures.refused is)

pub returns-in-Ok-clause-at_once : goal.returns-in-Ok-clause-at_once
returns-in-Ok-clause-at_once g c = λ x.
    picked-at-once (g.E.EvalCtxt.judge (g.E.EvalCtxt.fixed c.args.ecx.now)) (env_forest (g.E.Build.context c.args.ecx.now).trees c.args.env) (projection_at (g.E.Build.context c.args.ecx.now).trees c.args.projection) x
    (returns-in-Ok-clause-picked g c)

pub returns-in_err-can_be_equated-clause-kept : goal.returns-in_err-can_be_equated-clause-kept
returns-in_err-can_be_equated-clause-kept g c =
    then c.matching_bounds.ensures.kept c.can_be_equated.ensures.kept

pub returns-then-not-branch-clause-kept : goal.returns-then-not-branch-clause-kept
returns-then-not-branch-clause-kept g c =
    then c.matching_bounds.ensures.kept c.can_be_equated.ensures.kept

pub returns-in-Ok-clause-kept : goal.returns-in-Ok-clause-kept
returns-in-Ok-clause-kept g c =
    then (then c.matching_bounds.ensures.kept c.can_be_equated.ensures.kept) c.equate_bound.ensures.kept

pub returns-in-Err-NoSolution-clause-kept : goal.returns-in-Err-NoSolution-clause-kept
returns-in-Err-NoSolution-clause-kept g c =
    then (then c.matching_bounds.ensures.kept c.can_be_equated.ensures.kept) c.equate_bound.ensures.kept

pub returns-clause-kept : goal.returns-clause-kept
returns-clause-kept g c =
    then (then c.matching_bounds.ensures.kept c.can_be_equated.ensures.kept) c.equate_bound.ensures.kept

pub returns-in_err-can_be_equated-clause-cause : goal.returns-in_err-can_be_equated-clause-cause
returns-in_err-can_be_equated-clause-cause g c =
    let E = g.E.EvalCtxt in
    let old = c.args.ecx.now in
    let start = g.E.Build.context old in
    let mid = c.matching_bounds.new.ecx in
    let l : length c.in_ok-found.found.items ≡ 1 = search rules in
    let only = only-tried (E.judge (E.fixed old)) (env_forest start.trees c.args.env) (projection_at start.trees c.args.projection) (E.state old) (E.state mid) (map (clause_tree start.trees) c.args.bounds.now)
    (g.E.Build.context mid).trees c.in_ok-found.found.items c.index-only.result.now c.in_ok-found.ensures.tried l c.index-only.ensures in
    let p = err_from_is_err_and c.from_residual-in_err-can_be_equated.result c.from_residual-in_err-can_be_equated.ensures.1 in
    rw (p.1, p.2) (stops-later (reaches c.matching_bounds.ensures.kept) (only-listed only.0) c.in_err-can_be_equated.ensures.cause)

pub returns-clause-cause : goal.returns-clause-cause
returns-clause-cause g c =
    let E = g.E.EvalCtxt in
    let old = c.args.ecx.now in
    let start = g.E.Build.context old in
    let mid = c.matching_bounds.new.ecx in
    let after = g.E.Build.context mid in
    let x = c.index-only.result.now in
    let l : length c.in_ok-found.found.items ≡ 1 = search rules in
    let only = only-tried (E.judge (E.fixed old)) (env_forest start.trees c.args.env) (projection_at start.trees c.args.projection) (E.state old) (E.state mid) (map (clause_tree start.trees) c.args.bounds.now)
    after.trees c.in_ok-found.found.items x c.in_ok-found.ensures.tried l c.index-only.ensures in
    let same = (clause-kept after (g.E.Build.context c.can_be_equated.new.ecx) x c.can_be_equated.ensures.kept.grows (only-fits after.trees c.in_ok-found.found.items x c.in_ok-found.ensures.sort l c.index-only.ensures)).1 in
    stops-later (reaches (then c.matching_bounds.ensures.kept c.can_be_equated.ensures.kept)) (λ ts i. only-listed only.0 ts (same-bound same ts i))
    (at-stop _ c.in-Err-Stop.field-0 c.in-Err-Stop.stop (search rules) (of-error c.equate_bound.result c.in-Err-Stop.field-0 _ c.in-Err-Stop.is c.equate_bound.ensures.cause))
