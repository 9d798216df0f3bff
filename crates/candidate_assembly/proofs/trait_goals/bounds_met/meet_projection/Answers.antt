use Rattle.std.proofs.Common.{None, Some, arith, length, refl, ap, ◌∙◌}
use Rattle.std.specs.Prelude.{slice_index_or}
use Rattle.std.proofs.lemmas.Result.{err_from_is_err_and}
use Rattle.ir_trees.specs.declared.ir.kinds.Pred.{Pred}
use Rattle.ir_trees.specs.Syntax.Words.{env_forest, pred_tree}
use Rattle.candidate_eval.proofs.Interface.Accounts.{by-stop, reaches, somehow-later}
use Rattle.candidate_eval.proofs.Dynamic.Objects.{env-kept}
use Rattle.candidate_eval.proofs.Interface.Probing.{then}
use Rattle.candidate_assembly.specs.Calls.Upcasting.{IsRulePred, meets_projection, row_under}
use Rattle.candidate_assembly.proofs.Calls.Causes.{answered-error}
use Rattle.candidate_assembly.proofs.Upcasting.UpcastMatches.{met-then}
use Rattle.candidate_assembly.proofs.Upcasting.UpcastMet.{found-one, none-met, only-met, only-refused, several-met}
use Rattle.candidate_assembly.proofs.Upcasting.UpcastRows.{pred-kept}
use Rattle.candidate_assembly.proofs.trait_goals.bounds_met.meet_projection.Goals as goal

pub returns-in-empty-clause-met : goal.returns-in-empty-clause-met
returns-in-empty-clause-met g c =
    let E = g.E.EvalCtxt in
    let old = c.args.ecx.now in
    let ts = (g.E.Build.context old).trees in
    none-met (E.judge (E.fixed old)) (g.met.E.EvalCtxt.lawful (E.fixed old)) (env_forest ts c.args.env) ts (E.state old) (E.state c.matching_bounds.new.ecx) c.matching_bounds.ensures.alike c.requires.env_below c.args.item.0 c.args.target c.requires.target
    c.args.sources.now c.as_slice.result.now c.requires.sources (c.as_slice.ensures.value ∙ c.in_ok-found.ensures.found) c.in-empty.len_below

pub equate_bounds-requires-clause-env : goal.equate_bounds-requires-clause-env
equate_bounds-requires-clause-env g c = (env-kept (g.E.Build.context c.args.ecx.now) (g.E.Build.context c.matching_bounds.new.ecx) c.args.env c.matching_bounds.ensures.kept.grows c.requires.env).0

pub equate_bounds-requires-clause-source : goal.equate_bounds-requires-clause-source
equate_bounds-requires-clause-source g c =
    let E = g.E.EvalCtxt in
    let old = c.args.ecx.now in
    let start = g.E.Build.context old in
    let d : Pred = record { 0 = 0 } in
    let xs = c.as_slice.result.now in
    let own = found-one (IsRulePred start.trees (length (E.state old).variables))
    (λ p. meets_projection (E.judge (E.fixed old)) (env_forest start.trees c.args.env) (E.state old) c.args.item.0 (pred_tree start.trees c.args.target) (pred_tree start.trees p)) c.args.sources.now xs 0 d c.requires.sources
    (c.as_slice.ensures.value ∙ c.in_ok-found.ensures.found) (let l = c.in-len1.len_at_least in omega (arith, l)) in
    (pred-kept start (g.E.Build.context c.matching_bounds.new.ecx) (slice_index_or xs 0 d) c.matching_bounds.ensures.kept.grows own.0).0

pub equate_bounds-requires-clause-target : goal.equate_bounds-requires-clause-target
equate_bounds-requires-clause-target g c = (pred-kept (g.E.Build.context c.args.ecx.now) (g.E.Build.context c.matching_bounds.new.ecx) c.args.target c.matching_bounds.ensures.kept.grows c.requires.target.0).0

pub returns-in_err-equate_bounds-in-len1-clause-kept : goal.returns-in_err-equate_bounds-in-len1-clause-kept
returns-in_err-equate_bounds-in-len1-clause-kept g c = then c.matching_bounds.ensures.kept c.equate_bounds.ensures.kept

pub returns-in_err-equate_bounds-in-len1-clause-met : goal.returns-in_err-equate_bounds-in-len1-clause-met
returns-in_err-equate_bounds-in-len1-clause-met g c =
    let E = g.E.EvalCtxt in
    let old = c.args.ecx.now in
    let mid = c.matching_bounds.new.ecx in
    let start = g.E.Build.context old in
    let now = g.E.Build.context mid in
    let kept = c.matching_bounds.ensures.kept in
    let d : Pred = record { 0 = 0 } in
    let xs = c.as_slice.result.now in
    let e = env_forest start.trees c.args.env in
    let found = c.as_slice.ensures.value ∙ c.in_ok-found.ensures.found in
    let own = found-one (IsRulePred start.trees (length (E.state old).variables))
    (λ p. meets_projection (E.judge (E.fixed old)) e (E.state old) c.args.item.0 (pred_tree start.trees c.args.target) (pred_tree start.trees p)) c.args.sources.now xs 0 d c.requires.sources
    found (let l = c.in-len1.len_at_least in omega (arith, l)) in
    let r = c.from_residual-in_err-equate_bounds-in-len1.result in
    let x = c.in_err-equate_bounds-in-len1.field-0.0 in
    only-refused (E.judge (E.fixed old)) (g.met.E.EvalCtxt.lawful (E.fixed old)) e start.trees (E.state old) (E.state mid) c.matching_bounds.ensures.alike c.requires.env_below c.args.item.0 c.args.target c.requires.target
    c.args.sources.now xs c.requires.sources found d (E.state c.equate_bounds.new.ecx) r x c.in-len1.len_at_least c.in-len1.len_below
    (answered-error r x (err_from_is_err_and r c.from_residual-in_err-equate_bounds-in-len1.ensures.1))
    (λ n. met-then E.judge (E.fixed old) (E.fixed mid) e (env_forest now.trees c.args.env) (E.state mid) (E.state mid) (row_under (pred_tree start.trees (slice_index_or xs 0 d))) (row_under (pred_tree start.trees c.args.target))
    (row_under (pred_tree now.trees (slice_index_or xs 0 d))) (row_under (pred_tree now.trees c.args.target)) None kept.fixed_same (env-kept start now c.args.env kept.grows c.requires.env).1 refl
    (ap row_under (pred-kept start now (slice_index_or xs 0 d) kept.grows own.0).1) (ap row_under (pred-kept start now c.args.target kept.grows c.requires.target.0).1) (c.in_err-equate_bounds-in-len1.ensures.refused n))

pub returns-in_err-equate_bounds-in-len1-clause-cause : goal.returns-in_err-equate_bounds-in-len1-clause-cause
returns-in_err-equate_bounds-in-len1-clause-cause g c =
    let r = c.from_residual-in_err-equate_bounds-in-len1.result in
    let x = c.in_err-equate_bounds-in-len1.field-0.0 in
    rw (answered-error r x (err_from_is_err_and r c.from_residual-in_err-equate_bounds-in-len1.ensures.1))
    (by-stop x (λ s. somehow-later (reaches c.matching_bounds.ensures.kept)) c.in_err-equate_bounds-in-len1.ensures.cause)

pub returns-in-len1-clause-kept : goal.returns-in-len1-clause-kept
returns-in-len1-clause-kept g c = then c.matching_bounds.ensures.kept c.equate_bounds.ensures.kept

pub returns-in-len1-clause-met : goal.returns-in-len1-clause-met
returns-in-len1-clause-met g c =
    let E = g.E.EvalCtxt in
    let old = c.args.ecx.now in
    let mid = c.matching_bounds.new.ecx in
    let start = g.E.Build.context old in
    let now = g.E.Build.context mid in
    let kept = c.matching_bounds.ensures.kept in
    let d : Pred = record { 0 = 0 } in
    let xs = c.as_slice.result.now in
    let e = env_forest start.trees c.args.env in
    let found = c.as_slice.ensures.value ∙ c.in_ok-found.ensures.found in
    let own = found-one (IsRulePred start.trees (length (E.state old).variables))
    (λ p. meets_projection (E.judge (E.fixed old)) e (E.state old) c.args.item.0 (pred_tree start.trees c.args.target) (pred_tree start.trees p)) c.args.sources.now xs 0 d c.requires.sources
    found (let l = c.in-len1.len_at_least in omega (arith, l)) in
    only-met (E.judge (E.fixed old)) (g.met.E.EvalCtxt.lawful (E.fixed old)) e start.trees (E.state old) (E.state mid) c.matching_bounds.ensures.alike c.requires.env_below c.args.item.0 c.args.target c.requires.target
    c.args.sources.now xs c.requires.sources found d (E.state c.equate_bounds.new.ecx) c.in-len1.len_at_least c.in-len1.len_below
    (met-then E.judge (E.fixed old) (E.fixed mid) e (env_forest now.trees c.args.env) (E.state mid) (E.state mid) (row_under (pred_tree start.trees (slice_index_or xs 0 d))) (row_under (pred_tree start.trees c.args.target))
    (row_under (pred_tree now.trees (slice_index_or xs 0 d))) (row_under (pred_tree now.trees c.args.target)) (Some (E.state c.equate_bounds.new.ecx)) kept.fixed_same (env-kept start now c.args.env kept.grows c.requires.env).1 refl
    (ap row_under (pred-kept start now (slice_index_or xs 0 d) kept.grows own.0).1) (ap row_under (pred-kept start now c.args.target kept.grows c.requires.target.0).1) c.in_ok-equate_bounds-in-len1.ensures.ok)

pub returns-clause-met : goal.returns-clause-met
returns-clause-met g c =
    let E = g.E.EvalCtxt in
    let old = c.args.ecx.now in
    let ts = (g.E.Build.context old).trees in
    several-met (E.judge (E.fixed old)) (g.met.E.EvalCtxt.lawful (E.fixed old)) (env_forest ts c.args.env) ts (E.state old) (E.state c.matching_bounds.new.ecx) c.matching_bounds.ensures.alike c.requires.env_below c.args.item.0 c.args.target c.requires.target
    c.args.sources.now c.as_slice.result.now c.requires.sources (c.as_slice.ensures.value ∙ c.in_ok-found.ensures.found) c.in_default.len_at_least
