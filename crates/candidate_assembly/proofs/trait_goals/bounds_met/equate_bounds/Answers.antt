use Rattle.std.proofs.Common.{None, Some}
use Rattle.std.proofs.lemmas.Result.{err_from_is_err_and}
use Rattle.ir_trees.specs.Syntax.Words.{env_forest, pred_tree}
use Rattle.candidate_eval.proofs.Dynamic.Objects.{env-kept}
use Rattle.candidate_eval.proofs.Interface.Probing.{made, then}
use Rattle.candidate_eval.specs.Interface.Accounts.StopsSomehow.{making}
use Rattle.candidate_eval.proofs.Interface.Accounts.{somehow-later}
use Rattle.candidate_assembly.specs.Calls.Upcasting.{row_at, row_under}
use Rattle.candidate_assembly.proofs.Calls.Causes.{answered-stop, caused, so-err, so-ok}
use Rattle.candidate_assembly.proofs.Upcasting.UpcastMatches.{met-then}
use Rattle.candidate_assembly.proofs.trait_goals.bounds_met.equate_bounds.Goals as goal

pub returns-in_err-source-clause-cause : goal.returns-in_err-source-clause-cause
returns-in_err-source-clause-cause g c =
    let r = c.from_residual.result in
    rw (answered-stop r c.in_err-source.field-0.0 (err_from_is_err_and r c.from_residual.ensures.1)) (making c.in_err-source.ensures.cause)

pub equate_rows-requires-clause-env : goal.equate_rows-requires-clause-env
equate_rows-requires-clause-env g c = (env-kept (g.E.Build.context c.args.ecx.now) (g.E.Build.context c.bound_rows.new.make) c.args.env c.bound_rows.ensures.grows c.requires.env).0

pub returns-clause-kept : goal.returns-clause-kept
returns-clause-kept g c = then (made (g.met.E.EvalCtxt.by_rest c.args.ecx.now c.bound_rows.new.make c.bound_rows.ensures.rest) c.bound_rows.ensures.grows) c.equate_rows.ensures.kept

pub returns-clause-ok : goal.returns-clause-ok
returns-clause-ok g c =
    let E = g.E.EvalCtxt in
    let old = c.args.ecx.now in
    let mid = c.bound_rows.new.make in
    let a = g.E.Build.context old in
    let b = g.E.Build.context mid in
    let r = g.met.E.EvalCtxt.by_rest old mid c.bound_rows.ensures.rest in
    so-ok c.equate_rows.result (λ _ m. met-then E.judge (E.fixed old) (E.fixed mid) (env_forest a.trees c.args.env) (env_forest b.trees c.args.env) (E.state old) (E.state mid) (row_under (pred_tree a.trees c.args.source)) (row_under (pred_tree a.trees c.args.target))
    (row_at b.trees c.in_ok-source.source) (row_at b.trees c.in_ok-source.target) (Some (E.state c.equate_rows.new.ecx)) r.0 (env-kept a b c.args.env c.bound_rows.ensures.grows c.requires.env).1 r.1 c.in_ok-source.ensures.source.1 c.in_ok-source.ensures.target.1 m)
    c.equate_rows.ensures.ok

pub returns-clause-refused : goal.returns-clause-refused
returns-clause-refused g c =
    let E = g.E.EvalCtxt in
    let old = c.args.ecx.now in
    let mid = c.bound_rows.new.make in
    let a = g.E.Build.context old in
    let b = g.E.Build.context mid in
    let r = g.met.E.EvalCtxt.by_rest old mid c.bound_rows.ensures.rest in
    so-err c.equate_rows.result (λ e m n. met-then E.judge (E.fixed old) (E.fixed mid) (env_forest a.trees c.args.env) (env_forest b.trees c.args.env) (E.state old) (E.state mid) (row_under (pred_tree a.trees c.args.source)) (row_under (pred_tree a.trees c.args.target))
    (row_at b.trees c.in_ok-source.source) (row_at b.trees c.in_ok-source.target) None r.0 (env-kept a b c.args.env c.bound_rows.ensures.grows c.requires.env).1 r.1 c.in_ok-source.ensures.source.1 c.in_ok-source.ensures.target.1 (m n))
    c.equate_rows.ensures.refused

pub returns-clause-cause : goal.returns-clause-cause
returns-clause-cause g c =
    let r = g.met.E.EvalCtxt.by_rest c.args.ecx.now c.bound_rows.new.make c.bound_rows.ensures.rest in
    caused c.equate_rows.result (λ s. somehow-later (record { same = r.0; grows = c.bound_rows.ensures.grows })) c.equate_rows.ensures.cause
