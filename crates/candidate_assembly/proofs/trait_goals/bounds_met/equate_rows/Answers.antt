use Rattle.std.proofs.Common.{None, Some}
use Rattle.std.proofs.lemmas.Result.{err_from_is_err_and}
use Rattle.ir_trees.specs.declared.ir.stop.Stop.{Stop}
use Rattle.ir_trees.specs.Syntax.Words.{args_forest, env_forest}
use Rattle.candidate_eval.specs.Interface.Accounts as question
use Rattle.candidate_eval.proofs.Interface.Accounts.{by-stop, reaches, somehow-later}
use Rattle.candidate_eval.proofs.Dynamic.Objects.{env-kept}
use Rattle.candidate_eval.proofs.Interface.Probing.{then}
use Rattle.candidate_assembly.specs.Calls.Upcasting.{row_at, rows_state, source_trees, target_trees}
use Rattle.candidate_assembly.proofs.Calls.Causes.{answered-error, asked-somehow}
use Rattle.candidate_assembly.proofs.Upcasting.UpcastMatches.{accepted-then, rows-apart, rows-refused, rows-settled, settled-then}
use Rattle.candidate_assembly.proofs.trait_goals.bounds_met.equate_rows.Goals as goal

pub eq_args-requires-clause-env : goal.eq_args-requires-clause-env
eq_args-requires-clause-env g c = (env-kept (g.E.Build.context c.args.ecx.now) (g.E.Build.context c.open_rows.new.ecx) c.args.env c.open_rows.ensures.kept.grows c.requires.env).0

pub returns-in_err-eq_args-clause-kept : goal.returns-in_err-eq_args-clause-kept
returns-in_err-eq_args-clause-kept g c = then c.open_rows.ensures.kept c.eq_args.ensures.kept

pub returns-in_err-eq_args-clause-refused : goal.returns-in_err-eq_args-clause-refused
returns-in_err-eq_args-clause-refused g c =
    let E = g.E.EvalCtxt in
    let old = c.args.ecx.now in
    let mid = c.open_rows.new.ecx in
    let a = g.E.Build.context old in
    let b = g.E.Build.context mid in
    let e = env_forest a.trees c.args.env in
    let s = row_at a.trees c.args.source in
    let t = row_at a.trees c.args.target in
    let S = E.state old in
    rw (answered-error c.from_residual-in_err-eq_args.result c.in_err-eq_args.field-0.0 (err_from_is_err_and c.from_residual-in_err-eq_args.result c.from_residual-in_err-eq_args.ensures.1))
    (λ n. rows-apart (E.judge (E.fixed old)) e S s t
    (accepted-then E.judge (E.fixed old) (E.fixed mid) e (env_forest b.trees c.args.env) (rows_state S s t) (E.state mid) (source_trees S s t) (target_trees S t) (args_forest b.trees c.in_ok-instance.instance) (args_forest b.trees c.in_ok-instance.entered) None
    c.open_rows.ensures.kept.fixed_same (env-kept a b c.args.env c.open_rows.ensures.kept.grows c.requires.env).1 c.in_ok-instance.ensures.state c.in_ok-instance.ensures.source.1 c.in_ok-instance.ensures.target.1 (c.in_err-eq_args.ensures.refused n)))

pub returns-in_err-eq_args-clause-cause : goal.returns-in_err-eq_args-clause-cause
returns-in_err-eq_args-clause-cause g c =
    let E = g.E.EvalCtxt in
    let mid = c.open_rows.new.ecx in
    let b = g.E.Build.context mid in
    let asked = question.equate (env_forest b.trees c.args.env) (args_forest b.trees c.in_ok-instance.instance) (args_forest b.trees c.in_ok-instance.entered) in
    let P : Stop → Type 0 = E.stops c.eq_args.new.self (E.state mid) asked in
    let e = c.in_err-eq_args.field-0.0 in
    rw (answered-error c.from_residual-in_err-eq_args.result e (err_from_is_err_and c.from_residual-in_err-eq_args.result c.from_residual-in_err-eq_args.ensures.1))
    (by-stop {P = P} e (λ s x. somehow-later (reaches c.open_rows.ensures.kept) (asked-somehow asked c.eq_args.ensures.kept x)) c.in_err-eq_args.ensures.cause)

pub returns-in_err-_certainty-clause-kept : goal.returns-in_err-_certainty-clause-kept
returns-in_err-_certainty-clause-kept g c = then (then c.open_rows.ensures.kept c.eq_args.ensures.kept) c.try_evaluate_added_goals.ensures.kept

pub returns-in_err-_certainty-clause-refused : goal.returns-in_err-_certainty-clause-refused
returns-in_err-_certainty-clause-refused g c =
    let E = g.E.EvalCtxt in
    let old = c.args.ecx.now in
    let mid = c.open_rows.new.ecx in
    let now = c.eq_args.new.self in
    let a = g.E.Build.context old in
    let b = g.E.Build.context mid in
    let e = env_forest a.trees c.args.env in
    let s = row_at a.trees c.args.source in
    let t = row_at a.trees c.args.target in
    let S = E.state old in
    let r = c.from_residual-in_err-_certainty.result in
    rw (answered-error r c.in_err-_certainty.field-0.0 (err_from_is_err_and r c.from_residual-in_err-_certainty.ensures.1))
    (λ n. rows-refused (E.judge (E.fixed old)) e S s t (E.state now)
    (accepted-then E.judge (E.fixed old) (E.fixed mid) e (env_forest b.trees c.args.env) (rows_state S s t) (E.state mid) (source_trees S s t) (target_trees S t) (args_forest b.trees c.in_ok-instance.instance) (args_forest b.trees c.in_ok-instance.entered) (Some (E.state now))
    c.open_rows.ensures.kept.fixed_same (env-kept a b c.args.env c.open_rows.ensures.kept.grows c.requires.env).1 c.in_ok-instance.ensures.state c.in_ok-instance.ensures.source.1 c.in_ok-instance.ensures.target.1 c.in_ok-eq_args.ensures.ok)
    (settled-then E.judge (E.fixed old) (E.fixed now) (E.state now) None (then c.open_rows.ensures.kept c.eq_args.ensures.kept).fixed_same (c.in_err-_certainty.ensures.refused n)))

pub returns-in_err-_certainty-clause-cause : goal.returns-in_err-_certainty-clause-cause
returns-in_err-_certainty-clause-cause g c =
    let E = g.E.EvalCtxt in
    let P : Stop → Type 0 = E.stops c.try_evaluate_added_goals.new.self (E.state c.eq_args.new.self) question.evaluate in
    let e = c.in_err-_certainty.field-0.0 in
    let r = c.from_residual-in_err-_certainty.result in
    rw (answered-error r e (err_from_is_err_and r c.from_residual-in_err-_certainty.ensures.1))
    (by-stop {P = P} e (λ s x. somehow-later (reaches (then c.open_rows.ensures.kept c.eq_args.ensures.kept)) (asked-somehow question.evaluate c.try_evaluate_added_goals.ensures.kept x)) c.in_err-_certainty.ensures.cause)

pub returns-clause-kept : goal.returns-clause-kept
returns-clause-kept g c = then (then c.open_rows.ensures.kept c.eq_args.ensures.kept) c.try_evaluate_added_goals.ensures.kept

pub returns-clause-ok : goal.returns-clause-ok
returns-clause-ok g c =
    let E = g.E.EvalCtxt in
    let old = c.args.ecx.now in
    let mid = c.open_rows.new.ecx in
    let now = c.eq_args.new.self in
    let new = c.try_evaluate_added_goals.new.self in
    let a = g.E.Build.context old in
    let b = g.E.Build.context mid in
    let e = env_forest a.trees c.args.env in
    let s = row_at a.trees c.args.source in
    let t = row_at a.trees c.args.target in
    let S = E.state old in
    rows-settled (E.judge (E.fixed old)) e S s t (E.state now) (E.state new) c.in_ok-_certainty._certainty
    (accepted-then E.judge (E.fixed old) (E.fixed mid) e (env_forest b.trees c.args.env) (rows_state S s t) (E.state mid) (source_trees S s t) (target_trees S t) (args_forest b.trees c.in_ok-instance.instance) (args_forest b.trees c.in_ok-instance.entered) (Some (E.state now))
    c.open_rows.ensures.kept.fixed_same (env-kept a b c.args.env c.open_rows.ensures.kept.grows c.requires.env).1 c.in_ok-instance.ensures.state c.in_ok-instance.ensures.source.1 c.in_ok-instance.ensures.target.1 c.in_ok-eq_args.ensures.ok)
    (settled-then E.judge (E.fixed old) (E.fixed now) (E.state now) (Some (c.in_ok-_certainty._certainty, E.state new)) (then c.open_rows.ensures.kept c.eq_args.ensures.kept).fixed_same c.in_ok-_certainty.ensures.ok)
