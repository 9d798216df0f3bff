use Rattle.std.proofs.Common.{None, Some, length}
use Rattle.std.specs.Prelude.{option_map}
use Rattle.std.proofs.lemmas.Result.{err_from_is_err_and}
use Rattle.ir_trees.specs.Syntax.Words.{clause_tree, env_forest, pred_tree}
use Rattle.candidate_eval.proofs.Interface.Accounts.{by-stop, somehow-later}
use Rattle.candidate_eval.proofs.Dynamic.Objects.{env-kept}
use Rattle.candidate_eval.proofs.Interface.Probing.{made, then}
use Rattle.candidate_eval.specs.Interface.Accounts.StopsSomehow.{making}
use Rattle.candidate_assembly.specs.Calls.Upcasting.{reference_row, rest_of, row_at, row_under}
use Rattle.candidate_assembly.proofs.Calls.Causes.{answered-error, answered-stop}
use Rattle.candidate_assembly.proofs.Upcasting.UpcastMatches.{met-then}
use Rattle.candidate_assembly.proofs.Upcasting.UpcastMet.{own-met, own-refused, principal-trees}
use Rattle.candidate_assembly.proofs.trait_goals.bounds_met.meet_principal.Goals as goal

pub returns-in_err-source-clause-cause : goal.returns-in_err-source-clause-cause
returns-in_err-source-clause-cause g c =
    let r = c.from_residual.result in
    rw (answered-stop r c.in_err-source.field-0.0 (err_from_is_err_and r c.from_residual.ensures.1)) (making c.in_err-source.ensures.cause)

pub equate_rows-requires-clause-env : goal.equate_rows-requires-clause-env
equate_rows-requires-clause-env g c = (env-kept (g.E.Build.context c.args.ecx.now) (g.E.Build.context c.principal_rows.new.make) c.args.env c.principal_rows.ensures.grows c.requires.env).0

pub returns-in_err-equate_rows-clause-kept : goal.returns-in_err-equate_rows-clause-kept
returns-in_err-equate_rows-clause-kept g c = then (made (g.met.E.EvalCtxt.by_rest c.args.ecx.now c.principal_rows.new.make c.principal_rows.ensures.rest) c.principal_rows.ensures.grows) c.equate_rows.ensures.kept

pub returns-in_err-equate_rows-clause-met : goal.returns-in_err-equate_rows-clause-met
returns-in_err-equate_rows-clause-met g c =
    let E = g.E.EvalCtxt in
    let old = c.args.ecx.now in
    let mid = c.principal_rows.new.make in
    let a = g.E.Build.context old in
    let b = g.E.Build.context mid in
    let r = g.met.E.EvalCtxt.by_rest old mid c.principal_rows.ensures.rest in
    let e = env_forest a.trees c.args.env in
    let t = pred_tree a.trees c.args.target in
    let res = c.from_residual-in_err-equate_rows.result in
    let x = c.in_err-equate_rows.field-0.0 in
    own-refused (E.judge (E.fixed old)) (g.met.E.EvalCtxt.lawful (E.fixed old)) e (E.state old) c.args.of.0 (option_map (clause_tree a.trees) c.args.principal) t (principal-trees a.trees (length (E.state old).variables) c.args.principal c.requires.principal)
    c.requires.target.1 c.requires.of a.trees c.in-Some.principal (rw c.cx.ensures at c.in-Some.ensures) (E.state c.equate_rows.new.ecx) res x (answered-error res x (err_from_is_err_and res c.from_residual-in_err-equate_rows.ensures.1))
    (λ n. met-then E.judge (E.fixed old) (E.fixed mid) e (env_forest b.trees c.args.env) (E.state old) (E.state mid) (rest_of (reference_row a.trees c.in-Some.principal)) (row_under t)
    (row_at b.trees c.in_ok-source.source) (row_at b.trees c.in_ok-source.target) None r.0 (env-kept a b c.args.env c.principal_rows.ensures.grows c.requires.env).1 r.1 c.in_ok-source.ensures.source.1 c.in_ok-source.ensures.target.1 (c.in_err-equate_rows.ensures.refused n))

pub returns-in_err-equate_rows-clause-cause : goal.returns-in_err-equate_rows-clause-cause
returns-in_err-equate_rows-clause-cause g c =
    let r = g.met.E.EvalCtxt.by_rest c.args.ecx.now c.principal_rows.new.make c.principal_rows.ensures.rest in
    let res = c.from_residual-in_err-equate_rows.result in
    let x = c.in_err-equate_rows.field-0.0 in
    rw (answered-error res x (err_from_is_err_and res c.from_residual-in_err-equate_rows.ensures.1))
    (by-stop x (λ s. somehow-later (record { same = r.0; grows = c.principal_rows.ensures.grows })) c.in_err-equate_rows.ensures.cause)

pub returns-clause-kept : goal.returns-clause-kept
returns-clause-kept g c = then (made (g.met.E.EvalCtxt.by_rest c.args.ecx.now c.principal_rows.new.make c.principal_rows.ensures.rest) c.principal_rows.ensures.grows) c.equate_rows.ensures.kept

pub returns-clause-met : goal.returns-clause-met
returns-clause-met g c =
    let E = g.E.EvalCtxt in
    let old = c.args.ecx.now in
    let mid = c.principal_rows.new.make in
    let a = g.E.Build.context old in
    let b = g.E.Build.context mid in
    let r = g.met.E.EvalCtxt.by_rest old mid c.principal_rows.ensures.rest in
    let e = env_forest a.trees c.args.env in
    let t = pred_tree a.trees c.args.target in
    own-met (E.judge (E.fixed old)) (g.met.E.EvalCtxt.lawful (E.fixed old)) e (E.state old) c.args.of.0 (option_map (clause_tree a.trees) c.args.principal) t (principal-trees a.trees (length (E.state old).variables) c.args.principal c.requires.principal)
    c.requires.target.1 c.requires.of a.trees c.in-Some.principal (rw c.cx.ensures at c.in-Some.ensures) (E.state c.equate_rows.new.ecx)
    (met-then E.judge (E.fixed old) (E.fixed mid) e (env_forest b.trees c.args.env) (E.state old) (E.state mid) (rest_of (reference_row a.trees c.in-Some.principal)) (row_under t)
    (row_at b.trees c.in_ok-source.source) (row_at b.trees c.in_ok-source.target) (Some (E.state c.equate_rows.new.ecx)) r.0 (env-kept a b c.args.env c.principal_rows.ensures.grows c.requires.env).1 r.1 c.in_ok-source.ensures.source.1 c.in_ok-source.ensures.target.1 c.in_ok-equate_rows.ensures.ok)
