use Rattle.std.proofs.lemmas.Result.{err_from_is_err_and}
use Rattle.candidate_eval.proofs.Dynamic.Objects.{env-kept}
use Rattle.candidate_eval.proofs.Interface.Probing.{made, then}
use Rattle.candidate_assembly.proofs.Calls.Causes.{answered-stop, caused, later, made-here}
use Rattle.candidate_assembly.proofs.Calls.Considering.{told-own}
use Rattle.candidate_assembly.proofs.Calls.Stepping.{unmade-own}
use Rattle.candidate_assembly.proofs.trait_goals.callable.respond_if_sized.Goals as goal

pub returns-in_err-clause-clause-cause : goal.returns-in_err-clause-clause-cause
returns-in_err-clause-clause-cause g c =
    let p = err_from_is_err_and c.from_residual.result c.from_residual.ensures.1 in
    rw (p.1, p.2) (made-here c.in_err-clause.ensures.cause)

pub nest_and_respond-requires-clause-env : goal.nest_and_respond-requires-clause-env
nest_and_respond-requires-clause-env g c = (env-kept (g.E.Build.context c.args.ecx.now) (g.E.Build.context c.meets_trait.new.make) c.args.env c.meets_trait.ensures.grows c.requires.env).0

pub returns-clause-kept : goal.returns-clause-kept
returns-clause-kept g c =
    let r = g.met.E.EvalCtxt.by_rest c.args.ecx.now c.meets_trait.new.make c.meets_trait.ensures.rest in
    then (made r c.meets_trait.ensures.grows) c.nest_and_respond.ensures.kept

pub returns-clause-told : goal.returns-clause-told
returns-clause-told g c =
    let r = g.met.E.EvalCtxt.by_rest c.args.ecx.now c.meets_trait.new.make c.meets_trait.ensures.rest in
    rw (r.0, r.1, (env-kept (g.E.Build.context c.args.ecx.now) (g.E.Build.context c.meets_trait.new.make) c.args.env c.meets_trait.ensures.grows c.requires.env).1, c.in_ok-clause.ensures.tree) at c.nest_and_respond.ensures.told

pub returns-clause-cause : goal.returns-clause-cause
returns-clause-cause g c =
    let r = g.met.E.EvalCtxt.by_rest c.args.ecx.now c.meets_trait.new.make c.meets_trait.ensures.rest in
    caused c.nest_and_respond.result (λ s. later (record { same = r.0; grows = c.meets_trait.ensures.grows })) c.nest_and_respond.ensures.cause

pub returns-in_err-clause-clause-told : goal.returns-in_err-clause-clause-told
returns-in_err-clause-clause-told g c =
    let s = c.in_err-clause.field-0.0 in
    let r = c.from_residual.result in
    told-own (g.E.Build.context c.meets_trait.new.make).trees r s _ (answered-stop r s (err_from_is_err_and r c.from_residual.ensures.1)) (unmade-own s c.in_err-clause.ensures.cause)
