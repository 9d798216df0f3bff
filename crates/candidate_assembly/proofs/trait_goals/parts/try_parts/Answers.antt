use Rattle.std.proofs.Common.{◌∙◌}
use Rattle.std.proofs.lemmas.Result.{err_from_is_err_and}
use Rattle.ir_trees.proofs.Growth.Kept.{args-kept, grows-trans}
use Rattle.candidate_eval.proofs.Interface.Accounts.{reaches}
use Rattle.candidate_eval.proofs.Dynamic.Objects.{env-kept}
use Rattle.candidate_eval.proofs.Interface.Probing.{made, then}
use Rattle.candidate_eval.proofs.Builtins.Types.{types_kept}
use Rattle.candidate_assembly.proofs.Calls.Causes.{answered-stop, caused, later, made-here, somehow-here}
use Rattle.candidate_assembly.proofs.Rules.PartsTold.{parts-told}
use Rattle.candidate_assembly.proofs.Goals.TraitClauses.{fit-kept}
use Rattle.candidate_assembly.proofs.Calls.Considering.{told-own}
use Rattle.candidate_assembly.proofs.Calls.Stepping.{somehow-own, unmade-own}
use Rattle.candidate_eval.proofs.Interface.Unmade.{unmade-before}
use Rattle.candidate_assembly.proofs.trait_goals.parts.try_parts.Goals as goal

pub returns-in_err-under-clause-cause : goal.returns-in_err-under-clause-cause
returns-in_err-under-clause-cause g c =
    let p = err_from_is_err_and c.from_residual.result c.from_residual.ensures.1 in
    rw (p.1, p.2) (somehow-here c.in_err-under.ensures.cause)

pub for_parts-requires-clause-args : goal.for_parts-requires-clause-args
for_parts-requires-clause-args g c = (args-kept _ _ c.args.predicate.trait_ref.args c.enter_kinds.ensures.kept.grows c.requires.goal.arguments).0

pub for_parts-requires-clause-fit : goal.for_parts-requires-clause-fit
for_parts-requires-clause-fit g c = fit-kept _ _ c.args.predicate.trait_ref c.enter_kinds.ensures.kept.grows c.requires.goal.arguments c.requires.goal.fit

pub for_parts-requires-clause-types : goal.for_parts-requires-clause-types
for_parts-requires-clause-types g c = (types_kept _ _ c.args.types.now c.enter_kinds.ensures.kept.grows.kept c.requires.types).0

pub returns-in_err-clauses-clause-cause : goal.returns-in_err-clauses-clause-cause
returns-in_err-clauses-clause-cause g c =
    let p = err_from_is_err_and c.from_residual-in_err-clauses.result c.from_residual-in_err-clauses.ensures.1 in
    rw (p.1, p.2) (made-here (unmade-before c.enter_kinds.ensures.kept.grows c.in_err-clauses.ensures.cause))

pub returns-in_err-clauses-clause-kept : goal.returns-in_err-clauses-clause-kept
returns-in_err-clauses-clause-kept g c =
    let r = g.met.E.EvalCtxt.by_rest c.enter_kinds.new.ecx c.for_parts.new.make c.for_parts.ensures.rest in
    then c.enter_kinds.ensures.kept (made r c.for_parts.ensures.grows)

pub nest_and_respond-requires-clause-env : goal.nest_and_respond-requires-clause-env
nest_and_respond-requires-clause-env g c = (env-kept (g.E.Build.context c.args.ecx.now) _ c.args.env (grows-trans _ _ _ c.enter_kinds.ensures.kept.grows c.for_parts.ensures.grows) c.requires.goal.env).0

pub returns-clause-kept : goal.returns-clause-kept
returns-clause-kept g c =
    let r = g.met.E.EvalCtxt.by_rest c.enter_kinds.new.ecx c.for_parts.new.make c.for_parts.ensures.rest in
    then (then c.enter_kinds.ensures.kept (made r c.for_parts.ensures.grows)) c.nest_and_respond.ensures.kept

pub returns-clause-cause : goal.returns-clause-cause
returns-clause-cause g c =
    let r = g.met.E.EvalCtxt.by_rest c.enter_kinds.new.ecx c.for_parts.new.make c.for_parts.ensures.rest in
    caused c.nest_and_respond.result (λ s. later (reaches (then c.enter_kinds.ensures.kept (made r c.for_parts.ensures.grows)))) c.nest_and_respond.ensures.cause

pub returns-clause-told : goal.returns-clause-told
returns-clause-told g c =
    let E = g.E.EvalCtxt in
    let first = c.args.ecx.now in
    let last = c.for_parts.new.make in
    let r = g.met.E.EvalCtxt.by_rest c.enter_kinds.new.ecx last c.for_parts.ensures.rest in
    let old = g.E.Build.context first in
    let mid = g.E.Build.context c.enter_kinds.new.ecx in
    let goal-is = c.requires.goal in
    parts-told (E.judge (E.fixed first)) old mid (g.E.Build.context last) (g.E.Build.context c.nest_and_respond.new.ecx).trees (E.state first) c.args.env c.args.predicate c.args.kinds.now c.args.types.now c.in_ok-under.under
    c.as_slice.result.now c.args.source c.nest_and_respond.result c.enter_kinds.ensures.kept.grows c.for_parts.ensures.grows goal-is.env goal-is.arguments
    (types_kept old.trees mid.trees c.args.types.now c.enter_kinds.ensures.kept.grows.kept c.requires.types).1 goal-is.no_parameter c.requires.free c.in_ok-under.ensures.values
    (rw c.as_slice.ensures.value c.in_ok-clauses.ensures.trees)
    (rw (r.0 ∙ c.enter_kinds.ensures.kept.fixed_same, r.1 ∙ c.in_ok-under.ensures.state) at c.nest_and_respond.ensures.told)

pub returns-in_err-under-clause-told : goal.returns-in_err-under-clause-told
returns-in_err-under-clause-told g c =
    let s = c.in_err-under.field-0.0 in
    let r = c.from_residual.result in
    told-own (g.E.Build.context c.enter_kinds.new.ecx).trees r s _ (answered-stop r s (err_from_is_err_and r c.from_residual.ensures.1))
    (somehow-own (λ x S q z y. g.met.E.EvalCtxt.stops_itself x S q z y) s c.in_err-under.ensures.cause)

pub returns-in_err-clauses-clause-told : goal.returns-in_err-clauses-clause-told
returns-in_err-clauses-clause-told g c =
    let s = c.in_err-clauses.field-0.0 in
    let r = c.from_residual-in_err-clauses.result in
    told-own (g.E.Build.context c.for_parts.new.make).trees r s _ (answered-stop r s (err_from_is_err_and r c.from_residual-in_err-clauses.ensures.1)) (unmade-own s c.in_err-clauses.ensures.cause)
