use Rattle.std.proofs.Common.{◌≡◌, [], Some, subst, sym, ◌∙◌}
use Rattle.std.proofs.lemmas.Result.{err_from_is_err_and}
use Rattle.ir_trees.specs.Declarations.Worlds.{World, TraitSort, parameters}
use Rattle.ir_trees.proofs.Growth.Kept.{args-kept, grows-trans, ty-kept, world-kept}
use Rattle.candidate_eval.specs.Builtins.Callable.{CalledWith, callable_of}
use Rattle.candidate_eval.specs.Derivations.Characterization.{binder_kinds}
use Rattle.candidate_eval.specs.Derivations.Judging.{judged}
use Rattle.candidate_eval.proofs.Interface.Accounts.{by-stop, reaches}
use Rattle.candidate_eval.proofs.Dynamic.Objects.{env-kept}
use Rattle.candidate_eval.proofs.Interface.Probing.{then}
use Rattle.candidate_assembly.specs.Rules.BuiltinRules.{call_rule}
use Rattle.candidate_assembly.specs.Goals.TraitGoals.{trait_goal}
use Rattle.candidate_assembly.proofs.Rules.CallSteps.{call-judged, call-refused}
use Rattle.candidate_assembly.proofs.Calls.Causes.{answered-error, answered-stop, caused, later, somehow-here}
use Rattle.candidate_assembly.proofs.Calls.Considering.{told-own}
use Rattle.candidate_assembly.proofs.Calls.Keeping.{somehow-is-own}
use Rattle.candidate_assembly.proofs.Calls.Stepping.{somehow-own, told-error}
use Rattle.candidate_assembly.proofs.Goals.TraitClauses.{fit-kept}
use Rattle.candidate_assembly.proofs.trait_goals.callable.try_call.Goals as goal

pub returns-in_err-inputs-clause-told : goal.returns-in_err-inputs-clause-told
returns-in_err-inputs-clause-told g c =
    let E = g.E.EvalCtxt in
    let first = c.args.ecx.now in
    let old = g.E.Build.context first in
    let rule = call_rule (trait_goal old.trees c.args.env c.args.predicate) (CalledWith (callable_of old.trees c.args.callable)) (Some c.args.sized) in
    let s = c.in_err-inputs.field-0.0 in
    told-own (g.E.Build.context c.open_callable.new.ecx).trees c.from_residual.result s (judged (E.judge (E.fixed first)) (E.state first) rule) (answered-stop c.from_residual.result s (err_from_is_err_and c.from_residual.result c.from_residual.ensures.1))
    (somehow-own g.met.E.EvalCtxt.stops_itself s c.in_err-inputs.ensures.cause)

pub equate_inputs-requires-clause-env : goal.equate_inputs-requires-clause-env
equate_inputs-requires-clause-env g c = (env-kept (g.E.Build.context c.args.ecx.now) (g.E.Build.context c.open_callable.new.ecx) c.args.env c.open_callable.ensures.kept.grows c.requires.goal.env).0

pub equate_inputs-requires-clause-args : goal.equate_inputs-requires-clause-args
equate_inputs-requires-clause-args g c = (args-kept (g.E.Build.context c.args.ecx.now) (g.E.Build.context c.open_callable.new.ecx) c.args.predicate.trait_ref.args c.open_callable.ensures.kept.grows c.requires.goal.arguments).0

pub equate_inputs-requires-clause-fit : goal.equate_inputs-requires-clause-fit
equate_inputs-requires-clause-fit g c =
    fit-kept (g.E.Build.context c.args.ecx.now) (g.E.Build.context c.open_callable.new.ecx) c.args.predicate.trait_ref c.open_callable.ensures.kept.grows c.requires.goal.arguments c.requires.goal.fit

pub returns-in_err-equate_inputs-clause-told : goal.returns-in_err-equate_inputs-clause-told
returns-in_err-equate_inputs-clause-told g c =
    let E = g.E.EvalCtxt in
    let first = c.args.ecx.now in
    let old = g.E.Build.context first in
    let mid = g.E.Build.context c.open_callable.new.ecx in
    let J = E.judge (E.fixed first) in
    let S = E.state first in
    let kept = c.open_callable.ensures.kept in
    let now = trait_goal old.trees c.args.env c.args.predicate in
    let callable = callable_of old.trees c.args.callable in
    let ks = binder_kinds callable.variables in
    let a = now.reference.arguments in
    let e = c.in_err-equate_inputs.field-0.0 in
    let r = c.from_residual-in_err-equate_inputs.result in
    told-error (g.E.Build.context c.equate_inputs.new.ecx).trees r e (judged J S (call_rule now (CalledWith callable) (Some c.args.sized))) (answered-error r e (err_from_is_err_and r c.from_residual-in_err-equate_inputs.ensures.1))
    (λ n. call-refused J S now callable c.args.sized c.requires.goal.no_parameter c.requires.inputs c.requires.output c.requires.positive
    (rw (
      kept.fixed_same,
      c.in_ok-inputs.ensures.state,
      (env-kept old mid c.args.env kept.grows c.requires.goal.env).1,
      (args-kept old mid c.args.predicate.trait_ref.args kept.grows c.requires.goal.arguments).1,
      c.in_ok-inputs.ensures.inputs.1,
    ) at c.in_err-equate_inputs.ensures.refused n))
    (somehow-is-own E.fixed g.E.Build.context E.state E.stops c.open_callable.new.ecx c.equate_inputs.new.ecx g.met.E.EvalCtxt.stops_itself e c.in_err-equate_inputs.ensures.cause)

pub returns-in_err-equate_inputs-clause-cause : goal.returns-in_err-equate_inputs-clause-cause
returns-in_err-equate_inputs-clause-cause g c =
    let r = c.from_residual-in_err-equate_inputs.result in
    let e = c.in_err-equate_inputs.field-0.0 in
    rw (answered-error r e (err_from_is_err_and r c.from_residual-in_err-equate_inputs.ensures.1))
    (by-stop e (λ s x. later (reaches c.open_callable.ensures.kept) (somehow-here x)) c.in_err-equate_inputs.ensures.cause)

pub respond_if_sized-requires-clause-env : goal.respond_if_sized-requires-clause-env
respond_if_sized-requires-clause-env g c =
    (env-kept (g.E.Build.context c.args.ecx.now) (g.E.Build.context c.equate_inputs.new.ecx) c.args.env (grows-trans (g.E.Build.context c.args.ecx.now) (g.E.Build.context c.open_callable.new.ecx) (g.E.Build.context c.equate_inputs.new.ecx) c.open_callable.ensures.kept.grows c.equate_inputs.ensures.kept.grows) c.requires.goal.env).0

pub respond_if_sized-requires-clause-no_parameters : goal.respond_if_sized-requires-clause-no_parameters
respond_if_sized-requires-clause-no_parameters g c =
    let old = g.E.Build.context c.args.ecx.now in
    let mid = g.E.Build.context c.equate_inputs.new.ecx in
    subst (λ (w : World). parameters w TraitSort c.args.sized.0 ≡ Some [])
    (sym (world-kept old mid (grows-trans old (g.E.Build.context c.open_callable.new.ecx) mid c.open_callable.ensures.kept.grows c.equate_inputs.ensures.kept.grows)).0) c.requires.no_parameters

pub respond_if_sized-requires-clause-output : goal.respond_if_sized-requires-clause-output
respond_if_sized-requires-clause-output g c =
    (ty-kept (g.E.Build.context c.open_callable.new.ecx) (g.E.Build.context c.equate_inputs.new.ecx) c.in_ok-inputs.output c.equate_inputs.ensures.kept.grows c.in_ok-inputs.ensures.output.0).0

pub returns-clause-kept : goal.returns-clause-kept
returns-clause-kept g c = then (then c.open_callable.ensures.kept c.equate_inputs.ensures.kept) c.respond_if_sized.ensures.kept

pub returns-clause-told : goal.returns-clause-told
returns-clause-told g c =
    let E = g.E.EvalCtxt in
    let first = c.args.ecx.now in
    let old = g.E.Build.context first in
    let mid = g.E.Build.context c.open_callable.new.ecx in
    let last = g.E.Build.context c.equate_inputs.new.ecx in
    let J = E.judge (E.fixed first) in
    let S = E.state first in
    let U = E.state c.equate_inputs.new.ecx in
    let kept = c.open_callable.ensures.kept in
    let both = then kept c.equate_inputs.ensures.kept in
    let now = trait_goal old.trees c.args.env c.args.predicate in
    let callable = callable_of old.trees c.args.callable in
    let matched = rw (
      kept.fixed_same,
      c.in_ok-inputs.ensures.state,
      (env-kept old mid c.args.env kept.grows c.requires.goal.env).1,
      (args-kept old mid c.args.predicate.trait_ref.args kept.grows c.requires.goal.arguments).1,
      c.in_ok-inputs.ensures.inputs.1,
    ) at c.in_ok-equate_inputs.ensures.ok in
    let is = call-judged J S now callable c.args.sized c.requires.goal.no_parameter c.requires.inputs c.requires.output U c.requires.positive matched in
    let output = (ty-kept mid last c.in_ok-inputs.output c.equate_inputs.ensures.kept.grows c.in_ok-inputs.ensures.output.0).1 ∙ c.in_ok-inputs.ensures.output.1 in
    rw is (rw (both.fixed_same, (env-kept old last c.args.env both.grows c.requires.goal.env).1, output) at c.respond_if_sized.ensures.told)

pub returns-clause-cause : goal.returns-clause-cause
returns-clause-cause g c =
    caused c.respond_if_sized.result (λ s. later (reaches (then c.open_callable.ensures.kept c.equate_inputs.ensures.kept))) c.respond_if_sized.ensures.cause
