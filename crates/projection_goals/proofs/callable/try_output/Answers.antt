use Rattle.std.proofs.Common.{◌≡◌, [], Some, subst, sym, ◌∙◌}
use Rattle.std.proofs.lemmas.Result.{err_from_is_err_and}
use Rattle.ir_trees.specs.Declarations.Context.{Context}
use Rattle.ir_trees.specs.Declarations.References.{ArgumentsFit}
use Rattle.ir_trees.specs.Declarations.Worlds.{World, TraitSort, parameters}
use Rattle.ir_trees.specs.Syntax.Trees.{is_param}
use Rattle.ir_trees.specs.Syntax.Words.{IsArgs}
use Rattle.ir_trees.proofs.Growth.Kept.{args-kept, grows-trans, ty-kept, world-kept}
use Rattle.candidate_eval.specs.Builtins.Callable.{CalledWith, callable_of}
use Rattle.candidate_eval.specs.Derivations.Judging.{judged}
use Rattle.candidate_eval.proofs.Interface.Accounts.{by-stop, reaches}
use Rattle.candidate_eval.proofs.Dynamic.Objects.{env-kept}
use Rattle.candidate_eval.proofs.Interface.Probing.{then}
use Rattle.candidate_assembly.proofs.Calls.Causes.{answered-error, answered-stop, caused, later, somehow-here}
use Rattle.candidate_assembly.proofs.Calls.Considering.{told-own}
use Rattle.candidate_assembly.proofs.Calls.Keeping.{somehow-is-own}
use Rattle.candidate_assembly.proofs.Calls.Stepping.{somehow-own, told-error}
use Rattle.candidate_assembly.proofs.Goals.TraitClauses.{fit-kept}
use Rattle.projection_goals.specs.LanguageTypes.{output_rule}
use Rattle.projection_goals.specs.Normalizing.{goal_of_trait, normalizes_goal}
use Rattle.projection_goals.specs.NormalizingLaws.{term-is}
use Rattle.projection_goals.specs.Rows.{held-parts}
use Rattle.projection_goals.proofs.LanguageRules.{output-judged, output-refused}
use Rattle.projection_goals.proofs.callable.try_output.Goals as goal

pub returns-in_err-called-clause-told : goal.returns-in_err-called-clause-told
returns-in_err-called-clause-told g c =
    let s = c.in_err-called.field-0.0 in
    told-own (g.E.Build.context c.open_callable.new.ecx).trees c.from_residual.result s _ (answered-stop c.from_residual.result s (err_from_is_err_and c.from_residual.result c.from_residual.ensures.1))
    (somehow-own g.met.E.EvalCtxt.stops_itself s c.in_err-called.ensures.cause)

pub equate_called-requires-clause-env : goal.equate_called-requires-clause-env
equate_called-requires-clause-env g c = (env-kept (g.E.Build.context c.args.ecx.now) (g.E.Build.context c.open_callable.new.ecx) c.args.env c.open_callable.ensures.kept.grows c.requires.goal.env).0

pub equate_called-requires-clause-args : goal.equate_called-requires-clause-args
equate_called-requires-clause-args g c =
    let old = g.E.Build.context c.args.ecx.now in
    let sort = subst (λ (x : Context). IsArgs x.trees c.reference-trait_ref.result.args) c.cx.ensures c.reference-trait_ref.ensures.sort in
    (args-kept old (g.E.Build.context c.open_callable.new.ecx) c.reference-trait_ref.result.args c.open_callable.ensures.kept.grows sort).0

pub equate_called-requires-clause-fit : goal.equate_called-requires-clause-fit
equate_called-requires-clause-fit g c =
    let old = g.E.Build.context c.args.ecx.now in
    let sort = subst (λ (x : Context). IsArgs x.trees c.reference-trait_ref.result.args) c.cx.ensures c.reference-trait_ref.ensures.sort in
    let fit = subst (λ (x : Context). ArgumentsFit x c.reference-trait_ref.result) c.cx.ensures c.reference-trait_ref.ensures.fit in
    fit-kept old (g.E.Build.context c.open_callable.new.ecx) c.reference-trait_ref.result c.open_callable.ensures.kept.grows sort fit

pub equate_called-requires-clause-term : goal.equate_called-requires-clause-term
equate_called-requires-clause-term g c =
    let old = g.E.Build.context c.args.ecx.now in
    (ty-kept old (g.E.Build.context c.open_callable.new.ecx) c.args.predicate.term c.open_callable.ensures.kept.grows (term-is old c.args.env c.args.predicate c.requires.goal)).0

pub returns-in_err-equate_called-clause-told : goal.returns-in_err-equate_called-clause-told
returns-in_err-equate_called-clause-told g c =
    let E = g.E.EvalCtxt in
    let first = c.args.ecx.now in
    let old = g.E.Build.context first in
    let mid = g.E.Build.context c.open_callable.new.ecx in
    let J = E.judge (E.fixed first) in
    let S = E.state first in
    let kept = c.open_callable.ensures.kept in
    let now = normalizes_goal old.trees c.args.env c.args.predicate in
    let there = goal_of_trait old now in
    let callable = callable_of old.trees c.args.callable in
    let own = held-parts is_param now.arguments now.term c.requires.goal.no_parameter in
    let e = c.in_err-equate_called.field-0.0 in
    let r = c.from_residual-in_err-equate_called.result in
    told-error (g.E.Build.context c.equate_called.new.ecx).trees r e (judged J S (output_rule there now.term (CalledWith callable) (Some c.args.sized))) (answered-error r e (err_from_is_err_and r c.from_residual-in_err-equate_called.ensures.1))
    (λ n. output-refused J S there now.term callable c.args.sized own.0 own.1 c.requires.inputs c.requires.output
    (rw (
      kept.fixed_same,
      c.in_ok-called.ensures.state,
      (env-kept old mid c.args.env kept.grows c.requires.goal.env).1,
      c.reference-trait_ref.ensures.args,
      (args-kept old mid c.args.predicate.alias.args kept.grows c.requires.goal.arguments).1,
      (ty-kept old mid c.args.predicate.term kept.grows (term-is old c.args.env c.args.predicate c.requires.goal)).1,
      c.in_ok-called.ensures.inputs.1,
      c.in_ok-called.ensures.output.1,
    ) at c.in_err-equate_called.ensures.refused n))
    (somehow-is-own E.fixed g.E.Build.context E.state E.stops c.open_callable.new.ecx c.equate_called.new.ecx g.met.E.EvalCtxt.stops_itself e c.in_err-equate_called.ensures.cause)

pub returns-in_err-equate_called-clause-cause : goal.returns-in_err-equate_called-clause-cause
returns-in_err-equate_called-clause-cause g c =
    let r = c.from_residual-in_err-equate_called.result in
    let e = c.in_err-equate_called.field-0.0 in
    rw (answered-error r e (err_from_is_err_and r c.from_residual-in_err-equate_called.ensures.1))
    (by-stop e (λ s x. later (reaches c.open_callable.ensures.kept) (somehow-here x)) c.in_err-equate_called.ensures.cause)

pub returns-in_err-equate_called-clause-kept : goal.returns-in_err-equate_called-clause-kept
returns-in_err-equate_called-clause-kept g c = then c.open_callable.ensures.kept c.equate_called.ensures.kept

pub respond_if_sized-requires-clause-env : goal.respond_if_sized-requires-clause-env
respond_if_sized-requires-clause-env g c =
    (env-kept (g.E.Build.context c.args.ecx.now) (g.E.Build.context c.equate_called.new.ecx) c.args.env (grows-trans (g.E.Build.context c.args.ecx.now) (g.E.Build.context c.open_callable.new.ecx) (g.E.Build.context c.equate_called.new.ecx) c.open_callable.ensures.kept.grows c.equate_called.ensures.kept.grows) c.requires.goal.env).0

pub respond_if_sized-requires-clause-no_parameters : goal.respond_if_sized-requires-clause-no_parameters
respond_if_sized-requires-clause-no_parameters g c =
    let old = g.E.Build.context c.args.ecx.now in
    let mid = g.E.Build.context c.equate_called.new.ecx in
    subst (λ (w : World). parameters w TraitSort c.args.sized.0 ≡ Some [])
    (sym (world-kept old mid (grows-trans old (g.E.Build.context c.open_callable.new.ecx) mid c.open_callable.ensures.kept.grows c.equate_called.ensures.kept.grows)).0) c.requires.no_parameters

pub respond_if_sized-requires-clause-output : goal.respond_if_sized-requires-clause-output
respond_if_sized-requires-clause-output g c =
    (ty-kept (g.E.Build.context c.open_callable.new.ecx) (g.E.Build.context c.equate_called.new.ecx) c.in_ok-called.called.1 c.equate_called.ensures.kept.grows c.in_ok-called.ensures.output.0).0

pub returns-clause-kept : goal.returns-clause-kept
returns-clause-kept g c = then (then c.open_callable.ensures.kept c.equate_called.ensures.kept) c.respond_if_sized.ensures.kept

pub returns-clause-told : goal.returns-clause-told
returns-clause-told g c =
    let E = g.E.EvalCtxt in
    let first = c.args.ecx.now in
    let old = g.E.Build.context first in
    let mid = g.E.Build.context c.open_callable.new.ecx in
    let last = g.E.Build.context c.equate_called.new.ecx in
    let J = E.judge (E.fixed first) in
    let S = E.state first in
    let V = E.state c.equate_called.new.ecx in
    let kept = c.open_callable.ensures.kept in
    let both = then kept c.equate_called.ensures.kept in
    let now = normalizes_goal old.trees c.args.env c.args.predicate in
    let there = goal_of_trait old now in
    let callable = callable_of old.trees c.args.callable in
    let own = held-parts is_param now.arguments now.term c.requires.goal.no_parameter in
    let accepted = rw (
      kept.fixed_same,
      c.in_ok-called.ensures.state,
      (env-kept old mid c.args.env kept.grows c.requires.goal.env).1,
      c.reference-trait_ref.ensures.args,
      (args-kept old mid c.args.predicate.alias.args kept.grows c.requires.goal.arguments).1,
      (ty-kept old mid c.args.predicate.term kept.grows (term-is old c.args.env c.args.predicate c.requires.goal)).1,
      c.in_ok-called.ensures.inputs.1,
      c.in_ok-called.ensures.output.1,
    ) at c.in_ok-equate_called.ensures.ok in
    let is = output-judged J S there now.term callable c.args.sized own.0 own.1 c.requires.inputs c.requires.output V accepted in
    let output = (ty-kept mid last c.in_ok-called.called.1 c.equate_called.ensures.kept.grows c.in_ok-called.ensures.output.0).1 ∙ c.in_ok-called.ensures.output.1 in
    rw is (rw (both.fixed_same, (env-kept old last c.args.env both.grows c.requires.goal.env).1, output) at c.respond_if_sized.ensures.told)

pub returns-clause-cause : goal.returns-clause-cause
returns-clause-cause g c =
    caused c.respond_if_sized.result (λ s. later (reaches (then c.open_callable.ensures.kept c.equate_called.ensures.kept))) c.respond_if_sized.ensures.cause
