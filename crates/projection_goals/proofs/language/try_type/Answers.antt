use Rattle.std.proofs.Common.{true}
use Rattle.std.proofs.lemmas.Result.{err_from_is_err_and}
use Rattle.ir_trees.specs.Syntax.Trees.{is_param}
use Rattle.ir_trees.proofs.Growth.Kept.{ty-kept}
use Rattle.candidate_eval.specs.Derivations.Judging.{judged}
use Rattle.candidate_eval.specs.Interface.Accounts.StopsSomehow.{asking}
use Rattle.candidate_eval.proofs.Dynamic.Objects.{env-kept}
use Rattle.candidate_eval.proofs.Interface.Accounts.{accounted-here, accounted-later, by-stop, reaches}
use Rattle.candidate_eval.proofs.Interface.Probing.{made, then}
use Rattle.candidate_assembly.proofs.Calls.Causes.{answered-error, answered-stop, caused, later, made-here, somehow-here}
use Rattle.candidate_assembly.proofs.Calls.Considering.{told-own}
use Rattle.candidate_assembly.proofs.Calls.Stepping.{evaluator-own, told-error, unmade-own}
use Rattle.projection_goals.specs.LanguageTypes.{equal_rule}
use Rattle.projection_goals.specs.Normalizing.{goal_of_trait, normalizes_goal}
use Rattle.projection_goals.specs.NormalizingLaws.{term-is}
use Rattle.projection_goals.specs.Rows.{held-parts}
use Rattle.projection_goals.proofs.LanguageRules.{equal-judged, equal-refused}
use Rattle.projection_goals.proofs.language.try_type.Goals as goal

pub returns-in_err-ty-clause-told : goal.returns-in_err-ty-clause-told
returns-in_err-ty-clause-told g c =
    let s = c.in_err-ty.field-0.0 in
    let r = c.from_residual.result in
    told-own (g.E.Build.context c.ty.new.make).trees r s _ (answered-stop r s (err_from_is_err_and r c.from_residual.ensures.1)) (unmade-own s c.in_err-ty.ensures.cause)

pub returns-in_err-ty-clause-cause : goal.returns-in_err-ty-clause-cause
returns-in_err-ty-clause-cause g c =
    let p = err_from_is_err_and c.from_residual.result c.from_residual.ensures.1 in
    rw (p.1, p.2) (made-here c.in_err-ty.ensures.cause)

pub returns-in_err-ty-clause-kept : goal.returns-in_err-ty-clause-kept
returns-in_err-ty-clause-kept g c = made (g.met.E.EvalCtxt.by_rest c.args.ecx.now c.ty.new.make c.ty.ensures.rest) c.ty.ensures.grows

pub eq-requires-clause-env : goal.eq-requires-clause-env
eq-requires-clause-env g c = (env-kept (g.E.Build.context c.args.ecx.now) (g.E.Build.context c.ty.new.make) c.args.env c.ty.ensures.grows c.requires.goal.env).0

pub eq-requires-clause-left : goal.eq-requires-clause-left
eq-requires-clause-left g c =
    let old = g.E.Build.context c.args.ecx.now in
    (ty-kept old (g.E.Build.context c.ty.new.make) c.args.predicate.term c.ty.ensures.grows (term-is old c.args.env c.args.predicate c.requires.goal)).0

pub returns-in_err-eq-clause-kept : goal.returns-in_err-eq-clause-kept
returns-in_err-eq-clause-kept g c = then (made (g.met.E.EvalCtxt.by_rest c.args.ecx.now c.ty.new.make c.ty.ensures.rest) c.ty.ensures.grows) c.eq.ensures.kept

pub returns-in_err-eq-clause-told : goal.returns-in_err-eq-clause-told
returns-in_err-eq-clause-told g c =
    let E = g.E.EvalCtxt in
    let first = c.args.ecx.now in
    let old = g.E.Build.context first in
    let mid = g.E.Build.context c.ty.new.make in
    let J = E.judge (E.fixed first) in
    let S = E.state first in
    let now = normalizes_goal old.trees c.args.env c.args.predicate in
    let there = goal_of_trait old now in
    let grows = c.ty.ensures.grows in
    let same = g.met.E.EvalCtxt.by_rest first c.ty.new.make c.ty.ensures.rest in
    let r = c.from_residual-in_err-eq.result in
    let e = c.in_err-eq.field-0.0 in
    told-error (g.E.Build.context c.eq.new.self).trees r e (judged J S (equal_rule there now.term true c.args.named)) (answered-error r e (err_from_is_err_and r c.from_residual-in_err-eq.ensures.1))
    (λ n. equal-refused J S there now.term c.args.named (held-parts is_param now.arguments now.term c.requires.goal.no_parameter).1
    (rw (
      same.0,
      same.1,
      (env-kept old mid c.args.env grows c.requires.goal.env).1,
      (ty-kept old mid c.args.predicate.term grows (term-is old c.args.env c.args.predicate c.requires.goal)).1,
      c.in_ok-ty.ensures.tree,
    ) at c.in_err-eq.ensures.refused n))
    (by-stop e (λ s x. evaluator-own s (g.met.E.EvalCtxt.stops_itself _ _ _ s x)) c.in_err-eq.ensures.cause)

pub returns-in_err-eq-clause-cause : goal.returns-in_err-eq-clause-cause
returns-in_err-eq-clause-cause g c =
    let r = c.from_residual-in_err-eq.result in
    let e = c.in_err-eq.field-0.0 in
    let same = g.met.E.EvalCtxt.by_rest c.args.ecx.now c.ty.new.make c.ty.ensures.rest in
    rw (answered-error r e (err_from_is_err_and r c.from_residual-in_err-eq.ensures.1))
    (by-stop e (λ s x. somehow-here (asking (accounted-later (record { same = same.0; grows = c.ty.ensures.grows }) (accounted-here _ (reaches c.eq.ensures.kept) x)))) c.in_err-eq.ensures.cause)

pub returns-clause-kept : goal.returns-clause-kept
returns-clause-kept g c =
    then (then (made (g.met.E.EvalCtxt.by_rest c.args.ecx.now c.ty.new.make c.ty.ensures.rest) c.ty.ensures.grows) c.eq.ensures.kept) c.respond_as.ensures.kept

pub returns-clause-told : goal.returns-clause-told
returns-clause-told g c =
    let E = g.E.EvalCtxt in
    let first = c.args.ecx.now in
    let old = g.E.Build.context first in
    let mid = g.E.Build.context c.ty.new.make in
    let J = E.judge (E.fixed first) in
    let S = E.state first in
    let U = E.state c.eq.new.self in
    let now = normalizes_goal old.trees c.args.env c.args.predicate in
    let there = goal_of_trait old now in
    let grows = c.ty.ensures.grows in
    let same = g.met.E.EvalCtxt.by_rest first c.ty.new.make c.ty.ensures.rest in
    let both = then (made same grows) c.eq.ensures.kept in
    let accepted = rw (
      same.0,
      same.1,
      (env-kept old mid c.args.env grows c.requires.goal.env).1,
      (ty-kept old mid c.args.predicate.term grows (term-is old c.args.env c.args.predicate c.requires.goal)).1,
      c.in_ok-ty.ensures.tree,
    ) at c.in_ok-eq.ensures.ok in
    let is = equal-judged J S there now.term c.args.named (held-parts is_param now.arguments now.term c.requires.goal.no_parameter).1 U accepted in
    rw is (rw both.fixed_same at c.respond_as.ensures.told)

pub returns-clause-cause : goal.returns-clause-cause
returns-clause-cause g c =
    let same = g.met.E.EvalCtxt.by_rest c.args.ecx.now c.ty.new.make c.ty.ensures.rest in
    caused c.respond_as.result (λ s. later (reaches (then (made same c.ty.ensures.grows) c.eq.ensures.kept))) c.respond_as.ensures.cause
