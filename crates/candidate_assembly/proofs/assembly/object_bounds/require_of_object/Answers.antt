use Rattle.std.proofs.Common.{ap, subst, refl, ◌∙◌}
use Rattle.std.proofs.lemmas.Result.{err_from_is_err_and}
use Rattle.ir_trees.specs.declared.ir.kinds.GoalSource.TheVariants.{ImplWhereBound}
use Rattle.ir_trees.specs.Syntax.Words.{clause_kind_tree, env_forest, preds_forest}
use Rattle.candidate_eval.specs.Interface.Accounts.{StopsSomehow}
use Rattle.candidate_eval.specs.Interface.Evaluators.{with_goals_of}
use Rattle.candidate_eval.specs.Dynamic.ObjectRequirements.{reference_clause}
use Rattle.candidate_eval.specs.Dynamic.Objects.{by_object_stop}
use Rattle.candidate_eval.proofs.Interface.Accounts.{reaches}
use Rattle.candidate_eval.proofs.Interface.Probing.{then}
use Rattle.candidate_assembly.specs.Calls.ObjectCalls.{IsAskedOfObject}
use Rattle.candidate_assembly.specs.Rules.ObjectBounds.{all_asked}
use Rattle.candidate_assembly.proofs.Calls.Causes.{answered-stop, asked-here, caused, later, somehow-here}
use Rattle.candidate_assembly.proofs.Objects.ObjectJudging.{told-known, told-of-own, told-unasked, told-vague}
use Rattle.candidate_assembly.proofs.Calls.Stepping.{evaluator-own, somehow-own}
use Rattle.candidate_assembly.proofs.assembly.object_bounds.require_of_object.Goals as goal

pub returns-then-not-asks : goal.returns-then-not-asks
returns-then-not-asks g c =
    let E = g.E.EvalCtxt in
    let first = c.args.ecx.now in
    let old = g.E.Build.context first in
    let ran = c.respond_as in
    record {
      kept = ran.ensures.kept;
      told = told-unasked c.args.asks E.judge (env_forest old.trees c.args.env) old (E.state first) c.args.trait_ref.value.def_id.0 (clause_kind_tree old.trees (reference_clause c.args.trait_ref)) (preds_forest old.trees c.args.object_bounds) c.args.source
          (E.fixed first) (E.fixed first) (g.E.Build.context ran.new.ecx).trees ran.result refl c.if-not-asks.true ran.ensures.told;
      cause = ran.ensures.cause;
    }

pub returns-in_err-add_goals-in-Ok : goal.returns-in_err-add_goals-in-Ok
returns-in_err-add_goals-in-Ok g c =
    let E = g.E.EvalCtxt in
    let first = c.args.ecx.now in
    let old = g.E.Build.context first in
    let R = IsAskedOfObject c.args.asks (E.judge (E.fixed first)) (env_forest old.trees c.args.env) old (E.state first) c.args.trait_ref.value.def_id.0 (clause_kind_tree old.trees (reference_clause c.args.trait_ref)) (preds_forest old.trees c.args.object_bounds) c.args.source in
    let before = c.predicates_for_object_candidate.ensures.kept in
    let s = c.in_err-add_goals-in-Ok.field-0.0 in
    let why = c.in_err-add_goals-in-Ok.ensures.cause in
    let p = err_from_is_err_and c.from_residual.result c.from_residual.ensures.1 in
    record {
      kept = then before c.add_goals.ensures.kept;
      told = told-of-own (g.E.Build.context c.add_goals.new.self).trees R c.from_residual.result s (answered-stop c.from_residual.result s p) (evaluator-own s (g.met.E.EvalCtxt.stops_itself _ _ _ s why));
      cause = rw (p.1, p.2) (later (reaches before) (asked-here _ c.add_goals.ensures.kept why));
    }

pub returns-in_ok-add_goals-in-Ok : goal.returns-in_ok-add_goals-in-Ok
returns-in_ok-add_goals-in-Ok g c =
    let E = g.E.EvalCtxt in
    let first = c.args.ecx.now in
    let old = g.E.Build.context first in
    let there = c.predicates_for_object_candidate.new.ecx in
    let us = (g.E.Build.context there).trees in
    let xs = c.in-Ok.goals.items in
    let kept = then c.predicates_for_object_candidate.ensures.kept c.add_goals.ensures.kept in
    record {
      kept = then kept c.respond_as-in-Ok.ensures.kept;
      told = told-known c.args.asks E.judge (env_forest old.trees c.args.env) old (E.state first) c.args.trait_ref.value.def_id.0 (clause_kind_tree old.trees (reference_clause c.args.trait_ref)) (preds_forest old.trees c.args.object_bounds) c.args.source
          (E.fixed first) (E.fixed c.add_goals.new.self) (g.E.Build.context c.respond_as-in-Ok.new.ecx).trees us (E.state there) (E.state c.add_goals.new.self) xs c.respond_as-in-Ok.result kept.fixed_same (all_asked c.if-not-asks.false c.in-Ok.ensures.asked)
          (c.in_ok-add_goals-in-Ok.ensures.ok ∙ ap (with_goals_of us (E.state there) ImplWhereBound) c.as_slice.ensures.value) c.respond_as-in-Ok.ensures.told;
      cause = caused c.respond_as-in-Ok.result (λ s. later (reaches kept)) c.respond_as-in-Ok.ensures.cause;
    }

pub returns-in-Err-Ambiguous : goal.returns-in-Err-Ambiguous
returns-in-Err-Ambiguous g c =
    let E = g.E.EvalCtxt in
    let first = c.args.ecx.now in
    let old = g.E.Build.context first in
    let there = c.predicates_for_object_candidate.new.ecx in
    let ran = c.respond_as-in-Err-Ambiguous in
    let kept = c.predicates_for_object_candidate.ensures.kept in
    record {
      kept = then kept ran.ensures.kept;
      told = told-vague c.args.asks E.judge (env_forest old.trees c.args.env) old (E.state first) c.args.trait_ref.value.def_id.0 (clause_kind_tree old.trees (reference_clause c.args.trait_ref)) (preds_forest old.trees c.args.object_bounds) c.args.source
          (E.fixed first) (E.fixed there) (g.E.Build.context ran.new.ecx).trees (E.state there) ran.result kept.fixed_same (c.if-not-asks.false, c.in-Err-Ambiguous.ensures.ambiguous c.in-Err-Ambiguous.field-0-is) ran.ensures.told;
      cause = caused ran.result (λ s. later (reaches kept)) ran.ensures.cause;
    }

pub returns-in-Err-Stop : goal.returns-in-Err-Stop
returns-in-Err-Stop g c =
    let E = g.E.EvalCtxt in
    let first = c.args.ecx.now in
    let old = g.E.Build.context first in
    let R = IsAskedOfObject c.args.asks (E.judge (E.fixed first)) (env_forest old.trees c.args.env) old (E.state first) c.args.trait_ref.value.def_id.0 (clause_kind_tree old.trees (reference_clause c.args.trait_ref)) (preds_forest old.trees c.args.object_bounds) c.args.source in
    let s = c.in-Err-Stop.stop in
    let why = subst (by_object_stop (StopsSomehow E.fixed g.E.Build.context E.state E.stops c.args.ecx.now c.predicates_for_object_candidate.new.ecx)) c.in-Err-Stop.field-0-is c.in-Err-Stop.ensures.cause in
    record {
      kept = c.predicates_for_object_candidate.ensures.kept;
      told = told-of-own (g.E.Build.context c.predicates_for_object_candidate.new.ecx).trees R _ s refl (somehow-own g.met.E.EvalCtxt.stops_itself s why);
      cause = somehow-here why;
    }
