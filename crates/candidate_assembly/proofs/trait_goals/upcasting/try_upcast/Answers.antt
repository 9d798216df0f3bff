use Rattle.std.proofs.Common.{[], ◌∷◌, Ok, Err, map, sym, subst}
use Rattle.std.specs.Prelude.{option_map}
use Rattle.std.proofs.lemmas.Result.{err_from_is_err_and}
use Rattle.ir_trees.specs.Syntax.Words.{clause_tree, env_forest, pred_tree}
use Rattle.candidate_eval.specs.declared.eval.certainty.Certainty.TheVariants.{Yes}
use Rattle.candidate_eval.specs.Derivations.Judging.{judged}
use Rattle.candidate_eval.specs.Derivations.Rules.{ask, nested}
use Rattle.candidate_eval.proofs.Interface.Accounts.{by-stop, reaches}
use Rattle.candidate_eval.proofs.Dynamic.Objects.{env-kept}
use Rattle.candidate_eval.proofs.Interface.Probing.{then}
use Rattle.ir_folds.proofs.Instantiation.Joining.{clause-kept}
use Rattle.candidate_assembly.specs.Answers.Telling.{Told}
use Rattle.candidate_assembly.specs.Rules.Unsizing.{bounds_met}
use Rattle.candidate_assembly.specs.Calls.Upcasting.{upcast_by}
use Rattle.candidate_assembly.proofs.Calls.Causes.{answered-error, caused, later, somehow-here}
use Rattle.candidate_assembly.proofs.Calls.Stepping.{somehow-own, told-error}
use Rattle.candidate_assembly.proofs.Upcasting.UpcastRules.{met-read, one-clause, upcast-told}
use Rattle.candidate_assembly.proofs.trait_goals.upcasting.try_upcast.Goals as goal

pub returns-in_err-meet_bounds-clause-told : goal.returns-in_err-meet_bounds-clause-told
returns-in_err-meet_bounds-clause-told g c =
    let E = g.E.EvalCtxt in
    let first = c.args.ecx.now in
    let old = g.E.Build.context first in
    let x = c.in_err-meet_bounds.field-0.0 in
    let r = c.from_residual.result in
    let held = option_map (clause_tree old.trees) c.args.principal in
    let met = met-read (E.judge (E.fixed first)) (env_forest old.trees c.args.env) (E.state first) (E.state c.meet_bounds.new.ecx) old (option_map (clause_tree old.trees) c.args.principal) c.args.upcast.now c.as_slice-supers.result.now c.as_slice-sources.result.now
    c.as_slice-targets.result.now (Err x) c.as_slice-supers.ensures.value c.as_slice-sources.ensures.value c.as_slice-targets.ensures.value c.in_err-meet_bounds.ensures.met in
    told-error (g.E.Build.context c.meet_bounds.new.ecx).trees r x (judged (E.judge (E.fixed first)) (E.state first) (upcast_by old (env_forest old.trees c.args.env) c.args.upcast.now held c.args.source))
    (answered-error r x (err_from_is_err_and r c.from_residual.ensures.1))
    (λ n. met.refused n (nested (clause_tree old.trees c.args.upcast.now.outlives ∷ [])) (c.requires.upcast.outlives.1.below, tt) (ask c.args.source Yes) tt)
    (by-stop x (λ s. somehow-own g.met.E.EvalCtxt.stops_itself s) c.in_err-meet_bounds.ensures.cause)

pub returns-in_err-meet_bounds-clause-cause : goal.returns-in_err-meet_bounds-clause-cause
returns-in_err-meet_bounds-clause-cause g c =
    let x = c.in_err-meet_bounds.field-0.0 in
    let r = c.from_residual.result in
    rw (answered-error r x (err_from_is_err_and r c.from_residual.ensures.1)) (by-stop x (λ s. somehow-here) c.in_err-meet_bounds.ensures.cause)

pub nest_and_respond-requires-clause-env : goal.nest_and_respond-requires-clause-env
nest_and_respond-requires-clause-env g c = (env-kept (g.E.Build.context c.args.ecx.now) (g.E.Build.context c.meet_bounds.new.ecx) c.args.env c.meet_bounds.ensures.kept.grows c.requires.env).0

pub nest_and_respond-requires-clause-nested : goal.nest_and_respond-requires-clause-nested
nest_and_respond-requires-clause-nested g c =
    let new = g.E.Build.context c.meet_bounds.new.ecx in
    one-clause new.trees c.args.upcast.now.outlives (clause-kept (g.E.Build.context c.args.ecx.now) new c.args.upcast.now.outlives c.meet_bounds.ensures.kept.grows c.requires.upcast.outlives.0).0

pub returns-in-Surely-clause-kept : goal.returns-in-Surely-clause-kept
returns-in-Surely-clause-kept g c = then c.meet_bounds.ensures.kept c.nest_and_respond.ensures.kept

pub returns-in-Surely-clause-told : goal.returns-in-Surely-clause-told
returns-in-Surely-clause-told g c =
    let E = g.E.EvalCtxt in
    let first = c.args.ecx.now in
    let old = g.E.Build.context first in
    let mid = g.E.Build.context c.meet_bounds.new.ecx in
    let u = c.args.upcast.now in
    let steps = bounds_met old (map (clause_tree old.trees) u.supers.items) (map (pred_tree old.trees) u.sources.items) (option_map (clause_tree old.trees) c.args.principal) 0 (map (pred_tree old.trees) u.targets.items) in
    let met = met-read (E.judge (E.fixed first)) (env_forest old.trees c.args.env) (E.state first) (E.state c.meet_bounds.new.ecx) old (option_map (clause_tree old.trees) c.args.principal) c.args.upcast.now c.as_slice-supers.result.now c.as_slice-sources.result.now
    c.as_slice-targets.result.now (Ok c.in_ok-meet_bounds.field-0) c.as_slice-supers.ensures.value c.as_slice-sources.ensures.value c.as_slice-targets.ensures.value c.in_ok-meet_bounds.ensures.met in
    upcast-told (E.judge (E.fixed first)) old mid (g.E.Build.context c.nest_and_respond.new.ecx).trees (E.state first) (E.state c.meet_bounds.new.ecx) c.args.env steps u.outlives c.args.source c.nest_and_respond.result
    c.meet_bounds.ensures.kept.grows c.requires.env c.requires.upcast.outlives (met.surely c.in-Surely.is)
    (rw c.meet_bounds.ensures.kept.fixed_same at c.nest_and_respond.ensures.told)

pub returns-in-Surely-clause-cause : goal.returns-in-Surely-clause-cause
returns-in-Surely-clause-cause g c = caused c.nest_and_respond.result (λ s. later (reaches c.meet_bounds.ensures.kept)) c.nest_and_respond.ensures.cause

pub returns-in-Ambiguously-clause-told : goal.returns-in-Ambiguously-clause-told
returns-in-Ambiguously-clause-told g c =
    let E = g.E.EvalCtxt in
    let first = c.args.ecx.now in
    let old = g.E.Build.context first in
    let met = met-read (E.judge (E.fixed first)) (env_forest old.trees c.args.env) (E.state first) (E.state c.meet_bounds.new.ecx) old (option_map (clause_tree old.trees) c.args.principal) c.args.upcast.now c.as_slice-supers.result.now c.as_slice-sources.result.now
    c.as_slice-targets.result.now (Ok c.in_ok-meet_bounds.field-0) c.as_slice-supers.ensures.value c.as_slice-sources.ensures.value c.as_slice-targets.ensures.value c.in_ok-meet_bounds.ensures.met in
    let comes = met.ambiguously c.in-Ambiguously.is (nested (clause_tree old.trees c.args.upcast.now.outlives ∷ [])) (c.requires.upcast.outlives.1.below, tt) (ask c.args.source Yes) tt in
    subst (λ j. Told (g.E.Build.context c.respond_as.new.ecx).trees c.respond_as.result j) (sym comes) (rw c.meet_bounds.ensures.kept.fixed_same at c.respond_as.ensures.told)

pub returns-in-Ambiguously-clause-cause : goal.returns-in-Ambiguously-clause-cause
returns-in-Ambiguously-clause-cause g c = caused c.respond_as.result (λ s. later (reaches c.meet_bounds.ensures.kept)) c.respond_as.ensures.cause
