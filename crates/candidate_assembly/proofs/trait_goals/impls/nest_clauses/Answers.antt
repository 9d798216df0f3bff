use Rattle.std.proofs.Common.{◌≡◌, add-one, drop, slice_index_or, ◌+◌, ◌∷◌}
use Rattle.std.proofs.lemmas.Result.{err_from_is_err_and}
use Rattle.std.proofs.Math.Seq.{drop-cons}
use Rattle.ir_trees.specs.Syntax.Words.{args_forest, clause_tree, env_forest}
use Rattle.ir_folds.proofs.Instantiation.Joining.{clause-kept}
use Rattle.ir_trees.proofs.Growth.Kept.{args-kept}
use Rattle.candidate_eval.specs.Interface.Accounts.StopsSomehow.{asking, making}
use Rattle.candidate_eval.specs.Derivations.Judging.{goal_at}
use Rattle.candidate_eval.specs.Judges.States.{added}
use Rattle.candidate_eval.proofs.Interface.Accounts.{accounted-here, accounted-later, reaches}
use Rattle.candidate_eval.proofs.Dynamic.Objects.{env-kept}
use Rattle.candidate_eval.proofs.Outcomes.Pairs.{clause_there}
use Rattle.candidate_eval.proofs.Interface.Probing.{then}
use Rattle.candidate_assembly.specs.Answers.Telling.{standing}
use Rattle.candidate_eval.specs.Interface.Unmade.IsUnmade.{of_trees}
use Rattle.candidate_eval.specs.Interface.Unmade.IsMade.{with_arguments}
use Rattle.ir_trees.specs.Syntax.Trees.{ClauseKind}
use Rattle.candidate_assembly.proofs.trait_goals.impls.nest_clauses.Goals as goal

pub substitute-requires-clause-value : goal.substitute-requires-clause-value
substitute-requires-clause-value g c =
    let x = slice_index_or c.args.clauses.now c.loop-clause.clause-index (record { 0 = 0 }) in
    (clause-kept _ _ x c.loop-clause.invariant.kept.grows (clause_there _ c.args.clauses.now (record { 0 = 0 }) c.loop-clause.clause-index c.requires.clauses.fit c.loop-clause-test.true)).0

pub substitute-requires-clause-args : goal.substitute-requires-clause-args
substitute-requires-clause-args g c = (args-kept _ _ c.args.locals c.loop-clause.invariant.kept.grows c.requires.locals).0

pub substitute-requires-clause-there : goal.substitute-requires-clause-there
substitute-requires-clause-there g c =
    let lt = c.loop-clause-test.true in
    let x = slice_index_or c.args.clauses.now c.loop-clause.clause-index (record { 0 = 0 }) in
    let grows = c.loop-clause.invariant.kept.grows in
    let is = clause-kept _ _ x grows (clause_there _ c.args.clauses.now (record { 0 = 0 }) c.loop-clause.clause-index c.requires.clauses.fit lt) in
    rw (is.1, (args-kept _ _ c.args.locals grows c.requires.locals).1) (c.requires.clauses.have c.loop-clause.clause-index (record { 0 = 0 }) lt)

pub returns-in_err-predicate-clause-kept : goal.returns-in_err-predicate-clause-kept
returns-in_err-predicate-clause-kept g c = then c.loop-clause.invariant.kept c.substitute.ensures.kept

pub returns-in_err-predicate-clause-cause : goal.returns-in_err-predicate-clause-cause
returns-in_err-predicate-clause-cause g c =
    let p = err_from_is_err_and c.from_residual.result c.from_residual.ensures.1 in
    rw (p.1, p.2) (making
    (of_trees (g.E.Build.context c.loop-clause.ecx) c.loop-clause.invariant.kept.grows c.substitute.ensures.kept.grows (with_arguments ClauseKind _ c.args.locals.0) c.in_err-predicate.ensures.cause))

pub add_goal-requires : goal.add_goal-requires
add_goal-requires g c =
    let grows = (then c.loop-clause.invariant.kept c.substitute.ensures.kept).grows in
    ((env-kept _ _ c.args.env grows c.requires.env).0, c.in_ok-predicate.ensures.sort)

pub returns-in_err-add_goal-clause-kept : goal.returns-in_err-add_goal-clause-kept
returns-in_err-add_goal-clause-kept g c = then (then c.loop-clause.invariant.kept c.substitute.ensures.kept) c.add_goal.ensures.kept

pub returns-in_err-add_goal-clause-cause : goal.returns-in_err-add_goal-clause-cause
returns-in_err-add_goal-clause-cause g c =
    let p = err_from_is_err_and c.from_residual-in_err-add_goal.result c.from_residual-in_err-add_goal.ensures.1 in
    rw (p.1, p.2)
    (asking (accounted-later (reaches (then c.loop-clause.invariant.kept c.substitute.ensures.kept)) (accounted-here _ (reaches c.add_goal.ensures.kept) c.in_err-add_goal.ensures.cause)))

pub loop-clause-preserved : goal.loop-clause-preserved
loop-clause-preserved g c =
    let E = g.E.EvalCtxt in
    let ts = (g.E.Build.context c.args.ecx.now).trees in
    let e = env_forest ts c.args.env in
    let ls = args_forest ts c.args.locals in
    let L = E.state c.loop-clause.ecx in
    let xs = c.args.clauses.now in
    let i = c.loop-clause.clause-index in
    let x = slice_index_or xs i (record { 0 = 0 }) in
    let lt = c.loop-clause-test.true in
    let split : drop i xs ≡ x ∷ drop (i + 1) xs = rw add-one (drop-cons xs i (record { 0 = 0 }) lt) in
    let kept = c.loop-clause.invariant.kept in
    let after = then kept c.substitute.ensures.kept in
    let is = clause-kept _ _ x kept.grows (clause_there _ xs (record { 0 = 0 }) i c.requires.clauses.fit lt) in
    let one : E.state c.add_goal.new.self ≡ added L (goal_at e (standing L ls) c.args.source (clause_tree ts x))
    = rw (c.substitute.ensures.same, (env-kept _ _ c.args.env after.grows c.requires.env).1, c.in_ok-predicate.ensures.tree, (args-kept _ _ c.args.locals kept.grows c.requires.locals).1, is.1) at c.in_ok-add_goal.ensures.ok in
    record {
      kept = then after c.add_goal.ensures.kept;
      run = rw one (rw split at c.loop-clause.invariant.run);
    }
