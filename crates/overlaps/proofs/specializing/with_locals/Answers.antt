use Rattle.std.proofs.Common.{rules, ◌≡◌, ◌≤◌, ◌++◌, ◌∷◌, [], ◌+◌, add-one, drop, length, refl, slice_index_or, ◌∙◌}
use Rattle.std.proofs.lemmas.Result.{err_from_is_err_and}
use Rattle.std.proofs.Math.Seq.{drop-cons}
use Rattle.ir_trees.specs.Instantiation.Folding.{substituted_tree}
use Rattle.ir_trees.specs.Syntax.Trees.{ClauseKind}
use Rattle.ir_trees.specs.Syntax.Words.{args_forest, clause_tree}
use Rattle.ir_trees.proofs.Growth.Kept.{args-kept}
use Rattle.ir_folds.proofs.Instantiation.Joining.{clause-kept}
use Rattle.candidate_eval.specs.Interface.Accounts.StopsSomehow.{making}
use Rattle.candidate_eval.specs.Interface.Unmade.IsMade.{with_arguments}
use Rattle.candidate_eval.specs.Interface.Unmade.IsUnmade.{of_trees}
use Rattle.candidate_eval.proofs.Interface.Accounts.{memory-somehow}
use Rattle.candidate_eval.proofs.Interface.Probing.{then}
use Rattle.overlaps.proofs.Staying.{keeps-refl}
use Rattle.candidate_eval.proofs.Outcomes.Pairs.{clause_there}
use Rattle.overlaps.proofs.Refusing.{instance-kept}
use Rattle.overlaps.proofs.Specialized.{all-put, none-put, one-put}
use Rattle.overlaps.proofs.specializing.with_locals.Goals as goal

pub loop-clause-init : goal.loop-clause-init
loop-clause-init g c =
    let start = g.E.Build.context c.args.ecx.now in
    (keeps-refl c.args.ecx.now, refl, none-put start (substituted_tree (args_forest start.trees c.args.locals)) c.args.clauses.now _ (search rules) (search rules))

pub substitute-requires-clause-value : goal.substitute-requires-clause-value
substitute-requires-clause-value g c =
    let x = slice_index_or c.args.clauses.now c.loop-clause.clause-index (record { 0 = 0 }) in
    (clause-kept _ _ x c.loop-clause.invariant.0.grows (clause_there _ c.args.clauses.now (record { 0 = 0 }) c.loop-clause.clause-index c.requires.clauses.fit c.loop-clause-test.true)).0

pub substitute-requires-clause-args : goal.substitute-requires-clause-args
substitute-requires-clause-args g c = (args-kept _ _ c.args.locals c.loop-clause.invariant.0.grows c.requires.locals).0

pub substitute-requires-clause-there : goal.substitute-requires-clause-there
substitute-requires-clause-there g c =
    let lt = c.loop-clause-test.true in
    let x = slice_index_or c.args.clauses.now c.loop-clause.clause-index (record { 0 = 0 }) in
    let grows = c.loop-clause.invariant.0.grows in
    let is = clause-kept _ _ x grows (clause_there _ c.args.clauses.now (record { 0 = 0 }) c.loop-clause.clause-index c.requires.clauses.fit lt) in
    rw (is.1, (args-kept _ _ c.args.locals grows c.requires.locals).1) (c.requires.clauses.have c.loop-clause.clause-index (record { 0 = 0 }) lt)

pub returns-in_err-clause-clause-kept : goal.returns-in_err-clause-clause-kept
returns-in_err-clause-clause-kept g c = then c.loop-clause.invariant.0 c.substitute.ensures.kept

pub returns-in_err-clause-clause-same : goal.returns-in_err-clause-clause-same
returns-in_err-clause-clause-same g c = c.substitute.ensures.same ∙ c.loop-clause.invariant.1

pub returns-in_err-clause-clause-cause : goal.returns-in_err-clause-clause-cause
returns-in_err-clause-clause-cause g c =
    let p = err_from_is_err_and c.from_residual.result c.from_residual.ensures.1 in
    rw (p.1, p.2) (making
    (of_trees (g.E.Build.context c.loop-clause.ecx) c.loop-clause.invariant.0.grows c.substitute.ensures.kept.grows (with_arguments ClauseKind _ c.args.locals.0) c.in_err-clause.ensures.cause))

pub returns-in_err-push-clause-kept : goal.returns-in_err-push-clause-kept
returns-in_err-push-clause-kept g c = then c.loop-clause.invariant.0 c.substitute.ensures.kept

pub returns-in_err-push-clause-same : goal.returns-in_err-push-clause-same
returns-in_err-push-clause-same g c = c.substitute.ensures.same ∙ c.loop-clause.invariant.1

pub returns-in_err-push-clause-cause : goal.returns-in_err-push-clause-cause
returns-in_err-push-clause-cause g c =
    let p = err_from_is_err_and c.from_residual-in_err-push.result c.from_residual-in_err-push.ensures.1 in
    rw p.1 (memory-somehow p.2)

pub loop-clause-preserved : goal.loop-clause-preserved
loop-clause-preserved g c =
    let start = g.E.Build.context c.args.ecx.now in
    let now = g.E.Build.context c.loop-clause.ecx in
    let new = g.E.Build.context c.substitute.new.ecx in
    let xs = c.args.clauses.now in
    let n = c.loop-clause.clause-index in
    let x = slice_index_or xs n (record { 0 = 0 }) in
    let lt = c.loop-clause-test.true in
    let so = c.loop-clause.invariant in
    let split : drop n xs ≡ x ∷ drop (n + 1) xs = rw add-one (drop-cons xs n (record { 0 = 0 }) lt) in
    let items : c.push.new.self.items ≡ c.loop-clause.list.items ++ c.in_ok-clause.clause ∷ [] = search rules in
    let is : clause_tree new.trees c.in_ok-clause.clause ≡ substituted_tree (args_forest start.trees c.args.locals) (clause_tree start.trees x)
    = c.in_ok-clause.ensures.tree ∙ instance-kept start now c.args.locals x so.0.grows c.requires.locals (clause_there _ xs (record { 0 = 0 }) n c.requires.clauses.fit lt) in (
      then so.0 c.substitute.ensures.kept,
      c.substitute.ensures.same ∙ so.1,
      one-put start now new (substituted_tree (args_forest start.trees c.args.locals)) xs c.loop-clause.list.items c.push.new.self.items n x c.in_ok-clause.clause so.2 c.substitute.ensures.kept.grows split c.in_ok-clause.ensures.sort is items,
    )

pub returns-clause-kept : goal.returns-clause-kept
returns-clause-kept g c = c.loop-clause.invariant.0

pub returns-clause-same : goal.returns-clause-same
returns-clause-same g c = c.loop-clause.invariant.1

pub returns-clause-fit : goal.returns-clause-fit
returns-clause-fit g c = c.loop-clause.invariant.2.fit

pub returns-clause-trees : goal.returns-clause-trees
returns-clause-trees g c =
    let start = g.E.Build.context c.args.ecx.now in
    let past : length c.args.clauses.now ≤ c.loop-clause.clause-index = search rules in
    all-put start (g.E.Build.context c.loop-clause.ecx) (substituted_tree (args_forest start.trees c.args.locals)) c.args.clauses.now c.loop-clause.list.items c.loop-clause.clause-index c.loop-clause.invariant.2 past
