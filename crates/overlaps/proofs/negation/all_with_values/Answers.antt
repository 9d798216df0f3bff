use Rattle.std.proofs.Common.{rules, ◌≡◌, ◌≤◌, ◌++◌, ◌∷◌, [], ◌+◌, add-one, arith, drop, length, refl, slice_index_or, ◌∙◌, ap}
use Rattle.std.proofs.lemmas.Result.{err_from_is_err_and}
use Rattle.std.proofs.Math.Seq.{drop-cons}
use Rattle.ir_trees.specs.Instantiation.Folding.{substituted_tree}
use Rattle.ir_trees.specs.Syntax.Trees.{Tree}
use Rattle.ir_trees.specs.Syntax.Words.{args_forest, clause_tree}
use Rattle.ir_trees.proofs.Growth.Kept.{args-kept}
use Rattle.ir_folds.proofs.Instantiation.Joining.{clause-kept}
use Rattle.candidate_eval.specs.Judges.States.{State, resolved_tree}
use Rattle.candidate_eval.proofs.Interface.Accounts.{memory-somehow, reaches, somehow-later}
use Rattle.candidate_eval.proofs.Interface.Probing.{then}
use Rattle.candidate_eval.proofs.Outcomes.Pairs.{clause_there}
use Rattle.candidate_eval.specs.Interface.Accounts.{StopsSomehow}
use Rattle.overlaps.proofs.Refusing.{instance-kept}
use Rattle.overlaps.proofs.Specialized.{all-put, none-put, one-put}
use Rattle.overlaps.proofs.Staying.{keeps-refl}
use Rattle.overlaps.proofs.Stopping.{passed-on}
use Rattle.overlaps.proofs.negation.all_with_values.Goals as goal

pub loop-clause-init : goal.loop-clause-init
loop-clause-init g c =
    let start = g.E.Build.context c.args.ecx.now in
    let S = g.E.EvalCtxt.state c.args.ecx.now in
    (keeps-refl c.args.ecx.now, refl, none-put start (λ (t : Tree). resolved_tree S (substituted_tree (args_forest start.trees c.args.locals) t)) c.args.clauses.now _ (search rules) (search rules))

pub with_values-requires-clause-clause : goal.with_values-requires-clause-clause
with_values-requires-clause-clause g c =
    let x = slice_index_or c.args.clauses.now c.loop-clause.clause-index (record { 0 = 0 }) in
    (clause-kept _ _ x c.loop-clause.invariant.0.grows (clause_there _ c.args.clauses.now (record { 0 = 0 }) c.loop-clause.clause-index c.requires.clauses.fit c.loop-clause-test.true)).0

pub with_values-requires-clause-locals : goal.with_values-requires-clause-locals
with_values-requires-clause-locals g c = (args-kept _ _ c.args.locals c.loop-clause.invariant.0.grows c.requires.locals).0

pub with_values-requires-clause-there : goal.with_values-requires-clause-there
with_values-requires-clause-there g c =
    let lt = c.loop-clause-test.true in
    let x = slice_index_or c.args.clauses.now c.loop-clause.clause-index (record { 0 = 0 }) in
    let grows = c.loop-clause.invariant.0.grows in
    let is = clause-kept _ _ x grows (clause_there _ c.args.clauses.now (record { 0 = 0 }) c.loop-clause.clause-index c.requires.clauses.fit lt) in
    rw (is.1, (args-kept _ _ c.args.locals grows c.requires.locals).1) (c.requires.clauses.have c.loop-clause.clause-index (record { 0 = 0 }) lt)

pub returns-in_err-clause-clause-kept : goal.returns-in_err-clause-clause-kept
returns-in_err-clause-clause-kept g c = then c.loop-clause.invariant.0 c.with_values.ensures.kept

pub returns-in_err-clause-clause-same : goal.returns-in_err-clause-clause-same
returns-in_err-clause-clause-same g c = c.with_values.ensures.same ∙ c.loop-clause.invariant.1

pub returns-in_err-clause-clause-cause : goal.returns-in_err-clause-clause-cause
returns-in_err-clause-clause-cause g c =
    passed-on (StopsSomehow g.E.EvalCtxt.fixed g.E.Build.context g.E.EvalCtxt.state g.E.EvalCtxt.stops c.args.ecx.now c.with_values.new.ecx) c.from_residual.result c.in_err-clause.field-0.0 c.from_residual.ensures.1
    (somehow-later (reaches c.loop-clause.invariant.0) c.in_err-clause.ensures.cause)

pub returns-in_err-push-clause-kept : goal.returns-in_err-push-clause-kept
returns-in_err-push-clause-kept g c = then c.loop-clause.invariant.0 c.with_values.ensures.kept

pub returns-in_err-push-clause-same : goal.returns-in_err-push-clause-same
returns-in_err-push-clause-same g c = c.with_values.ensures.same ∙ c.loop-clause.invariant.1

pub returns-in_err-push-clause-cause : goal.returns-in_err-push-clause-cause
returns-in_err-push-clause-cause g c =
    let p = err_from_is_err_and c.from_residual-in_err-push.result c.from_residual-in_err-push.ensures.1 in
    rw p.1 (memory-somehow p.2)

pub loop-clause-preserved : goal.loop-clause-preserved
loop-clause-preserved g c =
    let start = g.E.Build.context c.args.ecx.now in
    let now = g.E.Build.context c.loop-clause.ecx in
    let new = g.E.Build.context c.with_values.new.ecx in
    let S = g.E.EvalCtxt.state c.args.ecx.now in
    let xs = c.args.clauses.now in
    let n = c.loop-clause.clause-index in
    let x = slice_index_or xs n (record { 0 = 0 }) in
    let lt = c.loop-clause-test.true in
    let so = c.loop-clause.invariant in
    let split : drop n xs ≡ x ∷ drop (n + 1) xs = rw add-one (drop-cons xs n (record { 0 = 0 }) lt) in
    let items : c.push.new.self.items ≡ c.loop-clause.list.items ++ c.in_ok-clause.clause ∷ [] = search rules in
    let is : clause_tree new.trees c.in_ok-clause.clause ≡ resolved_tree S (substituted_tree (args_forest start.trees c.args.locals) (clause_tree start.trees x))
    = c.in_ok-clause.ensures.tree
    ∙ (ap (λ (T : State). resolved_tree T (substituted_tree (args_forest now.trees c.args.locals) (clause_tree now.trees x))) so.1
    ∙ ap (resolved_tree S) (instance-kept start now c.args.locals x so.0.grows c.requires.locals (clause_there _ xs (record { 0 = 0 }) n c.requires.clauses.fit lt))) in (
      then so.0 c.with_values.ensures.kept,
      c.with_values.ensures.same ∙ so.1,
      one-put start now new (λ (t : Tree). resolved_tree S (substituted_tree (args_forest start.trees c.args.locals) t)) xs c.loop-clause.list.items c.push.new.self.items n x c.in_ok-clause.clause so.2
          c.with_values.ensures.kept.grows split c.in_ok-clause.ensures.sort is items,
    )

pub returns-clause-kept : goal.returns-clause-kept
returns-clause-kept g c = c.loop-clause.invariant.0

pub returns-clause-same : goal.returns-clause-same
returns-clause-same g c = c.loop-clause.invariant.1

pub returns-clause-fit : goal.returns-clause-fit
returns-clause-fit g c = c.loop-clause.invariant.2.fit

pub returns-clause-trees : goal.returns-clause-trees
returns-clause-trees g c =
    let start = g.E.Build.context c.args.ecx.now in
    let S = g.E.EvalCtxt.state c.args.ecx.now in
    let past : length c.args.clauses.now ≤ c.loop-clause.clause-index = search rules in
    all-put start (g.E.Build.context c.loop-clause.ecx) (λ (t : Tree). resolved_tree S (substituted_tree (args_forest start.trees c.args.locals) t)) c.args.clauses.now c.loop-clause.list.items c.loop-clause.clause-index
    c.loop-clause.invariant.2 past
