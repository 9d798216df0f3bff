use Rattle.std.specs.Prelude.{slice_index_or}
use Rattle.std.proofs.lemmas.List.{get_or_default}
use Rattle.ir_trees.specs.declared.ir.kinds.Clause.{Clause}
use Rattle.ir_context.proofs.Hierarchy.Listing.{listed_clause, one_more_once}
use Rattle.ir_folds.proofs.decl.elaborate.each_once.Goals as goal

pub push_unlisted-requires-clause-clause : goal.push_unlisted-requires-clause-clause
push_unlisted-requires-clause-clause c =
    let past : Clause = record { 0 = 0 } in
    let x = slice_index_or c.args.clauses.now c.loop-clause.clause-index past in
    listed_clause _ c.args.clauses.now c.loop-clause.clause-index x c.requires c.loop-clause-test.true
    (get_or_default c.args.clauses.now c.loop-clause.clause-index past x c.loop-clause-test.true)

pub loop-clause-preserved : goal.loop-clause-preserved
loop-clause-preserved c =
    let past : Clause = record { 0 = 0 } in
    let x = slice_index_or c.args.clauses.now c.loop-clause.clause-index past in
    one_more_once _ c.args.clauses.now c.loop-clause.list.keys _ c.loop-clause.clause-index x c.loop-clause.invariant c.loop-clause-test.true
    (get_or_default c.args.clauses.now c.loop-clause.clause-index past x c.loop-clause-test.true) c.in_ok-push_unlisted.ensures.fit c.in_ok-push_unlisted.ensures.trees
