use Rattle.std.proofs.Common.{◌<◌, length}
use Rattle.ir_trees.specs.declared.ir.kinds.Clause.{Clause}
use Rattle.ir_trees.specs.Syntax.Words.{clause_tree}
use Rattle.candidate_eval.proofs.Outcomes.Pairs.{clause_there, place_differs, all_places}
use Rattle.candidate_eval.proofs.eval.response.same_clauses.Goals as goal

pub same-requires-clause-a : goal.same-requires-clause-a
same-requires-clause-a c = clause_there _ _ _ _ c.requires.a c.loop-i-test.true

pub same-requires-clause-b : goal.same-requires-clause-b
same-requires-clause-b c =
    let there : c.loop-i.i < length c.args.b.now = rw (← c.if-a-b.false) c.loop-i-test.true in
    clause_there _ _ _ _ c.requires.b there

pub returns-then-not-same : goal.returns-then-not-same
returns-then-not-same c =
    let past : Clause = record { 0 = 0 } in
    place_differs (clause_tree c.args.cx.now.trees) c.args.a.now c.args.b.now past c.loop-i.i c.same.result c.same.ensures c.if-not-same.true

pub returns : goal.returns
returns c =
    let past : Clause = record { 0 = 0 } in
    all_places (clause_tree c.args.cx.now.trees) c.args.a.now c.args.b.now past c.loop-i.i c.if-a-b.false c.loop-i-test.false c.loop-i.invariant
