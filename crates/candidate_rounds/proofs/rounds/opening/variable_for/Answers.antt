use Rattle.std.proofs.Common.{slice_index_or, ◌∙◌}
use Rattle.ir_trees.specs.declared.ir.kinds.GenericArg.TheVariants as A
use Rattle.ir_trees.specs.Instantiation.Folds.{arg_tree}
use Rattle.candidate_rounds.proofs.Equations.OpenParts.{other-part, pair-at, same-kind, this-part}
use Rattle.candidate_rounds.proofs.rounds.opening.variable_for.Goals as goal

pub same-requires-clause-a : goal.same-requires-clause-a
same-requires-clause-a c = (pair-at c.args.cx.now.trees c.args.parts.now c.args.variables.now c.loop-i.i _ (A.Ty (record { 0 = 0 })) c.requires.paired c.loop-i-test.true).1.part

pub loop-i-preserved : goal.loop-i-preserved
loop-i-preserved c =
    let ts = c.args.cx.now.trees in
    other-part ts c.args.parts.now c.args.variables.now (arg_tree ts c.args.arg) c.loop-i.i _ (A.Ty (record { 0 = 0 })) c.requires.paired c.loop-i.invariant c.loop-i-test.true c.same.result c.same.ensures c.if-same.false

pub bounds-variables-i : goal.bounds-variables-i
bounds-variables-i c = (pair-at c.args.cx.now.trees c.args.parts.now c.args.variables.now c.loop-i.i (A.Ty (record { 0 = 0 })) (A.Ty (record { 0 = 0 })) c.requires.paired c.loop-i-test.true).0

pub returns-then-same-clause-kind : goal.returns-then-same-clause-kind
returns-then-same-clause-kind c =
    let ts = c.args.cx.now.trees in
    let p = (pair-at ts c.args.parts.now c.args.variables.now c.loop-i.i (A.Ty (record { 0 = 0 })) (A.Ty (record { 0 = 0 })) c.requires.paired c.loop-i-test.true).1 in
    (p.other, p.kind ∙ same-kind ts (slice_index_or c.args.parts.now c.loop-i.i (A.Ty (record { 0 = 0 }))) c.args.arg c.same.result p.part c.requires.arg c.same.ensures c.if-same.true)

pub returns-then-same-clause-is : goal.returns-then-same-clause-is
returns-then-same-clause-is c =
    let ts = c.args.cx.now.trees in
    this-part ts c.args.parts.now c.args.variables.now (arg_tree ts c.args.arg) c.loop-i.i (A.Ty (record { 0 = 0 })) (A.Ty (record { 0 = 0 })) c.requires.paired c.loop-i.invariant c.loop-i-test.true c.same.result c.same.ensures
    c.if-same.true
