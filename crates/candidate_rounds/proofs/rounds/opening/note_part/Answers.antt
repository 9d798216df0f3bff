use Rattle.std.proofs.Common.{◌≡◌, ◌↔◌, IsTrue, rules, subst}
use Rattle.ir_trees.specs.Instantiation.Folds.{arg_tree}
use Rattle.candidate_rounds.proofs.Equations.OpenParts.{among-here, not-among}
use Rattle.candidate_rounds.proofs.rounds.opening.note_part.Goals as goal

pub returns-then-same-clause-noted : goal.returns-then-same-clause-noted
returns-then-same-clause-noted c =
    let ts = c.args.cx.now.trees in
    let t = arg_tree ts c.args.part in
    among-here ts c.args.parts.now.items t c.loop-i.i c.index.result.now c.loop-i.invariant (search rules) c.same.result
    (subst (λ x. IsTrue c.same.result ↔ (arg_tree ts x ≡ t)) c.index.ensures c.same.ensures) c.if-same.true

pub loop-i-preserved : goal.loop-i-preserved
loop-i-preserved c =
    let ts = c.args.cx.now.trees in
    let t = arg_tree ts c.args.part in
    not-among ts c.args.parts.now.items t c.loop-i.i c.index.result.now c.loop-i.invariant (search rules) c.same.result
    (subst (λ x. IsTrue c.same.result ↔ (arg_tree ts x ≡ t)) c.index.ensures c.same.ensures) c.if-same.false
