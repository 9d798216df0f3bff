use Rattle.std.proofs.Common.{arith, sym, ◌∙◌}
use Rattle.candidate_rounds.proofs.Table.Naming.{no-number-left, no-value-left, not-like, not-number}
use Rattle.candidate_rounds.proofs.Obligations.Noting.{arg-listed}
use Rattle.candidate_rounds.proofs.rounds.giving.own_variable.Goals.{then-i-numbers-via-then-i-numbers, then-i-numbers-via-else-i-numbers+then-i-values, else-is_variable-via-then-is_variable+else-eq, else-is_variable-via-else-is_variable}
use Rattle.candidate_rounds.proofs.rounds.giving.own_variable.Goals as goal

pub returns-then-i-numbers : goal.returns-then-i-numbers
returns-then-i-numbers c =
    let a = c.args in
    elim c.then-i-numbers.branch [
      | then-i-numbers-via-then-i-numbers w ↦ no-number-left a.cx.now.trees a.variables.now a.numbers.now a.values.now a.place a.left_open c.requires c.loop-i.i c.loop-i.invariant w.if-i-numbers.true
      | then-i-numbers-via-else-i-numbers+then-i-values w ↦ no-value-left a.cx.now.trees a.variables.now a.numbers.now a.values.now a.place a.left_open c.requires c.loop-i.i c.loop-i.invariant w.if-i-values.true
    ]

pub is_variable-requires : goal.is_variable-requires
is_variable-requires c = arg-listed c.args.cx.now.trees c.args.values.now c.loop-i.i _ (omega (arith, c.if-i-values.false)) c.requires

pub loop-i-preserved : goal.loop-i-preserved
loop-i-preserved c =
    let a = c.args in
    elim c.else-is_variable.branch [
      | else-is_variable-via-then-is_variable+else-eq w ↦
          not-like a.cx.now.trees a.variables.now a.numbers.now a.values.now a.place a.left_open c.requires c.loop-i.i c.loop-i.invariant _ 0 _ c.loop-i-test.true (omega (arith, c.if-i-numbers.false)) (omega (arith, c.if-i-values.false))
          (sym c.is_variable.ensures ∙ w.if-is_variable.true) (sym w.eq.ensures ∙ w.if-eq.false)
      | else-is_variable-via-else-is_variable w ↦
          not-number a.cx.now.trees a.variables.now a.numbers.now a.values.now a.place a.left_open c.requires c.loop-i.i c.loop-i.invariant a.left_open 0 _ c.loop-i-test.true (omega (arith, c.if-i-numbers.false)) (omega (arith, c.if-i-values.false))
          (sym c.is_variable.ensures ∙ w.if-is_variable.false)
    ]
