use Rattle.std.proofs.Common.{refl, sym, ◌∙◌}
use Rattle.std.proofs.lemmas.Bool.{not-false}
use Rattle.ir_trees.specs.Syntax.Words.{args_forest}
use Rattle.overlaps.proofs.AskedClauses.{type-variable, constant-variable}
use Rattle.overlaps.proofs.PartTraits.{of-not-true}
use Rattle.overlaps.proofs.auto.refuses_instances.Goals as goal
use Rattle.overlaps.proofs.auto.refuses_instances.Goals.{else-not-has-via-then-not-has+else-not-has-2, else-not-has-via-else-not-has}

pub returns-clause-variable : goal.returns-clause-variable
returns-clause-variable c = λ isnt.
    let f = args_forest c.args.cx.now.trees c.args.of.args in
    elim c.else-not-has.branch [
      | else-not-has-via-then-not-has+else-not-has-2 w ↦ constant-variable f (sym (w.has-then-not-has.ensures.list refl) ∙ w.if-not-has-2.false)
      | else-not-has-via-else-not-has w ↦ type-variable f (sym (c.has.ensures.list refl) ∙ w.if-not-has.false)
    ]

pub returns-clause-may : goal.returns-clause-may
returns-clause-may c = λ isnt. c.in_ok-may_rest_on_part.ensures.may (not-false _ isnt)

pub returns-clause-instances : goal.returns-clause-instances
returns-clause-instances c = λ yes some rests. c.in_ok-may_rest_on_part.ensures.never (of-not-true c.in_ok-may_rest_on_part.field-0 yes) rests
