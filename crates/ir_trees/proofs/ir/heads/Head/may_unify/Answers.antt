use Rattle.std.proofs.Common.{sym, ◌∙◌, ap}
use Rattle.std.specs.Prelude.{Bool, ◌&&◌}
use Rattle.ir_trees.specs.Unification.Substitutions.{is_integer}
use Rattle.ir_trees.proofs.Syntax.Equal.{clash}
use Rattle.ir_trees.proofs.Unification.Pairs.{left_meets, right_meets, integers, one_of, other_of, heads_agree, heads_differ, was_said}
use Rattle.ir_trees.proofs.ir.heads.Head.may_unify.Goals as goal
use Rattle.ir_trees.proofs.ir.heads.Head.may_unify.Goals.{then-meets_any-via-then-meets_any, then-meets_any-via-else-meets_any+then-meets_any_on_right, then-is_variable_of-via-then-is_variable_of, then-is_variable_of-via-else-is_variable_of+then-is_variable_of-2}

pub returns-then-meets_any-clause-said : goal.returns-then-meets_any-clause-said
returns-then-meets_any-clause-said c =
    elim c.then-meets_any.branch [
      | then-meets_any-via-then-meets_any w ↦ left_meets c.args.right c.args.self c.args.other (sym c.meets_any.ensures ∙ w.if-meets_any.true)
      | then-meets_any-via-else-meets_any+then-meets_any_on_right w ↦
          right_meets c.args.right c.args.self c.args.other (sym c.meets_any.ensures ∙ w.if-meets_any.false) (sym w.meets_any_on_right.ensures ∙ w.if-meets_any_on_right.true)
    ]

pub returns-then-meets_any-clause-same : goal.returns-then-meets_any-clause-same
returns-then-meets_any-clause-same c = was_said _

pub returns-then-is_integer-clause-said : goal.returns-then-is_integer-clause-said
returns-then-is_integer-clause-said c = λ below.
    integers c.args.right c.args.self c.args.other (sym c.meets_any.ensures ∙ c.if-meets_any.false) (sym c.meets_any_on_right.ensures ∙ c.if-meets_any_on_right.false)
    (elim c.then-is_variable_of.branch [
      | then-is_variable_of-via-then-is_variable_of w ↦ one_of _ _ (sym c.is_variable_of.ensures ∙ w.if-is_variable_of.true)
      | then-is_variable_of-via-else-is_variable_of+then-is_variable_of-2 w ↦
          other_of _ _ (sym c.is_variable_of.ensures ∙ w.if-is_variable_of.false) (sym w.is_variable_of-else-is_variable_of.ensures ∙ w.if-is_variable_of-2.true)
    ]) below
    ∙ (ap (λ (b : Bool). b && is_integer c.args.other) (sym c.is_integer.ensures ∙ c.if-is_integer.true) ∙ sym c.is_integer-then-is_integer.ensures)

pub returns-then-is_integer-clause-same : goal.returns-then-is_integer-clause-same
returns-then-is_integer-clause-same c = was_said _

pub returns-else-is_integer-clause-said : goal.returns-else-is_integer-clause-said
returns-else-is_integer-clause-said c = λ below.
    integers c.args.right c.args.self c.args.other (sym c.meets_any.ensures ∙ c.if-meets_any.false) (sym c.meets_any_on_right.ensures ∙ c.if-meets_any_on_right.false)
    (elim c.then-is_variable_of.branch [
      | then-is_variable_of-via-then-is_variable_of w ↦ one_of _ _ (sym c.is_variable_of.ensures ∙ w.if-is_variable_of.true)
      | then-is_variable_of-via-else-is_variable_of+then-is_variable_of-2 w ↦
          other_of _ _ (sym c.is_variable_of.ensures ∙ w.if-is_variable_of.false) (sym w.is_variable_of-else-is_variable_of.ensures ∙ w.if-is_variable_of-2.true)
    ]) below
    ∙ (ap (λ (b : Bool). b && is_integer c.args.other) (sym c.is_integer.ensures ∙ c.if-is_integer.false) ∙ sym c.if-is_integer.false)

pub returns-else-is_integer-clause-same : goal.returns-else-is_integer-clause-same
returns-else-is_integer-clause-same c = was_said _

pub returns-then-is_float-clause-same : goal.returns-then-is_float-clause-same
returns-then-is_float-clause-same c = was_said _

pub returns-else-is_float-clause-same : goal.returns-else-is_float-clause-same
returns-else-is_float-clause-same c = was_said _

pub returns-then-is_same-clause-said : goal.returns-then-is_same-clause-said
returns-then-is_same-clause-said c =
    heads_agree c.args.right c.args.self c.args.other
    (sym c.meets_any.ensures ∙ c.if-meets_any.false) (sym c.meets_any_on_right.ensures ∙ c.if-meets_any_on_right.false)
    (sym c.is_variable_of.ensures ∙ c.if-is_variable_of.false) (sym c.is_variable_of-else-is_variable_of.ensures ∙ c.if-is_variable_of-2.false)
    (sym c.is_variable_of-2.ensures ∙ c.if-is_variable_of-3.false) (sym c.is_variable_of-else-is_variable_of-3.ensures ∙ c.if-is_variable_of-4.false)
    (c.is_same.ensures.0 c.if-is_same.true)

pub returns-then-is_same-clause-same : goal.returns-then-is_same-clause-same
returns-then-is_same-clause-same c = λ _. c.is_same.ensures.0 c.if-is_same.true

pub returns-else-is_same-clause-said : goal.returns-else-is_same-clause-said
returns-else-is_same-clause-said c =
    heads_differ c.args.right c.args.self c.args.other
    (sym c.meets_any.ensures ∙ c.if-meets_any.false) (sym c.meets_any_on_right.ensures ∙ c.if-meets_any_on_right.false)
    (sym c.is_variable_of.ensures ∙ c.if-is_variable_of.false) (sym c.is_variable_of-else-is_variable_of.ensures ∙ c.if-is_variable_of-2.false)
    (sym c.is_variable_of-2.ensures ∙ c.if-is_variable_of-3.false) (sym c.is_variable_of-else-is_variable_of-3.ensures ∙ c.if-is_variable_of-4.false)
    (λ e. clash _ (c.is_same.ensures.1 e) c.if-is_same.false)

pub returns-else-is_same-clause-same : goal.returns-else-is_same-clause-same
returns-else-is_same-clause-same c = was_said _
