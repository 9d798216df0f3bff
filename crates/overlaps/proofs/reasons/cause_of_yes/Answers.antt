use Rattle.std.proofs.Common.{sym, ◌∙◌}
use Rattle.ir_trees.proofs.Growth.Kept.{grows-refl}
use Rattle.overlaps.specs.Reasons.{gives_values, rests_on_part}
use Rattle.overlaps.proofs.reasons.cause_of_yes.Goals as goal

pub returns-then-not-has_only_region_constraints-clause-is : goal.returns-then-not-has_only_region_constraints-clause-is
returns-then-not-has_only_region_constraints-clause-is c = gives_values (sym c.has_only_region_constraints.ensures ∙ c.if-not-has_only_region_constraints.true)

pub returns-then-branch-clause-is : goal.returns-then-branch-clause-is
returns-then-branch-clause-is c =
    rests_on_part c.args.cx.now (grows-refl c.args.cx.now) (sym c.has_only_region_constraints.ensures ∙ c.if-not-has_only_region_constraints.false) (c.in_ok-may_rest_on_part.ensures.may c.if-branch.true)
