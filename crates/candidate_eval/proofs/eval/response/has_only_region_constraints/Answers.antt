use Rattle.std.proofs.Common.{sym, ap, ◌∙◌}
use Rattle.ir_trees.proofs.Syntax.Members.{member-kind}
use Rattle.candidate_eval.specs.Outcomes.Responses.{are_open}
use Rattle.candidate_eval.proofs.Outcomes.Merging.{open_out}
use Rattle.candidate_eval.proofs.eval.response.has_only_region_constraints.Goals as goal

pub is_number-requires : goal.is_number-requires
is_number-requires c = member-kind _ _ _ _ c.args-values.ensures.fits c.loop-i-test.true

pub returns-then-not-is_number : goal.returns-then-not-is_number
returns-then-not-is_number c =
    sym (ap (are_open 0) (sym c.args-values.ensures.tree)
    ∙ (c.loop-i.invariant ∙ open_out _ _ _ _ _ c.args-values.ensures.fits c.loop-i-test.true (sym c.is_number.ensures ∙ c.if-not-is_number.true)))
