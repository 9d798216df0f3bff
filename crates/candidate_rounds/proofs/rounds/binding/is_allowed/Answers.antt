use Rattle.std.proofs.Common.{sym, ◌∙◌}
use Rattle.ir_trees.specs.Instantiation.Folds.{arg_tree}
use Rattle.candidate_rounds.proofs.Equations.Assigning.{held-refused, open-refused, else-allowed}
use Rattle.candidate_rounds.proofs.rounds.binding.is_allowed.Goals as goal

pub returns-then-mentions : goal.returns-then-mentions
returns-then-mentions c = held-refused c.args.number c.args.universe (arg_tree c.args.cx.now.trees c.args.value) (sym c.mentions.ensures ∙ c.if-mentions.true)

pub returns-then-has_escaping_bound_vars : goal.returns-then-has_escaping_bound_vars
returns-then-has_escaping_bound_vars c = open-refused c.args.number c.args.universe (arg_tree c.args.cx.now.trees c.args.value) (sym c.has_escaping_bound_vars.ensures.is ∙ c.if-has_escaping_bound_vars.true)

pub returns : goal.returns
returns c = else-allowed c.args.number c.args.universe (arg_tree c.args.cx.now.trees c.args.value) c.has_placeholder_above.result (sym c.mentions.ensures ∙ c.if-mentions.false) (sym c.has_escaping_bound_vars.ensures.is ∙ c.if-has_escaping_bound_vars.false) c.has_placeholder_above.ensures
