use Rattle.std.proofs.Common.{◌∙◌}
use Rattle.candidate_rounds.proofs.Equations.Leading.{list-one, one-unmade}
use Rattle.candidate_rounds.proofs.Equations.OpenSides.{if-ok}
use Rattle.candidate_rounds.proofs.rounds.opening.list_of.Goals as goal

pub returns-clause-tree : goal.returns-clause-tree
returns-clause-tree c = if-ok c.mk_args.result _ _ (λ x k. k ∙ list-one c.args.cx.now.trees c.args.arg c.requires) c.mk_args.ensures.made.tree

pub returns-clause-cause : goal.returns-clause-cause
returns-clause-cause c = one-unmade c.args.cx.now c.mk_args.new.self c.args.arg c.mk_args.result c.requires c.mk_args.ensures.made.cause c.mk_args.ensures.made.unchanged
