use Rattle.std.proofs.Common.{ap, sym, ◌∙◌}
use Rattle.ir_trees.specs.Syntax.Trees.{is_alias}
use Rattle.ir_trees.specs.Syntax.Words.{ty_tree}
use Rattle.candidate_rounds.specs.Evaluators.Known.{Evaluator}
use Rattle.candidate_rounds.proofs.Equations.Leading.{alias-type}
use Rattle.candidate_rounds.proofs.rounds.Rounds.is_open_alias.Goals as goal

pub returns-then-opens_aliases : goal.returns-then-opens_aliases
returns-then-opens_aliases c = alias-type c.args.self.now.context.trees c.args.ty _ c.is_alias.result c.requires (sym c.opens_aliases.ensures ∙ c.if-opens_aliases.true)
    (c.is_alias.ensures ∙ ap (λ (e : Evaluator). is_alias (ty_tree e.context.trees c.args.ty).head) c.self.view_is)
