use Rattle.std.proofs.Common.{◌≡◌, sym, ◌∙◌, ap, subst}
use Rattle.ir_trees.specs.Syntax.Words.{clause_tree}
use Rattle.candidate_eval.specs.Derivations.Characterization.{bound_kinds}
use Rattle.candidate_eval.specs.Interface.Evaluators.{kinds_listed}
use Rattle.candidate_rounds.specs.Evaluators.Known.{Evaluator}
use Rattle.candidate_rounds.proofs.Obligations.Evaluating.{kinds-of-variables}
use Rattle.candidate_rounds.proofs.rounds.Rounds.bound_kinds.Goals as goal

pub returns-clause-kinds : goal.returns-clause-kinds
returns-clause-kinds c =
    let items = c.in_ok-binder_kinds.field-0.items in
    subst (λ (e : Evaluator). kinds_listed items ≡ bound_kinds (clause_tree e.context.trees c.args.clause).children) c.self.view_is
    (sym (ap bound_kinds c.in_ok-binder_kinds.ensures ∙ kinds-of-variables items))
