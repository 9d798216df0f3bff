use Rattle.std.proofs.Common.{subst}
use Rattle.ir_trees.specs.Syntax.Words.{clause_tree}
use Rattle.candidate_rounds.specs.Evaluators.Known.{Evaluator}
use Rattle.candidate_rounds.specs.Table.Trying.{Says}
use Rattle.candidate_rounds.proofs.Obligations.Projecting.{clause-read}
use Rattle.candidate_rounds.proofs.rounds.Rounds.under_binder.Goals as goal

pub returns : goal.returns
returns c =
    subst (λ (e : Evaluator). Says e.context (clause_tree e.context.trees c.args.clause) c.clause.result.value) c.self.view_is
    (clause-read c.self.inside.cx c.args.clause c.clause.result c.recall_well_formed.ensures c.clause.ensures.fits c.clause.ensures.tree)
