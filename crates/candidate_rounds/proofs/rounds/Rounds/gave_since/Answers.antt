use Rattle.std.proofs.Common.{◌≡◌, ◌∙◌, ap, subst}
use Rattle.candidate_rounds.specs.Evaluators.Known.{Evaluator}
use Rattle.candidate_rounds.specs.Table.Trying.{entries_gave}
use Rattle.candidate_rounds.proofs.rounds.Rounds.gave_since.Goals as goal

pub returns : goal.returns
returns c =
    subst (λ (e : Evaluator). c.gave_a_value.result ≡ entries_gave c.args.before.now e.inference.variables) c.self.view_is
    (c.gave_a_value.ensures ∙ ap (entries_gave c.args.before.now) c.variables.ensures)
