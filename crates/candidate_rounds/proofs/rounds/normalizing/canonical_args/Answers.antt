use Rattle.std.proofs.Common.{◌≡◌, [], length, subst, ◌∙◌}
use Rattle.ir_trees.specs.Syntax.Words.{args_forest}
use Rattle.candidate_assembly.proofs.Calls.Causes.{so-err}
use Rattle.rounds_judge.specs.Obligations.Responding.{renumbered, with_numbers}
use Rattle.candidate_rounds.specs.Evaluators.Stopping.{IsRenumberingStop, of_own_list}
use Rattle.candidate_rounds.proofs.rounds.normalizing.canonical_args.Goals as goal

pub returns-clause-cause : goal.returns-clause-cause
returns-clause-cause c =
    let f = args_forest c.args.cx.now.trees c.args.args in
    let numbers : c.as_slice.result.now ≡ with_numbers [] f = c.as_slice.ensures.value ∙ c.in_ok-numbers.ensures.numbers in
    so-err c.numbered_args.result (λ s h. of_own_list (subst (λ ns. IsRenumberingStop (length ns) (length c.numbered_args.new.cx.trees) (renumbered ns f) s) numbers h)) c.numbered_args.ensures.cause
