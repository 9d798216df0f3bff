use Rattle.std.proofs.Common.{◌≡◌, true, not, Some, subst}
use Rattle.candidate_assembly.specs.Goals.TraitGoals.{trait_goal}
use Rattle.candidate_eval.specs.Outcomes.ResponseTrees.{response_of}
use Rattle.candidate_rounds.specs.declared.rounds.goals.Verdict.{Verdict}
use Rattle.candidate_rounds.specs.Evaluators.Known.{state, table_of}
use Rattle.candidate_rounds.specs.Table.Running.{IsDerivedFor}
use Rattle.rounds_judge.specs.Table.Keys.{key_at}
use Rattle.examples.proofs.Holding.{not-true, yes-derived}
use Rattle.examples.proofs.holds.holds.Goals as goal

pub returns-in-Yes : goal.returns-in-Yes
returns-in-Yes c = λ e.
    let m = c.may_be_run.new.self in
    let n = c.run.new.self in
    let k = key_at (state m) (trait_goal m.context.trees c.args.env c.args.predicate) in
    let none : not c.has_error_regions.result ≡ true = cc in
    let yes = subst (λ (v : Verdict). IsDerivedFor n k (Some v)) c.in-Yes.is c.in_ok-run.ensures.yes in
    yes-derived m n c.args.env c.args.predicate (table_of n) (response_of n.context.trees c.in-Yes.field-0) c.in-Yes.field-1 c.in_ok-run.ensures.stays c.in_ok-may_be_run.ensures.goal
    (c.has_error_regions.ensures.clean (not-true c.has_error_regions.result none)) yes
