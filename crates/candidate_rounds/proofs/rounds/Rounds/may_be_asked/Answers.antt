use Rattle.std.proofs.Common.{List, IfErr, IfOk, ◌≡◌, ap, subst}
use Rattle.ir_trees.specs.Syntax.Trees.{Tree}
use Rattle.candidate_eval.specs.Interface.Noting.{IsNotingStop}
use Rattle.candidate_rounds.specs.Table.Goals.{key_seen}
use Rattle.candidate_rounds.specs.Evaluators.Known.{Evaluator}
use Rattle.rounds_judge.specs.Table.GoalTable.{may_be_asked}
use Rattle.candidate_rounds.proofs.rounds.Rounds.may_be_asked.Goals as goal

pub returns-clause-is : goal.returns-clause-is
returns-clause-is c =
    let trees = ap (λ (r : Evaluator). r.context.trees) c.self.view_is in
    subst (λ (ts : List Tree). IfOk c.may_be_asked.result (λ b. b ≡ may_be_asked (key_seen ts c.args.key.now))) trees c.may_be_asked.ensures.is

pub returns-clause-cause : goal.returns-clause-cause
returns-clause-cause c =
    let trees = ap (λ (r : Evaluator). r.context.trees) c.self.view_is in
    subst (λ (ts : List Tree). IfErr c.may_be_asked.result (λ s. IsNotingStop ts s)) trees c.may_be_asked.ensures.cause
