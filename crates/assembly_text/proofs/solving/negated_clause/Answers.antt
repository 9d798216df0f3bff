use Rattle.std.proofs.Common.{Option, Result, IfOk, rules, subst, sym}
use Rattle.std.specs.Prelude.{IfSome}
use Rattle.ir_trees.specs.declared.ir.stop.Stop.{Stop}
use Rattle.candidate_rounds.specs.Evaluators.Known.{sure_of}
use Rattle.overlaps.specs.declared.overlap.WhereClause.{WhereClause}
use Rattle.overlaps.specs.Negated.{IsKeptApart}
use Rattle.assembly_text.specs.Specializing.{IsTesterFor, test_not_made, test_stopped}
use Rattle.candidate_assembly.proofs.Calls.Causes.{so-err}
use Rattle.assembly_text.proofs.Answered.{each-answer}
use Rattle.assembly_text.proofs.solving.negated_clause.Goals as goal

pub returns-in-Ok-clause-is : goal.returns-in-Ok-clause-is
returns-in-Ok-clause-is c =
    let made : IsTesterFor c.args.cx c.args.given.now c.in-Ok.rounds = search rules in
    let said = c.kept_apart_by_negation-clause.ensures in
    let left = c.kept_apart_by_negation-clause.new.rounds in
    each-answer c.kept_apart_by_negation-clause.result (λ o h. record {
      first = c.in-Ok.rounds;
      left = left;
      tester = made;
      stays = said.stays;
      is = subst (λ (r : Result (Option WhereClause) Stop). IfOk r (λ q. IfSome q (IsKeptApart c.in-Ok.rounds (sure_of left) c.args.first c.args.second))) h said.negated;
      leaves = sym c.context_of.ensures;
    })

pub returns-in-Ok-clause-stopped : goal.returns-in-Ok-clause-stopped
returns-in-Ok-clause-stopped c =
    let made : IsTesterFor c.args.cx c.args.given.now c.in-Ok.rounds = search rules in
    so-err c.kept_apart_by_negation-clause.result (λ s k. test_stopped c.in-Ok.rounds c.kept_apart_by_negation-clause.new.rounds made k (sym c.context_of.ensures)) c.kept_apart_by_negation-clause.ensures.cause

pub returns-in-Err-clause-stopped : goal.returns-in-Err-clause-stopped
returns-in-Err-clause-stopped c = test_not_made (search rules)
