use Rattle.std.proofs.Common.{Result, IfOk, rules, subst, sym}
use Rattle.ir_trees.specs.declared.ir.stop.Stop.{Stop}
use Rattle.overlaps.specs.declared.specializing.Specialization.{Specialization}
use Rattle.overlaps.specs.Specialized.{IsSpecialization}
use Rattle.assembly_text.specs.Specializing.{IsTesterFor, test_not_made, test_stopped}
use Rattle.candidate_assembly.proofs.Calls.Causes.{so-err}
use Rattle.assembly_text.proofs.Answered.{each-answer}
use Rattle.assembly_text.proofs.solving.test_specialization.Goals as goal

pub returns-in-Ok-clause-is : goal.returns-in-Ok-clause-is
returns-in-Ok-clause-is c =
    let made : IsTesterFor c.args.cx c.args.given.now c.in-Ok.rounds = search rules in
    let said = c.specializes-answer.ensures in
    let left = c.specializes-answer.new.rounds in
    each-answer c.specializes-answer.result (λ o h. record {
      first = c.in-Ok.rounds;
      left = left;
      tester = made;
      stays = said.stays;
      is = subst (λ (r : Result Specialization Stop). IfOk r (IsSpecialization c.in-Ok.rounds left c.args.special c.args.general)) h said.is;
      leaves = sym c.context_of.ensures;
    })

pub returns-in-Ok-clause-stopped : goal.returns-in-Ok-clause-stopped
returns-in-Ok-clause-stopped c =
    let made : IsTesterFor c.args.cx c.args.given.now c.in-Ok.rounds = search rules in
    so-err c.specializes-answer.result (λ s k. test_stopped c.in-Ok.rounds c.specializes-answer.new.rounds made k (sym c.context_of.ensures)) c.specializes-answer.ensures.cause

pub returns-in-Err-clause-stopped : goal.returns-in-Err-clause-stopped
returns-in-Err-clause-stopped c = test_not_made (search rules)
