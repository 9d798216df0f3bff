use Rattle.std.proofs.Common.{Result, IfOk, rules, subst, sym}
use Rattle.ir_trees.specs.declared.ir.stop.Stop.{Stop}
use Rattle.overlaps.specs.declared.overlap.Overlap.{Overlap}
use Rattle.candidate_rounds.specs.Evaluators.Known.{table_of}
use Rattle.overlaps.specs.Asked.{ClausesBeforeWereAsked, ClausesWereAsked, OfClause, WhereMay}
use Rattle.overlaps.specs.Found.{IsOverlap}
use Rattle.assembly_text.specs.Overlapping.{asking_stopped, not_made}
use Rattle.assembly_text.specs.Solving.{IsOpenFor}
use Rattle.candidate_assembly.proofs.Calls.Causes.{so-err}
use Rattle.assembly_text.proofs.Answered.{answer-is, each-answer}
use Rattle.assembly_text.proofs.solving.overlap.Goals as goal

pub returns-in-Ok-clause-is : goal.returns-in-Ok-clause-is
returns-in-Ok-clause-is c =
    let made : IsOpenFor c.args.cx c.args.given.now c.in-Ok.rounds = search rules in
    let said = c.impls_overlap-overlap.ensures in
    each-answer c.impls_overlap-overlap.result (λ o h. record {
      first = c.in-Ok.rounds;
      left = c.impls_overlap-overlap.new.rounds;
      context = made.context;
      fixed_is = made.fixed_is;
      state_is = made.state_is;
      stays = said.stays;
      is = subst (λ (r : Result Overlap Stop). IfOk r (IsOverlap c.in-Ok.rounds c.impls_overlap-overlap.new.rounds c.args.first c.args.second)) h said.is;
      allowed = λ w e. answer-is h (said.allowed w e);
      asked = subst (λ (r : Result Overlap Stop). IfOk r (WhereMay (ClausesWereAsked c.in-Ok.rounds c.args.effort (table_of c.impls_overlap-overlap.new.rounds) c.args.first c.args.second))) h said.asked;
      before = subst (λ (r : Result Overlap Stop). IfOk r (OfClause (ClausesBeforeWereAsked c.in-Ok.rounds c.args.effort c.args.first c.args.second))) h said.before;
      leaves = sym c.context_of.ensures;
    })

pub returns-in-Ok-clause-stopped : goal.returns-in-Ok-clause-stopped
returns-in-Ok-clause-stopped c =
    let made : IsOpenFor c.args.cx c.args.given.now c.in-Ok.rounds = search rules in
    so-err c.impls_overlap-overlap.result
    (λ s k. asking_stopped c.in-Ok.rounds c.impls_overlap-overlap.new.rounds made.context made.fixed_is made.state_is k (sym c.context_of.ensures))
    c.impls_overlap-overlap.ensures.cause

pub returns-in-Err-clause-stopped : goal.returns-in-Err-clause-stopped
returns-in-Err-clause-stopped c = not_made (search rules)
