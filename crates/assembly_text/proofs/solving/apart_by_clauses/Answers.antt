use Rattle.std.proofs.Common.{◌≡◌, Bool, true, Result, IfOk, rules, subst, sym}
use Rattle.ir_trees.specs.declared.ir.stop.Stop.{Stop}
use Rattle.candidate_rounds.specs.Evaluators.Known.{listing, state}
use Rattle.rounds_judge.specs.Equations.Opening.{are_open}
use Rattle.overlaps.specs.Together.{ClausesKeepApart}
use Rattle.assembly_text.specs.Overlapping.{asking_stopped, not_made}
use Rattle.assembly_text.specs.Solving.{IsOpenFor}
use Rattle.candidate_assembly.proofs.Calls.Causes.{so-err}
use Rattle.assembly_text.proofs.Answered.{each-answer, open-in-coherence}
use Rattle.assembly_text.proofs.solving.apart_by_clauses.Goals as goal

pub returns-in-Ok-clause-is : goal.returns-in-Ok-clause-is
returns-in-Ok-clause-is c =
    let r = c.in-Ok.rounds in
    let made : IsOpenFor c.args.cx c.args.given.now r = search rules in
    let said = c.kept_apart_by_clauses-apart.ensures in
    each-answer c.kept_apart_by_clauses-apart.result (λ o h. record {
      first = r;
      left = c.kept_apart_by_clauses-apart.new.rounds;
      new = made;
      stays = said.stays;
      is = subst (λ (x : Result Bool Stop). IfOk x (λ b. b ≡ true → ClausesKeepApart r c.args.first c.args.second)) h said.apart;
      in_coherence = λ e. open-in-coherence c.args.cx c.args.given.now r made
          (subst (λ (x : Result Bool Stop). IfOk x (λ b. b ≡ true → are_open (listing r) (state r) ≡ true)) h said.open e);
      leaves = sym c.context_of.ensures;
    })

pub returns-in-Ok-clause-stopped : goal.returns-in-Ok-clause-stopped
returns-in-Ok-clause-stopped c =
    let made : IsOpenFor c.args.cx c.args.given.now c.in-Ok.rounds = search rules in
    so-err c.kept_apart_by_clauses-apart.result
    (λ s k. asking_stopped c.in-Ok.rounds c.kept_apart_by_clauses-apart.new.rounds made.context made.fixed_is made.state_is k (sym c.context_of.ensures))
    c.kept_apart_by_clauses-apart.ensures.cause

pub returns-in-Err-clause-stopped : goal.returns-in-Err-clause-stopped
returns-in-Err-clause-stopped c = not_made (search rules)
