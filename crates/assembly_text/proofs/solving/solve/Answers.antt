use Rattle.std.proofs.Common.{IfOk, rules, sym, subst}
use Rattle.assembly_text.specs.Solving.{IsNewFor, ComesUnder}
use Rattle.assembly_text.proofs.Answered.{on-answer}
use Rattle.assembly_text.proofs.MayBeGiven.{clauses-of-new}
use Rattle.assembly_text.proofs.solving.solve.Goals as goal

pub ask-verdict-requires-clause-clauses : goal.ask-verdict-requires-clause-clauses
ask-verdict-requires-clause-clauses c =
    clauses-of-new c.args.cx c.args.given.now c.in-Ok.rounds c.as_slice-clauses.result.now (search rules) c.requires.given c.as_slice-clauses.ensures.value

pub returns-in-Ok-clause-comes : goal.returns-in-Ok-clause-comes
returns-in-Ok-clause-comes c =
    let made : IsNewFor c.args.cx c.args.given.now c.in-Ok.rounds = search rules in
    on-answer c.ask-verdict.result (λ v h. record {
      first = c.in-Ok.rounds;
      left = c.ask-verdict.new.rounds;
      context = made.context;
      fixed_is = made.fixed_is;
      state_is = made.state_is;
      comes = h;
      leaves = sym c.context_of.ensures;
    }) (subst (λ xs. IfOk c.ask-verdict.result (λ v. ComesUnder c.in-Ok.rounds c.ask-verdict.new.rounds xs c.args.predicate c.args.effort v)) c.as_slice-clauses.ensures.value c.ask-verdict.ensures.comes)
