use Rattle.std.proofs.Common.{IfOk, rules, subst}
use Rattle.assembly_text.specs.Solving.{ComesBefore}
use Rattle.assembly_text.proofs.Answered.{on-answer, solved-before}
use Rattle.assembly_text.proofs.MayBeGiven.{clauses-of-new}
use Rattle.assembly_text.proofs.solving.solve_for_values.Goals as goal

pub ask_for_values-solved-requires-clause-clauses : goal.ask_for_values-solved-requires-clause-clauses
ask_for_values-solved-requires-clause-clauses c =
    clauses-of-new c.args.cx c.args.given.now c.in-Ok.rounds c.as_slice-clauses.result.now (search rules) c.requires.given c.as_slice-clauses.ensures.value

pub returns-in-Ok-clause-comes : goal.returns-in-Ok-clause-comes
returns-in-Ok-clause-comes c =
    let last = c.ask_for_values-solved.new.rounds in
    on-answer c.ask_for_values-solved.result (λ s h. solved-before c.args.cx c.args.given.now c.args.predicate c.args.effort c.in-Ok.rounds last c.context_of.result s.verdict (search rules) c.context_of.ensures h)
    (subst (λ xs. IfOk c.ask_for_values-solved.result (λ s. ComesBefore c.in-Ok.rounds last xs c.args.predicate c.args.effort s.verdict)) c.as_slice-clauses.ensures.value c.ask_for_values-solved.ensures.comes)
