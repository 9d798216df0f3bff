use Rattle.std.proofs.Common.{IfOk, rules, sym, subst}
use Rattle.ir_trees.specs.Declarations.Context.{Context}
use Rattle.assembly_text.specs.Explaining.{AreReasons}
use Rattle.assembly_text.specs.Solving.{ComesBefore}
use Rattle.assembly_text.proofs.Answered.{on-answer, solved-before}
use Rattle.assembly_text.proofs.MayBeGiven.{clauses-of-new}
use Rattle.assembly_text.proofs.explaining.explain_run.Goals as goal

pub ask_why-explained-requires-clause-clauses : goal.ask_why-explained-requires-clause-clauses
ask_why-explained-requires-clause-clauses c =
    clauses-of-new c.args.cx c.args.given.now c.in-Ok.rounds c.as_slice-clauses.result.now (search rules) c.requires.given c.as_slice-clauses.ensures.value

pub returns-in-Ok-clause-comes : goal.returns-in-Ok-clause-comes
returns-in-Ok-clause-comes c =
    let last = c.ask_why-explained.new.rounds in
    on-answer c.ask_why-explained.result (λ e h. solved-before c.args.cx c.args.given.now c.args.predicate c.args.effort c.in-Ok.rounds last c.context_of.result e.verdict (search rules) c.context_of.ensures h)
    (subst (λ xs. IfOk c.ask_why-explained.result (λ e. ComesBefore c.in-Ok.rounds last xs c.args.predicate c.args.effort e.verdict)) c.as_slice-clauses.ensures.value c.ask_why-explained.ensures.comes)

pub returns-in-Ok-clause-sorts : goal.returns-in-Ok-clause-sorts
returns-in-Ok-clause-sorts c = subst (λ (x : Context). IfOk c.ask_why-explained.result (λ e. AreReasons x.trees e.reasons)) (sym c.context_of.ensures) c.ask_why-explained.ensures.sorts
