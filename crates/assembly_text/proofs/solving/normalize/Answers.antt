use Rattle.std.proofs.Common.{IfOk, rules, sym, subst}
use Rattle.ir_trees.specs.Declarations.Context.{Context}
use Rattle.assembly_text.specs.Normalizing.{IsReadProjection, NormalComesUnder}
use Rattle.assembly_text.specs.Solving.{IsNewFor}
use Rattle.assembly_text.proofs.Answered.{on-answer}
use Rattle.assembly_text.proofs.MayBeGiven.{clauses-of-new}
use Rattle.assembly_text.proofs.solving.normalize.Goals as goal

pub ask_normal-normal-requires-clause-clauses : goal.ask_normal-normal-requires-clause-clauses
ask_normal-normal-requires-clause-clauses c =
    clauses-of-new c.args.cx c.args.given.now c.in-Ok.rounds c.as_slice-clauses.result.now (search rules) c.requires.given c.as_slice-clauses.ensures.value

pub ask_normal-normal-requires-clause-projection : goal.ask_normal-normal-requires-clause-projection
ask_normal-normal-requires-clause-projection c =
    let made : IsNewFor c.args.cx c.args.given.now c.in-Ok.rounds = search rules in
    subst (λ (x : Context). IsReadProjection x c.args.alias) (sym made.context) c.requires.projection

pub returns-in-Ok-clause-comes : goal.returns-in-Ok-clause-comes
returns-in-Ok-clause-comes c =
    let made : IsNewFor c.args.cx c.args.given.now c.in-Ok.rounds = search rules in
    on-answer c.ask_normal-normal.result (λ v h. record {
      first = c.in-Ok.rounds;
      left = c.ask_normal-normal.new.rounds;
      context = made.context;
      fixed_is = made.fixed_is;
      state_is = made.state_is;
      comes = h;
      leaves = sym c.context_of.ensures;
    }) (subst (λ xs. IfOk c.ask_normal-normal.result (λ v. NormalComesUnder c.in-Ok.rounds c.ask_normal-normal.new.rounds xs c.args.alias c.args.effort c.args.waits v)) c.as_slice-clauses.ensures.value c.ask_normal-normal.ensures.comes)
