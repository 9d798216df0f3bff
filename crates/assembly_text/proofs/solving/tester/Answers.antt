use Rattle.std.proofs.Common.{ap, false, rules}
use Rattle.candidate_eval.specs.declared.eval.mode.TypingMode.TheVariants.{PostAnalysis}
use Rattle.candidate_rounds.specs.Table.Goals.{Goals}
use Rattle.assembly_text.proofs.Answered.{fixed-new}
use Rattle.assembly_text.proofs.solving.tester.Goals as goal

pub returns-in-Ok-clause-made : goal.returns-in-Ok-clause-made
returns-in-Ok-clause-made c =
    let made = c.new.ensures in
    record {
      context = made.context;
      fixed_is = fixed-new false PostAnalysis c.args.cx c.args.given.now c.new.result c.in-Ok.normal.items c.new-opaques.result.items made.context made.normal (search rules) made.opaques c.new-opaques.ensures.items (ap (λ (x : Goals). x.table) made.goals) made.state;
      state_is = made.state;
    }
