use Rattle.std.proofs.Common.{ap, false, rules}
use Rattle.candidate_rounds.specs.Table.Goals.{Goals}
use Rattle.assembly_text.proofs.Answered.{fixed-new}
use Rattle.assembly_text.proofs.solving.evaluator.Goals as goal

pub returns-in-Ok-clause-made : goal.returns-in-Ok-clause-made
returns-in-Ok-clause-made c =
    let made = c.new-rounds.ensures in
    record {
      context = made.context;
      fixed_is = fixed-new false c.args.given.now.mode c.args.cx c.args.given.now c.new-rounds.result c.in-Ok.normal.items c.new-opaques.result.items made.context made.normal (search rules) made.opaques c.new-opaques.ensures.items (ap (λ (x : Goals). x.table) made.goals) made.state;
      state_is = made.state;
    }
