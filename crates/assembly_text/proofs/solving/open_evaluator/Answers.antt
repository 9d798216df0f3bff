use Rattle.std.proofs.Common.{ap, rules, true}
use Rattle.candidate_rounds.specs.Table.Goals.{Goals}
use Rattle.assembly_text.proofs.Answered.{fixed-new}
use Rattle.assembly_text.proofs.solving.open_evaluator.Goals as goal

pub returns-in-Ok-clause-made : goal.returns-in-Ok-clause-made
returns-in-Ok-clause-made c =
    let made = c.with_open_aliases-rounds.ensures in
    record {
      context = made.context;
      fixed_is = fixed-new true c.args.given.now.mode c.args.cx c.args.given.now c.with_open_aliases-rounds.result c.in-Ok.normal.items c.new-opaques.result.items made.context made.normal (search rules) made.opaques c.new-opaques.ensures.items (ap (λ (x : Goals). x.table) made.goals) made.state;
      state_is = made.state;
    }
