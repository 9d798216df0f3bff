use Rattle.std.proofs.Common.{rules}
use Rattle.std.specs.Prelude.{All}
use Rattle.assembly_text.specs.Explaining.{IsAsked}
use Rattle.assembly_text.proofs.Values.{asked-grown}
use Rattle.assembly_text.proofs.explaining.with_rounds.Goals as goal

pub returns-in-Ok-clause-sorts : goal.returns-in-Ok-clause-sorts
returns-in-Ok-clause-sorts c =
    let asked : All (IsAsked c.args.cx.trees) c.in-Goals.goals.items = search rules in
    asked-grown c.args.cx c.look_back-cx.result.0 c.in-Goals.goals.items c.look_back-cx.ensures asked
