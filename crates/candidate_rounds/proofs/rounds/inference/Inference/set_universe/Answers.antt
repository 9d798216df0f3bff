use Rattle.std.proofs.Common.{◌<◌, ◌≤◌, length, refl, sym, arith}
use Rattle.candidate_rounds.specs.Evaluators.Inferences.{with_universe}
use Rattle.candidate_rounds.proofs.Snapshots.Undoing.{set-with_entry, with_entry-none}
use Rattle.candidate_rounds.proofs.rounds.inference.Inference.set_universe.Goals as goal

pub returns-then-number-len : goal.returns-then-number-len
returns-then-number-len c =
    let l : c.args.number < length c.self.inside.variables.items = omega (arith, c.self.inside.variables.ok.0, c.len.ensures, c.if-number-len.true) in
    rw (sym c.self.view_is, set-with_entry c.self.inside.variables.items c.args.number _ (with_universe c.args.universe) l c.index-entry.ensures) refl

pub returns-else-number-len : goal.returns-else-number-len
returns-else-number-len c =
    let m : length c.self.inside.variables.items ≤ c.args.number = omega (arith, c.self.inside.variables.ok.0, c.len.ensures, c.if-number-len.false) in
    rw (sym c.self.view_is, with_entry-none c.self.inside.variables.items c.args.number (with_universe c.args.universe) m) refl
