use Rattle.std.proofs.Common.{arith}
use Rattle.candidate_rounds.specs.Evaluators.Known.{table_of}
use Rattle.candidate_rounds.specs.Table.Goals.{key_seen}
use Rattle.candidate_rounds.proofs.Table.Finding.{only-place}
use Rattle.candidate_rounds.proofs.Table.Rounding.{place-below}
use Rattle.candidate_rounds.proofs.Table.Running.{seen-length}
use Rattle.candidate_rounds.proofs.rounds.Rounds.lookup.Goals as goal

pub lookup_at-requires : goal.lookup_at-requires
lookup_at-requires c =
    let r = c.args.self.now in
    let k = key_seen r.context.trees c.args.key.now in
    let below = place-below (table_of r) k c.in-Some.place (only-place (table_of r) k c.in-Some.place c.in-Some.ensures) in
    let many = seen-length r in
    omega (arith, below, many)
