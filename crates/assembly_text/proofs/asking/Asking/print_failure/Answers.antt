use Rattle.std.proofs.Common.{◌≡◌, Err, rules}
use Rattle.candidate_eval.specs.declared.coherence.OrphanStop.TheVariants as O
use Rattle.ir_trees.specs.declared.ir.stop.Stop.TheVariants.{Memory}
use Rattle.assembly_text.proofs.Checked.{failure-stopped}
use Rattle.assembly_text.proofs.asking.Asking.print_failure.Goals as goal

pub returns-in-Some-clause-printed : goal.returns-in-Some-clause-printed
returns-in-Some-clause-printed c =
    let own : (c.args.checked ≡ Err (O.Stop c.in-Some.stop)) × (c.in-Some.stop ≡ Memory → ⊥) = search rules in
    failure-stopped c.args.checked c.print_stop.result _ _ _ _ own.0 own.1 c.print_stop.ensures.printed
