use Rattle.std.proofs.Common.{◌≡◌}
use Rattle.ir_trees.specs.Declarations.Context.{Grows}
use Rattle.candidate_rounds.specs.Evaluators.Interface.{fixed}
use Rattle.candidate_rounds.specs.Evaluators.Known.{state}
use Rattle.assembly_text.specs.Solving.{with_roots}
use Rattle.assembly_text.proofs.solving.add_variables.Given as goal

-- so many variables were made, and nothing else
abbrev pub invariant-loop-made : goal.invariant-loop-made
invariant-loop-made l =
    Grows l.fn.rounds.context l.rounds.context × (fixed l.rounds ≡ fixed l.fn.rounds) × (state l.rounds ≡ with_roots l._made (state l.fn.rounds))
