use Rattle.ir_trees.specs.Instantiation.Folds.{arg_tree}
use Rattle.candidate_rounds.proofs.Equations.Renewing.{UniversesSoFar}
use Rattle.candidate_rounds.proofs.rounds.binding.renew_universes.Given as goal

abbrev pub invariant-loop-number : goal.invariant-loop-number
invariant-loop-number l = UniversesSoFar l.cx.trees l.initial.inference l.inference l.universe (arg_tree l.cx.trees l.value) l.number
