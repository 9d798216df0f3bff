use Rattle.ir_trees.specs.Declarations.Context.{Grows}
use Rattle.candidate_assembly.specs.Goals.KindShown.{IsGoal, trait_kind}
use Rattle.assembly_text.proofs.explaining.rounds_of_goals.Given as goal

-- the context has grown, and the goal is one of it
abbrev pub invariant-loop-before : goal.invariant-loop-before
invariant-loop-before l = Grows l.fn.rounds.context l.rounds.context × IsGoal trait_kind l.rounds.context l.env l.predicate
