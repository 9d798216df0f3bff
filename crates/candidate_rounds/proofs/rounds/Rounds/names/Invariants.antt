use Rattle.ir_trees.specs.Syntax.Words.{args_forest}
use Rattle.candidate_rounds.proofs.Table.Giving.{NamedSoFar}
use Rattle.rounds_judge.specs.Table.TableSettling.{own_variable}
use Rattle.candidate_rounds.proofs.rounds.Rounds.names.Given as goal

abbrev pub invariant-loop-place : goal.invariant-loop-place
invariant-loop-place l = NamedSoFar (own_variable l.fn.key.variables.items l.fn.numbers (args_forest l.fn.self.context.trees l.fn.response.values)) l.fn.self l.self l.fn.response.vars.items l.place l.names.items
