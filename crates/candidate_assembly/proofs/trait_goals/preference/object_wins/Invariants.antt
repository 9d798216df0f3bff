use Rattle.std.proofs.Common.{◌≡◌, drop}
use Rattle.candidate_eval.specs.Outcomes.ResponseTrees.{candidates_of}
use Rattle.candidate_assembly.specs.Answers.Preference.{object_wins}
use Rattle.candidate_assembly.proofs.trait_goals.preference.object_wins.Given as goal

-- none before is by a bound of an object
abbrev pub invariant-loop-i : goal.invariant-loop-i
invariant-loop-i l = object_wins (candidates_of l.cx.trees l.candidates) ≡ object_wins (candidates_of l.cx.trees (drop l.i l.candidates))
