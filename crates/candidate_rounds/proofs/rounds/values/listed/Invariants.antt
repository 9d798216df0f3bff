use Rattle.ir_trees.specs.Syntax.Words.{ty_tree}
use Rattle.candidate_rounds.proofs.Resolution.Listing.{IsListedFrom}
use Rattle.candidate_rounds.proofs.rounds.values.listed.Given as goal

abbrev pub invariant-loop-i : goal.invariant-loop-i
invariant-loop-i l = IsListedFrom l.cx.trees l.normal (ty_tree l.cx.trees l.ty) l.i
