-- Equality of numbers and certainties, as it was derived, decides.
use Rattle.std.proofs.Common.{◌≡◌, Bool, true, false, List, refl, rules}
use Rattle.std.specs.Cmp.Lexicographic.{pointwise}
use Rattle.std.proofs.lemmas.Slice.Eq.{slice_eq-Decides}
use Rattle.std.specs.Bool.{Decides}
use Rattle.ir_trees.specs.contracts.ir.kinds.ArgsPartialEq.TheImpl as args
use Rattle.ir_trees.specs.contracts.ir.kinds.ClausePartialEq.TheImpl as clause
use Rattle.ir_trees.specs.declared.ir.kinds.Args.{Args}
use Rattle.ir_trees.specs.declared.ir.kinds.Clause.{Clause}
use Rattle.candidate_eval.specs.contracts.eval.certainty.CertaintyPartialEq.TheImpl as certainty
use Rattle.candidate_eval.specs.declared.eval.certainty.Certainty.{Certainty}

pub args-are : (a b : Args) → args.eq-value.it a b ≡ true → a ≡ b
args-are a b e = search rules

pub certainty-is : (a b : Certainty) → certainty.eq-value.it a b ≡ true → a ≡ b
certainty-is a b e = search rules

clause-decides : (a b : Clause) → Decides (clause.eq-value.it a b) (a ≡ b)
clause-decides a b = search rules

pub clauses-are : (xs ys : List Clause) → pointwise clause.eq-value.it xs ys ≡ true → xs ≡ ys
clauses-are xs ys e = (slice_eq-Decides clause-decides xs ys _ refl).0 e

pub clauses-same : (xs ys : List Clause) → xs ≡ ys → pointwise clause.eq-value.it xs ys ≡ true
clauses-same xs ys e = (slice_eq-Decides clause-decides xs ys _ refl).1 e

-- no test is passed and isn't
pub passed-or-not : (b : Bool) → b ≡ true → b ≡ false → ⊥
passed-or-not true e f = cc
passed-or-not false e f = cc
