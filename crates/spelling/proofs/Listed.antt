-- Members of a list of arguments.
use Rattle.std.proofs.Common.{◌≡◌, ℕ, zero, suc, ◌<◌, List, [], ◌∷◌, length, get_or, subst, arith}
use Rattle.ir_trees.specs.declared.ir.kinds.GenericArg.{GenericArg}
use Rattle.ir_trees.specs.Instantiation.Folds.{IsArg}
use Rattle.ir_trees.specs.Syntax.Trees.{Tree}
use Rattle.ir_trees.specs.Syntax.Words.{ListFits}

-- What stands in a list that fits is of its sort.
pub IsArg-listed : (ts : List Tree) (xs : List GenericArg) (i : ℕ) (d a : GenericArg) → i < length xs → get_or xs i d ≡ a → ListFits ts xs → IsArg ts a
IsArg-listed ts [] i d a b e f = absurd (omega arith)
IsArg-listed ts (x ∷ xs) zero d a b e f =
    let Head : GenericArg → Type 0 = λ y. ListFits ts (y ∷ xs) in
    let fits : ListFits ts (a ∷ xs) = subst Head e f in
    cc
IsArg-listed ts (x ∷ xs) (suc i) d a b e f = let tail : ListFits ts xs = cc in IsArg-listed ts xs i d a (omega arith) e tail
