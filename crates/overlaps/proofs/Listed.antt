-- A member of a list of arguments is an argument.
use Rattle.std.proofs.Common.{◌<◌, ℕ, zero, suc, List, [], ◌∷◌, length, slice_index_or, arith, ◌≡◌}
use Rattle.ir_trees.specs.declared.ir.kinds.GenericArg.{GenericArg}
use Rattle.ir_trees.specs.Instantiation.Folds.{IsArg}
use Rattle.ir_trees.specs.Syntax.Nodes.{kind_at}
use Rattle.ir_trees.specs.Syntax.Kinds.{arg_kind, arg_number}
use Rattle.ir_trees.specs.Syntax.Trees.{Tree}
use Rattle.ir_trees.specs.Syntax.Words.{ListFits}

pub arg-there : (ts : List Tree) (xs : List GenericArg) (d : GenericArg) (i : ℕ) → ListFits ts xs → i < length xs → IsArg ts (slice_index_or xs i d)
arg-there ts [] d i f l = absurd (omega (arith, l))
arg-there ts (x ∷ xs) d zero f l = let here : kind_at ts (arg_number x) ≡ arg_kind x = cc in here
arg-there ts (x ∷ xs) d (suc i) f l =
    let rest : ListFits ts xs = cc in
    let m : i < length xs = omega (arith, l) in
    arg-there ts xs d i rest m
