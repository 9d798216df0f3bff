-- What stands for parameters: variables that are numbered on, or placeholders of one universe.
use Rattle.std.specs.Prelude.{ℕ, suc, ◌+◌, List, [], ◌∷◌}
use Rattle.ir_trees.specs.declared.ir.kinds.VarKind.{VarKind}
use Rattle.ir_trees.specs.Declarations.Context.{parameter_kind}
use Rattle.ir_trees.specs.Instantiation.Folding.{leaf}
use Rattle.ir_trees.specs.Syntax.Trees.{Tree}
use Rattle.candidate_eval.specs.Judges.States.{variable, variable_kind, placeholder}
use Rattle.candidate_rounds.specs.declared.rounds.fresh.Leaves.{Leaves}
use Rattle.candidate_rounds.specs.declared.rounds.fresh.Leaves.TheVariants.{Variables, Placeholders}

-- the one for the parameter of that index
abbrev pub leaf_of : Leaves → VarKind → ℕ → Tree
leaf_of (Variables first) k i = variable (variable_kind (parameter_kind k)) (first + i)
leaf_of (Placeholders u) k i = leaf (placeholder (parameter_kind k) u i)

-- those for parameters of these kinds, the first of which has that index
abbrev pub leaves : Leaves → ℕ → List VarKind → List Tree
leaves l i [] = []
leaves l i (k ∷ ks) = leaf_of l k i ∷ leaves l (suc i) ks

abbrev pub all_leaves : Leaves → List VarKind → List Tree
all_leaves l ks = leaves l 0 ks

-- the number that the leaf of an index needs
abbrev pub last_number : Leaves → ℕ → ℕ
last_number (Variables first) i = first + i
last_number (Placeholders u) i = i
