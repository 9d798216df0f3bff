-- What a response is gathered from: root variables, and answers of the folds that number variables anew.
use Rattle.std.specs.Prelude.{ℕ, Option, Some, None, List, slice_get, if◌then◌else◌}
use Rattle.ir_trees.specs.declared.ir.heads.Head.{Head}
use Rattle.ir_trees.specs.declared.ir.heads.Head.TheVariants as H
use Rattle.ir_trees.specs.declared.ir.kinds.RegionKind.TheVariants as R
use Rattle.ir_trees.specs.Instantiation.Folding.{leaf}
use Rattle.ir_trees.specs.Syntax.Trees.{Tree}
use Rattle.candidate_eval.specs.declared.eval.variable.CanonicalVar.{CanonicalVar}
use Rattle.candidate_eval.specs.declared.eval.variable.VariableKind.TheVariants.{Region}
use Rattle.candidate_eval.specs.Judges.States.{variable}
use Rattle.candidate_rounds.specs.declared.rounds.inference.Entry.{Entry}
use Rattle.candidate_rounds.specs.Evaluators.Inferences.{Inference}
use Rattle.rounds_judge.specs.Obligations.Responding.{place_of, renumbered}

-- the variable of that number, where it is a root: by its entry, and by all that is known

abbrev pub root_at : ℕ → Option Entry → Option Tree
root_at n None = None
root_at n (Some e) = if e.is_root then Some (variable e.kind n) else None

abbrev pub root_in : Inference → ℕ → Option Tree
root_in s n = root_at n (slice_get s.variables n)

-- What a variable is that a response leaves open, as it is kept.
abbrev pub open_entry : Option Entry → CanonicalVar
open_entry None = record { kind = Region; universe = 0 }
open_entry (Some e) = record { kind = e.kind; universe = e.universe }

-- What stands for a variable in a response. Nothing stands below a region's.
abbrev pub renumbered_at : List ℕ → Tree → Option Tree
renumbered_at ns t = at t.head
  where
    at : Head → Option Tree
    at (H.Infer v) = Some (leaf (H.Infer (record { sort = v.sort; number = place_of ns v.number })))
    at (H.Region (R.Var n)) = Some (record { head = H.Region (R.Var (place_of ns n)); children = renumbered ns t.children })
    at _ = None
