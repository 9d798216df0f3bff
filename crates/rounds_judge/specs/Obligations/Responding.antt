-- Responses: what a state says of the root variables, with the variables that it leaves open numbered anew.
use Rattle.std.specs.Prelude.{ℕ, suc, Bool, false, ◌==◌, ◌||◌, Option, Some, None, List, [], ◌∷◌, ◌++◌, map, if◌then◌else◌}
use Rattle.ir_trees.specs.declared.ir.heads.Head.{Head}
use Rattle.ir_trees.specs.declared.ir.heads.Head.TheVariants as H
use Rattle.ir_trees.specs.declared.ir.kinds.RegionKind.TheVariants as R
use Rattle.ir_trees.specs.Syntax.Trees.{Forest, none, tree, Tree, variable_number}
use Rattle.ir_trees.specs.Instantiation.Folding.{leaf}
use Rattle.candidate_eval.specs.declared.eval.variable.CanonicalVar.{CanonicalVar}
use Rattle.candidate_eval.specs.declared.eval.variable.VariableKind.TheVariants.{Region}
use Rattle.candidate_eval.specs.declared.eval.certainty.Certainty.{Certainty}
use Rattle.candidate_eval.specs.Outcomes.Responses.{Response}
use Rattle.candidate_eval.specs.Judges.States.{State, VariableInfo, variable, valued, valued_tree, resolved, resolved_tree}
use Rattle.candidate_eval.specs.Judges.Alike.{info}
use Rattle.candidate_eval.specs.Judges.Instances.{Instance, instance}

-- the root variables among these, which are numbered from there on
abbrev pub roots_from : ℕ → List VariableInfo → Forest
roots_from n [] = none
roots_from n (i ∷ is) =
    let t = variable i.kind n in
    if i.is_root then tree t.head t.children (roots_from (suc n) is) else roots_from (suc n) is

-- The numbers of the variables in trees, each once, in the order in which they first occur, after those seen before.

abbrev pub is_seen : List ℕ → ℕ → Bool
is_seen [] n = false
is_seen (m ∷ ms) n = m == n || is_seen ms n

abbrev pub with_number : List ℕ → Option ℕ → List ℕ
with_number ns None = ns
with_number ns (Some n) = if is_seen ns n then ns else ns ++ n ∷ []

abbrev pub with_numbers : List ℕ → Forest → List ℕ
with_numbers ns none = ns
with_numbers ns (tree h below rest) = with_numbers (with_numbers (with_number ns (variable_number h)) below) rest

abbrev pub with_numbers_of : List ℕ → List Tree → List ℕ
with_numbers_of ns [] = ns
with_numbers_of ns (t ∷ ts) = with_numbers_of (with_numbers ns (tree t.head t.children none)) ts

-- A variable's new number is the place of its old one.

abbrev pub place_of : List ℕ → ℕ → ℕ
place_of [] n = 0
place_of (m ∷ ms) n = if m == n then 0 else suc (place_of ms n)

abbrev pub renumbering : List ℕ → Instance
renumbering ns v = Some (leaf (H.Infer (record { sort = v.sort; number = place_of ns v.number })))

abbrev pub renumbered_region : List ℕ → Head → Head
renumbered_region ns (H.Region (R.Var n)) = H.Region (R.Var (place_of ns n))
renumbered_region ns h = h

abbrev pub renumbered_regions : List ℕ → Forest → Forest
renumbered_regions ns none = none
renumbered_regions ns (tree h below rest) = tree (renumbered_region ns h) (renumbered_regions ns below) (renumbered_regions ns rest)

abbrev pub renumbered : List ℕ → Forest → Forest
renumbered ns ts = renumbered_regions ns (valued (instance (renumbering ns)) ts)

abbrev pub renumbered_tree : List ℕ → Tree → Tree
renumbered_tree ns t =
    let u = valued_tree (instance (renumbering ns)) t in
    record { head = renumbered_region ns u.head; children = renumbered_regions ns u.children }

-- The values of the root variables, the region constraints, and the numbers of the variables left in them: first in the values,
-- and then in the constraints.

abbrev pub root_values : State → Forest
root_values S = resolved S (roots_from 0 S.variables)

abbrev pub constraints : State → List Tree
constraints S = map (resolved_tree S) S.regions

abbrev pub open_numbers : State → List ℕ
open_numbers S = with_numbers_of (with_numbers [] (root_values S)) (constraints S)

abbrev pub open_variable : Option VariableInfo → CanonicalVar
open_variable None = record { kind = Region; universe = 0 }
open_variable (Some i) = record { kind = i.kind; universe = i.universe }

-- The response of a state, with that certainty.
abbrev pub response : State → Certainty → Response
response S c = record {
  vars = map (λ n. open_variable (info S n)) (open_numbers S);
  values = renumbered (open_numbers S) (root_values S);
  regions = map (renumbered_tree (open_numbers S)) (constraints S);
  certainty = c;
}
