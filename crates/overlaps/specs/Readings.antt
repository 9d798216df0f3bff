-- What types aliases may be.
use Rattle.std.specs.Prelude.{◌≡◌, ℕ, false, true, Option, Some, None, if◌then◌else◌}
use Rattle.ir_trees.specs.declared.ir.heads.Head.{Head}
use Rattle.ir_trees.specs.Instantiation.Folding.{fold}
use Rattle.ir_trees.specs.Instantiation.Folds.{node}
use Rattle.ir_trees.specs.Syntax.Binders.{escapes}
use Rattle.ir_trees.specs.Syntax.Trees.{Forest, Tree, erase, holds, kind_of}
use Rattle.ir_trees.specs.Unification.Substitutions.{alone, is_placeholder_above}
use Rattle.rounds_judge.specs.Aliases.OpenParts.{is_open_part}

-- what each tree is read as
abbrev pub Reading : Type 0
Reading = Tree → Tree

-- An open part is read, be it an alias or what binds a variable that an alias in it names; nothing else is.
abbrev pub read_part : Reading → Tree → Option Tree
read_part r t = if is_open_part t.head t.children then Some (r t) else None

-- The trees with each open part read, from the top.
abbrev pub read : Reading → Forest → Forest
read r ts = fold (λ d t. read_part r t) 0 ts

-- Each open part is read as a tree of its kind, which has no bound variable of an outer binder and, with its regions erased, no placeholder of a
-- universe above that one, unless the part itself has one.
pub record IsReading (u : ℕ) (r : Reading) : Type 0 where
  pub kind : (h : Head) (below : Forest) → is_open_part h below ≡ true → kind_of (r (node h below)).head ≡ kind_of h
  pub is_closed : (h : Head) (below : Forest) → is_open_part h below ≡ true → escapes 0 (alone (r (node h below))) ≡ false
  pub in_universe : (h : Head) (below : Forest) → is_open_part h below ≡ true → holds (is_placeholder_above u) (erase (alone (node h below))) ≡ false
      → holds (is_placeholder_above u) (erase (alone (r (node h below)))) ≡ false
