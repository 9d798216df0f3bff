-- Regions that leak. A placeholder stands for a region that a binder binds. A region of an older universe can't name it.
use Rattle.std.specs.Prelude.{◌≡◌, ◌<◌, ◌⊎◌, nat_lt, ℕ, max, Bool, true, false, Option, Some, List, [], ◌∷◌, map, slice_get}
use Rattle.ir_trees.specs.declared.ir.heads.Head.{Head}
use Rattle.ir_trees.specs.declared.ir.heads.Head.TheVariants as H
use Rattle.ir_trees.specs.declared.ir.heads.PartHead.TheVariants as P
use Rattle.ir_trees.specs.declared.ir.heads.ClauseHead.TheVariants as Cl
use Rattle.ir_trees.specs.declared.ir.kinds.Placeholder.{Placeholder}
use Rattle.ir_trees.specs.declared.ir.kinds.RegionKind.{RegionKind}
use Rattle.ir_trees.specs.declared.ir.kinds.RegionKind.TheVariants as R
use Rattle.ir_trees.specs.Hierarchy.Supers.{after_first}
use Rattle.ir_trees.specs.Syntax.Trees.{none, tree, Tree, tree_holds}
use Rattle.candidate_eval.specs.declared.eval.variable.CanonicalVar.{CanonicalVar}
use Rattle.candidate_eval.specs.Outcomes.Responses.{Response}
use Rattle.candidate_eval.specs.Judges.States.{State, VariableInfo}

-- it is one of these
abbrev pub IsAmong : {A : Type 0} → List A → A → Type 0
IsAmong [] x = ⊥
IsAmong (y ∷ ys) x = (y ≡ x) ⊎ IsAmong ys x

-- a region's placeholder of a universe newer than that one
abbrev pub is_region_above : ℕ → Head → Bool
is_region_above u (H.Region (R.Placeholder p)) = nat_lt u p.universe
is_region_above u _ = false

-- The clause says that one region outlives another.
pub record SaysOutlives (clause : Tree) (longer shorter : RegionKind) : Type 0 where
  pub says : clause.head ≡ H.Part (P.Clause Cl.RegionOutlives)
  pub regions : after_first clause.children ≡ tree (H.Region longer) none (tree (H.Region shorter) none none)

-- One of the clauses that are recorded says so.
pub record IsRecorded (recorded : List Tree) (longer shorter : RegionKind) : Type 0 where
  pub clause : Tree
  pub is : IsAmong recorded clause
  pub says : SaysOutlives clause longer shorter

-- By what is said of pairs of regions one has to outlive another: it is that one; or it has to outlive a third, of which it is said.
pub data Outlives (Said : RegionKind → RegionKind → Type 0) (longer : RegionKind) : RegionKind → Type 0 where
  itself : Outlives Said longer longer
  further : (between shorter : RegionKind) → Outlives Said longer between → Said between shorter → Outlives Said longer shorter

-- The region can't name the placeholder, where variables are of these universes: it is `'static`, another placeholder, or a variable of an older universe.
pub data CantName (universes : List ℕ) (p : Placeholder) : RegionKind → Type 0 where
  static : CantName universes p R.Static
  other : (q : Placeholder) → (q ≡ p → ⊥) → CantName universes p (R.Placeholder q)
  older : (n u : ℕ) → slice_get universes n ≡ Some u → u < p.universe → CantName universes p (R.Var n)

-- The placeholder has to outlive a region that can't name it.
pub record OutlivesTooMuch (Said : RegionKind → RegionKind → Type 0) (universes : List ℕ) (p : Placeholder) : Type 0 where
  pub region : RegionKind
  pub outlives : Outlives Said (R.Placeholder p) region
  pub cant_name : CantName universes p region

-- A placeholder that is newer than that universe does.
pub record RegionsLeak (Said : RegionKind → RegionKind → Type 0) (above : ℕ) (universes : List ℕ) : Type 0 where
  pub placeholder : Placeholder
  pub newer : above < placeholder.universe
  pub too_much : OutlivesTooMuch Said universes placeholder

-- Such a placeholder stands in the value of the variable, which can't name it.
pub record ValueLeaks (above : ℕ) (i : VariableInfo) : Type 0 where
  pub value : Tree
  pub is : i.value ≡ Some value
  pub names : tree_holds (is_region_above (max above i.universe)) value ≡ true

abbrev pub universes_in : State → List ℕ
universes_in S = map (λ (i : VariableInfo). i.universe) S.variables

-- A placeholder that is newer than that universe leaks in the state: by a variable's value, or by what is recorded of regions.
pub data Leaks (above : ℕ) (S : State) : Type 0 where
  by_value : (i : VariableInfo) → IsAmong S.variables i → ValueLeaks above i → Leaks above S
  by_regions : RegionsLeak (IsRecorded S.regions) above (universes_in S) → Leaks above S

-- What a response says of regions doesn't hold for every placeholder, be it of the root universe's or not.
abbrev pub ResponseLeaks : Response → Type 0
ResponseLeaks r = RegionsLeak (IsRecorded r.regions) 0 (map (λ (x : CanonicalVar). x.universe) r.vars)
