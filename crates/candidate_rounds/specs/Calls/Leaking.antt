-- What calls say of regions that leak.
use Rattle.std.specs.Prelude.{◌≡◌, ◌<◌, ℕ, Some, List, length, slice_get}
use Rattle.ir_trees.specs.declared.ir.kinds.RegionKind.{RegionKind}
use Rattle.ir_trees.specs.Syntax.Trees.{Tree}
use Rattle.candidate_rounds.specs.declared.rounds.leaking.RegionOutlives.{RegionOutlives}
use Rattle.candidate_rounds.specs.Evaluators.Leaking.{IsAmong, IsRecorded, Outlives}
use Rattle.candidate_rounds.specs.Table.Goals.{Each}

-- it is one of these that one region outlives the other
abbrev pub IsSaid : List RegionOutlives → RegionKind → RegionKind → Type 0
IsSaid said longer shorter = IsAmong said (record { longer = longer; shorter = shorter })

-- They are what the clauses say of regions.
pub record AreSaid (clauses : List Tree) (said : List RegionOutlives) : Type 0 where
  pub recorded : Each (λ (x : RegionOutlives). IsRecorded clauses x.longer x.shorter) said
  pub all : (longer shorter : RegionKind) → IsRecorded clauses longer shorter → IsSaid said longer shorter

-- The first pair of which the longer region is one of these has that place.
pub record IsSaidOf (list : List RegionKind) (said : List RegionOutlives) (n : ℕ) : Type 0 where
  pub within : n < length said
  pub of : (x : RegionOutlives) → slice_get said n ≡ Some x → IsAmong list x.longer

-- They are the regions that the region has to outlive by these.
pub record AreOutlived (said : List RegionOutlives) (longer : RegionKind) (list : List RegionKind) : Type 0 where
  pub outlived : Each (Outlives (IsSaid said) longer) list
  pub all : (r : RegionKind) → Outlives (IsSaid said) longer r → IsAmong list r
