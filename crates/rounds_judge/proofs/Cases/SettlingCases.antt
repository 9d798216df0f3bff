-- Worked cases of pending goals and responses with an empty table, by computation.
use Rattle.std.proofs.Common.{◌≡◌, ℕ, true, false, refl, List, [], ◌∷◌, Option, Some, None}
use Rattle.ir_trees.specs.declared.ir.heads.Head.{Head}
use Rattle.ir_trees.specs.declared.ir.heads.Head.TheVariants as H
use Rattle.ir_trees.specs.declared.ir.heads.Builtin.TheVariants as B
use Rattle.ir_trees.specs.declared.ir.heads.PartHead.TheVariants as P
use Rattle.ir_trees.specs.declared.ir.heads.ClauseHead.{ClauseHead}
use Rattle.ir_trees.specs.declared.ir.heads.ClauseHead.TheVariants as Cl
use Rattle.ir_trees.specs.declared.ir.heads.VariableSort.TheVariants as V
use Rattle.ir_trees.specs.declared.ir.kinds.AliasKind.TheVariants as A
use Rattle.ir_trees.specs.declared.ir.kinds.GoalSource.TheVariants.{Misc}
use Rattle.ir_trees.specs.declared.ir.kinds.PredicatePolarity.TheVariants.{Positive}
use Rattle.ir_trees.specs.declared.ir.kinds.RegionKind.TheVariants as R
use Rattle.ir_trees.specs.declared.ir.kinds.UintTy.TheVariants as U
use Rattle.ir_trees.specs.declared.ir.kinds.VarKind.TheVariants as K
use Rattle.ir_trees.specs.Syntax.Trees.{Forest, none, tree, Tree}
use Rattle.ir_trees.specs.Instantiation.Folding.{leaf}
use Rattle.candidate_eval.specs.declared.eval.certainty.Certainty.TheVariants.{Yes}
use Rattle.candidate_eval.specs.declared.eval.mode.TypingMode.TheVariants.{PostAnalysis}
use Rattle.candidate_eval.specs.declared.eval.variable.VariableKind.TheVariants.{Term, Region}
use Rattle.candidate_eval.specs.Outcomes.Certainties.{AMBIGUOUS}
use Rattle.candidate_eval.specs.Judges.States.{State, VariableInfo, Pending}
use Rattle.rounds_judge.specs.Table.GoalTable.{GoalTable}
use Rattle.rounds_judge.specs.Aliases.Listed.{Listing}
use Rattle.rounds_judge.specs.Table.TableSettling.{settled_with, responded_with}

-- an alias that isn't listed is rigid
abbrev rigid : List (Tree × Tree) → Listing
rigid ps = record { pairs = ps; is_open = false }

abbrev nothing : Listing
nothing = rigid []

abbrev empty : GoalTable (Unit {0})
empty = []

abbrev root : Option Tree → VariableInfo
root v = record { kind = Term V.General; universe = 0; value = v; is_root = true }

abbrev other : Option Tree → VariableInfo
other v = record { kind = Term V.General; universe = 0; value = v; is_root = false }

abbrev start : List VariableInfo → List Pending → State
start is ps = record { newest_universe = 0; variables = is; regions = []; pending = ps; mode = PostAnalysis }

abbrev var : ℕ → Tree
var n = leaf (H.Infer (record { sort = V.General; number = n }))

abbrev u8 : Tree
u8 = leaf (H.Builtin (B.Uint U.U8))

abbrev u16 : Tree
u16 = leaf (H.Builtin (B.Uint U.U16))

abbrev over : Head → List Tree → Tree
over h ts = record { head = h; children = go ts }
  where
    go : List Tree → Forest
    go [] = none
    go (t ∷ ts) = tree t.head t.children (go ts)

abbrev pair : Tree → Tree → Tree
pair t u = over (H.Builtin B.Tuple) (t ∷ u ∷ [])

abbrev goal : ClauseHead → List Tree → List Tree → Pending
goal h vars ts = record { source = Misc; goal = record { env = none; clause = over (H.Part (P.Clause h)) (over (H.Part P.Vars) vars ∷ ts) } }

abbrev projects : Tree → Tree → Pending
projects t u = goal (Cl.Projection (record { 0 = 0 })) [] (t ∷ u ∷ [])

abbrev alias : Tree → Tree
alias t = over (H.Alias A.Projection (record { 0 = 0 })) (t ∷ [])

abbrev listing : Listing
listing = rigid ((alias u8, u16) ∷ [])

-- a listed alias gives a value
listed_gives : settled_with empty listing (start (root None ∷ []) (projects u8 (var 0) ∷ [])) ≡ Some (Yes, start (root (Some u16) ∷ []) [])
listed_gives = refl

-- also one that is listed only once a later goal has given a value
abbrev both_ways : Listing
both_ways = rigid ((alias u8, u16) ∷ (alias u16, u8) ∷ [])

second_pass : settled_with empty both_ways (start (root None ∷ root None ∷ []) (projects (var 0) (var 1) ∷ projects u16 (var 0) ∷ [])) ≡ Some (Yes, start (root (Some u8) ∷ root (Some u16) ∷ []) [])
second_pass = refl

-- one that isn't listed stays
unlisted_stays : settled_with empty listing (start (root None ∷ []) (projects u16 (var 0) ∷ [])) ≡ Some (AMBIGUOUS, start (root None ∷ []) (projects u16 (var 0) ∷ []))
unlisted_stays = refl

-- another type than the listed one is refused
other_type : settled_with empty listing (start [] (projects u8 u8 ∷ [])) ≡ None
other_type = refl

abbrev region : ℕ → Tree
region n = leaf (H.Region (R.Placeholder (record { universe = 0; index = n })))

abbrev outlives : Pending
outlives = goal Cl.RegionOutlives [] (region 0 ∷ region 1 ∷ [])

-- outlives goals are recorded
outlives_recorded : settled_with empty nothing (start [] (outlives ∷ [])) ≡ Some (Yes, record (start [] []) { regions = outlives.goal.clause ∷ [] })
outlives_recorded = refl

abbrev holds_of : List Tree → Tree → Pending
holds_of vars t = goal (Cl.Trait (record { 0 = 0 }) Positive) vars (t ∷ [])

-- a trait goal stays, and under a binder its instance does
instance_stays : settled_with empty nothing (start [] (holds_of (leaf (H.Part (P.Var K.Ty)) ∷ []) (leaf (H.Bound (record { depth = 0; index = 0 }))) ∷ []))
    ≡ Some (AMBIGUOUS, record (start [] (holds_of [] (leaf (H.Placeholder (record { universe = 1; index = 0 }))) ∷ [])) { newest_universe = 1 })
instance_stays = refl

-- What is left open is numbered anew, by first occurrence.
renumbered_answer : responded_with empty nothing (start (root (Some (pair (var 2) (var 1))) ∷ root None ∷ other None ∷ []) []) Yes
    ≡ Some (record {
      vars = record { kind = Term V.General; universe = 0 } ∷ record { kind = Term V.General; universe = 0 } ∷ [];
      values = tree (H.Builtin B.Tuple) (tree (var 0).head none (tree (var 1).head none none)) (tree (var 1).head none none);
      regions = [];
      certainty = Yes;
    })
renumbered_answer = refl

-- both places of a variable get one number
same_number : responded_with empty nothing (start (root (Some (pair (var 1) (var 1))) ∷ other None ∷ []) []) AMBIGUOUS
    ≡ Some (record {
      vars = record { kind = Term V.General; universe = 0 } ∷ [];
      values = tree (H.Builtin B.Tuple) (tree (var 0).head none (tree (var 0).head none none)) none;
      regions = [];
      certainty = AMBIGUOUS;
    })
same_number = refl

-- a variable that stands in constraints alone is numbered after those of the values
abbrev region_info : VariableInfo
region_info = record { kind = Region; universe = 0; value = None; is_root = false }

abbrev region_var : ℕ → Tree
region_var n = leaf (H.Region (R.Var n))

abbrev constraint : ℕ → ℕ → Tree
constraint m n = over (H.Part (P.Clause Cl.RegionOutlives)) (over (H.Part P.Vars) [] ∷ region_var m ∷ region_var n ∷ [])

constraints_last : responded_with empty nothing (record (start (region_info ∷ region_info ∷ root None ∷ []) []) { regions = constraint 1 0 ∷ [] }) Yes
    ≡ Some (record {
      vars = record { kind = Term V.General; universe = 0 } ∷ record { kind = Region; universe = 0 } ∷ record { kind = Region; universe = 0 } ∷ [];
      values = tree (var 0).head none none;
      regions = constraint 1 2 ∷ [];
      certainty = Yes;
    })
constraints_last = refl

-- a goal that is refused refuses all
one_refused : settled_with empty listing (start (root None ∷ []) (outlives ∷ projects u8 (var 0) ∷ projects u8 u8 ∷ [])) ≡ None
one_refused = refl
