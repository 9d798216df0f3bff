-- What breaks a walk off, and what taking an item does.
use Rattle.std.specs.Prelude.{◌≡◌, ◌≢◌, Bool, true, false, Option, Some, None, Result, Ok, Err, [], ◌∷◌, ◌++◌}
use Rattle.ir_trees.specs.declared.ir.kinds.Ty.{Ty}
use Rattle.ir_trees.specs.declared.ir.stop.Stop.{Stop}
use Rattle.ir_trees.specs.declared.ir.stop.Stop.TheVariants.{Memory, Unnameable}
use Rattle.candidate_eval.specs.declared.coherence.NormalizeErr.{NormalizeErr}
use Rattle.candidate_eval.specs.declared.coherence.NormalizeErr.TheVariants as N
use Rattle.candidate_eval.specs.declared.coherence.OrphanStop.TheVariants as O
use Rattle.candidate_eval.specs.declared.coherence.IsFirstInputType.{IsFirstInputType}
use Rattle.candidate_eval.specs.declared.coherence.table.ViewClass.{ViewClass}
use Rattle.candidate_eval.specs.declared.coherence.table.ViewClass.TheVariants as V
use Rattle.candidate_eval.specs.declared.coherence.walk.EarlyExit.{EarlyExit}
use Rattle.candidate_eval.specs.declared.coherence.walk.EarlyExit.TheVariants as X
use Rattle.candidate_eval.specs.declared.coherence.walk.Walk.{Walk}
use Rattle.candidate_eval.specs.Knowability.Answers.{is_first_input}

-- what a normaliser's error breaks a walk off with
abbrev pub broken_by : {E : Type 0} → NormalizeErr E → EarlyExit E
broken_by (N.Failed e) = X.Broken (O.Normalize e)
broken_by (N.Stop s) = X.Broken (O.Stop s)

-- the local type that broke a walk off, if one did, unless it stopped
abbrev pub local_ty_of : {E : Type 0} → Result (Unit {0}) (EarlyExit E) → Result (Option Ty) Stop
local_ty_of (Err (X.Local t)) = Ok (Some t)
local_ty_of (Err (X.Broken (O.Stop s))) = Err s
local_ty_of _ = Ok None

-- a view that isn't local was recorded
pub record IsRecorded (old new : Walk) (t : Ty) : Type 0 where
  pub first : IsFirstInputType
  pub is_first : is_first_input first ≡ old.is_first
  pub added : new.non_local.items ≡ old.non_local.items ++ (t, first) ∷ []

-- whether an item of the class breaks a walk off
abbrev pub breaks : Bool → ViewClass → Bool
breaks seeks V.NonLocal = false
breaks seeks V.Skipped = false
breaks true V.Uncovered = false
breaks seeks k = true

abbrev pub IsAdded : ViewClass → Walk → Walk → Ty → Type 0
IsAdded V.NonLocal old new t = IsRecorded old new t
IsAdded k old new t = new.non_local.items ≡ old.non_local.items

abbrev pub exit_of : {E : Type 0} → ViewClass → Ty → EarlyExit E
exit_of V.Local t = X.Local t
exit_of V.Uncovered t = X.Uncovered t
exit_of V.Unnameable t = X.Broken (O.Stop Unnameable)
exit_of k t = X.Broken (O.Stop Memory)

abbrev pub IsTaken : {E : Type 0} → Walk → Walk → ViewClass → Ty → Result (Unit {0}) (EarlyExit E) → Type 0
IsTaken old new k t (Ok u) = (breaks old.seeks_local k ≡ false) × IsAdded k old new t
IsTaken old new k t (Err x) = (x ≡ exit_of k t) × (x ≢ X.Broken (O.Stop Memory) → breaks old.seeks_local k ≡ true) × (new.non_local.items ≡ old.non_local.items)
