-- A walk over types in the words of the frontier: what was passed over and recorded, or what broke it off.
use Rattle.std.specs.Prelude.{◌≡◌, ℕ, Bool, true, false, Some, None, Result, Ok, Err, List, [], ◌∷◌, ◌++◌, All}
use Rattle.ir_trees.specs.declared.ir.kinds.Ty.{Ty}
use Rattle.ir_trees.specs.declared.ir.stop.Stop.{Stop}
use Rattle.ir_trees.specs.declared.ir.stop.Stop.TheVariants.{Unnameable}
use Rattle.ir_trees.specs.Declarations.Context.{Context, world}
use Rattle.ir_trees.specs.Syntax.Trees.{Forest, Tree}
use Rattle.ir_trees.specs.Declarations.Worlds.{World}
use Rattle.ir_trees.specs.Syntax.Words.{IsTy, ty_tree}
use Rattle.candidate_eval.specs.declared.coherence.IsFirstInputType.{IsFirstInputType}
use Rattle.candidate_eval.specs.declared.coherence.OrphanStop.TheVariants as O
use Rattle.candidate_eval.specs.declared.coherence.table.ViewClass.{ViewClass}
use Rattle.candidate_eval.specs.declared.coherence.table.ViewClass.TheVariants as V
use Rattle.candidate_eval.specs.declared.coherence.walk.EarlyExit.{EarlyExit}
use Rattle.candidate_eval.specs.declared.coherence.walk.EarlyExit.TheVariants as X
use Rattle.candidate_eval.specs.declared.coherence.walk.Walk.{Walk}
pub use Rattle.candidate_eval.specs.Knowability.Answers.{entries_of}
use Rattle.candidate_eval.specs.Knowability.Laws.{OnlyFirst}
use Rattle.candidate_eval.specs.Knowability.Normalizer.{Untold, IsUntold}
use Rattle.candidate_eval.specs.Knowability.Orphan.{InCrate, CrateTest, crate_test, View, Item, Step, Class, IsNonLocal, IsSkipped, IsLocal, IsUncovered, IsBroken, Refused, Stopped, class_of, visit, frontier, left, first_step, decides, decides_again, entries}

-- Where a walk takes place: the world, the local crate, and for which crate is checked.
pub record Setting : Type 0 where
  pub definitions : World
  pub local : ℕ
  pub in_crate : InCrate

abbrev pub setting : Context → InCrate → Setting
setting c m = record { definitions = world c; local = c.local.0; in_crate = m }

abbrev pub test_of : Setting → CrateTest
test_of p = crate_test p.in_crate p.local

abbrev pub classes : {E : Type 0} → Setting → Item E → Class E
classes p = class_of p.definitions (test_of p) p.in_crate

abbrev pub type_steps : {S E : Type 0} → Setting → View S E → ℕ → S → Tree → List (Step S E)
type_steps p see n s t = visit p.definitions (test_of p) see n s t

abbrev pub list_steps : {S E : Type 0} → Setting → View S E → ℕ → S → Forest → List (Step S E)
list_steps p see n s a = frontier p.definitions (test_of p) see n s a

-- the class of an item with the view
abbrev pub of_view : {E : Type 0} → ViewClass → Tree → Class E
of_view V.NonLocal t = IsNonLocal t
of_view V.Skipped t = IsSkipped
of_view V.Local t = IsLocal t
of_view V.Uncovered t = IsUncovered t
of_view V.Unnameable t = IsBroken (Stopped Unnameable)

-- what breaks a walk off: in the second one uncovered views don't
abbrev pub deciding : {E : Type 0} → Bool → Class E → Bool
deciding false c = decides c
deciding true c = decides_again c

-- whether nothing was visited before, after these steps
abbrev pub still : {S E : Type 0} → Bool → List (Step S E) → Bool
still first [] = first
still first (x ∷ xs) = false

abbrev pub AreTypes : List Tree → List (Ty × IsFirstInputType) → Type 0
AreTypes ts es = All (λ e. IsTy ts e.0) es

abbrev pub exit_class : {E : Type 0} → List Tree → EarlyExit E → Class E
exit_class ts (X.Local t) = IsLocal (ty_tree ts t)
exit_class ts (X.Uncovered t) = IsUncovered (ty_tree ts t)
exit_class ts (X.Broken (O.Normalize e)) = IsBroken (Refused e)
exit_class ts (X.Broken (O.Stop s)) = IsBroken (Stopped s)

abbrev pub IsExit : {E : Type 0} → List Tree → EarlyExit E → Type 0
IsExit ts (X.Local t) = IsTy ts t
IsExit ts (X.Uncovered t) = IsTy ts t
IsExit ts (X.Broken o) = Unit {0}

-- None of the steps breaks the walk off, and their entries were recorded in order.
pub record Passed {S E : Type 0} (ts : List Tree) (classify : Item E → Class E) (old new : Walk) (s after : S) (steps : List (Step S E)) : Type 0 where
  pub none : first_step (deciding old.seeks_local) classify steps ≡ None
  pub leaves : left s steps ≡ after
  pub recorded : entries_of ts new.non_local.items ≡ entries_of ts old.non_local.items ++ entries old.is_first classify steps

-- The first step that breaks the walk off has the class, and left this.
pub record Found {S E : Type 0} (classify : Item E → Class E) (seeks : Bool) (steps : List (Step S E)) (c : Class E) (after : S) : Type 0 where
  pub step : Step S E
  pub is : first_step (deciding seeks) classify steps ≡ Some step
  pub class_is : classify step.item ≡ c
  pub leaves : step.after ≡ after

-- It breaks a walk off, and is no stop that is left open.
abbrev pub IsToldExit : {E : Type 0} → Untold → EarlyExit E → Type 0
IsToldExit u x = (s : Stop) → IsUntold u s → x ≡ X.Broken (O.Stop s) → ⊥

-- The walk went over the steps; where it stopped and that is left open, nothing is said.
abbrev pub Outcome : {S E : Type 0} → Untold → List Tree → (Item E → Class E) → Walk → Walk → S → S → List (Step S E) → Result (Unit {0}) (EarlyExit E) → Type 0
Outcome u ts classify old new s after steps (Ok v) = Passed ts classify old new s after steps
Outcome u ts classify old new s after steps (Err x) = IsToldExit u x → Found classify old.seeks_local steps (exit_class ts x) after

-- At most one entry is the first input, and then the first one; before the first visit has ended there is none.
pub record FirstOnce (is_first : Bool) (es : List (Ty × IsFirstInputType)) : Type 0 where
  pub none : is_first ≡ true → es ≡ []
  pub once : (ts : List Tree) → OnlyFirst (entries_of ts es)

-- how the walk goes on stays
pub record SameWalk (old new : Walk) : Type 0 where
  pub in_crate : new.in_crate ≡ old.in_crate
  pub seeks_local : new.seeks_local ≡ old.seeks_local
