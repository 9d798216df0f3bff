-- What an answer of the code says in the words of the definitions.
use Rattle.std.specs.Prelude.{◌≡◌, Bool, true, false, Option, Result, Ok, Err, List, All, IfSome, option_map, map}
use Rattle.ir_trees.specs.declared.ir.kinds.Ty.{Ty}
use Rattle.ir_trees.specs.declared.ir.stop.Stop.{Stop}
use Rattle.ir_trees.specs.declared.ir.stop.Stop.TheVariants.{Memory}
use Rattle.ir_trees.specs.Syntax.Trees.{Tree}
use Rattle.ir_trees.specs.Syntax.Words.{IsTy, ty_tree}
use Rattle.candidate_eval.specs.declared.coherence.IsFirstInputType.{IsFirstInputType}
use Rattle.candidate_eval.specs.declared.coherence.IsFirstInputType.TheVariants as F
use Rattle.candidate_eval.specs.declared.coherence.OrphanCheckErr.{OrphanCheckErr}
use Rattle.candidate_eval.specs.declared.coherence.OrphanCheckErr.TheVariants as C
use Rattle.candidate_eval.specs.declared.coherence.OrphanStop.{OrphanStop}
use Rattle.candidate_eval.specs.declared.coherence.OrphanStop.TheVariants as O
use Rattle.candidate_eval.specs.Knowability.Orphan.{Answer, Passes, NonLocalInput, UncoveredInput, Faulty, Refused, Stopped, Entry, Checked, Knowability, Knowable, Upstream, Downstream, Unknown}
use Rattle.candidate_eval.specs.declared.coherence.Conflict.{Conflict}
use Rattle.candidate_eval.specs.declared.coherence.Conflict.TheVariants as K

abbrev pub is_first_input : IsFirstInputType → Bool
is_first_input F.Yes = true
is_first_input F.No = false

-- the entries by their trees
abbrev pub entries_of : List Tree → List (Ty × IsFirstInputType) → List Entry
entries_of ts es = map (λ e. let n : Entry = record { type = ty_tree ts e.0; is_first_input = is_first_input e.1 } in n) es

-- What an orphan check answers.
abbrev pub CheckResult : Type 0 → Type 0
CheckResult E = Result (Result (Unit {0}) (OrphanCheckErr Ty)) (OrphanStop E)

-- The answer, with the trees of its types.
abbrev pub answer_of : {E : Type 0} → List Tree → CheckResult E → Answer E
answer_of ts (Ok (Ok u)) = Passes
answer_of ts (Ok (Err (C.NonLocalInputType v))) = NonLocalInput (entries_of ts v.items)
answer_of ts (Ok (Err (C.UncoveredTyParams u))) = UncoveredInput (ty_tree ts u.uncovered) (option_map (ty_tree ts) u.local_ty)
answer_of ts (Err (O.Normalize e)) = Faulty (Refused e)
answer_of ts (Err (O.Stop s)) = Faulty (Stopped s)

-- The types in an answer are types of the context.
abbrev pub AreErrorTypes : List Tree → OrphanCheckErr Ty → Type 0
AreErrorTypes ts (C.NonLocalInputType v) = All (λ e. IsTy ts e.0) v.items
AreErrorTypes ts (C.UncoveredTyParams u) = IsTy ts u.uncovered × IfSome u.local_ty (λ t. IsTy ts t)

abbrev pub AreAnswerTypes : {E : Type 0} → List Tree → CheckResult E → Type 0
AreAnswerTypes ts (Ok (Ok u)) = Unit {0}
AreAnswerTypes ts (Ok (Err e)) = AreErrorTypes ts e
AreAnswerTypes ts (Err o) = Unit {0}

abbrev pub OutOfMemory : {E : Type 0} → CheckResult E → Type 0
OutOfMemory r = r ≡ Err (O.Stop Memory)

abbrev pub IsUncoveredResult : {E : Type 0} → CheckResult E → Type 0
IsUncoveredResult (Ok (Err (C.UncoveredTyParams u))) = Unit {0}
IsUncoveredResult _ = ⊥

-- The result is that of the definition, and what the definition leaves stands for the context that is left, with some
-- normaliser.
pub record IsAnswer {F C V E : Type 0} (ts : List Tree) (stands : F × C → F × V) (result : CheckResult E) (left : C) (checked : Checked (F × V) (Answer E)) : Type 0 where
  pub answer : checked.answer ≡ answer_of ts result
  pub last : F
  pub leaves : checked.after ≡ stands (last, left)

-- the answer of an uncovered view by the result of the second walk
abbrev pub second_answer : {E : Type 0} → List Tree → Tree → Result (Option Ty) Stop → Answer E
second_answer ts t (Ok o) = UncoveredInput t (option_map (ty_tree ts) o)
second_answer ts t (Err s) = Faulty (Stopped s)

-- What the test for all impls answers.
abbrev pub KnownResult : Type 0 → Type 0
KnownResult E = Result (Result (Unit {0}) Conflict) (OrphanStop E)

abbrev pub knowledge_of : {E : Type 0} → KnownResult E → Knowability E
knowledge_of (Ok (Ok u)) = Knowable
knowledge_of (Ok (Err K.Upstream)) = Upstream
knowledge_of (Ok (Err K.Downstream)) = Downstream
knowledge_of (Err (O.Normalize e)) = Unknown (Refused e)
knowledge_of (Err (O.Stop s)) = Unknown (Stopped s)

-- what is known by a result, and the state that is left
abbrev pub known_by : {S E : Type 0} → KnownResult E → S → Checked S (Knowability E)
known_by r s = record { answer = knowledge_of r; after = s }

-- The result is that of the definition, and so is the context that is left, as above.
pub record IsKnowledge {F C V E : Type 0} (stands : F × C → F × V) (result : KnownResult E) (left : C) (checked : Checked (F × V) (Knowability E)) : Type 0 where
  pub answer : checked.answer ≡ knowledge_of result
  pub last : F
  pub leaves : checked.after ≡ stands (last, left)
