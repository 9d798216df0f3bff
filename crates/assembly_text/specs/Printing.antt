-- The words that answers are printed with, by the codes of their letters; 32 is a space, and 10 ends a line.
use Rattle.std.specs.Prelude.{◌≡◌, ℕ, Bool, true, false, Option, Some, None, List, [], ◌∷◌, ◌++◌, Result, Ok, Err}
use Rattle.candidate_eval.specs.declared.coherence.Conflict.{Conflict}
use Rattle.candidate_eval.specs.declared.coherence.Conflict.TheVariants as C
use Rattle.ir_trees.specs.declared.ir.kinds.Ty.{Ty}
use Rattle.ir_trees.specs.Syntax.Trees.{Tree}
use Rattle.assembly_notation.specs.Spelling.{AddsType}
use Rattle.candidate_eval.specs.declared.coherence.OrphanCheckErr.{OrphanCheckErr}
use Rattle.candidate_eval.specs.Knowability.Answers.{answer_of}
use Rattle.candidate_eval.specs.Knowability.Orphan.{Answer, Entry, NonLocalInput, Passes, UncoveredInput}
use Rattle.candidate_assembly.specs.declared.assembly.merging.TraitGoalProvenVia.{TraitGoalProvenVia}
use Rattle.candidate_assembly.specs.declared.assembly.merging.TraitGoalProvenVia.TheVariants as Via
use Rattle.candidate_rounds.specs.declared.rounds.goals.Verdict.{Verdict}
use Rattle.candidate_rounds.specs.declared.rounds.goals.Verdict.TheVariants as V

-- How a goal is proved: `misc`, `param_env`, `alias_bound`, or `none` where nothing is said of it.
abbrev pub way_text : Option TraitGoalProvenVia → List ℕ
way_text (Some Via.Misc) = 109 ∷ 105 ∷ 115 ∷ 99 ∷ []
way_text (Some Via.ParamEnv) = 112 ∷ 97 ∷ 114 ∷ 97 ∷ 109 ∷ 95 ∷ 101 ∷ 110 ∷ 118 ∷ []
way_text (Some Via.AliasBound) = 97 ∷ 108 ∷ 105 ∷ 97 ∷ 115 ∷ 95 ∷ 98 ∷ 111 ∷ 117 ∷ 110 ∷ 100 ∷ []
way_text None = 110 ∷ 111 ∷ 110 ∷ 101 ∷ []

-- What a goal comes to: `yes` or `maybe` and how it is proved, or `refused`. Of a goal that isn't asked nothing is known: `maybe none`.
abbrev pub verdict_words : Option Verdict → List ℕ
verdict_words (Some (V.Yes r w)) = (121 ∷ 101 ∷ 115 ∷ 32 ∷ []) ++ way_text w
verdict_words (Some (V.Maybe r w)) = (109 ∷ 97 ∷ 121 ∷ 98 ∷ 101 ∷ 32 ∷ []) ++ way_text w
verdict_words (Some V.Refused) = 114 ∷ 101 ∷ 102 ∷ 117 ∷ 115 ∷ 101 ∷ 100 ∷ []
verdict_words None = (109 ∷ 97 ∷ 121 ∷ 98 ∷ 101 ∷ 32 ∷ []) ++ way_text None

-- and the end of the line
abbrev pub verdict_text : Option Verdict → List ℕ
verdict_text v = verdict_words v ++ 10 ∷ []

-- these words, some others, and the end of the line
abbrev pub AddsVerdict : Option Verdict → List ℕ → List ℕ → Type 0
AddsVerdict v old new = (more : List ℕ) × (new ≡ old ++ (verdict_words v ++ (more ++ 10 ∷ [])))

-- some words, and what a goal comes to
abbrev pub AddsWordsBefore : Option Verdict → List ℕ → List ℕ → Type 0
AddsWordsBefore v old new = (words : List ℕ) × (new ≡ old ++ (words ++ verdict_text v))

-- Whether all impls of a reference are known: `ok`, or who may write another, a `downstream` or an `upstream` crate.
abbrev pub known_text : Result (Unit {0}) Conflict → List ℕ
known_text (Ok x) = 111 ∷ 107 ∷ 10 ∷ []
known_text (Err C.Downstream) = 100 ∷ 111 ∷ 119 ∷ 110 ∷ 115 ∷ 116 ∷ 114 ∷ 101 ∷ 97 ∷ 109 ∷ 10 ∷ []
known_text (Err C.Upstream) = 117 ∷ 112 ∷ 115 ∷ 116 ∷ 114 ∷ 101 ∷ 97 ∷ 109 ∷ 10 ∷ []

-- The orphan check's, in which each type has some word: how types are spelled isn't said here.

-- behind an entry's type: `, Yes)` where it is the first type, else `, No)`
abbrev pub first_text : Bool → List ℕ
first_text true = 44 ∷ 32 ∷ 89 ∷ 101 ∷ 115 ∷ 41 ∷ []
first_text false = 44 ∷ 32 ∷ 78 ∷ 111 ∷ 41 ∷ []

-- entries one after the other, each ` (` and a word, and whether it is the first type
pub data AreEntries : List Entry → List ℕ → Type 0 where
  none : AreEntries [] []
  and_one : {es : List Entry} {text : List ℕ} (e : Entry) (word : List ℕ) → AreEntries es text
      → AreEntries (es ++ e ∷ []) (text ++ ((32 ∷ 40 ∷ []) ++ (word ++ first_text e.is_first_input)))

-- `none` where no type is local, else some word
pub data IsLocalWord {A : Type 0} : Option A → List ℕ → Type 0 where
  nothing : IsLocalWord None (110 ∷ 111 ∷ 110 ∷ 101 ∷ [])
  some : (x : A) (word : List ℕ) → IsLocalWord (Some x) word

-- `ok`; `nonlocal` and the entries; or `uncovered` and a word, then `local` and its word. A line ends each.
pub data IsCheckText {E : Type 0} : Answer E → List ℕ → Type 0 where
  ok : IsCheckText Passes (111 ∷ 107 ∷ 10 ∷ [])
  nonlocal : {es : List Entry} {text : List ℕ} → AreEntries es text → IsCheckText (NonLocalInput es) ((110 ∷ 111 ∷ 110 ∷ 108 ∷ 111 ∷ 99 ∷ 97 ∷ 108 ∷ []) ++ (text ++ 10 ∷ []))
  uncovered : (t : _) {o : Option _} {local : List ℕ} (word : List ℕ) → IsLocalWord o local
      → IsCheckText (UncoveredInput t o) ((117 ∷ 110 ∷ 99 ∷ 111 ∷ 118 ∷ 101 ∷ 114 ∷ 101 ∷ 100 ∷ 32 ∷ []) ++ (word ++ ((32 ∷ 108 ∷ 111 ∷ 99 ∷ 97 ∷ 108 ∷ 32 ∷ []) ++ (local ++ 10 ∷ []))))

-- A check's answer is added to a text; its error, by numbers; entries, and one; a local type; and some word for a type, after others.

abbrev pub AddsAnswer : {E : Type 0} → Answer E → List ℕ → List ℕ → Type 0
AddsAnswer a old new = (text : List ℕ) × IsCheckText a text × (new ≡ old ++ text)

abbrev pub AddsError : List Tree → OrphanCheckErr Ty → List ℕ → List ℕ → Type 0
AddsError ts e = AddsAnswer (answer_of {E = Unit {0}} ts (Ok (Err e)))

abbrev pub AddsEntries : List Entry → List ℕ → List ℕ → Type 0
AddsEntries es = AddsAnswer {E = Unit {0}} (NonLocalInput es)

abbrev pub AddsEntry : Bool → List ℕ → List ℕ → Type 0
AddsEntry is_first old new = (word : List ℕ) × (new ≡ old ++ ((32 ∷ 40 ∷ []) ++ (word ++ first_text is_first)))

abbrev pub AddsLocal : Option Ty → List ℕ → List ℕ → Type 0
AddsLocal o old new = (local : List ℕ) × IsLocalWord o local × (new ≡ old ++ ((32 ∷ 108 ∷ 111 ∷ 99 ∷ 97 ∷ 108 ∷ 32 ∷ []) ++ local))

abbrev pub AddsWord : List ℕ → List ℕ → List ℕ → Type 0
AddsWord before old new = (word : List ℕ) × (new ≡ old ++ (before ++ word))

-- A type is added behind these words: whole, or where it has too many words its first ones alone.
abbrev pub AddsTypeAfter : List ℕ → Tree → List ℕ → List ℕ → Type 0
AddsTypeAfter before t old new = (word : List ℕ) × AddsType t [] word × (new ≡ old ++ (before ++ word))
